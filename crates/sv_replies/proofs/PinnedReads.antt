-- A read through the SuperVersion of a pin, up to where that ends.
use Rattle.std.proofs.Common.{◌≡◌, ◌≤◌, ◌+◌, ◌-◌, ◌⊎◌, inl, inr, ⊎_elim, min, ℕ, true, List, length, take, drop, Option, Some, refl, sym, ◌∙◌, ap, subst, arith}
use Rattle.std.specs.Prelude.{IsSomeAnd}
use Rattle.std.proofs.lemmas.List.{length-drop, length-take}
use Rattle.sv_model.specs.declared.records.Memtable.{Memtable}
use Rattle.sv_model.specs.declared.records.SuperVersion.{SuperVersion}
use Rattle.sv_model.specs.declared.writes.Write.{Write}
use Rattle.sv_model.specs.Books.{Books, end_of}
use Rattle.sv_model.specs.Described.{BearsFrom, Describes}
use Rattle.sv_model.specs.Journal.{borne_by, look, of_family}
use Rattle.sv_model.specs.Reads.{Serves}
use Rattle.sv_model.specs.Registers.{entry}
use Rattle.sv_model.specs.Steady.{IsCurrent, Sound}
use Rattle.sv_model.proofs.Entries.{some}
use Rattle.sv_laws.proofs.OpenFamilies.{current-top}
use Rattle.sv_replies.specs.FrozenActives.{ActivesAreFrozen}
use Rattle.sv_replies.specs.GetpLaw.{EndsAt, GetsPinned}
use Rattle.sv_replies.specs.Known.{Known, Pinned}
use Rattle.sv_replies.specs.Knows.{Knows}
use Rattle.sv_replies.specs.Moments.{IsIn}
use Rattle.sv_replies.specs.Settings.{Setting}
use Rattle.sv_replies.specs.Unread.{FindsUnread}
use Rattle.sv_replies.proofs.GetLemmas.{current-ends}

module _ (b : Books) (sound : Sound b) (n : ℕ) (x : SuperVersion) (at : entry b.supers n ≡ Some x) (live : x.live ≡ true) where
  says : Describes b.journal b.memtables b.lists b.versions b.files.numbers b.metas x.descriptor
  says = sound.lawful.descriptors n x at live

  bears : BearsFrom b.journal x.descriptor.active says.active
  bears = sound.lawful.rows x.descriptor.active says.active says.active_at

  -- it ends within the family's writes
  pub ends-within : end_of b.journal x ≤ length (of_family x.descriptor.family b.journal)
  ends-within =
      let few : length (borne_by x.descriptor.active b.journal) ≤ length (drop says.active.first (of_family says.active.family b.journal)) =
      omega (arith, ap (λ (l : List Write). length l) bears.rows, length-take (length (borne_by x.descriptor.active b.journal)) (drop says.active.first (of_family says.active.family b.journal))) in
      omega (arith, few, length-drop says.active.first (of_family says.active.family b.journal), bears.within, says.base, ap (λ g. length (of_family g b.journal)) says.active_family)

  -- where it has the active memtable of the family's current, it ends as that does
  pub ends-as : (s : ℕ) (c : SuperVersion) → IsCurrent b.tops b.supers x.descriptor.family s c
      → x.descriptor.active ≡ c.descriptor.active
      → end_of b.journal x ≡ length (of_family x.descriptor.family b.journal)
  ends-as s c is same =
      let it = (current-top b sound.lawful x.descriptor.family s is.top is.at is.is).2 in
      let c_is : it.it ≡ c = some (sym it.at ∙ is.has) in
      let c_live : c.live ≡ true = ap (λ (z : SuperVersion). z.live) (sym c_is) ∙ it.live in
      let d = sound.lawful.descriptors s c is.has c_live in
      let memtable : says.active ≡ d.active = some (sym says.active_at ∙ ap (entry b.memtables) same ∙ d.active_at) in
      omega (
        arith,
        says.base,
        d.base,
        ap (λ (m : Memtable). m.first) memtable,
        ap (λ m. length (borne_by m b.journal)) same,
        current-ends b sound.lawful x.descriptor.family s c is,
      )

  pub pin-gets : ActivesAreFrozen b → (k : Known) (p : Pinned) (pin : ℕ) → Knows b k → k.pins pin ≡ Some p
      → p.serial ≡ n
      → (s : ℕ) (c : SuperVersion) → IsCurrent b.tops b.supers p.family s c
      → (q : Setting) (key : List ℕ) (found : Option (List ℕ))
      → (q.told ≡ true → look b.journal p.family (end_of b.journal x) key ≡ found)
      → FindsUnread b p.family key found (end_of b.journal x) x → GetsPinned q b k key found (end_of b.journal x) n p
  pin-gets frozen k p pin knows has serial s c is q key found looked unread =
      let known = knows.pins pin p has in
      let same : known.0 ≡ x = some (sym known.1 ∙ ap (entry b.supers) serial ∙ at) in
      let of : x.descriptor.family ≡ p.family = ap (λ (z : SuperVersion). z.descriptor.family) (sym same) ∙ known.2 in
      let current : IsCurrent b.tops b.supers x.descriptor.family s c = subst (λ f. IsCurrent b.tops b.supers f s c) (sym of) is in
      let within : end_of b.journal x ≤ length (of_family p.family b.journal) = subst (λ f. end_of b.journal x ≤ length (of_family f b.journal)) of ends-within in
      record {
        serial_is = sym serial;
        later = ⊎_elim
            (λ active. inl (omega (arith, (knows.families p.family).seen, ends-as s c current active, ap (λ f. length (of_family f b.journal)) of)))
            (λ listed. inr (x, at, record { end = refl; frozen = listed }))
            (frozen n x at s c current);
        within = within;
        looks = record {
          serves = subst (λ z. IsSomeAnd z (Serves b p.family (end_of b.journal x))) (sym at) (record { family_is = of; begins = omega arith; ends = omega arith });
          found_is = looked;
        };
        unread = (x, at, unread);
      }
