-- What stands in books that come after others.
-- ---- lists that go on
use Rattle.std.proofs.Common.{Bool, List, Some, [], ap, arith, drop, filter, length, length-append, length-drop, map, refl, slice_get, suc, sym, take, true, zero, ℕ, ◌++◌, ◌+◌, ◌/◌, ◌<◌, ◌==◌, ◌∙◌, ◌∷◌, ◌≡◌, ◌≤◌}
use Rattle.std.proofs.lemmas.List.{map-append}
use Rattle.std.proofs.lemmas.List.Elements.{filter-append}
use Rattle.sv_model.specs.After.{After, Continues, KeepsSuper}
use Rattle.sv_model.specs.Books.{Books, end_of}
use Rattle.sv_model.specs.Described.{BearsFrom}
use Rattle.sv_model.specs.Journal.{borne_by, of_family}
use Rattle.sv_model.specs.Lawful.{Lawful}
use Rattle.sv_model.specs.Lists.{In, same, at}
use Rattle.sv_model.specs.Registers.{EachEntry, GoesOn, entry}
use Rattle.sv_model.specs.declared.records.Descriptor.{Descriptor}
use Rattle.sv_model.specs.declared.records.Memtable.{Memtable}
use Rattle.sv_model.specs.declared.records.SuperVersion.{SuperVersion}
use Rattle.sv_model.specs.declared.writes.Write.{Write}
use Rattle.sv_model.proofs.Registers.{entry_le, entry-some}
use Rattle.sv_rule.specs.Numbers.{IsBased}
use Rattle.sv_model.specs.Supers.{IsPackOf, IsSerialOf, end_at, end_in, writes}
use Rattle.sv_rule.proofs.CurrentLaws.{some-at}
use Rattle.sv_model.proofs.PassedRows.{continues-filter, continues-length}

-- what stood in front stands there still
get-old : {A : Type 0} (l m : List A) (n : ℕ) (x : A) → slice_get l n ≡ Some x → slice_get (l ++ m) n ≡ Some x
get-old [] m n x is = absurd (cc)
get-old (y ∷ l) m zero x is = is
get-old (y ∷ l) m (suc n) x is = get-old l m n x is

pub continues-at : {A : Type 0} (a b : List A) → Continues a b → (n : ℕ) (x : A) → slice_get a n ≡ Some x
    → slice_get b n ≡ Some x
continues-at a b h n x is = ap (λ l. slice_get l n) h.1 ∙ get-old a h.0 n x is

pub in-more : {A : Type 0} (a b : List A) → Continues a b → (x : A) → In x a → In x b
in-more a b h x has = record { at = has.at; is = continues-at a b h has.at x has.is }

-- ---- SuperVersions

module _ (a b : Books) (h : After a b) where
  pub serial-after : (f t : ℕ) → IsSerialOf a.supers f t → IsSerialOf b.supers f t
  serial-after f t k = let z = h.supers t k.sv k.is in record {
    sv = z.0;
    is = z.1;
    family = ap (λ (d : Descriptor). d.family) z.2.descriptor ∙ k.family;
  }

  pub pack-after : (f p : ℕ) → IsPackOf a.supers f p → IsPackOf b.supers f p
  pack-after f p k = let z = h.supers (p / 256) k.sv k.is in
      record {
        sv = z.0;
        is = z.1;
        family = ap (λ (d : Descriptor). d.family) z.2.descriptor ∙ k.family;
        place = z.2.place ∙ k.place;
      }

  pub writes-after : (f : ℕ) → writes a.journal f ≤ writes b.journal f
  writes-after f = continues-length (of_family f a.journal) (of_family f b.journal)
      (continues-filter (λ (w : Write). w.family == f) a.journal b.journal h.journal)

  borne-after : (m : ℕ) → length (borne_by m a.journal) ≤ length (borne_by m b.journal)
  borne-after m = continues-length (borne_by m a.journal) (borne_by m b.journal)
      (continues-filter (λ (w : Write). w.mem == m) a.journal b.journal h.journal)

  -- a SuperVersion shows no less
  pub end-after : (f p : ℕ) → IsPackOf a.supers f p → end_at a p ≤ end_at b p
  end-after f p k =
      let z = h.supers (p / 256) k.sv k.is in
      let before : end_at a p ≡ end_of a.journal k.sv = ap (end_in a.journal) k.is in
      let now : end_at b p ≡ end_of b.journal z.0 = ap (end_in b.journal) z.1 in
      omega (
        arith,
        before,
        now,
        borne-after k.sv.descriptor.active,
        ap (λ (d : Descriptor). d.base) z.2.descriptor,
        ap (λ (d : Descriptor). length (borne_by d.active b.journal)) z.2.descriptor,
      )

  -- and the same where the journal stands
  pub end-same : b.journal ≡ a.journal → (f p : ℕ) → IsPackOf a.supers f p → end_at b p ≡ end_at a p
  end-same journal f p k =
      let z = h.supers (p / 256) k.sv k.is in
      ap (end_in b.journal) z.1 ∙ ((λ i. (z.2.descriptor i).base + length
      (borne_by (z.2.descriptor i).active (journal i))) ∙ sym (ap (end_in a.journal) k.is))

  pub based-after : (x y : SuperVersion) → KeepsSuper x y → IsBased a.memtables x → IsBased b.memtables y
  based-after x y same k = let m = h.memtables x.descriptor.active k.active k.at in record {
    active = m.0;
    at = ap (λ (d : Descriptor). entry b.memtables d.active) same.descriptor ∙ m.1;
    family = m.2.family ∙ (k.family ∙ sym (ap (λ (d : Descriptor). d.family) same.descriptor));
    base = ap (λ (d : Descriptor). d.base) same.descriptor ∙ (k.base ∙ sym m.2.first);
  }

-- ---- how far SuperVersions show

length-take_le : {A : Type 0} (n : ℕ) (l : List A) → length (take n l) ≤ length l
length-take_le zero l = omega arith
length-take_le (suc n) [] = omega arith
length-take_le (suc n) (x ∷ l) = omega (arith, length-take_le n l)

-- a memtable's rows end within its family's writes
pub bears_le : (journal : List Write) (m : ℕ) (it : Memtable) → BearsFrom journal m it
    → it.first + length (borne_by m journal) ≤ length (of_family it.family journal)
bears_le journal m it h =
    let F = of_family it.family journal in
    omega (
      arith,
      h.within,
      ap length h.rows,
      length-take_le (length (borne_by m journal)) (drop it.first F),
      length-drop it.first F,
    )

-- no SuperVersion ends after its family's writes
pub shown : (b : Books) → Lawful b → EachEntry (λ t x. IsBased b.memtables x) b.supers → (f p : ℕ)
    → IsPackOf b.supers f p → end_at b p ≤ writes b.journal f
shown b lawful based f p k =
    let z = based (p / 256) k.sv k.is in
    omega (
      arith,
      ap (end_in b.journal) k.is,
      bears_le b.journal k.sv.descriptor.active z.active (lawful.rows k.sv.descriptor.active z.active z.at),
      z.base,
      ap (λ g. length (of_family g b.journal)) (z.family ∙ k.family),
    )

-- one that is Live begins where its memtable does
pub based-live : (b : Books) → Lawful b → (t : ℕ) (x : SuperVersion) → entry b.supers t ≡ Some x → x.live ≡ true
    → IsBased b.memtables x
based-live b lawful t x at live =
    let d = lawful.descriptors t x at live in record {
      active = d.active;
      at = d.active_at;
      family = d.active_family;
      base = d.base;
    }

-- a register that goes on is as long
pub goes-long : {A : Type 0} (R : A → A → Type 0) (a b : List A) → GoesOn R a b → length a ≤ length b
goes-long R a b goes = by (length a) refl
  where
    by : (n : ℕ) → length a ≡ n → length a ≤ length b
    by zero e = omega (arith, e)
    by (suc n) e =
        let x = entry-some a (length a) (omega (arith, e)) (omega arith) in
        let y = goes (length a) x.0 x.1 in (entry_le b (length a) y.0 y.1).1

pub get-map : {A B : Type 0} (f : A → B) (l : List A) (i : ℕ) (x : A) → slice_get l i ≡ Some x
    → slice_get (map f l) i ≡ Some (f x)
get-map f [] i x e = absurd (cc)
get-map f (y ∷ l) zero x e = let q : y ≡ x = cc in ap (λ z. Some (f z)) q
get-map f (y ∷ l) (suc i) x e = get-map f l i x e
