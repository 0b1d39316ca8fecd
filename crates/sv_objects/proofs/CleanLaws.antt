-- From what the parts give to a whole cleanup.
use Rattle.std.proofs.Common.{◌≡◌, ◌≢◌, ◌+◌, ◌*◌, ◌++◌, ◌∷◌, [], ℕ, inl, inr, ⊎_elim, Bool, true, false, cond, List, Option, Some, None, refl, sym, ap, ◌∙◌, subst, arith}
use Rattle.std.specs.Prelude.{IfSome, slice_get}
use Rattle.std.specs.Option.{option_to_list}
use Rattle.sv_model.specs.declared.records.SuperVersion.{SuperVersion}
use Rattle.sv_model.specs.declared.records.RegisteredFile.{RegisteredFile}
use Rattle.sv_model.specs.declared.records.Version.{Version}
use Rattle.sv_model.specs.declared.records.FileStatus.TheVariants.{Live, Obsolete}
use Rattle.sv_model.specs.Books.{Books}
use Rattle.sv_model.specs.Lists.{Distinct, In}
use Rattle.sv_model.specs.Named.{HasLast, IsLive, NamedFile, NamedVersion, UsesList, UsesMemtable, UsesVersion, list_live, version_live}
use Rattle.sv_model.specs.Numbers.{IsMarked, IsRegistered}
use Rattle.sv_model.specs.Places.{gone_super}
use Rattle.sv_model.specs.Registers.{entry, change, Has}
use Rattle.sv_model.specs.Steady.{Sound}
use Rattle.sv_registry.specs.declared.registry.Freed.{Freed}
use Rattle.sv_registry.specs.Calls as registry
use Rattle.sv_registry.specs.Calls.{IsLivePack, IsReclaimed}
use Rattle.sv_laws.specs.Midst.{EndsVersion, Frees}
use Rattle.sv_model.proofs.Entries.{in-left, in-none, in-right, some}
use Rattle.sv_laws.proofs.Settled.{marked-else}

-- another number that was Live is so after one was marked
pub still-live : (N K : List RegisteredFile) (n k : ℕ) → IsMarked n Live Obsolete N K → k ≢ n → IsRegistered N k Live → IsRegistered K k Live
still-live N K n k m apart h =
    (h.0, h.1, marked-else n Live Obsolete N K m h.0 h.1 (λ q. apart (sym h.3.number_is ∙ ap (λ (z : RegisteredFile). z.number) (some (sym h.2 ∙ ap (entry N) q ∙ m.found)) ∙ m.had.number_is)) h.2, h.3)

frees : (N : Type 0) (part : ℕ) (o : Option ℕ) → registry.Frees N part o → Frees N part o
frees N part (Some f) h = h
frees N part None h = h

module _ (a : Books) (k : Sound a) (pack s : ℕ) (x : SuperVersion) (at : entry a.supers s ≡ Some x) (live : x.live ≡ true) (pack_is : pack ≡ s * 256 + x.place) where
  pub is-live : IsLivePack a.supers pack
  is-live = record { serial = s; it = x; at = at; live = live; within = (k.lawful.places s x at live).0; pack_is = pack_is }

  abbrev pub S : List SuperVersion
  S = change a.supers s (record x { live = false })

  list-lives : IsLive list_live a.lists x.descriptor.list
  list-lives = (k.lawful.lists x.descriptor.list).1 (s, x, at, record { live = live; is = refl })

  version-lives : IsLive version_live a.versions x.descriptor.version
  version-lives = (k.lawful.versions x.descriptor.version).1 (inl (s, x, at, record { live = live; is = refl }))

  module _ (freed : Freed) (R : List SuperVersion) (r : IsReclaimed a.supers pack freed R) where
    serial_is : r.serial ≡ s
    serial_is = omega (arith, r.pack_is, pack_is, (k.lawful.places s x at live).0, (k.lawful.places r.serial r.it r.ended.at r.ended.live).0)

    it_is : r.it ≡ x
    it_is = some (sym r.ended.at ∙ ap (entry a.supers) serial_is ∙ at)

    pub reclaimed-is : R ≡ S
    reclaimed-is = r.ended.gone ∙ (λ i. change a.supers (serial_is i) (gone_super (it_is i)))

    pub frees-active : Frees (Has (UsesMemtable x.descriptor.active) S) x.descriptor.active freed.active
    frees-active =
        subst (λ (z : SuperVersion × List SuperVersion). Frees (Has (UsesMemtable z.0.descriptor.active) z.1) z.0.descriptor.active freed.active) (λ i. (it_is i, reclaimed-is i)) (frees _ _ freed.active r.active)

    pub frees-list : Frees (Has (UsesList x.descriptor.list) S) x.descriptor.list freed.list
    frees-list =
        subst (λ (z : SuperVersion × List SuperVersion). Frees (Has (UsesList z.0.descriptor.list) z.1) z.0.descriptor.list freed.list) (λ i. (it_is i, reclaimed-is i)) (frees _ _ freed.list r.list)

    frees-version : Frees (Has (UsesVersion x.descriptor.version) S) x.descriptor.version freed.version
    frees-version =
        subst (λ (z : SuperVersion × List SuperVersion). Frees (Has (UsesVersion z.0.descriptor.version) z.1) z.0.descriptor.version freed.version) (λ i. (it_is i, reclaimed-is i)) (frees _ _ freed.version r.version)

    pub list-freed : IfSome freed.list (IsLive list_live a.lists)
    list-freed = by freed.list frees-list
      where
        by : (o : Option ℕ) → Frees (Has (UsesList x.descriptor.list) S) x.descriptor.list o → IfSome o (IsLive list_live a.lists)
        by (Some l) f = subst (IsLive list_live a.lists) (sym f.0) list-lives
        by None f = tt

    -- ---- the Version, unless it is a family's last

    module _ (last : Bool) (stays : last ≡ true → HasLast x.descriptor.version a.families a.tops) (goes : last ≡ false → HasLast x.descriptor.version a.families a.tops → ⊥) where
      pub frees-gone : Frees (NamedVersion S a.families a.tops x.descriptor.version) x.descriptor.version (cond last None freed.version)
      frees-gone = by last refl freed.version frees-version
        where
          by : (b : Bool) → last ≡ b → (o : Option ℕ) → Frees (Has (UsesVersion x.descriptor.version) S) x.descriptor.version o
              → Frees (NamedVersion S a.families a.tops x.descriptor.version) x.descriptor.version (cond b None o)
          by true e o f = inr (stays e)
          by false e (Some v) f = (f.0, ⊎_elim f.1 (goes e))
          by false e None f = inl f

      pub version-freed : (gone : Option ℕ) → gone ≡ cond last None freed.version → IfSome gone (IsLive version_live a.versions)
      version-freed gone e = by gone (subst (Frees (NamedVersion S a.families a.tops x.descriptor.version) x.descriptor.version) (sym e) frees-gone)
        where
          by : (o : Option ℕ) → Frees (NamedVersion S a.families a.tops x.descriptor.version) x.descriptor.version o → IfSome o (IsLive version_live a.versions)
          by (Some v) f = subst (IsLive version_live a.versions) (sym f.0) version-lives
          by None f = tt

      module _ (gone : Option ℕ) (e : gone ≡ cond last None freed.version) (V : List Version) (given : List ℕ) (ends : EndsVersion a.versions gone V given) where
        pub frees-it : Frees (NamedVersion S a.families a.tops x.descriptor.version) x.descriptor.version gone
        frees-it = subst (Frees (NamedVersion S a.families a.tops x.descriptor.version) x.descriptor.version) (sym e) frees-gone

        pub given-live : (n : ℕ) → In n given → IsRegistered a.files.numbers n Live
        given-live n i = by gone frees-it ends
          where
            by : (o : Option ℕ) → Frees (NamedVersion S a.families a.tops x.descriptor.version) x.descriptor.version o → EndsVersion a.versions o V given → IsRegistered a.files.numbers n Live
            by None f g = absurd (in-none n (subst (In n) g.1 i))
            by (Some v) f g =
                let w = version-lives in
                let v_at : entry a.versions v ≡ Some w.it = ap (entry a.versions) f.0 ∙ w.at in
                (k.lawful.files n).1 (v, w.it, v_at, record { live = w.live; has = (((g w.it v_at).1.exact n).0 i).0 })

        pub given-free : (n : ℕ) → In n given → NamedFile V n → ⊥
        given-free n i h = by gone frees-it ends
          where
            by : (o : Option ℕ) → Frees (NamedVersion S a.families a.tops x.descriptor.version) x.descriptor.version o → EndsVersion a.versions o V given → ⊥
            by None f g = in-none n (subst (In n) g.1 i)
            by (Some v) f g =
                let w = version-lives in
                let v_at : entry a.versions v ≡ Some w.it = ap (entry a.versions) f.0 ∙ w.at in
                (((g w.it v_at).1.exact n).0 i).1 h

        pub given-once : Distinct given
        given-once = by gone frees-it ends
          where
            by : (o : Option ℕ) → Frees (NamedVersion S a.families a.tops x.descriptor.version) x.descriptor.version o → EndsVersion a.versions o V given → Distinct given
            by None f g = λ i j n p q. absurd (in-none n (record { at = i; is = ap (λ l. slice_get l i) (sym g.1) ∙ p }))
            by (Some v) f g =
                let w = version-lives in
                let v_at : entry a.versions v ≡ Some w.it = ap (entry a.versions) f.0 ∙ w.at in
                (g w.it v_at).1.once

-- the active memtable and the members are among those that are looked at
pub active-in : (active : Option ℕ) (given : List ℕ) (n : ℕ) → active ≡ Some n → In n (given ++ (option_to_list active ++ []))
active-in active given n e =
    subst (λ o. In n (given ++ (option_to_list o ++ []))) (sym e) (in-right n given (n ∷ []) (record { at = 0; is = refl }))

pub given-in : (active : Option ℕ) (given : List ℕ) (n : ℕ) → In n given → In n (given ++ (option_to_list active ++ []))
given-in active given n i = in-left n given (option_to_list active ++ []) i
