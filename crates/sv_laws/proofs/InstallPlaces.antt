-- A SuperVersion becomes current: places, cells and families.
use Rattle.std.proofs.Common.{◌≡◌, ◌≢◌, ◌<◌, ℕ, ◌+◌, ◌⊎◌, ⊎_elim, true, false, List, [], ◌∷◌, ◌++◌, length, Some, sym, ap, ◌∙◌, arith}
use Rattle.std.specs.Prelude.{slice_get}
use mathlib.Core.Logic.{dite}
use native.Mathlib.Decide.{ℕ_discrete}
use Rattle.sv_model.specs.declared.records.SuperVersion.{SuperVersion}
use Rattle.sv_model.specs.declared.records.Memtable.{Memtable}
use Rattle.sv_model.specs.declared.records.Family.{Family}
use Rattle.sv_model.specs.declared.records.FileStatus.TheVariants.{Pending, Live}
use Rattle.sv_model.specs.Registers.{entry, EachEntry}
use Rattle.sv_model.specs.Books.{Books, FileRegister}
use Rattle.sv_model.specs.Families.{IsDefault}
use Rattle.sv_model.specs.Numbers.{captures}
use Rattle.sv_model.specs.Lawful.{Lawful}
use Rattle.sv_model.specs.Steady.{Sound}
use Rattle.sv_model.proofs.Registers.{entry_push}
use Rattle.sv_laws.specs.Installs.{Installs, IsNewMemtable}
use Rattle.sv_laws.proofs.GrownRegisters.{grown_entry, placed_get}
use Rattle.sv_laws.proofs.Settled.{marked-captures}

module _ (a b : Books) (k : Sound a) (f : ℕ) (r : Family) (x : SuperVersion) (h : Installs a b f r x) where
  abbrev S : List SuperVersion
  S = a.supers ++ x ∷ []

  abbrev PM : ℕ → Memtable → Type 0
  PM = IsNewMemtable a f x.descriptor.active

  law : Lawful a
  law = k.lawful

  sup : (i : ℕ) (s : SuperVersion) → entry S i ≡ Some s
      → (entry a.supers i ≡ Some s) ⊎ ((i ≡ length a.supers + 1) × (s ≡ x))
  sup = entry_push a.supers x

  pub places_law : EachEntry (λ n y. y.live ≡ true → (y.place < 256) × EachEntry (λ j z. z.live ≡ true → z.place ≡ y.place → j ≡ n) S) S
  places_law n y e l = ⊎_elim
      (λ o. ((law.places n y o l).0, λ j z p zl q. ⊎_elim (λ u. (law.places n y o l).1 j z u zl q) (λ u. absurd (h.room.free n y o l (sym q ∙ ap (λ (w : SuperVersion). w.place) u.1))) (sup j z p)))
      (λ o. (omega (arith, h.room.within, ap (λ (w : SuperVersion). w.place) o.1), λ j z p zl q. ⊎_elim (λ u. absurd (h.room.free j z u zl (q ∙ ap (λ (w : SuperVersion). w.place) o.1))) (λ u. u.0 ∙ sym o.0) (sup j z p)))
      (sup n y e)

  pub mem : (i : ℕ) (m : Memtable) → entry b.memtables i ≡ Some m
      → (entry a.memtables i ≡ Some m) ⊎ ((i ≡ length a.memtables + 1) × IsNewMemtable a f x.descriptor.active i m)
  mem = grown_entry PM a.memtables b.memtables h.memtables

  pub cells_law : EachEntry (λ n y. y.live ≡ true → (y.cell < 64) × EachEntry (λ j z. z.live ≡ true → z.cell ≡ y.cell → j ≡ n) b.memtables) b.memtables
  cells_law n y e l = ⊎_elim
      (λ o. ((law.cells n y o l).0, λ j z p zl q. ⊎_elim (λ u. (law.cells n y o l).1 j z u zl q) (λ u. absurd (u.1.room.free n y o l (sym q))) (mem j z p)))
      (λ o. (o.1.room.within, λ j z p zl q. ⊎_elim (λ u. absurd (o.1.room.free j z u zl q)) (λ u. u.0 ∙ sym o.0) (mem j z p)))
      (mem n y e)

  pub fam : (g : ℕ) (y : Family) → slice_get b.families g ≡ Some y
      → ((g ≡ f) × (y ≡ r)) ⊎ ((g ≢ f) × (slice_get a.families g ≡ Some y))
  fam = placed_get a.families b.families f r h.families

  pub distinct_law : (g i : ℕ) (y z : Family) → slice_get b.families g ≡ Some y → slice_get b.families i ≡ Some z
      → y.dropped ≡ false → z.dropped ≡ false → y.name ≡ z.name → g ≡ i
  distinct_law g i y z e w l₁ l₂ n = ⊎_elim
      (λ p. ⊎_elim (λ q. p.0 ∙ sym q.0) (λ q. absurd (h.name_free i z q.0 q.1 l₂ (ap (λ (u : Family). u.name) (sym p.1) ∙ n))) (fam i z w))
      (λ p. ⊎_elim (λ q. absurd (h.name_free g y p.0 p.1 l₁ (ap (λ (u : Family). u.name) (sym q.1) ∙ sym n))) (λ q. law.distinct g i y z p.1 q.1 l₁ l₂ n) (fam i z w))
      (fam g y e)

  pub default_law : IsDefault b.families
  default_law = dite (ℕ_discrete 0 f)
      (λ q. record {
        it = r;
        at = ap (slice_get b.families) q ∙ h.families.here;
        name_is = (h.was law.default.it (ap (slice_get a.families) (sym q) ∙ law.default.at)).0 ∙ law.default.name_is;
        stands = h.stands;
      })
      (λ q. record {
        it = law.default.it;
        at = h.families.others 0 q ∙ law.default.at;
        name_is = law.default.name_is;
        stands = law.default.stands;
      })

  pub captures_same : captures b.files.numbers ≡ captures a.files.numbers
  captures_same = ⊎_elim
      (λ q. ap (λ (F : FileRegister). captures F.numbers) q)
      (λ o. marked-captures o.number Pending Live a.files.numbers b.files.numbers o.settled.numbers)
      h.files

  pub holds_same : b.files.holds ≡ a.files.holds
  holds_same =
      ⊎_elim
      (λ q. ap (λ (F : FileRegister). F.holds) q)
      (λ o. ap (λ (F : FileRegister). F.holds) o.settled.rest)
      h.files

  pub jobs_same : b.files.jobs ≡ a.files.jobs
  jobs_same =
      ⊎_elim (λ q. ap (λ (F : FileRegister). F.jobs) q) (λ o. ap (λ (F : FileRegister). F.jobs) o.settled.rest) h.files

  pub next_same : b.files.next ≡ a.files.next
  next_same =
      ⊎_elim (λ q. ap (λ (F : FileRegister). F.next) q) (λ o. ap (λ (F : FileRegister). F.next) o.settled.rest) h.files
