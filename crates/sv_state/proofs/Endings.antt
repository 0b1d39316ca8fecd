-- What the end of a flush or a compaction finds.
use Rattle.std.proofs.Common.{◌≡◌, ◌∷◌, ℕ, Bool, false, List, [], Option, Some, None, sym, ap, ◌∙◌, subst}
use Rattle.std.specs.Prelude.{Result, if◌then◌else◌, option_map, slice_get}
use Rattle.sv_model.specs.declared.records.Family.{Family}
use Rattle.sv_model.specs.declared.records.FileMeta.{FileMeta}
use Rattle.sv_model.specs.declared.records.RegisteredFile.{RegisteredFile}
use Rattle.sv_model.specs.declared.refusals.Refusal.{Refusal}
use Rattle.sv_model.specs.declared.refusals.Refusal.TheVariants.{Dropped}
use Rattle.sv_model.specs.declared.sv_refs.SvRef.{SvRef}
use Rattle.sv_model.specs.Books.{Books}
use Rattle.sv_model.specs.Numbers.{IsCaptured}
use Rattle.sv_model.specs.Refusals.{Refuses, first_due}
use Rattle.sv_model.specs.Registers.{entry}
use Rattle.sv_model.specs.Steady.{Sound}
use Rattle.sv_model.proofs.NumberLaws.{one_entry}
use Rattle.sv_registry.specs.Calls.{make_refusal}
use Rattle.sv_model.proofs.Entries.{some}
use Rattle.sv_objects.specs.declared.bodies.Body.{Body}
use Rattle.sv_state.specs.Finishing.{CanFinish, finish_refusal}
use Rattle.sv_state.specs.Refs.{IsBodyOf, IsState}
use Rattle.sv_state.proofs.Finding.{own-body}
use Rattle.sv_state.proofs.Finishes.{done-it}

-- ---- the family that has captured the number

-- there is one such family
pub one-captor : (a : Books) → Sound a → (f g n : ℕ) → slice_get a.files.captured f ≡ Some (Some n) → slice_get a.files.captured g ≡ Some (Some n) → f ≡ g
one-captor a k f g n p q =
    let u = k.lawful.numbers.held f n p in
    let w = k.lawful.numbers.held g n q in
    let N = a.files.numbers in
    let at = one_entry N n u.0 w.0 u.1 w.1 (k.lawful.numbers.once n) u.2 w.2 u.3.number_is w.3.number_is in
    let one : u.1 ≡ w.1 = some (sym u.2 ∙ ap (entry N) at ∙ w.2) in
    some (sym u.3.family_is ∙ ap (λ (x : RegisteredFile). x.family) one ∙ w.3.family_is)

pub captured-of : (a b : Books) → a ≡ b → (file : FileMeta) → ((g : ℕ) × CanFinish b g file) → IsCaptured a.files.captured file.number
captured-of a b seen file need =
    subst (λ (z : Books). IsCaptured z.files.captured file.number) (sym seen) (need.0, need.1.captured)

module _ (a b : Books) (seen : a ≡ b) (k : Sound a) (file : FileMeta) (f : ℕ) (captured : slice_get a.files.captured f ≡ Some (Some file.number)) where
  pub can-of : ((g : ℕ) × CanFinish b g file) → CanFinish a f file
  can-of need =
      let w : (g : ℕ) × CanFinish a g file = subst (λ (z : Books). (g : ℕ) × CanFinish z g file) (sym seen) need in
      subst (λ g. CanFinish a g file) (one-captor a k w.0 f file.number w.1.captured captured) w.1

  -- it is that of the books, whichever family is meant
  pub refuses-as : {T : Type 0} (r : Result T Refusal)
      → Refuses (first_due (finish_refusal (slice_get a.families f) ∷ make_refusal a.supers ∷ [])) r
      → (g : ℕ) → CanFinish b g file
      → Refuses (first_due (finish_refusal (slice_get b.families g) ∷ make_refusal b.supers ∷ [])) r
  refuses-as r h g can =
      let z : CanFinish a g file = subst (λ (z : Books). CanFinish z g file) (sym seen) can in
      let same = one-captor a k f g file.number captured z.captured in
      subst (λ (z : Books × ℕ). Refuses (first_due (finish_refusal (slice_get z.0.families z.1) ∷ make_refusal z.0.supers ∷ [])) r) (λ i. (seen i, same i)) h

-- whether the family is dropped, and so refused
pub finish-read : (o : Option Family) (r : Bool) → option_map (λ (z : Family). z.dropped) o ≡ Some r → finish_refusal o ≡ (if r then Some Dropped else None)
finish-read (Some x) r e = ap (λ b. if b then Some Dropped else None) (some e)
finish-read None r e = absurd (cc)

-- ---- its current

pub done-body : (a : Books) (held : List (Option (SvRef Body))) (h : IsState a held) (f : ℕ) (file : FileMeta) (can : CanFinish a f file) (stands : can.it.dropped ≡ false) (body : Body)
    → ((r : SvRef Body) → slice_get held f ≡ Some (Some r) → body ≡ r.body.value) → IsBodyOf a (done-it a h.sound f file can stands).descriptor body
done-body a held h f file can stands body e = own-body a held h f can.it can.at stands (can.current stands) body e
