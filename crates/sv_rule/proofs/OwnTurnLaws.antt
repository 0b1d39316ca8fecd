-- What the books have of one lane, as another's changes.
use Rattle.std.proofs.Common.{List, None, Option, Some, [], ap, arith, cond, inl, inr, ne_eqb, refl, slice_get, suc, sym, zero, ℕ, ⊎_elim, ◌++◌, ◌∙◌, ◌∷◌, ◌≡◌, ◌≢◌, ◌≤◌, ◌⊎◌}
use Rattle.sv_model.specs.Books.{Books}
use Rattle.sv_model.specs.Journal.{by_lane}
use Rattle.sv_model.specs.Lawful.{Lawful}
use Rattle.sv_model.specs.Lists.{Every, In, same, total}
use Rattle.sv_model.specs.Numbers.{having, is_grabbed, is_pending, registered}
use Rattle.sv_model.specs.Summaries.{is_gone}
use Rattle.sv_model.specs.declared.writes.Write.{Write}
use Rattle.sv_model.proofs.FlatFirsts.{marks}
use Rattle.sv_model.proofs.Lists.{same_is}
use Rattle.sv_rule.specs.InHand.{IsThere}
use Rattle.sv_model.specs.Tasks.{grabs, has_output, job_count, marks_of, output_count, Mark, Output, Task}
use Rattle.sv_model.specs.Turns.{IsFresh, IsOutput, OwnTurns}
use Rattle.sv_rule.proofs.Statuses.{registered-has, registered-stays, statuses}
use Rattle.sv_rule.proofs.Sums.{same_one}

pub push_or : {A : Type 0} (a m : List A) (i : ℕ) (x : A) → slice_get (a ++ m) i ≡ Some x → (slice_get a i ≡ Some x)
    ⊎ In x m
push_or [] m i x e = inr (record { at = i; is = e })
push_or (y ∷ a) m zero x e = inl e
push_or (y ∷ a) m (suc i) x e = push_or a m i x e

-- the writes of other lanes
pub other_lanes : (k l : ℕ) (more : List Write) → k ≢ l → Every (λ w. w.lane ≡ l) more → by_lane k more ≡ []
other_lanes k l [] n own = refl
other_lanes k l (w ∷ more) n own =
    ap (λ b. cond b (w ∷ by_lane k more) (by_lane k more)) (ne_eqb w.lane k (λ e. n (sym e ∙ own 0 w refl)))
    ∙ other_lanes k l more n (λ i x e. own (suc i) x e)

pub no_grabs : (n : ℕ) (o : Option (List Mark)) → job_count o ≡ 0 → total (λ k. same n k.number) (marks_of o) ≡ 0
no_grabs n None z = refl
no_grabs n (Some marks) z = absurd (omega arith)

pub job_most : (o : Option (List Mark)) → job_count o ≤ 1
job_most None = omega arith
job_most (Some marks) = omega arith

pub output_has : (n : ℕ) (o : Option Output) → 1 ≤ output_count n o → (x : Output) × (o ≡ Some x) × (n ≡ x.meta.number)
output_has n None h = absurd (omega arith)
output_has n (Some x) h = (x, refl, same_is n x.meta.number (omega arith))

module _ (a b : Books) (l : ℕ) (t u : Task) (more : List Write) (c : OwnTurns l a t b u more) (before : Lawful a) where
  -- A number that is Live or Obsolete, and no output, stays so while no job is under way.
  pub there-stays : (n : ℕ) → has_output n t ≤ having is_pending n a.files.numbers
      → having is_grabbed n b.files.numbers ≡ 0 → grabs n t ≤ having is_grabbed n a.files.numbers → IsThere a n
      → IsThere b n
  there-stays n mine still own there =
      let s = statuses n a.files.numbers in
      let z = statuses n b.files.numbers in
      let once = before.numbers.once n in
      let one : 1 ≤ registered n b.files.numbers = registered-stays a.files.numbers b.files.numbers c.later.numbers n
      (omega arith) in
      let not_gone : (1 ≤ having is_gone n b.files.numbers)
      → ⊥ = λ h. ⊎_elim (λ (g : 1 ≤ having is_gone n a.files.numbers). omega arith)
      (λ (g : 1 ≤ grabs n t). omega arith) (c.gone n h) in
      let not_pending : (1 ≤ having is_pending n b.files.numbers) → ⊥ = λ h.
      let e = c.outputs n in
      let new : 1 ≤ has_output n u = omega arith in
      let o = output_has n u.output new in
      ⊎_elim
      (λ (w : IsOutput t o.0). omega (
        arith,
        ap (output_count n) w.is,
        same_one n w.was.meta.number (ap (λ m. m.number) (sym w.same) ∙ sym o.2),
      ))
      (λ (w : IsFresh a b o.0). let r = registered-has n a.files.numbers (omega arith) in
      omega (arith, before.numbers.below r.0 r.1 r.2, r.3, o.2, w.next))
      (c.output o.0 o.1) in
      grind (arith, not_gone, not_pending)
