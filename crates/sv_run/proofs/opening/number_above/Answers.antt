-- The first number of one name more.
use Rattle.std.proofs.Common.{◌≡◌, ◌<◌, ◌≤◌, ◌⊎◌, inl, inr, ℕ, List, String, Global, None, Some, ◌+◌, arith, map, refl, subst}
use Rattle.std.specs.Prelude.{string_bytes}
use Rattle.std.proofs.lemmas.List.{take_all}
use Rattle.sv_dir.specs.TableNames.{number_named}
use Rattle.sv_model.proofs.Entries.{get_none}
use Rattle.sv_run.specs.Openings.{IsFirstOf}
use Rattle.sv_run.proofs.Numbering.{first-more}
use Rattle.sv_run.proofs.opening.number_above.Goals as goal
use Rattle.sv_run.proofs.opening.number_above.Goals.{then-after-first, else-after-first}

pub loop-name-init : goal.loop-name-init
loop-name-init c = record {
  some = omega arith;
  first = record { above = λ n has. absurd (get_none has.there.at has.name has.there.is); reached = inl refl };
}

pub loop-name-preserved : goal.loop-name-preserved
loop-name-preserved c =
    let first = c.loop-name.first in
    let after = c.number_after-after.result in
    let more = c.if-after-first.first in
    let which : (first ≤ more) × (after ≤ more) × ((more ≡ first) ⊎ ((more ≡ after) × (first < after))) =
    elim c.if-after-first.branch [
      | then-after-first w ↦ (omega arith, omega arith, inr (omega arith, omega arith))
      | else-after-first w ↦ (omega arith, omega arith, inl (omega arith))
    ] in
    record {
      some = let before = c.loop-name.invariant.some in let kept = which.0 in omega (arith, before, kept);
      first = first-more c.args.names.now c.loop-name.name-index first after more c.name-item.result (omega arith) c.name-item.is
          c.loop-name.invariant.first c.loop-name.invariant.some
          (subst (λ (text : List ℕ). number_named text ≡ None → after ≡ 1) c.as_str.ensures.value c.number_after-after.ensures.none)
          (subst (λ (text : List ℕ). (n : ℕ) → number_named text ≡ Some n → after ≡ n + 1) c.as_str.ensures.value c.number_after-after.ensures.next)
          which.0 which.1 which.2;
    }

pub returns-clause-first : goal.returns-clause-first
returns-clause-first c =
    subst (λ (z : List (String Global)). IsFirstOf c.loop-name.first (map string_bytes z))
    (take_all c.loop-name.name-index c.args.names.now (omega arith)) c.loop-name.invariant.first
