use Rattle.std.proofs.Common.{◌≡◌, ◌<◌, ◌+◌, ◌↔◌, ◌++◌, ◌∷◌, [], ◌⊎◌, inl, inr, ℕ, Bool, true, false, IsTrue, List, take, arith, sym, ap, subst, ◌∙◌}
use Rattle.sv_model.specs.declared.records.RegisteredFile.{RegisteredFile}
use Rattle.sv_files.specs.Kept.{AddsStrays}
use Rattle.sv_files.proofs.StrayLaws.{stray_push, stray-high, stray-known, take-item}
use Rattle.sv_files.proofs.grabs.add_strays.Goals as goal
use Rattle.sv_files.proofs.grabs.add_strays.Goals.{then-number-limit+then-not-is_registered+in_ok-push, else-number-limit, else-number-limit-via-then-number-limit+else-not-is_registered, else-number-limit-via-else-number-limit}

none-registered : (b : Bool) (k : ℕ) → IsTrue b ↔ (0 < k) → b ≡ false → k ≡ 0
none-registered b k means is =
    let cases : (k ≡ 0) ⊎ (0 < k) = grind arith in
    elim cases [
      | inl none ↦ none
      | inr some ↦ absurd (let both : true ≡ false = sym (means.1 some) ∙ is in cc)
    ]

-- the strays so far, and this item
so_far : (c : goal.Joined-number-limit) (new : List RegisteredFile) → AddsStrays c.args.numbers.now new (take c.loop-number.number-index c.args.listed.now ++ c.number.inside.0 ∷ []) c.args.limit → c.if-number-limit.numbers ≡ new → AddsStrays c.args.numbers.now c.if-number-limit.numbers (take (c.loop-number.number-index + 1) c.args.listed.now) c.args.limit
so_far c new h is =
    let items = take-item c.args.listed.now c.loop-number.number-index c.number-item.result c.loop-number-test.true c.number-item.is in
    subst (λ (l : List RegisteredFile). AddsStrays c.args.numbers.now l (take (c.loop-number.number-index + 1) c.args.listed.now) c.args.limit) (sym is)
    (subst (λ (xs : List ℕ). AddsStrays c.args.numbers.now new xs c.args.limit) (sym (items ∙ ap (λ (n : ℕ). take c.loop-number.number-index c.args.listed.now ++ n ∷ []) (sym c.number.view_is))) h)

pub loop-number-preserved : goal.loop-number-preserved
loop-number-preserved c =
    let old = c.args.numbers.now in
    let now = c.loop-number.numbers in
    let listed = take c.loop-number.number-index c.args.listed.now in
    let n = c.number.inside.0 in
    elim c.if-number-limit.branch [
      | then-number-limit+then-not-is_registered+in_ok-push w ↦
          let none = none-registered w.is_registered.result _ w.is_registered.ensures w.if-not-is_registered.true in
          so_far c _ (stray_push old now listed c.args.limit n c.loop-number.invariant w.if-number-limit.true none) (w.numbers-is ∙ w.in_ok-push.ensures.ok)
      | else-number-limit w ↦ elim w.else-number-limit.branch [
        | else-number-limit-via-then-number-limit+else-not-is_registered v ↦
            so_far c now (stray-known old now listed c.args.limit n c.loop-number.invariant (v.is_registered.ensures.0 v.if-not-is_registered.false)) w.numbers-is
        | else-number-limit-via-else-number-limit v ↦
            so_far c now (stray-high old now listed c.args.limit n c.loop-number.invariant v.if-number-limit.false) w.numbers-is
      ]
    ]
