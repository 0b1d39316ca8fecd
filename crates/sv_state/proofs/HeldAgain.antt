-- A hold that is given back and taken again.
use Rattle.std.proofs.Common.{◌≡◌, ◌<◌, ◌≤◌, ◌+◌, ◌==◌, ℕ, zero, suc, false, List, [], ◌∷◌, length, set, is_err, Some, None, refl, sym, ap, ◌∙◌, arith}
use Rattle.std.specs.Prelude.{Result, Ok, Err, IfOk, if◌then◌else◌, slice_index}
use Rattle.std.proofs.lemmas.Grind.{common_steps}
use Rattle.std.proofs.lemmas.List.{get_or-set_same, set-get_or}
use Rattle.std.proofs.lemmas.Option.{slice_get-get_or}
use Rattle.sv_model.specs.declared.refusals.Refusal.{Refusal}
use Rattle.sv_model.specs.declared.refusals.Refusal.TheVariants.{TooManyHolds}
use Rattle.sv_model.specs.Books.{FileRegister}
use Rattle.sv_model.specs.Numbers.{FilesStand}
use Rattle.sv_model.specs.Refusals.{RefusesExactly}
use Rattle.sv_files.specs.Calls.{hold_refusal, with_hold}

set-again : {A : Type 0} (l : List A) (i : ℕ) (x y : A) → set (set l i x) i y ≡ set l i y
set-again [] i x y = refl
set-again (z ∷ l) zero x y = refl
set-again (z ∷ l) (suc i) x y = ap (λ k. z ∷ k) (set-again l i x y)

not-full : (n : ℕ) (e : Refusal) → n < 255 → hold_refusal n ≡ Some e → ⊥
not-full n e lt h =
    let z : (n == 255) ≡ false = below n lt in
    none (sym (ap (λ b. if b then Some TooManyHolds else None) z) ∙ h)
  where
    below : (n : ℕ) → n < 255 → (n == 255) ≡ false
    below n lt = grind (arith, common_steps)

    none : None ≡ Some e → ⊥
    none q = absurd (cc)

pub held-again : (F G H : FileRegister) (lane : ℕ) (back again : Result ℕ Refusal) → FilesStand F → lane < 32 → is_err back ≡ false
    → IfOk back (λ n. (n + 1 ≡ slice_index F.holds lane) × (G ≡ with_hold F lane n))
    → IfOk again (λ m. (m ≡ slice_index G.holds lane + 1) × (H ≡ with_hold G lane m))
    → RefusesExactly (hold_refusal (slice_index G.holds lane)) again → H ≡ F
held-again F G H lane (Err e) again stand lt fine p q refused = absurd (cc)
held-again F G H lane (Ok n) (Ok m) stand lt fine p q refused =
    let within : lane < length F.holds = omega (arith, lt, stand.lanes) in
    let left : slice_index G.holds lane ≡ n = ap (λ (z : FileRegister). slice_index z.holds lane) p.1 ∙ get_or-set_same F.holds lane n 0 within in
    let same : m ≡ slice_index F.holds lane = q.0 ∙ ap (λ z. z + 1) left ∙ p.0 in
    q.1
    ∙ (λ i. with_hold (p.1 i) lane (same i))
    ∙ ap (λ l. record F { holds = l }) (set-again F.holds lane n (slice_index F.holds lane) ∙ set-get_or F.holds lane 0)
held-again F G H lane (Ok n) (Err e) stand lt fine p q refused =
    let within : lane < length F.holds = omega (arith, lt, stand.lanes) in
    let left : slice_index G.holds lane ≡ n = ap (λ (z : FileRegister). slice_index z.holds lane) p.1 ∙ get_or-set_same F.holds lane n 0 within in
    let most : slice_index F.holds lane ≤ 255 = stand.holds lane (slice_index F.holds lane) (slice_get-get_or F.holds lane 0 within) in
    absurd (not-full n e (omega (arith, most, p.0)) (ap hold_refusal (sym left) ∙ refused))
