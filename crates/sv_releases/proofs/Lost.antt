-- Which handle a lane lost from one list of families to another.
use Rattle.std.proofs.Common.{Bool, List, Option, Some, [], ap, arith, cond, eq-eqb, false, map, ne_eqb, refl, subst, suc, sym, true, zero, ℕ, ◌+◌, ◌==◌, ◌∙◌, ◌∷◌, ◌≡◌}
use Rattle.std.specs.Prelude.{slice_get, slice_set}
use Rattle.sv_laws.specs.Families.{released}
use Rattle.sv_model.proofs.Entries.{get_none, some}
use Rattle.sv_model.specs.Lists.{at, bit}
use Rattle.sv_model.specs.declared.records.Family.{Family}
use Rattle.sv_rule.specs.Sums.{without}

-- whether the lane has a handle of it, as a number
abbrev pub has : ℕ → Family → ℕ
has l x = at 0 (map bit x.handles) l

-- Those of the families, from number n on, without the first of which the lane has a handle in one list alone.
abbrev pub lost : ℕ → List Family → List Family → ℕ → List ℕ → List ℕ
lost l [] ys n own = own
lost l (x ∷ xs) [] n own = own
lost l (x ∷ xs) (y ∷ ys) n own = cond (has l x == has l y) (lost l xs ys (n + 1) own) (without n own)

pub lost-none : (l : ℕ) (xs : List Family) (n : ℕ) (own : List ℕ) → lost l xs xs n own ≡ own
lost-none l [] n own = refl
lost-none l (x ∷ xs) n own =
    ap (λ (b : Bool). cond b (lost l xs xs (n + 1) own) (without n own)) (eq-eqb (has l x) (has l x) refl)
    ∙ lost-none l xs (n + 1) own

pub bit-on : (hs : List Bool) (l : ℕ) → slice_get hs l ≡ Some true → at 0 (map bit hs) l ≡ 1
bit-on [] l e = absurd (get_none l true e)
bit-on (x ∷ hs) zero e = ap bit (some e)
bit-on (x ∷ hs) (suc l) e = bit-on hs l e

bit-off : (hs : List Bool) (l : ℕ) → slice_get hs l ≡ Some true → at 0 (map bit (slice_set hs l false)) l ≡ 0
bit-off [] l e = absurd (get_none l true e)
bit-off (x ∷ hs) zero e = refl
bit-off (x ∷ hs) (suc l) e = bit-off hs l e

pub lost-one : (l : ℕ) (xs : List Family) (f : ℕ) (it : Family) → slice_get xs f ≡ Some it
    → slice_get it.handles l ≡ Some true → (n : ℕ) (own : List ℕ)
    → lost l xs (slice_set xs f (released it l)) n own ≡ without (n + f) own
lost-one l [] f it e h n own = absurd (get_none f it e)
lost-one l (x ∷ xs) zero it e h n own =
    ap (λ (b : Bool). cond b (lost l xs xs (n + 1) own) (without n own))
    (ne_eqb (has l x) (has l (released it l)) (λ q. omega (arith, q, on, bit-off it.handles l h)))
    ∙ ap (λ k. without k own) (omega arith)
  where
    on : has l x ≡ 1
    on = ap (has l) (some e) ∙ bit-on it.handles l h
lost-one l (x ∷ xs) (suc f) it e h n own =
    ap (λ (b : Bool). cond b (lost l xs (slice_set xs f (released it l)) (n + 1) own) (without n own))
    (eq-eqb (has l x) (has l x) refl)
    ∙ lost-one l xs f it e h (n + 1) own ∙ ap (λ k. without k own) (omega arith)
