-- A lock as another lane, or this one, takes a step.
use Rattle.std.proofs.Common.{List, Some, arith, refl, set, sym, ℕ, ◌∙◌, ◌≡◌, ◌≢◌}
use mathlib.Core.Option.{none, some}
use lib.ListN.{get_elem?}
use Rattle.sv_model.specs.Books.{Books}
use Rattle.sv_rule.specs.Home.{IsState, Lock}
use Rattle.sv_rule.specs.Sums.{Each}
use Rattle.sv_rule.specs.Table.{Box}
use Rattle.sv_rule.specs.Tasks.{has_db}
use Rattle.sv_rule.specs.Views.{Desk, LaneView, Work}
use Rattle.sv_rule.specs.declared.parts.Stored.{Stored}
use Rattle.sv_rule.proofs.Basics.{at_desk, each_other, each_set, has_one}
use Rattle.sv_rule.proofs.StepLaws.{view_le, view_same}
use Rattle.sv_rule.proofs.Sums.{terms_le, total-set}

module _ {A : Type 0} where
  -- a lock that the step does not touch
  pub lock-else : (P Q : A → Type 0) (g : LaneView → ℕ) (y : ℕ) (h : Box A) (vs : List LaneView) (id : ℕ)
      (v w : LaneView) → get_elem? vs id ≡ some v → g w ≡ g v → ((x : A) → P x → Q x) → Lock P g y h vs
      → Lock Q g y h (set vs id w)
  lock-else P Q g y h vs id v w me e f k = record {
    bit = view_same g vs id v w me e ∙ k.bit;
    one = k.one;
    home = λ z. let t = k.home z in (t.0, t.1, f t.0 t.2);
    out = k.out;
  }

  -- a free lock has no owner
  pub lock-none : (P : A → Type 0) (g : LaneView → ℕ) (y : ℕ) (h : Box A) (vs : List LaneView) (id : ℕ) (v : LaneView)
      → get_elem? vs id ≡ some v → y ≡ 0 → Lock P g y h vs → g v ≡ 0
  lock-none P g y h vs id v me z k = omega (arith, view_le g vs id v me, k.bit)

  pub lock-took : (P Q : A → Type 0) (g : LaneView → ℕ) (y : ℕ) (h : Box A) (vs : List LaneView) (id : ℕ)
      (v w : LaneView) → get_elem? vs id ≡ some v → y ≡ 0 → g w ≡ 1 → Lock P g y h vs
      → Lock Q g 1 (some none) (set vs id w)
  lock-took P Q g y h vs id v w me z one k = record {
    bit = omega (arith, total-set g vs id v w me, lock-none P g y h vs id v me z k, k.bit);
    one = omega arith;
    home = λ z. absurd (omega arith);
    out = λ _. refl;
  }

  pub lock-gave : (P Q : A → Type 0) (g : LaneView → ℕ) (y : ℕ) (h : Box A) (vs : List LaneView) (id : ℕ)
      (v w : LaneView) (x : A) → get_elem? vs id ≡ some v → g v ≡ 1 → g w ≡ 0 → Q x → Lock P g y h vs
      → Lock Q g 0 (some (some x)) (set vs id w)
  lock-gave P Q g y h vs id v w x me one zero_is so k = record {
    bit = omega (arith, total-set g vs id v w me, view_le g vs id v me, k.bit, k.one);
    one = omega arith;
    home = λ _. (x, refl, so);
    out = λ z. absurd (omega arith);
  }

  -- a lock that the lane has, and keeps; at home it is not
  pub lock-kept : (P Q : A → Type 0) (g : LaneView → ℕ) (y : ℕ) (h : Box A) (vs : List LaneView) (id : ℕ)
      (v w : LaneView) → get_elem? vs id ≡ some v → g v ≡ 1 → g w ≡ 1 → Lock P g y h vs → Lock Q g y h (set vs id w)
  lock-kept P Q g y h vs id v w me one still k = record {
    bit = omega (arith, total-set g vs id v w me, k.bit);
    one = k.one;
    home = λ z. absurd (omega (arith, view_le g vs id v me, k.bit));
    out = k.out;
  }

-- no other lane has a lock that the lane has
pub alone : {A : Type 0} (P : A → Type 0) (g : LaneView → ℕ) (y : ℕ) (h : Box A) (vs : List LaneView) (id : ℕ)
    (v : LaneView) → get_elem? vs id ≡ some v → g v ≡ 1 → Lock P g y h vs → (j : ℕ) (u : LaneView) → j ≢ id
    → get_elem? vs j ≡ some u → g u ≡ 0
alone P g y h vs id v me one k j u ne at_u = omega (arith, terms_le g vs id j v u ne me at_u, k.bit, k.one)

-- who has the state in hand, where the lane's own does not change
pub desks_same : (b : Books) (work : Work) (vs : List LaneView) (id : ℕ) (v w : LaneView) → get_elem? vs id ≡ some v
    → w.locks.db ≡ v.locks.db → Each (λ j u. (d : Desk) → u.locks.db ≡ Some d → (d.books ≡ b) × (d.work ≡ work)) vs
    → Each (λ j u. (d : Desk) → u.locks.db ≡ Some d → (d.books ≡ b) × (d.work ≡ work)) (set vs id w)
desks_same b work vs id v w me e all = each_set (λ j u. (d : Desk) → u.locks.db ≡ Some d → (d.books ≡ b)
    × (d.work ≡ work)) vs id w (λ d x. all id v me d (sym e ∙ x)) all

module _ {S D C B : Type 0} (books : S → Books) (b : Books) (work : Work) where
  -- the lane that has the state changes the books in its hands, or its work
  pub desks_step : (b' : Books) (work' : Work) (x : ℕ) (h : Box (Stored S D C B)) (vs : List LaneView) (id : ℕ)
      (v w : LaneView) (d d' : Desk) → get_elem? vs id ≡ some v → v.locks.db ≡ Some d → w.locks.db ≡ Some d'
      → d'.books ≡ b' → d'.work ≡ work'
      → Lock (IsState {S = S} {D = D} {C = C} {B = B} books b work) has_db x h vs
      → Each (λ j u. (e : Desk) → u.locks.db ≡ Some e → (e.books ≡ b') × (e.work ≡ work')) (set vs id w)
  desks_step b' work' x h vs id v w d d' me has has' is is' lock =
      each_other (λ j u. (e : Desk) → u.locks.db ≡ Some e → (e.books ≡ b') × (e.work ≡ work')) vs id w
      (λ e z. at_desk (λ k. (k.books ≡ b') × (k.work ≡ work')) w.locks.db d' e has' z (is, is'))
      (λ j u ne y e z. absurd (omega (
        arith,
        has_one u e z,
        has_one v d has,
        alone (IsState {S = S} {D = D} {C = C} {B = B} books b work) has_db x h vs id v me (has_one v d has) lock j
            u ne y,
      )))
