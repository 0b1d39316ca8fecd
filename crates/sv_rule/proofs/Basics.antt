-- Small laws on options, lists and views.
use Rattle.std.proofs.Common.{Bool, List, None, Option, Some, [], ap, arith, false, inl, inr, length, refl, set, slice_get, subst, suc, sym, true, zero, ℕ, ⊎_elim, ◌++◌, ◌∙◌, ◌∷◌, ◌≡◌, ◌≢◌, ◌≤◌, ◌⊎◌}
use mathlib.Core.Option as maybe
use lib.ListN.{get_elem?}
use Rattle.atomic_table.proofs.Lists.{at_set}
use Rattle.sv_model.specs.Lists.{Every}
use Rattle.sv_model.specs.Registers.{entry}
use Rattle.sv_rule.specs.Sums.{Each}
use Rattle.sv_rule.specs.Tasks.{has_db, some_count}
use Rattle.sv_rule.specs.Views.{Desk, LaneView}
use mathlib.Core.Option.{some}
use Rattle.sv_model.specs.declared.sv_refs.SvRef.{SvRef}
use Rattle.sv_rule.specs.Table.{Box}
use Rattle.sv_rule.specs.declared.parts.Stored.{Stored}
use Rattle.sv_rule.specs.declared.parts.Stored.TheVariants as is

pub some_is : {A : Type 0} {x y : A} → Some x ≡ Some y → x ≡ y
some_is {A} {x} {y} e = cc

pub true_not : true ≡ false → ⊥
true_not e = cc

pub get_none : {A : Type 0} (n : ℕ) (y : A) → slice_get [] n ≡ Some y → ⊥
get_none n y e = absurd (cc)

pub get-past : {A : Type 0} (l : List A) (n : ℕ) → slice_get l n ≡ None → length l ≤ n
get-past [] n e = omega arith
get-past (x ∷ l) zero e = absurd (cc)
get-past (x ∷ l) (suc n) e = let r = get-past l n e in omega arith

pub get_one : {A : Type 0} (x : A) (n : ℕ) (y : A) → slice_get (x ∷ []) n ≡ Some y → (n ≡ 0) × (y ≡ x)
get_one x zero y e = (refl, sym (some_is e))
get_one x (suc n) y e = absurd (cc)

pub entry_one : {A : Type 0} (x : A) (n : ℕ) (y : A) → entry (x ∷ []) n ≡ Some y → (n ≡ 1) × (y ≡ x)
entry_one x zero y e = absurd (cc)
entry_one x (suc n) y e = let h = get_one x n y e in (omega (arith, h.0), h.1)

pub append_none : {A : Type 0} (l : List A) → l ≡ l ++ []
append_none [] = refl
append_none (x ∷ l) = ap (λ z. x ∷ z) (append_none l)

-- ---- each item of a list
pub every_none : {A : Type 0} (P : A → Type 0) → Every P []
every_none P i x e = absurd (get_none i x e)

pub get_push : {A : Type 0} (l : List A) (y : A) (n : ℕ) (x : A) → slice_get (l ++ y ∷ []) n ≡ Some x
    → (slice_get l n ≡ Some x) ⊎ (x ≡ y)
get_push [] y zero x is = inr (sym (some_is is))
get_push [] y (suc n) x is = absurd (cc)
get_push (z ∷ l) y zero x is = inl is
get_push (z ∷ l) y (suc n) x is = get_push l y n x is

pub every_push : {A : Type 0} (P : A → Type 0) (l : List A) (y : A) → Every P l → P y → Every P (l ++ y ∷ [])
every_push P l y all here i x e = ⊎_elim (λ h. all i x h) (λ h. subst P (sym h) here) (get_push l y i x e)

pub every_cons : {A : Type 0} (P : A → Type 0) (y : A) (l : List A) → P y → Every P l → Every P (y ∷ l)
every_cons P y l here all zero x e = subst P (some_is e) here
every_cons P y l here all (suc i) x e = all i x e

pub every_append : {A : Type 0} (P : A → Type 0) (a b : List A) → Every P a → Every P b → Every P (a ++ b)
every_append P [] b f g i y e = g i y e
every_append P (x ∷ a) b f g zero y e = f zero y e
every_append P (x ∷ a) b f g (suc i) y e = every_append P a b (λ j z q. f (suc j) z q) g i y e

pub every_map : {A : Type 0} (P Q : A → Type 0) (l : List A) → ((x : A) → P x → Q x) → Every P l → Every Q l
every_map P Q l f all i x e = f x (all i x e)

-- ---- each view

-- what holds of the new view and of each other holds of all
pub each_set : {A : Type 0} (P : ℕ → A → Type 0) (vs : List A) (id : ℕ) (w : A) → P id w → Each P vs
    → Each P (set vs id w)
each_set {A} P vs id w mine all j u e = ⊎_elim (λ (t : (j ≡ id) × (w ≡ u)). subst (λ (x : ℕ × A). P x.0 x.1)
    (λ i. (sym t.0 i, t.1 i)) mine) (λ t. all j u t.1) (at_set vs id j w u e)

-- the same where what holds of the others may rest on their being others
pub each_other : {A : Type 0} (P : ℕ → A → Type 0) (vs : List A) (id : ℕ) (w : A) → P id w
    → ((j : ℕ) (u : A) → j ≢ id → get_elem? vs j ≡ maybe.some u → P j u) → Each P (set vs id w)
each_other {A} P vs id w mine all j u e = ⊎_elim (λ (t : (j ≡ id) × (w ≡ u)). subst (λ (x : ℕ × A). P x.0 x.1)
    (λ i. (sym t.0 i, t.1 i)) mine) (λ t. all j u t.0 t.1) (at_set vs id j w u e)

pub each_one : {A : Type 0} (P : ℕ → A → Type 0) (v : A) → P 0 v → Each P (v ∷ [])
each_one P v p zero u e = subst (P 0) (maybe.some-injective v u e) p
each_one P v p (suc j) u e = absurd (maybe.some-ne-none u (sym e))

-- the lane that has the DB lock, or not
pub by_desk : {A : Type 0} (o : Option Desk) → (o ≡ None → A) → ((d : Desk) → o ≡ Some d → A) → A
by_desk None f g = f refl
by_desk (Some d) f g = g d refl

-- a holder of the DB lock has one desk
pub at_desk : (P : Desk → Type 0) (o : Option Desk) (d d' : Desk) → o ≡ Some d → o ≡ Some d' → P d → P d'
at_desk P o d d' e e' = subst (λ (z : Option Desk). elim z as (λ _. Type 0) [ None ↦ Unit {0} | Some y ↦ P y ])
    (sym e ∙ e')

pub no_desk_in : {o : Option Desk} {d : Desk} → o ≡ Some d → o ≡ None → ⊥
no_desk_in e n = cc

pub has_one : (v : LaneView) (d : Desk) → v.locks.db ≡ Some d → has_db v ≡ 1
has_one v d e = ap (λ (o : Option Desk). some_count o) e

pub has_none : (v : LaneView) → has_db v ≡ 0 → (d : Desk) → v.locks.db ≡ Some d → ⊥
has_none v z d e = omega (arith, has_one v d e)

pub no_db : (v : LaneView) → has_db v ≡ 0 → v.locks.db ≡ None
no_db v z = by v.locks.db z
  where
    by : (o : Option Desk) → some_count o ≡ 0 → o ≡ None
    by None z = refl
    by (Some d) z = absurd (omega arith)

pub views-here : {A : Type 0} (l : List A) (i : ℕ) (p q : A) → get_elem? l i ≡ maybe.some p
    → get_elem? (set l i q) i ≡ maybe.some q
views-here [] i p q e = absurd (maybe.some-ne-none p (sym e))
views-here (z ∷ l) zero p q e = refl
views-here (z ∷ l) (suc i) p q e = views-here l i p q e

pub views-else : {A : Type 0} (l : List A) (i k : ℕ) (q : A) → k ≢ i → get_elem? (set l i q) k ≡ get_elem? l k
views-else [] i k q n = refl
views-else (z ∷ l) zero zero q n = absurd (n refl)
views-else (z ∷ l) zero (suc k) q n = refl
views-else (z ∷ l) (suc i) zero q n = refl
views-else (z ∷ l) (suc i) (suc k) q n = views-else l i k q (λ e. n (ap suc e))

pub by_bool : {A : Type 0} (b : Bool) → (b ≡ true → A) → (b ≡ false → A) → A
by_bool true f g = f refl
by_bool false f g = g refl

pub no_ref : {S D C B : Type 0} (y : SvRef B) → ◌≡◌ {A = Box (Stored S D C B)} (some (some is.Nothing))
    (some (some (is.Cached y))) → ⊥
no_ref y e = cc
