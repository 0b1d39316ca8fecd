-- The order of keys.
use Rattle.std.proofs.Common.{◌≡◌, ℕ, Bool, true, false, not, ◌&&◌, List, refl, sym, ap, ◌∙◌}
use Rattle.std.specs.declared.cmp.Ordering.{Ordering}
use Rattle.std.specs.declared.cmp.Ordering.TheVariants.{Less, Equal, Greater}
use Rattle.std.specs.Ordering.{nat_cmp, is_lt, is_eq, ordering_reverse}
use Rattle.std.specs.Cmp.Lexicographic.{slice_cmp}
use Rattle.std.proofs.lemmas.Cmp.{nat_list_cmp_total}
use Rattle.std.proofs.lemmas.Map.Text.{is_eq-slice_cmp}
use Rattle.std.proofs.lemmas.Slice.Eq.{bytes_eq-Decides}
use Rattle.sv_model.specs.Journal.{same_key}
use Rattle.sv_model.specs.Order.{is_below}

pub not_true : (b : Bool) → (b ≡ true → ⊥) → b ≡ false
not_true true h = absurd (h refl)
not_true false h = refl

pub same_eq : (a b : List ℕ) → same_key a b ≡ true → a ≡ b
same_eq a b h = (bytes_eq-Decides a b).0 (sym (is_eq-slice_cmp a b) ∙ h)

pub same_yes : (a b : List ℕ) → a ≡ b → same_key a b ≡ true
same_yes a b e = is_eq-slice_cmp a b ∙ (bytes_eq-Decides a b).1 e

pub same_no : (a b : List ℕ) → (a ≡ b → ⊥) → same_key a b ≡ false
same_no a b h = not_true (same_key a b) (λ t. h (same_eq a b t))

lt_is : (o : Ordering) → is_lt o ≡ true → o ≡ Less
lt_is Less h = refl
lt_is Equal h = absurd (cc h)
lt_is Greater h = absurd (cc h)

pub eq_is : (o : Ordering) → is_eq o ≡ true → o ≡ Equal
eq_is Less h = absurd (cc h)
eq_is Equal h = refl
eq_is Greater h = absurd (cc h)

pub below_trans : (a b c : List ℕ) → is_below a b ≡ true → is_below b c ≡ true → is_below a c ≡ true
below_trans a b c p q = ap is_lt (nat_list_cmp_total.trans a b c (lt_is _ p) (lt_is _ q))

not_both : (o : Ordering) → is_lt o ≡ true → is_eq o ≡ true → ⊥
not_both Less p q = absurd (cc q)
not_both Equal p q = absurd (cc p)
not_both Greater p q = absurd (cc p)

pub below_other : (a b : List ℕ) → is_below a b ≡ true → a ≡ b → ⊥
below_other a b p e = not_both (slice_cmp nat_cmp a b) p (same_yes a b e)

turned : (o : Ordering) → (not (is_lt o) && not (is_lt (ordering_reverse o))) ≡ is_eq o
turned Less = refl
turned Equal = refl
turned Greater = refl

-- two keys tie where they are the same
pub tie_same : (a b : List ℕ) → (not (is_below a b) && not (is_below b a)) ≡ same_key a b
tie_same a b = ap (λ (o : Ordering). not (is_below a b) && not (is_lt o)) (nat_list_cmp_total.antisymm b a) ∙ turned (slice_cmp nat_cmp a b)

above_of : (o : Ordering) → is_lt (ordering_reverse o) ≡ false → is_eq o ≡ false → is_lt o ≡ true
above_of Less p q = refl
above_of Equal p q = absurd (cc q)
above_of Greater p q = absurd (cc p)

-- a key that is not below another and not the same is above it
pub above : (a b : List ℕ) → is_below b a ≡ false → same_key a b ≡ false → is_below a b ≡ true
above a b p q = above_of (slice_cmp nat_cmp a b) (ap is_lt (sym (nat_list_cmp_total.antisymm b a)) ∙ p) q

reversed_of : (o : Ordering) → is_lt o ≡ true → is_lt (ordering_reverse o) ≡ false
reversed_of Less p = refl
reversed_of Equal p = refl
reversed_of Greater p = absurd (cc p)

pub not_back : (a b : List ℕ) → is_below a b ≡ true → is_below b a ≡ false
not_back a b p = ap is_lt (nat_list_cmp_total.antisymm b a) ∙ reversed_of (slice_cmp nat_cmp a b) p
