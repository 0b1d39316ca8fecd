-- The rule of a key, by how it compares with the key before.
use Rattle.std.proofs.Common.{◌≡◌, ℕ, Bool, true, false, cond, not, ◌&&◌, ◌||◌, List, refl, sym, ap, ◌∙◌}
use Rattle.std.specs.declared.cmp.Ordering.TheVariants.{Less, Equal, Greater}
use Rattle.std.specs.Ordering.{nat_cmp, is_lt, is_eq, ordering_reverse}
use Rattle.std.specs.Cmp.Lexicographic.{slice_cmp}
use Rattle.std.proofs.lemmas.Cmp.{nat_list_cmp_total}
use Rattle.sv_model.specs.Journal.{same_key}
use Rattle.sv_model.specs.Order.{is_below}
use Rattle.sv_model.proofs.KeyOrder.{not_back}
use Rattle.sv_table.proofs.KeptRows.{not_below_same}

abbrev rule : Bool → Bool → List ℕ → List ℕ → Bool
rule cuts covers a k = cond cuts (not (is_below k a) && (not covers || same_key a k)) (is_below a k)

less_case : (d : Bool) → not d ≡ (not false && (not d || false))
less_case true = refl
less_case false = refl

pub key_less : (cuts d : Bool) (a k : List ℕ) → cuts ≡ true → slice_cmp nat_cmp a k ≡ Less → not d ≡ rule cuts d a k
key_less true d a k is e =
    let low : false ≡ is_below k a = sym (not_back a k (ap is_lt e)) in
    let other : false ≡ same_key a k = sym (ap is_eq e) in
    less_case d ∙ (λ i. not (low i) && (not d || other i))
key_less false d a k is e = absurd (cc is)

equal_case : (d : Bool) → true ≡ (not false && (not d || true))
equal_case true = refl
equal_case false = refl

pub key_equal : (cuts d : Bool) (a k : List ℕ) → cuts ≡ true → slice_cmp nat_cmp a k ≡ Equal → true ≡ rule cuts d a k
key_equal true d a k is e =
    let same : true ≡ same_key a k = sym (ap is_eq e) in
    let low : false ≡ is_below k a = sym (not_below_same a k (sym same)) in
    equal_case d ∙ (λ i. not (low i) && (not d || same i))
key_equal false d a k is e = absurd (cc is)

pub key_greater : (cuts d : Bool) (a k : List ℕ) → cuts ≡ true → slice_cmp nat_cmp a k ≡ Greater → false ≡ rule cuts d a k
key_greater true d a k is e =
    let high : true ≡ is_below k a = sym (ap is_lt (nat_list_cmp_total.antisymm k a) ∙ ap (λ o. is_lt (ordering_reverse o)) e) in
    ap (λ (b : Bool). not b && (not d || same_key a k)) high
key_greater false d a k is e = absurd (cc is)
