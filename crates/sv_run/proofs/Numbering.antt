-- Which numbers the names of a directory have.
use Rattle.std.proofs.Common.{◌≡◌, ◌<◌, ◌≤◌, ◌+◌, ◌^◌, ◌⊎◌, inl, inr, ⊎_elim, ℕ, zero, suc, Bool, true, false, not, ◌&&◌, ◌||◌, List, [], ◌∷◌, ◌++◌, length, map, take, get_or, Option, Some, None, String, Global, refl, sym, ◌∙◌, ap, subst, arith}
use Rattle.std.specs.Prelude.{◌==◌, IfSome, bytes_eq, slice_get, string_bytes}
use Rattle.std.specs.Cmp.{first_so, second_so}
use Rattle.std.specs.List.{list_any}
use Rattle.std.specs.Str.{all_ascii_digits}
use Rattle.std.specs.Str.Parse.{digits_value}
use Rattle.std.proofs.lemmas.Bool.Decides.{nat_tests}
use Rattle.std.proofs.lemmas.List.{map-append, take_more}
use Rattle.std.proofs.lemmas.Option.{cond_some}
use Rattle.std.proofs.lemmas.Str.Parse.{IsNumeralModel, numerals_by_value, tells_all_ascii_digits, digits_value_short}
use Rattle.sv_model.proofs.Entries.{get_one, in-left, in-right, in-suc, in_append, some}
use Rattle.sv_model.proofs.KeyOrder.{same_eq, same_yes}
use Rattle.sv_model.specs.Files.{Files, suffix}
use Rattle.sv_model.specs.Lists.{In}
use Rattle.sv_dir.specs.Files.{ListsEach, same_name}
use Rattle.sv_dir.specs.TableNames.{stem_of, ending_of, is_spelled, is_file_name, number_named}
use Rattle.sv_run.specs.Openings.{HasNumber, HasNumberIn, IsFirst, IsFirstOf}

-- ---- how great a number can be

own : IsNumeralModel (λ ds. all_ascii_digits ds ≡ true) (digits_value 10)
own = numerals_by_value (λ ds. all_ascii_digits ds ≡ true) tells_all_ascii_digits

spelled-digits : (ds : List ℕ) → is_spelled ds ≡ true → all_ascii_digits ds ≡ true
spelled-digits ds h = grind (arith, nat_tests)

spelled-short : (ds : List ℕ) → is_spelled ds ≡ true → length ds ≤ 12
spelled-short ds h = grind (arith, nat_tests)

-- a name has at most twelve digits
pub number_small : (name : List ℕ) (n : ℕ) → number_named name ≡ Some n → n < 10 ^ 12
unfolding number_named
number_small name n e =
    let found = cond_some (is_file_name name) (digits_value 10 (stem_of name)) n e in
    let front = first_so (bytes_eq (ending_of name) suffix && is_spelled (stem_of name)) (not (digits_value 10 (stem_of name) == 0)) found.0 in
    let spelled = second_so (bytes_eq (ending_of name) suffix) (is_spelled (stem_of name)) front in
    subst (λ k. k < 10 ^ 12) found.1 (digits_value_short own (stem_of name) 12 (spelled-digits (stem_of name) spelled) (spelled-short (stem_of name) spelled))

-- ---- one name more

-- the first number of so many names, and of one more
pub first-push : (xs : List (List ℕ)) (y : List ℕ) (first after more : ℕ) → IsFirstOf first xs → 1 ≤ first
    → (number_named y ≡ None → after ≡ 1) → ((n : ℕ) → number_named y ≡ Some n → after ≡ n + 1) → first ≤ more → after ≤ more
    → (more ≡ first) ⊎ ((more ≡ after) × (first < after)) → IsFirstOf more (xs ++ y ∷ [])
first-push xs y first after more h least none next old new which = record {
  above = λ n has. ⊎_elim
      (λ before. (let lt = h.above n (record { name = has.name; there = before; named = has.named }) in omega (arith, lt, old)))
      (λ last.
      let same : has.name ≡ y = (get_one y last.at has.name last.is).1 in
      let is = next n (ap number_named (sym same) ∙ has.named) in
      omega (arith, is, new))
      (in_append has.name xs (y ∷ []) has.there);
  reached = ⊎_elim (λ same. as-before same h.reached) (λ w. at-last (number_named y) refl w.0 w.1) which;
}
  where
    as-before : more ≡ first → (first ≡ 1) ⊎ ((n : ℕ) × HasNumberIn xs n × (first ≡ n + 1))
        → (more ≡ 1) ⊎ ((n : ℕ) × HasNumberIn (xs ++ y ∷ []) n × (more ≡ n + 1))
    as-before same (inl one) = inl (same ∙ one)
    as-before same (inr (n, has, is)) =
        inr (n, record { name = has.name; there = in-left has.name xs (y ∷ []) has.there; named = has.named }, same ∙ is)

    at-last : (o : Option ℕ) → number_named y ≡ o → more ≡ after → first < after
        → (more ≡ 1) ⊎ ((n : ℕ) × HasNumberIn (xs ++ y ∷ []) n × (more ≡ n + 1))
    at-last None named same lt = absurd (let one = none named in omega (arith, one, least, lt))
    at-last (Some n) named same lt =
        inr (n, record { name = y; there = in-right y xs (y ∷ []) (record { at = 0; is = refl }); named = named }, same ∙ next n named)

pub first-more : (names : List (String Global)) (i first after more : ℕ) (s : String Global) → i < length names → s ≡ get_or names i s
    → IsFirstOf first (map string_bytes (take i names)) → 1 ≤ first
    → (number_named (string_bytes s) ≡ None → after ≡ 1) → ((n : ℕ) → number_named (string_bytes s) ≡ Some n → after ≡ n + 1)
    → first ≤ more → after ≤ more → (more ≡ first) ⊎ ((more ≡ after) × (first < after))
    → IsFirstOf more (map string_bytes (take (i + 1) names))
first-more names i first after more s lt is h least none next old new which =
    subst (IsFirstOf more)
    (sym (map-append string_bytes (take i names) (s ∷ []))
    ∙ ap (map string_bytes) (ap (λ (z : String Global). take i names ++ z ∷ []) is ∙ sym (take_more names i s lt)))
    (first-push (map string_bytes (take i names)) (string_bytes s) first after more h least none next old new which)

-- ---- the names of a listing

any-in : (name : List ℕ) (l : List (List ℕ)) → list_any (same_name name) l ≡ true → In name l
any-in name [] h = absurd (cc)
any-in name (x ∷ l) h = by (any-in name l) (same_name name x) refl h
  where
    by : (list_any (same_name name) l ≡ true → In name l) → (b : Bool) → same_name name x ≡ b → (b || list_any (same_name name) l) ≡ true → In name (x ∷ l)
    by later true is any = record { at = 0; is = ap Some (sym (same_eq name x is)) }
    by later false is any = in-suc name x l (later any)

in-any : (name : List ℕ) (l : List (List ℕ)) (i : ℕ) → slice_get l i ≡ Some name → list_any (same_name name) l ≡ true
in-any name [] zero h = absurd (cc)
in-any name [] (suc i) h = absurd (cc)
in-any name (x ∷ l) zero h =
    let same : x ≡ name = some h in
    ap (λ b. b || list_any (same_name name) l) (ap (same_name name) same ∙ same_yes name name refl)
in-any name (x ∷ l) (suc i) h = by (same_name name x) (in-any name l i h)
  where
    by : (b : Bool) → list_any (same_name name) l ≡ true → (b || list_any (same_name name) l) ≡ true
    by true any = refl
    by false any = any

pub listed-first : (first : ℕ) (names : List (String Global)) (o : Option Files) → IsFirstOf first (map string_bytes names)
    → IfSome o (ListsEach (map string_bytes names)) → IfSome o (IsFirst first)
listed-first first names None h lists = tt
listed-first first names (Some files) h lists = record {
  above = λ n has. h.above n (record { name = has.name; there = any-in has.name (map string_bytes names) (lists.has has.name ∙ has.there); named = has.named });
  reached = ⊎_elim (λ one. inl one) (λ w. inr (w.0, found w.0 w.1, w.2)) h.reached;
}
  where
    found : (n : ℕ) → HasNumberIn (map string_bytes names) n → HasNumber files n
    found n has = record {
      name = has.name;
      there = sym (lists.has has.name) ∙ in-any has.name (map string_bytes names) has.there.at has.there.is;
      named = has.named;
    }
