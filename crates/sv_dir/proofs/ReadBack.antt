-- Names read back: the number of a file's name, and the name of a number that was read.
use Rattle.std.proofs.Common.{◌≡◌, ◌≢◌, ℕ, zero, suc, ◌+◌, ◌-◌, ◌^◌, ◌<◌, ◌≤◌, ◌⊎◌, inl, inr, Bool, true, false, not, ◌&&◌, cond, List, [], ◌∷◌, ◌++◌, length, length-append, replicate, get_or, take, drop, Option, Some, None, Result, Ok, refl, sym, ◌∙◌, ap, subst, arith}
use Rattle.std.specs.Prelude.{◌==◌, decimal, bytes_eq}
use Rattle.std.specs.Str.{all_ascii_digits}
use Rattle.std.specs.Str.Pattern.{FindsTextSuffix, StripsSuffix}
use Rattle.std.specs.Str.Parse.{digits_value, ParsesUnsigned}
use Rattle.std.proofs.Math.Seq.{take-append_seam, drop-append_seam}
use Rattle.std.proofs.lemmas.List.{length-replicate, take-append-drop}
use Rattle.std.proofs.lemmas.Bool.Decides.{nat_tests, Decides-eqb}
use Rattle.std.specs.Cmp.{first_so, second_so}
use Rattle.std.proofs.lemmas.Bool.{cond-true, cases_lt}
use Rattle.std.proofs.lemmas.Option.{cond_some}
use Rattle.std.proofs.lemmas.Slice.Eq.{bytes_eq-Decides}
use Rattle.std.proofs.lemmas.Str.Parse.{IsNumeralModel, numerals_by_value, tells_all_ascii_digits, digits_value_short, parse_gives}
use Rattle.std.proofs.lemmas.Fmt.{digits_decimal, digits_value-decimal, first_decimal, length-decimal-le, decimal-digits_value}
use Rattle.sv_model.specs.Files.{padded, suffix, file_name}
use Rattle.sv_dir.specs.TableNames.{stem_of, ending_of, is_spelled, is_file_name, number_named}

own : IsNumeralModel (λ ds. all_ascii_digits ds ≡ true) (digits_value 10)
own = numerals_by_value (λ ds. all_ascii_digits ds ≡ true) tells_all_ascii_digits

-- a name is taken apart
suffix_starts : (front : List ℕ) → length (front ++ suffix) - 4 ≡ length front
suffix_starts front = omega (arith, length-append front suffix)

pub stem-append : (front : List ℕ) → stem_of (front ++ suffix) ≡ front
stem-append front = ap (λ n. take n (front ++ suffix)) (suffix_starts front) ∙ take-append_seam front suffix

pub ending-append : (front : List ℕ) → ending_of (front ++ suffix) ≡ suffix
ending-append front = ap (λ n. drop n (front ++ suffix)) (suffix_starts front) ∙ drop-append_seam front suffix

pub stem_and_ending : (name : List ℕ) → bytes_eq (ending_of name) suffix ≡ true → name ≡ stem_of name ++ suffix
stem_and_ending name e =
    sym (take-append-drop (length name - 4) name) ∙ ap (λ s. stem_of name ++ s) ((bytes_eq-Decides (ending_of name) suffix).0 e)

-- what `strip_suffix` leaves
pub stripped : (name stem : List ℕ) → StripsSuffix (FindsTextSuffix suffix) name stem → name ≡ stem ++ suffix
stripped name stem h = h.1.1 ∙ ap (λ t. t ++ suffix) (sym h.2)

-- leading zeros
digits-zeros : (k : ℕ) (ds : List ℕ) → all_ascii_digits ds ≡ true → all_ascii_digits (replicate k 48 ++ ds) ≡ true
digits-zeros zero ds h = h
digits-zeros (suc k) ds h = digits-zeros k ds h

value-zeros : (k : ℕ) (ds : List ℕ) → digits_value 10 (replicate k 48 ++ ds) ≡ digits_value 10 ds
value-zeros zero ds = refl
value-zeros (suc k) ds = value-zeros k ds

length-padded : (least n : ℕ) → length (padded least n) ≡ (least - length (decimal n)) + length (decimal n)
length-padded least n =
    length-append (replicate (least - length (decimal n)) 48) (decimal n)
    ∙ ap (λ k. k + length (decimal n)) (length-replicate {A = ℕ} (least - length (decimal n)) 48)

pub length-padded-le : (n : ℕ) → n < 2 ^ 64 → length (padded 6 n) ≤ 20
length-padded-le n fits =
    let short = length-decimal-le 20 n (omega arith) (omega (arith, fits)) fits in
    omega (arith, length-padded 6 n, short)

-- the number of a name
spelled : (ds : List ℕ) → all_ascii_digits ds ≡ true → (length ds ≡ 6) ⊎ ((7 ≤ length ds) × (length ds ≤ 12) × (get_or ds 0 0 ≢ 48)) → is_spelled ds ≡ true
spelled ds h which = grind (arith, nat_tests)

value-padded : (n : ℕ) → n < 2 ^ 64 → digits_value 10 (padded 6 n) ≡ n
value-padded n fits = value-zeros (6 - length (decimal n)) (decimal n) ∙ digits_value-decimal own n fits

plain : (n : ℕ) → 7 ≤ length (decimal n) → padded 6 n ≡ decimal n
plain n long =
    let none : 6 - length (decimal n) ≡ 0 = omega arith in
    ap (λ k. replicate k 48 ++ decimal n) none

spelled-padded_by : (n : ℕ) → 1 ≤ n → n ≤ 999999999999 → n < 2 ^ 64 → (length (decimal n) < 7) ⊎ (7 ≤ length (decimal n)) → is_spelled (padded 6 n) ≡ true
spelled-padded_by n some most fits (inl short) =
    spelled (padded 6 n) (digits-zeros (6 - length (decimal n)) (decimal n) (digits_decimal own n fits)) (inl (omega (arith, length-padded 6 n)))
spelled-padded_by n some most fits (inr long) =
    let few : length (decimal n) ≤ 12 = length-decimal-le 12 n (omega arith) (omega arith) fits in
    let first : 48 < get_or (padded 6 n) 0 0 = subst (λ ds. 48 < get_or ds 0 0) (sym (plain n long)) (first_decimal n (omega arith) fits) in
    spelled (padded 6 n) (digits-zeros (6 - length (decimal n)) (decimal n) (digits_decimal own n fits))
    (inr (omega (arith, length-padded 6 n), omega (arith, length-padded 6 n), λ e. absurd (omega arith)))

spelled-padded : (n : ℕ) → 1 ≤ n → n ≤ 999999999999 → is_spelled (padded 6 n) ≡ true
spelled-padded n some most = spelled-padded_by n some most (omega arith) (cases_lt (length (decimal n)) 7)

-- the number, by the two parts of a name
abbrev number_of_parts : List ℕ → List ℕ → Option ℕ
number_of_parts ending stem =
    cond (bytes_eq ending suffix && is_spelled stem && not (digits_value 10 stem == 0)) (Some (digits_value 10 stem)) None

by_parts : (name stem : List ℕ) → name ≡ stem ++ suffix → number_named name ≡ number_of_parts suffix stem
unfolding number_named
by_parts name stem e =
    let ending : ending_of name ≡ suffix = ap ending_of e ∙ ending-append stem in
    let start : stem_of name ≡ stem = ap stem_of e ∙ stem-append stem in
    ap (λ t. number_of_parts t (stem_of name)) ending ∙ ap (number_of_parts suffix) start

both : (a b : Bool) → a ≡ true → b ≡ true → (a && b) ≡ true
both a b p q = grind arith

not_zero : (n : ℕ) → 1 ≤ n → not (n == 0) ≡ true
not_zero n some = grind (arith, nat_tests)

pub number_of_stem : (name stem : List ℕ) (n : ℕ) → name ≡ stem ++ suffix → is_spelled stem ≡ true → digits_value 10 stem ≡ n → 1 ≤ n → number_named name ≡ Some n
number_of_stem name stem n e h v some =
    by_parts name stem e
    ∙ cond-true (is_spelled stem && not (digits_value 10 stem == 0)) (Some (digits_value 10 stem)) None (both (is_spelled stem) (not (digits_value 10 stem == 0)) h (not_zero (digits_value 10 stem) (omega arith)))
    ∙ ap Some v

pub number_named-file_name : (n : ℕ) → 1 ≤ n → n ≤ 999999999999 → number_named (file_name n) ≡ Some n
unfolding file_name
number_named-file_name n some most =
    number_of_stem (file_name n) (padded 6 n) n refl (spelled-padded n some most) (value-padded n (omega arith)) some

-- foreign names
pub foreign_ending : (name : List ℕ) → ((front : List ℕ) → name ≢ front ++ suffix) → number_named name ≡ None
unfolding number_named
foreign_ending name other =
    let differs : (b : Bool) → bytes_eq (ending_of name) suffix ≡ b → bytes_eq (ending_of name) suffix ≡ false =
    elim [ true ↦ λ e. absurd (other (stem_of name) (stem_and_ending name e)) | false ↦ λ e. e ] in
    ap (λ b. cond (b && is_spelled (stem_of name) && not (digits_value 10 (stem_of name) == 0)) (Some (digits_value 10 (stem_of name))) None) (differs _ refl)

pub foreign_stem : (name stem : List ℕ) → name ≡ stem ++ suffix → is_spelled stem ≡ false → number_named name ≡ None
foreign_stem name stem e h =
    by_parts name stem e ∙ ap (λ b. cond (b && not (digits_value 10 stem == 0)) (Some (digits_value 10 stem)) None) h

pub foreign_zero : (name stem : List ℕ) → name ≡ stem ++ suffix → is_spelled stem ≡ true → digits_value 10 stem ≡ 0 → number_named name ≡ None
foreign_zero name stem e h none =
    by_parts name stem e ∙ ap (λ b. cond (b && not (digits_value 10 stem == 0)) (Some (digits_value 10 stem)) None) h
    ∙ ap (λ n. cond (not (n == 0)) (Some n) None) none

-- what a spelled stem is
record IsSpelled (ds : List ℕ) : Type 0 where
  digits : all_ascii_digits ds ≡ true
  length_is : (length ds ≡ 6) ⊎ ((7 ≤ length ds) × (length ds ≤ 12) × (get_or ds 0 0 ≢ 48))

told : (ds : List ℕ) → is_spelled ds ≡ true → IsSpelled ds
told ds h = record { digits = grind (arith, nat_tests); length_is = grind (arith, nat_tests) }

-- digits are the number that they write, with leading zeros
record IsPadded (ds : List ℕ) : Type 0 where
  fits : length (decimal (digits_value 10 ds)) ≤ length ds
  same : replicate (length ds - length (decimal (digits_value 10 ds))) 48 ++ decimal (digits_value 10 ds) ≡ ds

unpadded : (ds : List ℕ) → decimal (digits_value 10 ds) ≡ ds → IsPadded ds
unpadded ds e =
    let none : length ds - length (decimal (digits_value 10 ds)) ≡ 0 = omega (arith, ap length e) in
    record { fits = omega (arith, ap length e); same = ap (λ k. replicate k 48 ++ decimal (digits_value 10 ds)) none ∙ e }

zero_before : (ds : List ℕ) → IsPadded ds → IsPadded (48 ∷ ds)
zero_before ds p =
    let more : suc (length ds) - length (decimal (digits_value 10 ds)) ≡ suc (length ds - length (decimal (digits_value 10 ds))) = omega (arith, p.fits) in
    let zeros : ℕ → List ℕ = λ k. replicate k 48 in
    record { fits = omega (arith, p.fits); same = ap (λ k. zeros k ++ decimal (digits_value 10 ds)) more ∙ ap (λ s. 48 ∷ s) p.same }

first_digit : (c : ℕ) (cs : List ℕ)
    → (all_ascii_digits cs ≡ true → 1 ≤ digits_value 10 cs → digits_value 10 cs < 2 ^ 64 → IsPadded cs)
    → all_ascii_digits (c ∷ cs) ≡ true → 1 ≤ digits_value 10 (c ∷ cs) → digits_value 10 (c ∷ cs) < 2 ^ 64
    → (b : Bool) → (c == 48) ≡ b → IsPadded (c ∷ cs)
first_digit c cs rest h some fits true e =
    let P : ℕ → Type 0 = λ d. all_ascii_digits (d ∷ cs) ≡ true → 1 ≤ digits_value 10 (d ∷ cs) → digits_value 10 (d ∷ cs) < 2 ^ 64 → IsPadded (d ∷ cs) in
    subst P (sym ((Decides-eqb c 48).0 e)) (λ all more less. zero_before cs (rest all more less)) h some fits
first_digit c cs rest h some fits false e =
    unpadded (c ∷ cs) (decimal-digits_value own (c ∷ cs) h (omega arith) (λ z. let yes : (c == 48) ≡ true = (Decides-eqb c 48).1 z in absurd (cc)) fits)

is_padded : (ds : List ℕ) → all_ascii_digits ds ≡ true → 1 ≤ digits_value 10 ds → digits_value 10 ds < 2 ^ 64 → IsPadded ds
is_padded [] h some fits = absurd (omega arith)
is_padded (c ∷ cs) h some fits = first_digit c cs (is_padded cs) h some fits (c == 48) refl

padded_as : (ds : List ℕ) → all_ascii_digits ds ≡ true → 1 ≤ digits_value 10 ds → digits_value 10 ds < 2 ^ 64 → (length ds ≡ 6) ⊎ ((7 ≤ length ds) × (length ds ≤ 12) × (get_or ds 0 0 ≢ 48)) → padded 6 (digits_value 10 ds) ≡ ds
padded_as ds h some fits (inl six) =
    let zeros : ℕ → List ℕ = λ k. replicate k 48 in
    ap (λ k. zeros (k - length (decimal (digits_value 10 ds))) ++ decimal (digits_value 10 ds)) (sym six) ∙ (is_padded ds h some fits).same
padded_as ds h some fits (inr long) =
    let same : decimal (digits_value 10 ds) ≡ ds = decimal-digits_value own ds h (omega arith) (λ z. absurd (long.2 z)) fits in
    plain (digits_value 10 ds) (omega (arith, ap length same)) ∙ same

short_enough : (ds : List ℕ) → (length ds ≡ 6) ⊎ ((7 ≤ length ds) × (length ds ≤ 12) × (get_or ds 0 0 ≢ 48)) → length ds ≤ 12
short_enough ds (inl six) = omega arith
short_enough ds (inr long) = long.1

stem_is_padded : (ds : List ℕ) → is_spelled ds ≡ true → 1 ≤ digits_value 10 ds → padded 6 (digits_value 10 ds) ≡ ds
stem_is_padded ds h some =
    let t = told ds h in
    let small : digits_value 10 ds < 10 ^ 12 = digits_value_short own ds 12 t.digits (short_enough ds t.length_is) in
    padded_as ds t.digits some (omega arith) t.length_is

some_length : (ds : List ℕ) → (length ds ≡ 6) ⊎ ((7 ≤ length ds) × (length ds ≤ 12) × (get_or ds 0 0 ≢ 48)) → 0 < length ds
some_length ds (inl six) = omega arith
some_length ds (inr long) = omega (arith, long.0)

-- what `parse` reads
pub parse-spelled : {E : Type 0} (ds : List ℕ) (r : Result ℕ E) → is_spelled ds ≡ true → ParsesUnsigned 64 10 ds r → r ≡ Ok (digits_value 10 ds)
parse-spelled ds r h p =
    let t = told ds h in
    let small : digits_value 10 ds < 10 ^ 12 = digits_value_short own ds 12 t.digits (short_enough ds t.length_is) in
    parse_gives own 64 ds r p t.digits (some_length ds t.length_is) (omega arith)

some_value : (n : ℕ) → not (n == 0) ≡ true → 1 ≤ n
some_value n h = grind (arith, nat_tests)

pub file_name-number_named : (name : List ℕ) (n : ℕ) → number_named name ≡ Some n → name ≡ file_name n
unfolding file_name number_named
file_name-number_named name n e =
    let found = cond_some (is_file_name name) (digits_value 10 (stem_of name)) n e in
    let front = first_so (bytes_eq (ending_of name) suffix && is_spelled (stem_of name)) (not (digits_value 10 (stem_of name) == 0)) found.0 in
    let some : 1 ≤ digits_value 10 (stem_of name) = some_value (digits_value 10 (stem_of name)) (second_so (bytes_eq (ending_of name) suffix && is_spelled (stem_of name)) (not (digits_value 10 (stem_of name) == 0)) found.0) in
    stem_and_ending name (first_so (bytes_eq (ending_of name) suffix) (is_spelled (stem_of name)) front)
    ∙ ap (λ s. s ++ suffix) (sym (stem_is_padded (stem_of name) (second_so (bytes_eq (ending_of name) suffix) (is_spelled (stem_of name)) front) some))
    ∙ ap (λ k. padded 6 k ++ suffix) found.1

-- names of different numbers differ
pub file_name-injective : (m n : ℕ) → m < 2 ^ 64 → n < 2 ^ 64 → file_name m ≡ file_name n → m ≡ n
unfolding file_name
file_name-injective m n small fits e =
    sym (value-padded m small) ∙ ap (digits_value 10) (sym (stem-append (padded 6 m)) ∙ ap stem_of e ∙ stem-append (padded 6 n)) ∙ value-padded n fits
