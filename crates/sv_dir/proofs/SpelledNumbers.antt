-- How numbers are spelled in names, and read back.
use Rattle.std.proofs.Common.{◌≡◌, ℕ, ◌+◌, ◌-◌, ◌/◌, ◌%◌, ◌^◌, ◌<◌, ◌≤◌, ◌⊎◌, inl, inr, List, [], ◌∷◌, ◌++◌, length, length-append, replicate, refl, sym, ◌∙◌, ap, arith}
use mathlib.Core.List.{append_assoc}
use Rattle.std.specs.Prelude.{decimal, encode_utf8, ◌&&◌}
use Rattle.std.specs.Str.{all_ascii_digits}
use Rattle.std.specs.List.{list_all}
use Rattle.std.specs.Char.{is_ascii_digit}
use Rattle.std.proofs.lemmas.Str.Ascii.{encode_ascii}
use Rattle.std.proofs.lemmas.List.{replicate_more}
use Rattle.std.proofs.lemmas.Fmt.{decimal_digit, decimal_step}
use Rattle.sv_model.specs.Files.{padded}

-- a digit is one byte
pub digit_is_byte : (d : ℕ) → d < 10 → length (encode_utf8 (48 + d)) ≡ 1
digit_is_byte d small = ap length (encode_ascii (48 + d) (omega arith))

few_zeros : (least n : ℕ) (d : List ℕ) → d ≡ n ∷ [] → least ≤ 1 → replicate (least - length d) 48 ++ d ≡ d
few_zeros least n d e few = rw e (let none : least - 1 ≡ 0 = omega arith in rw none refl)

pub padded_one : (least n : ℕ) → n < 10 → least ≤ 1 → padded least n ≡ (48 + n % 10) ∷ []
padded_one least n small few =
    let e : n % 10 ≡ n = omega arith in
    few_zeros least (48 + n) (decimal n) (decimal_digit n small) few ∙ decimal_digit n small ∙ ap (λ k. (48 + k) ∷ []) (sym e)

-- one digit more at the end
one_more : (least : ℕ) (d : List ℕ) (x : ℕ) → replicate (least - length (d ++ (x ∷ []))) 48 ++ (d ++ (x ∷ [])) ≡ (replicate (least - 1 - length d) 48 ++ d) ++ (x ∷ [])
one_more least d x =
    let same : least - length (d ++ (x ∷ [])) ≡ least - 1 - length d = omega (arith, length-append d (x ∷ [])) in
    ap (λ k. replicate k 48 ++ (d ++ (x ∷ []))) same ∙ sym (append_assoc (replicate (least - 1 - length d) 48) d (x ∷ []))

pub padded_step_long : (least n : ℕ) → 10 ≤ n → n < 2 ^ 64 → padded least n ≡ padded (least - 1) (n / 10) ++ ((48 + n % 10) ∷ [])
padded_step_long least n long fits =
    ap (λ d. replicate (least - length d) 48 ++ d) (decimal_step n long fits) ∙ one_more least (decimal (n / 10)) (48 + n % 10)

only_zeros : (k : ℕ) → 1 ≤ k → replicate {A = ℕ} k 48 ≡ replicate (k - 1) 48 ++ (48 ∷ [])
only_zeros k some =
    let same : k ≡ (k - 1) + 1 = omega arith in
    let zeros : ℕ → List ℕ = λ n. replicate n 48 in
    ap zeros same ∙ sym (replicate_more {X = ℕ} (k - 1) 48)

pub padded_step_short : (least n : ℕ) → n < 10 → 1 < least → padded least n ≡ padded (least - 1) (n / 10) ++ ((48 + n % 10) ∷ [])
padded_step_short least n small more =
    let none : n / 10 ≡ 0 = omega arith in
    let whole : n % 10 ≡ n = omega arith in
    let zeros = only_zeros (least - 1) (omega arith) in
    ap (λ d. replicate (least - length d) 48 ++ d) (decimal_digit n small)
    ∙ ap (λ z. z ++ ((48 + n) ∷ [])) zeros
    ∙ ap (λ d. (replicate (least - 1 - length d) 48 ++ d) ++ ((48 + n) ∷ [])) (sym (ap decimal none ∙ decimal_digit 0 (omega arith)))
    ∙ ap (λ k. padded (least - 1) (n / 10) ++ ((48 + k) ∷ [])) (sym whole)

pub padded_step : (least fewer n : ℕ) → fewer ≡ least - 1 → n < 2 ^ 64 → ((n < 10) × (1 < least)) ⊎ (10 ≤ n) → padded least n ≡ padded fewer (n / 10) ++ ((48 + n % 10) ∷ [])
padded_step least fewer n e fits (inl short) = padded_step_short least n short.0 short.1 ∙ ap (λ k. padded k (n / 10) ++ ((48 + n % 10) ∷ [])) (sym e)
padded_step least fewer n e fits (inr long) = padded_step_long least n long fits ∙ ap (λ k. padded k (n / 10) ++ ((48 + n % 10) ∷ [])) (sym e)

-- so the digits before the last are one fewer
pub room_for_last : (least fewer n : ℕ) → fewer ≡ least - 1 → n < 2 ^ 64 → ((n < 10) × (1 < least)) ⊎ (10 ≤ n) → length (padded least n) ≡ length (padded fewer (n / 10)) + 1
room_for_last least fewer n e fits which =
    ap length (padded_step least fewer n e fits which) ∙ length-append (padded fewer (n / 10)) ((48 + n % 10) ∷ [])

pub all_ascii_digits_is_all : (bs : List ℕ) → all_ascii_digits bs ≡ list_all is_ascii_digit bs
all_ascii_digits_is_all [] = refl
all_ascii_digits_is_all (b ∷ bs) = ap (λ t. is_ascii_digit b && t) (all_ascii_digits_is_all bs)
