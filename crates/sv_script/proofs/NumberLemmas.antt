-- Numbers read digit by digit, against `number_of`.
use Rattle.std.proofs.Common.{◌≡◌, ℕ, ◌+◌, ◌^◌, ◌≤◌, ◌<◌, Bool, true, false, cond, ◌&&◌, leb, ltb}
use Rattle.std.proofs.Common.{List, [], ◌∷◌, length, get_or, drop, Option, Some}
use Rattle.std.proofs.Common.{None, fold, ⊎_elim, refl, sym, ap, ◌∙◌, arith}
use Rattle.std.specs.List.{list_all}
use Rattle.std.specs.Option.{option_and_then}
use Rattle.std.proofs.lemmas.Bool.{cases_lt}
use Rattle.std.proofs.lemmas.Bool.Decides.{nat_tests}
use Rattle.std.proofs.lemmas.List.{at_drop_more, at_drop_all}
use Rattle.sv_script.specs.Numbers.{appended, is_digit, number_of, value_of, with_digit}
use Rattle.sv_script.specs.declared.parsing.decimals.TheConstants.{MAX_DIGITS}

grows : (value : ℕ) (digits : List ℕ) → value ≤ fold appended value digits
grows value [] = omega arith
grows value (digit ∷ digits) = let h = grows (appended value digit) digits in omega arith

shut : (p : Bool) (n : ℕ) (k : ℕ → Option ℕ) → option_and_then k (cond (p && false) (Some n) None) ≡ None
shut true n k = refl
shut false n k = refl

shut-whole : (p : Bool) (n : ℕ) → cond {A = Option ℕ} (p && false) (Some n) None ≡ None
shut-whole true n = refl
shut-whole false n = refl

module _ (limit : ℕ) where
  -- a number with more digits, one after another, as long as it stays below the limit
  abbrev walk : ℕ → List ℕ → Option ℕ
  walk value [] = Some value
  walk value (digit ∷ digits) =
      option_and_then (λ n. walk n digits)
      (cond (is_digit digit && ltb (appended value digit) limit) (Some (appended value digit)) None)

  -- the same at once
  abbrev whole : ℕ → List ℕ → Option ℕ
  whole value digits =
      let all = fold appended value digits in
      cond (list_all is_digit digits && ltb all limit) (Some all) None

  module _ (value digit : ℕ) (digits : List ℕ) where
    no-digit : is_digit digit ≡ false → walk value (digit ∷ digits) ≡ whole value (digit ∷ digits)
    no-digit e = rw e refl

    too-much : limit ≤ appended value digit → walk value (digit ∷ digits) ≡ whole value (digit ∷ digits)
    too-much le =
        let n = appended value digit in
        let h = grows n digits in
        let q : ltb n limit ≡ false = grind (arith, nat_tests) in
        let r : ltb (fold appended n digits) limit ≡ false = grind (arith, nat_tests) in
        let left : walk value (digit ∷ digits) ≡ None = rw q (shut (is_digit digit) n (λ m. walk m digits)) in
        let right : whole value (digit ∷ digits) ≡ None =
        rw r (shut-whole (list_all is_digit (digit ∷ digits)) (fold appended n digits)) in
        left ∙ sym right

    next : is_digit digit ≡ true → appended value digit < limit
        → walk (appended value digit) digits ≡ whole (appended value digit) digits
        → walk value (digit ∷ digits) ≡ whole value (digit ∷ digits)
    next e lt h =
        let q : ltb (appended value digit) limit ≡ true = grind (arith, nat_tests) in
        rw (e, q) h

    either : (b : Bool) → is_digit digit ≡ b
        → (appended value digit < limit → walk (appended value digit) digits ≡ whole (appended value digit) digits)
        → walk value (digit ∷ digits) ≡ whole value (digit ∷ digits)
    either false e h = no-digit e
    either true e h = ⊎_elim (λ lt. next e lt (h lt)) (λ le. too-much le) (cases_lt (appended value digit) limit)

  walk-is : (value : ℕ) (digits : List ℕ) → value < limit → walk value digits ≡ whole value digits
  walk-is value [] lt = grind (arith, nat_tests)
  walk-is value (digit ∷ digits) lt =
      either value digit digits (is_digit digit) refl (λ less. walk-is (appended value digit) digits less)

-- the number that a number becomes by more digits
unfoldable pub number_from : ℕ → List ℕ → Option ℕ
number_from value digits = walk (2 ^ 64) value digits

pub number-none : (word : List ℕ) → length word ≡ 0 → number_of word ≡ None
unfolding number_of
number-none word e = grind (arith, nat_tests)

pub number-long : (word : List ℕ) → MAX_DIGITS < length word → number_of word ≡ None
unfolding number_of
number-long word lt = grind (arith, nat_tests)

number-more : (value digit : ℕ) (digits : List ℕ)
    → number_from value (digit ∷ digits) ≡ option_and_then (λ n. number_from n digits) (with_digit value digit)
unfolding number_from
number-more value digit digits = refl

number-end : (value : ℕ) → number_from value [] ≡ Some value
unfolding number_from
number-end value = refl

module _ (word : List ℕ) where
  -- The digits from place i on, of which the next gives this.
  module _ (value i : ℕ) (some : i < length word) (so_far : number_from value (drop i word) ≡ number_from 0 word) where
    abbrev Rest : Option ℕ → Option ℕ
    Rest next = option_and_then (λ n. number_from n (drop (i + 1) word)) next

    turn : Rest (with_digit value (get_or word i 0)) ≡ number_from 0 word
    turn =
        sym (at_drop_more (number_from value) word i 0 some ∙ number-more value (get_or word i 0) (drop (i + 1) word))
        ∙ so_far

    pub number-goes_on : (n : ℕ) → Some n ≡ with_digit value (get_or word i 0)
        → number_from n (drop (i + 1) word) ≡ number_from 0 word
    number-goes_on n e = ap Rest e ∙ turn

    pub number-cut : None ≡ with_digit value (get_or word i 0) → None ≡ number_from 0 word
    number-cut e = ap Rest e ∙ turn

  module _ (some : 0 < length word) (few : length word ≤ MAX_DIGITS) where
    number-walk : number_from 0 word ≡ number_of word
    unfolding number_from number_of value_of
    number-walk =
        let h = walk-is (2 ^ 64) 0 word (omega arith) in
        let p : leb 1 (length word) ≡ true = grind (arith, nat_tests) in
        let q : leb (length word) MAX_DIGITS ≡ true = grind (arith, nat_tests) in
        rw (p, q) h

    pub number-stops : (value i : ℕ) → i < length word → number_from value (drop i word) ≡ number_from 0 word
        → None ≡ with_digit value (get_or word i 0) → None ≡ number_of word
    number-stops value i lt so_far e = number-cut value i lt so_far e ∙ number-walk

    pub number-ends : (value i : ℕ) → length word ≤ i → number_from value (drop i word) ≡ number_from 0 word
        → Some value ≡ number_of word
    number-ends value i le so_far =
        sym (at_drop_all (number_from value) word i le ∙ number-end value) ∙ so_far ∙ number-walk
