-- The units of an item, one after another, as `units_of` reads them.
use Rattle.std.proofs.Common.{◌≡◌, ℕ, ◌≢◌, true, false, List, [], ◌∷◌, ◌++◌, length, Option, Some, None, refl, sym, ap}
use Rattle.std.proofs.Common.{◌∙◌, append_assoc, arith}
use Rattle.std.proofs.lemmas.Bool.Decides.{nat_tests}
use Rattle.std.proofs.lemmas.List.{append-nil}
use Rattle.sv_script.specs.Items.{before, hex_value, is_plain, pair_value, units_of}

-- ---- the first unit

-- a byte that stands for itself
pub units-plain : (a : ℕ) (rest : List ℕ) → is_plain a ≡ true → units_of (a ∷ rest) ≡ before (Some a) (units_of rest)
unfolding units_of
units-plain a [] p = rw p refl
units-plain a (b ∷ []) p = rw p refl
units-plain a (b ∷ c ∷ rest) p = rw p (grind (arith, nat_tests))

-- a byte that stands for nothing
pub units-bad : (a : ℕ) (rest : List ℕ) → a ≢ 37 → is_plain a ≡ false → units_of (a ∷ rest) ≡ None
unfolding units_of
units-bad a [] ne p = rw p refl
units-bad a (b ∷ []) ne p = rw p refl
units-bad a (b ∷ c ∷ rest) ne p = rw p (grind (arith, nat_tests))

empty : (xs : List ℕ) → length xs ≡ 0 → xs ≡ []
empty [] e = refl
empty (x ∷ xs) e = absurd (omega arith)

-- `%` with the two bytes after it
pub units-pair : (bytes after rest : List ℕ) (high low : ℕ) (pair : Option ℕ)
    → bytes ≡ high ∷ after → after ≡ low ∷ rest → pair ≡ pair_value (hex_value high) (hex_value low)
    → units_of (37 ∷ bytes) ≡ before pair (units_of rest)
unfolding units_of
units-pair bytes after rest high low pair e f g = rw (e, f, g) refl

-- `%` with too little after it
pub units-cut : (bytes : List ℕ) → length bytes ≡ 0 → units_of (37 ∷ bytes) ≡ None
unfolding units_of
units-cut bytes e = rw (empty bytes e) refl

pub units-cut_short : (bytes after : List ℕ) (high : ℕ)
    → bytes ≡ high ∷ after → length after ≡ 0 → units_of (37 ∷ bytes) ≡ None
unfolding units_of
units-cut_short bytes after high e f = rw (e, empty after f) refl

-- ---- unit by unit

-- what was read before, and what is still read
abbrev pub with_front : List ℕ → Option (List ℕ) → Option (List ℕ)
with_front front None = None
with_front front (Some bytes) = Some (front ++ bytes)

regroup : (front : List ℕ) (byte : ℕ) (read : Option (List ℕ))
    → with_front front (before (Some byte) read) ≡ with_front (front ++ byte ∷ []) read
regroup front byte None = refl
regroup front byte (Some bytes) = ap (λ (xs : List ℕ). Some xs) (simp append_assoc)

module _ (front rest : List ℕ) (total : Option (List ℕ)) where
  pub units-go_on : (byte : ℕ) (left : List ℕ) → units_of rest ≡ before (Some byte) (units_of left)
      → with_front front (units_of rest) ≡ total → with_front (front ++ byte ∷ []) (units_of left) ≡ total
  units-go_on byte left h so_far =
      sym (ap (with_front front) h ∙ regroup front byte (units_of left)) ∙ so_far

  pub units-fail : units_of rest ≡ None → with_front front (units_of rest) ≡ total → total ≡ None
  units-fail e so_far = sym so_far ∙ rw e refl

pub units-end : (front rest : List ℕ) (total : Option (List ℕ))
    → length rest ≡ 0 → with_front front (units_of rest) ≡ total → total ≡ Some front
unfolding units_of
units-end front [] total e so_far = sym so_far ∙ ap (λ (xs : List ℕ). Some xs) (append-nil front)
units-end front (x ∷ rest) total e so_far = absurd (omega arith)
