-- Small facts on numbers and options that many proofs take for granted.
use Rattle.std.proofs.Common.{◌≡◌, ◌≢◌, ◌≤◌, ◌⊎◌, ℕ, true, Some, None, nat_le, arith}

pub apart_or : (k n : ℕ) → (k ≡ n) ⊎ (k ≢ n)
apart_or k n = grind arith

pub none_some : {A : Type 0} (x : A) → None ≡ Some x → ⊥
none_some x e = absurd (cc)

pub at_least : (k n : ℕ) → nat_le k n ≡ true → k ≤ n
at_least k n e = grind arith
