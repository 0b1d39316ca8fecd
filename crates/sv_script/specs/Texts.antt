-- The pieces of which texts are made.
use Rattle.std.specs.Prelude.{ℕ, List, [], ◌∷◌, ◌++◌, codes, decimal, flat_map}

-- a word and a number in decimal, without leading zeros
unfoldable pub numbered : List ℕ → ℕ → List ℕ
numbered word n = word ++ decimal n

-- each number, preceded by one space
unfoldable pub listed : List ℕ → List ℕ
listed numbers = flat_map (numbered (codes " ")) numbers

-- the line feed that ends a line
abbrev pub feed : List ℕ
feed = 10 ∷ []
