-- The words that the program takes.
use Rattle.std.specs.Prelude.{◌≡◌, ◌⊎◌, ◌==◌, ◌&&◌, ℕ, List, [], ◌∷◌, take, drop, Option, Some, None, IsSome, cond, bytes_eq, codes}

-- the word is a path: it is not empty and does not begin with `-`
abbrev pub path_of : List ℕ → Option (List ℕ)
path_of [] = None
path_of (c ∷ cs) = cond (c == 45) None (Some (c ∷ cs))

-- the path that follows `--dir=` in the word
abbrev pub joined_path : List ℕ → Option (List ℕ)
joined_path word = cond (bytes_eq (take 6 word) (codes "--dir=")) (path_of (drop 6 word)) None

-- The path that the words name: those of `run` with `--dir` and a path, in one word or in two.
abbrev pub dir_word : List (List ℕ) → Option (List ℕ)
dir_word (run ∷ joined ∷ []) = cond (bytes_eq run (codes "run")) (joined_path joined) None
dir_word (run ∷ option ∷ path ∷ []) = cond (bytes_eq run (codes "run") && bytes_eq option (codes "--dir")) (path_of path) None
dir_word words = None

-- the one word asks for help
abbrev pub IsHelp : List (List ℕ) → Type 0
IsHelp words = words ≡ codes "--help" ∷ []

-- the words are `run`, alone or with a path
abbrev pub AreRun : List (List ℕ) → Type 0
AreRun words = (words ≡ codes "run" ∷ []) ⊎ IsSome (dir_word words)
