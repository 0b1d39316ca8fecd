-- The definitions tried on words of the command line.
use Rattle.std.proofs.Common.{◌≡◌, [], ◌∷◌, Some, None, refl}
use Rattle.std.specs.Prelude.{codes}
use Rattle.sv_run.specs.RunWords.{dir_word}

-- the words that name a path
joined : dir_word (codes "run" ∷ codes "--dir=a" ∷ []) ≡ Some (codes "a")
joined = refl

apart : dir_word (codes "run" ∷ codes "--dir" ∷ codes "a" ∷ []) ≡ Some (codes "a")
apart = refl

no_path : dir_word (codes "run" ∷ codes "--dir=" ∷ []) ≡ None
no_path = refl

option_as_path : dir_word (codes "run" ∷ codes "--dir" ∷ codes "-x" ∷ []) ≡ None
option_as_path = refl
