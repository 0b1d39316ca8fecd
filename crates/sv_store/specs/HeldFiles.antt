-- What the directory holds beside the books, where it tells its files.
use Rattle.std.specs.Prelude.{◌≡◌, Option, None, Some}
use Rattle.sv_model.specs.Books.{Books}
use Rattle.sv_model.specs.Files.{Files}
use Rattle.sv_model.specs.HeldFiles.{GoneAreAbsent, LiveAreHeld, OthersStay}

-- each Live number has the file that was written, where the directory tells its files
abbrev pub IsHeld : Books → Option Files → Type 0
IsHeld b told = (all : Files) → told ≡ Some all → LiveAreHeld b all

-- Where no file changes, what is held stays so.
abbrev pub KeepsHeld : Books → Books → Type 0
KeepsHeld a b = (told : Option Files) → IsHeld a told → IsHeld b told

-- no Gone number has a file, where the directory tells its files
abbrev pub IsAbsent : Books → Option Files → Type 0
IsAbsent b told = (all : Files) → told ≡ Some all → GoneAreAbsent b.files.numbers all

-- The directory tells its files before and after, or not at all. A name that is no registered number's is as it was.
abbrev pub StayIfTold : Books → Option Files → Option Files → Type 0
StayIfTold b None None = Unit {0}
StayIfTold b (Some before) (Some after) = OthersStay b.files.numbers before after
StayIfTold b before after = ⊥

-- What a call leaves beside the files of Live numbers: no Gone number has a file, where none had one, and of all others
-- only files of registered numbers changed.
pub record LeavesOthers (a b : Books) (told now : Option Files) : Type 0 where
  pub absent : IsAbsent a told → IsAbsent b now
  pub stay : StayIfTold b told now

-- where no file changes
abbrev pub KeepsOthers : Books → Books → Type 0
KeepsOthers a b = (told : Option Files) → LeavesOthers a b told told
