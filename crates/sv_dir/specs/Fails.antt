-- How a directory in memory fails when it is told to.
use Rattle.std.specs.Prelude.{◌≡◌, ◌==◌, ℕ, ◌/◌, List, length, take, find, Option, Some, None, Result, Ok, Err, IsSome, option_map}
use Rattle.sv_dir.specs.declared.dir.DirError.{DirError}
use Rattle.sv_dir.specs.declared.dir.DirError.TheVariants as dir_error
use Rattle.sv_dir.specs.declared.fails.Fail.{Fail}
use Rattle.sv_dir.specs.declared.fails.How.{How}
use Rattle.sv_dir.specs.declared.fails.How.TheVariants.{Before, Half, After}
use Rattle.sv_model.specs.Files.{file_name, Files, with_file}

-- how the call of that number is to fail, if it is: the first entry of the number says so
abbrev pub due : List Fail → ℕ → Option How
due fails call = option_map (λ f. f.how) (find (λ f. f.call == call) fails)

-- The call fails exactly where it is to fail. Want of memory may stand in place of any answer.
abbrev pub FailsWhere : {T : Type 0} → Option How → Result T DirError → Type 0
FailsWhere how (Ok x) = how ≡ None
FailsWhere how (Err dir_error.Failed) = IsSome how
FailsWhere how (Err dir_error.OutOfMemory) = Unit {0}

-- the first half of the bytes, rounded down
abbrev pub half_of : List ℕ → List ℕ
half_of bytes = take (length bytes / 2) bytes

-- what a put leaves that fails so, or does not fail
abbrev pub put_as : Option How → ℕ → List ℕ → Files → Files
put_as (Some Before) number bytes files = files
put_as (Some Half) number bytes files = with_file (file_name number) (Some (half_of bytes)) files
put_as (Some After) number bytes files = with_file (file_name number) (Some bytes) files
put_as None number bytes files = with_file (file_name number) (Some bytes) files

-- what a removal leaves that fails so, or does not fail
abbrev pub remove_as : Option How → ℕ → Files → Files
remove_as (Some Before) number files = files
remove_as (Some Half) number files = files
remove_as (Some After) number files = with_file (file_name number) None files
remove_as None number files = with_file (file_name number) None files

-- The files are so, unless memory was wanted.
abbrev pub UnlessMemory : {T : Type 0} → Result T DirError → Type 0 → Type 0
UnlessMemory (Ok x) P = P
UnlessMemory (Err dir_error.Failed) P = P
UnlessMemory (Err dir_error.OutOfMemory) P = Unit {0}
