-- What the calls of a directory do to its files.
use Rattle.std.specs.Prelude.{◌≡◌, ◌⊎◌, ℕ, Bool, List, Option, Some, None, option_map}
use Rattle.std.specs.Ordering.{nat_cmp, is_eq}
use Rattle.std.specs.Cmp.Lexicographic.{slice_cmp}
use Rattle.std.specs.FinMap as map
use Rattle.std.specs.List.{list_any, IsDistinct}
use Rattle.sv_dir.specs.declared.dir.Found.{Found}
use Rattle.sv_dir.specs.declared.dir.Found.TheVariants as found
use Rattle.sv_dir.specs.declared.dir.Removal.{Removal}
use Rattle.sv_dir.specs.declared.dir.Removal.TheVariants as removal
use Rattle.sv_model.specs.Files.{Files, file_name, with_file}

-- the names are the same bytes
abbrev pub same_name : List ℕ → List ℕ → Bool
same_name name other = is_eq (slice_cmp nat_cmp name other)

-- The file of that number is now so, and the other files stay, where files are told.
abbrev pub Leaves : ℕ → Option (List ℕ) → Option Files → Option Files → Type 0
Leaves number content before after = after ≡ option_map (with_file (file_name number) content) before

-- The file of that number holds exactly the bytes.
abbrev pub PutsFile : ℕ → List ℕ → Option Files → Option Files → Type 0
PutsFile number bytes before after = Leaves number (Some bytes) before after

-- The file of that number is absent or holds any bytes.
abbrev pub LeavesAny : ℕ → Option Files → Option Files → Type 0
LeavesAny number before after = (content : Option (List ℕ)) × Leaves number content before after

-- The file of that number is not there.
abbrev pub RemovesFile : ℕ → Option Files → Option Files → Type 0
RemovesFile number before after = Leaves number None before after

-- The file of that number is there as it was, or is not there.
abbrev pub MayRemove : ℕ → Option Files → Option Files → Type 0
MayRemove number before after = (after ≡ before) ⊎ RemovesFile number before after

-- The names are those of the files, each once.
pub record ListsEach (names : List (List ℕ)) (files : Files) : Type 0 where
  pub has : (name : List ℕ) → list_any (same_name name) names ≡ map.contains_key files name
  pub once : IsDistinct same_name names

-- what is found where the file holds this
abbrev pub Finds : Option (List ℕ) → Found → Type 0
Finds None found.Absent = Unit {0}
Finds (Some bytes) (found.Bytes read) = read.items ≡ bytes
Finds content answer = ⊥

-- how a removal ends where the file held this
abbrev pub removal_of : Option (List ℕ) → Removal
removal_of None = removal.Absent
removal_of (Some bytes) = removal.Removed
