-- What contracts see of a directory in memory.
use Rattle.std.specs.Prelude.{◌≡◌, ℕ, ◌+◌, ◌-◌, ◌^◌, min, List, map, fold, Option, string_bytes, Vec, String}
use Rattle.std.specs.FinMap as finite
use Rattle.std.specs.BTreeMap.{BTreeMap}
use Rattle.std.specs.declared.alloc.Global.{Global}
use Rattle.sv_dir.specs.declared.fails.Fail.{Fail}
use Rattle.sv_dir.specs.declared.fails.How.{How}
use Rattle.sv_dir.specs.declared.memory.MemDir.{MemDir}
use Rattle.sv_dir.specs.Fails.{due}
use Rattle.sv_model.specs.Files.{Files}

-- a file as a name with its bytes
abbrev pub entry_of : String Global × Vec ℕ Global → List ℕ × List ℕ
entry_of file = (string_bytes file.0, file.1.items)

-- the files of a list, put in turn
abbrev pub all_put : List (List ℕ × List ℕ) → Files
all_put entries = fold (λ files entry. finite.insert files entry.0 entry.1) finite.empty entries

-- the files that a map holds
abbrev pub held : BTreeMap (String Global) (Vec ℕ Global) → Files
held files = finite.from_entries (map entry_of files.entries)

-- the files
abbrev pub mem_files : MemDir → Files
mem_files dir = held dir.files

-- how many calls were made, as far as the count goes
abbrev pub calls_of : MemDir → ℕ
calls_of dir = dir.calls

-- which calls are to fail
abbrev pub fails_of : MemDir → List Fail
fails_of dir = dir.fails.items

-- how often it failed
abbrev pub faults_of : MemDir → ℕ
faults_of dir = dir.faults

-- one more, or the greatest value
abbrev pub one_more : ℕ → ℕ
one_more n = min (n + 1) (2 ^ 64 - 1)

-- how the next call is to fail, if it is
abbrev pub next_fail : MemDir → Option How
next_fail dir = due (fails_of dir) (one_more (calls_of dir))

-- A call was counted, and which calls are to fail stays.
pub record CountsCall (before after : MemDir) : Type 0 where
  pub calls : calls_of after ≡ one_more (calls_of before)
  pub fails : fails_of after ≡ fails_of before
