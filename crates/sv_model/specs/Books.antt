-- The books: what contracts see of the state. One record of registers, each of which only grows.
use Rattle.std.specs.Prelude.{ℕ, ◌+◌, List, [], Option, length, unwrap_or, option_map}
use Rattle.sv_model.specs.declared.writes.Write.{Write}
use Rattle.sv_model.specs.declared.records.SuperVersion.{SuperVersion}
use Rattle.sv_model.specs.declared.records.Memtable.{Memtable}
use Rattle.sv_model.specs.declared.records.MemtableList.{MemtableList}
use Rattle.sv_model.specs.declared.records.Version.{Version}
use Rattle.sv_model.specs.declared.records.RegisteredFile.{RegisteredFile}
use Rattle.sv_model.specs.declared.records.FileMeta.{FileMeta}
use Rattle.sv_model.specs.declared.records.Family.{Family}
use Rattle.sv_model.specs.declared.records.Top.{Top}
use Rattle.sv_model.specs.declared.records.Snapshot.{Snapshot}
use Rattle.sv_model.specs.Journal.{borne_by}
use Rattle.sv_model.specs.Registers.{entry}

-- file numbers, and what keeps them from being handed out
pub record FileRegister : Type 0 where
  -- in the order in which they were registered
  pub numbers : List RegisteredFile
  -- by family, the number of its flush or compaction under way
  pub captured : List (Option ℕ)
  -- by lane, its count of holds
  pub holds : List ℕ
  -- how many purges and scans are under way
  pub jobs : ℕ
  pub next : ℕ

pub record Books : Type 0 where
  pub journal : List Write
  pub supers : List SuperVersion
  pub memtables : List Memtable
  pub lists : List MemtableList
  pub versions : List Version
  pub files : FileRegister
  -- what the file of each captured number covers, in the order of the captures
  pub metas : List FileMeta
  -- by id, from 0
  pub families : List Family
  -- by family, its current SuperVersion and its last Version
  pub tops : List Top
  pub snapshots : List Snapshot

-- the number of writes of its family that a SuperVersion ends with
abbrev pub end_of : List Write → SuperVersion → ℕ
end_of journal s = s.descriptor.base + length (borne_by s.descriptor.active journal)

-- the files of a Version, the oldest first
abbrev pub files_of : List Version → ℕ → List FileMeta
files_of versions v = unwrap_or (option_map (λ it. it.files) (entry versions v)) []
