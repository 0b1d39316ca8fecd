-- What a SuperVersion names fits together: its files and its memtables cover the family's writes without gap.
use Rattle.std.specs.Prelude.{◌≡◌, ◌≤◌, ◌<◌, ◌+◌, ℕ, true, false, List, [], ◌∷◌, Some, length, slice_get, take, drop}
use Rattle.sv_model.specs.declared.writes.Write.{Write}
use Rattle.sv_model.specs.declared.records.SuperVersion.{SuperVersion}
use Rattle.sv_model.specs.declared.records.Descriptor.{Descriptor}
use Rattle.sv_model.specs.declared.records.Memtable.{Memtable}
use Rattle.sv_model.specs.declared.records.MemtableList.{MemtableList}
use Rattle.sv_model.specs.declared.records.Version.{Version}
use Rattle.sv_model.specs.declared.records.RegisteredFile.{RegisteredFile}
use Rattle.sv_model.specs.declared.records.FileMeta.{FileMeta}
use Rattle.sv_model.specs.declared.records.Family.{Family}
use Rattle.sv_model.specs.Journal.{of_family, borne_by}
use Rattle.sv_model.specs.Ranges.{FilesJoin}
use Rattle.sv_model.specs.Lists.{In, Every}
use Rattle.sv_model.specs.Registers.{entry, Has, EachEntry}
use Rattle.sv_model.specs.Reads.{IsCapturedFor}
use Rattle.sv_model.specs.Books.{end_of}
use Rattle.sv_model.specs.declared.limits.TheConstants.{MAX_ROWS}

-- the file is registered for the family with its meta, and covers at least one write
pub record IsFileOf (numbers : List RegisteredFile) (metas : List FileMeta) (family : ℕ) (file : FileMeta) : Type 0 where
  pub captured : Has (IsCapturedFor family file.number) numbers
  pub covers : In file metas
  pub some : file.from < file.to

-- Files of the family, whose ranges begin at 0, join without gap and end here; nothing lies below none but the first.
pub record FilesStand (numbers : List RegisteredFile) (metas : List FileMeta) (family : ℕ) (files : List FileMeta) (to : ℕ) : Type 0 where
  pub joins : FilesJoin 0 files to
  pub each : Every (IsFileOf numbers metas family) files
  pub above : (i : ℕ) (f : FileMeta) → slice_get files i ≡ Some f → 0 < i → f.bottom.last ≡ false

-- a memtable of the family that begins here and has a row
pub record IsRange (journal : List Write) (memtables : List Memtable) (family from m : ℕ) : Type 0 where
  pub it : Memtable
  pub at : entry memtables m ≡ Some it
  pub family_is : it.family ≡ family
  pub first_is : it.first ≡ from
  pub some : 0 < length (borne_by m journal)

-- The memtables' ranges begin at the one end, join without gap, and end at the other.
abbrev pub MembersJoin : List Write → List Memtable → ℕ → ℕ → List ℕ → ℕ → Type 0
MembersJoin journal memtables family from [] to = from ≡ to
MembersJoin journal memtables family from (m ∷ ms) to =
    IsRange journal memtables family from m × MembersJoin journal memtables family (from + length (borne_by m journal)) ms to

-- What a SuperVersion names: the files, then the list's memtables, cover the family's writes up to the active one.
pub record Describes (journal : List Write) (memtables : List Memtable) (lists : List MemtableList) (versions : List Version) (numbers : List RegisteredFile) (metas : List FileMeta) (d : Descriptor) : Type 0 where
  pub active : Memtable
  pub active_at : entry memtables d.active ≡ Some active
  pub active_family : active.family ≡ d.family
  pub base : d.base ≡ active.first
  pub within : d.base ≤ length (of_family d.family journal)
  pub list : MemtableList
  pub list_at : entry lists d.list ≡ Some list
  pub version : Version
  pub version_at : entry versions d.version ≡ Some version
  pub middle : ℕ
  pub files : FilesStand numbers metas d.family version.files middle
  pub members : MembersJoin journal memtables d.family middle list.members d.base

-- what a family's last Version is, also when the family is retired
pub record LastFits (journal : List Write) (versions : List Version) (numbers : List RegisteredFile) (metas : List FileMeta) (family last : ℕ) : Type 0 where
  pub version : Version
  pub at : entry versions last ≡ Some version
  pub to : ℕ
  pub files : FilesStand numbers metas family version.files to
  pub within : to ≤ length (of_family family journal)

-- a memtable bears the writes of its family right after its first
pub record BearsFrom (journal : List Write) (m : ℕ) (it : Memtable) : Type 0 where
  pub within : it.first ≤ length (of_family it.family journal)
  pub rows : borne_by m journal ≡ take (length (borne_by m journal)) (drop it.first (of_family it.family journal))
  pub few : length (borne_by m journal) ≤ MAX_ROWS

-- What a family's current is: the newest of its SuperVersions, over its last Version, and it ends with the last write.
pub record IsTop (journal : List Write) (supers : List SuperVersion) (f : ℕ) (family : Family) (last s : ℕ) : Type 0 where
  pub it : SuperVersion
  pub at : entry supers s ≡ Some it
  pub live : it.live ≡ true
  pub family_is : it.descriptor.family ≡ f
  pub last_is : it.descriptor.version ≡ last
  pub options_are : it.descriptor.options ≡ family.options
  pub greatest : EachEntry (λ n x. x.descriptor.family ≡ f → n ≤ s) supers
  pub ends : end_of journal it ≡ length (of_family f journal)
