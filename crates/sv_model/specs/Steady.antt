-- What the state keeps of its books beside the laws, since no call could keep the laws from the laws alone.
use Rattle.std.specs.Prelude.{◌≡◌, ◌<◌, ◌≤◌, ◌++◌, ◌⊎◌, ℕ, true, false, List, Some, None, length, slice_get}
use Rattle.sv_model.specs.declared.writes.Write.{Write}
use Rattle.sv_model.specs.declared.records.SuperVersion.{SuperVersion}
use Rattle.sv_model.specs.declared.records.Descriptor.{Descriptor}
use Rattle.sv_model.specs.declared.records.Memtable.{Memtable}
use Rattle.sv_model.specs.declared.records.MemtableList.{MemtableList}
use Rattle.sv_model.specs.declared.records.Version.{Version}
use Rattle.sv_model.specs.declared.records.FileMeta.{FileMeta}
use Rattle.sv_model.specs.declared.records.Family.{Family}
use Rattle.sv_model.specs.declared.records.Top.{Top}
use Rattle.sv_model.specs.Journal.{of_family}
use Rattle.sv_model.specs.Ranges.{reach_of}
use Rattle.sv_model.specs.Lists.{In, Every}
use Rattle.sv_model.specs.Registers.{entry, EachEntry}
use Rattle.sv_model.specs.Books.{Books}
use Rattle.sv_model.specs.Families.{is_retired}
use Rattle.sv_model.specs.Described.{MembersJoin}
use Rattle.sv_model.specs.Lawful.{Lawful}
use Rattle.sv_model.specs.declared.limits.TheConstants.{MAX_FAMILIES, MAX_LANES}

-- the family's current
pub record IsCurrent (tops : List Top) (supers : List SuperVersion) (f s : ℕ) (x : SuperVersion) : Type 0 where
  pub top : Top
  pub at : slice_get tops f ≡ Some top
  pub is : top.current ≡ Some s
  pub has : entry supers s ≡ Some x

-- A member of any list ever made is registered, and was made before the active memtable of its family's current.
pub record IsListed (memtables : List Memtable) (tops : List Top) (supers : List SuperVersion) (m : ℕ) : Type 0 where
  pub it : Memtable
  pub at : entry memtables m ≡ Some it
  pub before : (s : ℕ) (x : SuperVersion) → IsCurrent tops supers it.family s x → m < x.descriptor.active

-- A flush: the file goes on where the files end, and covers the oldest memtables of the list.
pub record IsFlush (journal : List Write) (memtables : List Memtable) (family : ℕ) (members : List ℕ) (files : List FileMeta) (file : FileMeta) : Type 0 where
  pub from_is : file.from ≡ reach_of files
  pub above : file.bottom.last ≡ false
  pub front : List ℕ
  pub back : List ℕ
  pub parts : members ≡ front ++ back
  pub joins : MembersJoin journal memtables family file.from front file.to

-- A compaction: the file covers what the files cover. That nothing lies below it tells it from a flush.
pub record IsMerge (files : List FileMeta) (file : FileMeta) : Type 0 where
  pub last_is : file.bottom.last ≡ true
  pub from_is : file.from ≡ 0
  pub to_is : file.to ≡ reach_of files

-- The captured number has its meta, and the file can take its place in what the descriptor names.
pub record IsAwaited (journal : List Write) (memtables : List Memtable) (lists : List MemtableList) (versions : List Version) (metas : List FileMeta) (n : ℕ) (d : Descriptor) : Type 0 where
  pub file : FileMeta
  pub covered : In file metas
  pub number_is : file.number ≡ n
  pub some : file.from < file.to
  pub list : MemtableList
  pub list_at : entry lists d.list ≡ Some list
  pub version : Version
  pub version_at : entry versions d.version ≡ Some version
  pub fits : IsFlush journal memtables d.family list.members version.files file ⊎ IsMerge version.files file

-- A write is of a family that was made. It bears a memtable that was made, and a lane; or, as an opening write has
-- neither, memtable 0 and lane 255.
pub record IsBorne (memtables families : ℕ) (w : Write) : Type 0 where
  pub family_made : w.family < families
  pub by : ((0 < w.mem) × (w.mem ≤ memtables) × (w.lane < MAX_LANES)) ⊎ ((w.mem ≡ 0) × (w.lane ≡ 255))

pub record Steady (b : Books) : Type 0 where
  pub borne : Every (IsBorne (length b.memtables) (length b.families)) b.journal
  -- each SuperVersion is of a family that was made
  pub supers_of : EachEntry (λ n s. s.descriptor.family < length b.families) b.supers
  pub listed : (l m : ℕ) (x : MemtableList) → entry b.lists l ≡ Some x → In m x.members → IsListed b.memtables b.tops b.supers m
  -- what a captured number is to cover fits what the family's current names, and was written
  pub awaited : (f n s : ℕ) (x : SuperVersion) → slice_get b.files.captured f ≡ Some (Some n) → IsCurrent b.tops b.supers f s x → IsAwaited b.journal b.memtables b.lists b.versions b.metas n x.descriptor
  pub covers : (f n : ℕ) (m : FileMeta) → slice_get b.files.captured f ≡ Some (Some n) → In m b.metas → m.number ≡ n → m.to ≤ length (of_family f b.journal)
  -- a retired family has no current
  pub retired : (f : ℕ) (y : Family) (t : Top) → slice_get b.families f ≡ Some y → slice_get b.tops f ≡ Some t → is_retired y ≡ true → t.current ≡ None
  -- only a family that was made has a captured number
  pub busy : (f n : ℕ) → slice_get b.files.captured f ≡ Some (Some n) → f < length b.families
  pub captured : length b.files.captured ≡ MAX_FAMILIES
  pub holds : length b.files.holds ≡ MAX_LANES
  pub handles : Every (λ y. length y.handles ≡ MAX_LANES) b.families
  -- no more of these were made than SuperVersions
  pub memtables_made : length b.memtables ≤ length b.supers
  pub lists_made : length b.lists ≤ length b.supers
  pub versions_made : length b.versions ≤ length b.supers

pub record Sound (b : Books) : Type 0 where
  pub lawful : Lawful b
  pub steady : Steady b
