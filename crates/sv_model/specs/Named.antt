-- Who names what: a family its current SuperVersion and its last Version; a SuperVersion its active memtable, its list
-- and its Version; a list its members; a Version its files. Of these three kinds only one that is Live names anything.
use Rattle.std.specs.Prelude.{◌≡◌, ℕ, ◌⊎◌, Bool, true, false, List, Some, slice_get, map}
use Rattle.sv_model.specs.declared.records.SuperVersion.{SuperVersion}
use Rattle.sv_model.specs.declared.records.Memtable.{Memtable}
use Rattle.sv_model.specs.declared.records.MemtableList.{MemtableList}
use Rattle.sv_model.specs.declared.records.Version.{Version}
use Rattle.sv_model.specs.declared.records.FileMeta.{FileMeta}
use Rattle.sv_model.specs.declared.records.Family.{Family}
use Rattle.sv_model.specs.declared.records.Top.{Top}
use Rattle.sv_model.specs.Lists.{In}
use Rattle.sv_model.specs.Registers.{entry, Has}
use Rattle.sv_model.specs.Families.{is_retired}

-- ---- what is Live

abbrev pub super_live : SuperVersion → Bool
super_live s = s.live

abbrev pub memtable_live : Memtable → Bool
memtable_live m = m.live

abbrev pub list_live : MemtableList → Bool
list_live l = l.live

abbrev pub version_live : Version → Bool
version_live v = v.live

-- object number n of the register is Live
pub record IsLive {A : Type 0} (is_live : A → Bool) (register : List A) (n : ℕ) : Type 0 where
  pub it : A
  pub at : entry register n ≡ Some it
  pub live : is_live it ≡ true

abbrev pub IsLiveSuper : List SuperVersion → ℕ → Type 0
IsLiveSuper supers n = IsLive super_live supers n

abbrev pub IsLiveMemtable : List Memtable → ℕ → Type 0
IsLiveMemtable memtables n = IsLive memtable_live memtables n

abbrev pub IsLiveList : List MemtableList → ℕ → Type 0
IsLiveList lists n = IsLive list_live lists n

abbrev pub IsLiveVersion : List Version → ℕ → Type 0
IsLiveVersion versions n = IsLive version_live versions n

-- ---- what a SuperVersion names

pub record UsesMemtable (mem : ℕ) (s : SuperVersion) : Type 0 where
  pub live : s.live ≡ true
  pub is : s.descriptor.active ≡ mem

pub record UsesList (list : ℕ) (s : SuperVersion) : Type 0 where
  pub live : s.live ≡ true
  pub is : s.descriptor.list ≡ list

pub record UsesVersion (version : ℕ) (s : SuperVersion) : Type 0 where
  pub live : s.live ≡ true
  pub is : s.descriptor.version ≡ version

-- ---- what a list or a Version names

-- the list names memtable m
pub record HasMember (m : ℕ) (l : MemtableList) : Type 0 where
  pub live : l.live ≡ true
  pub has : In m l.members

-- the numbers of the files
abbrev pub numbers_of : List FileMeta → List ℕ
numbers_of files = map (λ f. f.number) files

-- the Version names the file with this number
pub record HasFile (number : ℕ) (v : Version) : Type 0 where
  pub live : v.live ≡ true
  pub has : In number (numbers_of v.files)

-- ---- what a family names

-- some family has the SuperVersion as its current
abbrev pub HasCurrent : List Top → ℕ → Type 0
HasCurrent tops s = (f : ℕ) × (top : Top) × (slice_get tops f ≡ Some top) × (top.current ≡ Some s)

-- A family that is not retired names its last Version, also when it has no current any more.
pub record HasLast (version : ℕ) (families : List Family) (tops : List Top) : Type 0 where
  pub id : ℕ
  pub family : Family
  pub top : Top
  pub at : slice_get families id ≡ Some family
  pub on : slice_get tops id ≡ Some top
  pub stands : is_retired family ≡ false
  pub is : top.last ≡ version

-- ---- what is named, by any holder

abbrev pub NamedMemtable : List SuperVersion → List MemtableList → ℕ → Type 0
NamedMemtable supers lists m = Has (UsesMemtable m) supers ⊎ Has (HasMember m) lists

abbrev pub NamedList : List SuperVersion → ℕ → Type 0
NamedList supers l = Has (UsesList l) supers

abbrev pub NamedVersion : List SuperVersion → List Family → List Top → ℕ → Type 0
NamedVersion supers families tops v = Has (UsesVersion v) supers ⊎ HasLast v families tops

abbrev pub NamedFile : List Version → ℕ → Type 0
NamedFile versions n = Has (HasFile n) versions
