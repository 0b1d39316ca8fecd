-- A SuperVersion goes, and with it all that nothing names any more.
use Rattle.std.specs.Prelude.{◌≡◌, ◌⊎◌, ◌↔◌, ℕ, Bool, true, false, List, Some, length, slice_get}
use Rattle.sv_model.specs.declared.records.SuperVersion.{SuperVersion}
use Rattle.sv_model.specs.declared.records.Memtable.{Memtable}
use Rattle.sv_model.specs.declared.records.RegisteredFile.{RegisteredFile}
use Rattle.sv_model.specs.declared.records.FileStatus.TheVariants.{Live, Obsolete}
use Rattle.sv_model.specs.declared.records.Top.{Top}
use Rattle.sv_model.specs.Lists.{In, Distinct}
use Rattle.sv_model.specs.Registers.{entry, change, GoesOn}
use Rattle.sv_model.specs.After.{KeepsMemtable, KeepsList, KeepsVersion}
use Rattle.sv_model.specs.Books.{Books}
use Rattle.sv_model.specs.Named.{IsLive, IsLiveMemtable, memtable_live, list_live, version_live, NamedMemtable, NamedList, NamedVersion, NamedFile}

-- Of the register only lives changed: what is Live is what was Live and is named.
pub record Ends {A : Type 0} (Keeps : A → A → Type 0) (live : A → Bool) (Named : ℕ → Type 0) (old new : List A) : Type 0 where
  pub long : length new ≡ length old
  pub goes : GoesOn Keeps old new
  pub exact : (n : ℕ) → IsLive live new n ↔ (IsLive live old n × Named n)

-- a Live file that is not named is Obsolete, and nothing else changed
abbrev pub TurnsFile : (ℕ → Type 0) → RegisteredFile → RegisteredFile → Type 0
TurnsFile Named x y = ((y ≡ x) × (x.status ≡ Live → Named x.number)) ⊎ ((y ≡ record x { status = Obsolete }) × (x.status ≡ Live) × (Named x.number → ⊥))

pub record EndsFiles (Named : ℕ → Type 0) (old new : List RegisteredFile) : Type 0 where
  pub long : length new ≡ length old
  pub goes : GoesOn (TurnsFile Named) old new

abbrev pub without : List SuperVersion → ℕ → SuperVersion → List SuperVersion
without supers s x = change supers s (record x { live = false })

-- The SuperVersion, which is no family's current, is Gone, and so is what nothing names any more; of the files
-- that no Version names any more each is Obsolete.
pub record IsCleaned (a b : Books) (s : ℕ) (x : SuperVersion) : Type 0 where
  pub at : entry a.supers s ≡ Some x
  pub live : x.live ≡ true
  pub free : (f : ℕ) (t : Top) → slice_get a.tops f ≡ Some t → t.current ≡ Some s → ⊥
  pub memtables : Ends KeepsMemtable memtable_live (NamedMemtable (without a.supers s x) b.lists) a.memtables b.memtables
  pub lists : Ends KeepsList list_live (NamedList (without a.supers s x)) a.lists b.lists
  pub versions : Ends KeepsVersion version_live (NamedVersion (without a.supers s x) a.families a.tops) a.versions b.versions
  pub numbers : EndsFiles (NamedFile b.versions) a.files.numbers b.files.numbers
  pub is : b ≡ record a {
    supers = without a.supers s x;
    memtables = b.memtables;
    lists = b.lists;
    versions = b.versions;
    files = record a.files { numbers = b.files.numbers };
  }

-- the cell of a memtable that went
pub record Went (old new : List Memtable) (cell : ℕ) : Type 0 where
  pub id : ℕ
  pub it : Memtable
  pub at : entry old id ≡ Some it
  pub was_live : it.live ≡ true
  pub gone : IsLiveMemtable new id → ⊥
  pub is : it.cell ≡ cell

-- The cells are those of the memtables that went, each once.
pub record AreCellsGone (old new : List Memtable) (cells : List ℕ) : Type 0 where
  pub exact : (c : ℕ) → In c cells ↔ Went old new c
  pub once : Distinct cells
