-- What a close leaves.
use Rattle.std.specs.Prelude.{◌≡◌, ◌≤◌, ◌⊎◌, ◌↔◌, ℕ, List, true, false, [], None, Some, length, slice_get}
use Rattle.sv_model.specs.declared.records.Family.{Family}
use Rattle.sv_model.specs.declared.records.RegisteredFile.{RegisteredFile}
use Rattle.sv_model.specs.declared.records.Top.{Top}
use Rattle.sv_model.specs.declared.records.FileStatus.TheVariants.{Gone, Live, Obsolete}
use Rattle.sv_model.specs.declared.reports.End.{End}
use Rattle.sv_model.specs.declared.reports.End.TheVariants as end
use Rattle.sv_model.specs.Books.{Books, FileRegister}
use Rattle.sv_model.specs.Families.{is_retired}
use Rattle.sv_model.specs.Faults.{RoseBy}
use Rattle.sv_model.specs.Lists.{In}
use Rattle.sv_model.specs.Named.{list_live, memtable_live, super_live}
use Rattle.sv_model.specs.Numbers.{IsRegistered}
use Rattle.sv_model.specs.Registers.{EachEntry}
use Rattle.sv_model.specs.Summaries.{obsolete_of}
use Rattle.sv_files.specs.Calls.{without_holds}
use Rattle.sv_journal.specs.Calls.{AreEnded}
use Rattle.sv_state.specs.Currents.{IsShownFile}
use Rattle.sv_store.specs.Removals.{DirSeen, FilesGoIfTold}

-- ---- what stands

-- A registered number is Gone, or it is left, Obsolete; or it is Live, a file of the last Version of a family that is not
-- dropped.
abbrev pub IsSettledNumber : Books → RegisteredFile → Type 0
IsSettledNumber b x = (x.status ≡ Gone) ⊎ ((x.status ≡ Obsolete) ⊎ ((x.status ≡ Live) × IsShownFile b x.number))

-- Every SuperVersion, list, memtable and snapshot ever made is Gone. No lane has a handle of a dropped family. The files
-- of the other families' last Versions are Live.
pub record IsClosed (b : Books) : Type 0 where
  pub tops : (f : ℕ) (t : Top) → slice_get b.tops f ≡ Some t → t.current ≡ None
  pub retired : (f : ℕ) (x : Family) → slice_get b.families f ≡ Some x → x.dropped ≡ true → is_retired x ≡ true
  pub supers : EachEntry (λ n x. super_live x ≡ false) b.supers
  pub lists : EachEntry (λ n x. list_live x ≡ false) b.lists
  pub memtables : EachEntry (λ n x. memtable_live x ≡ false) b.memtables
  pub snapshots : AreEnded b.snapshots
  pub numbers : EachEntry (λ n x. IsSettledNumber b x) b.files.numbers
  pub files : (n : ℕ) → IsShownFile b n → IsRegistered b.files.numbers n Live

-- ---- what became of the books

-- A family that is not dropped is as it was; a dropped one keeps its name and its options.
pub record LetsGo (x y : Family) : Type 0 where
  pub name : y.name ≡ x.name
  pub options : y.options ≡ x.options
  pub dropped : y.dropped ≡ x.dropped
  pub standing : x.dropped ≡ false → y ≡ x

-- Nothing is made, no write is added, and no number is drawn. Each family keeps its last Version.
pub record Closes (a b : Books) : Type 0 where
  pub supers : length b.supers ≡ length a.supers
  pub memtables : length b.memtables ≡ length a.memtables
  pub lists : length b.lists ≡ length a.lists
  pub versions : length b.versions ≡ length a.versions
  pub numbers : length b.files.numbers ≡ length a.files.numbers
  pub snapshots : length b.snapshots ≡ length a.snapshots
  pub lasts : (f : ℕ) (t : Top) → slice_get a.tops f ≡ Some t → slice_get b.tops f ≡ Some (record t { current = None })
  pub families : (f : ℕ) (x : Family) → slice_get a.families f ≡ Some x → (y : Family) × (slice_get b.families f ≡ Some y) × LetsGo x y
  pub is : b ≡ record a {
    supers = b.supers;
    memtables = b.memtables;
    lists = b.lists;
    versions = b.versions;
    files = without_holds (record a.files { numbers = b.files.numbers });
    families = b.families;
    tops = b.tops;
    snapshots = b.snapshots;
  }

-- ---- what became of the files

-- The files of the numbers that became Gone are not there any more, and those of the numbers that are left are as they
-- were or not there. All others are as they were.
pub record ClosesFiles (a b : FileRegister) (d : DirSeen) : Type 0 where
  pub gone : List ℕ
  pub exact : (n : ℕ) → In n gone ↔ (IsRegistered b.numbers n Gone × (IsRegistered a.numbers n Gone → ⊥))
  pub files : FilesGoIfTold gone (obsolete_of b.numbers) d.files d.later

-- How a close ended: clean where no number is left. Else numbers are left; where none of them is for want of memory the
-- directory failed at each.
abbrev pub EndsAs : End → List ℕ → ℕ → ℕ → Type 0
EndsAs end.Clean left before now = left ≡ []
EndsAs end.DirFault left before now = (1 ≤ length left) × RoseBy (length left) before now
EndsAs end.OutOfMemory left before now = 1 ≤ length left
