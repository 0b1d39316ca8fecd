-- A file is captured: the number of a flush or a compaction that begins; and one is given up.
use Rattle.std.specs.Prelude.{◌≡◌, ◌<◌, ◌≤◌, ◌+◌, ◌++◌, ◌∷◌, ◌⊎◌, ◌↔◌, ℕ, true, false, [], Some, None, length, slice_get, slice_set}
use Rattle.sv_model.specs.declared.records.SuperVersion.{SuperVersion}
use Rattle.sv_model.specs.declared.records.MemtableList.{MemtableList}
use Rattle.sv_model.specs.declared.records.Version.{Version}
use Rattle.sv_model.specs.declared.records.FileMeta.{FileMeta}
use Rattle.sv_model.specs.declared.records.FileStatus.TheVariants.{Pending, Live, Obsolete}
use Rattle.sv_model.specs.Journal.{of_family}
use Rattle.sv_model.specs.Flat.{AreCuts}
use Rattle.sv_model.specs.Lists.{In, Every}
use Rattle.sv_model.specs.Ranges.{reach_of}
use Rattle.sv_model.specs.Registers.{entry, GoesOn}
use Rattle.sv_model.specs.After.{Continues, KeepsNumber}
use Rattle.sv_model.specs.Books.{Books}
use Rattle.sv_model.specs.Named.{numbers_of}
use Rattle.sv_model.specs.Numbers.{NumbersStand, IsRegistered, captures, captured_numbers, IsSettled}
use Rattle.sv_model.specs.Snapshots.{IsAwaitedFile}
use Rattle.sv_model.specs.Steady.{IsCurrent, IsAwaited}
use Rattle.sv_laws.specs.Installs.{IsOpen}
use Rattle.sv_laws.specs.Snapping.{HasLiveCuts, IsClearOfLive}
use Rattle.sv_model.specs.declared.limits.TheConstants.{MAX_CAPTURED, MAX_FAMILIES, MAX_HOLDS, MAX_JOBS, MAX_LANES}

-- Only file numbers, what they cover, holds and jobs changed, and each law of them stands. The same numbers are Live.
pub record ChangesFiles (a b : Books) : Type 0 where
  pub numbers : NumbersStand b.files.numbers b.files.captured b.files.next
  pub goes : GoesOn KeepsNumber a.files.numbers b.files.numbers
  pub metas : Continues a.metas b.metas
  pub metas_are : numbers_of b.metas ≡ captured_numbers b.files.numbers
  pub cuts : Every (λ m. AreCuts m.from m.to m.bottom.cuts) b.metas
  pub next : a.files.next ≤ b.files.next
  pub live : (n : ℕ) → IsRegistered a.files.numbers n Live ↔ IsRegistered b.files.numbers n Live
  pub few : captures b.files.numbers ≤ MAX_CAPTURED
  pub holds : Every (λ h. h ≤ MAX_HOLDS) b.files.holds
  pub lanes : length b.files.holds ≡ MAX_LANES
  pub jobs : b.files.jobs ≤ MAX_JOBS
  pub families : length b.files.captured ≡ MAX_FAMILIES
  pub busy : (f n : ℕ) → slice_get b.files.captured f ≡ Some (Some n) → f < length a.families
  pub covers : (f n : ℕ) (m : FileMeta) → slice_get b.files.captured f ≡ Some (Some n) → In m b.metas → m.number ≡ n
      → m.to ≤ length (of_family f a.journal)
  pub awaited : (f n s : ℕ) (x : SuperVersion) → slice_get b.files.captured f ≡ Some (Some n)
      → IsCurrent a.tops a.supers f s x → IsAwaited a.journal a.memtables a.lists a.versions b.metas n x.descriptor
  pub clear : (f : ℕ) (file : FileMeta) → IsAwaitedFile b.files.captured b.metas f file
      → IsAwaitedFile a.files.captured a.metas f file ⊎ IsClearOfLive a.journal a.snapshots f file
  pub is : b ≡ record a { files = b.files; metas = b.metas }

-- The next number is captured for the family, to cover what the file says and to keep what Live snapshots need.
pub record IsFileCaptured (a b : Books) (f : ℕ) (file : FileMeta) : Type 0 where
  pub number_is : file.number ≡ a.files.next
  pub idle : slice_get a.files.captured f ≡ Some None
  pub few : captures a.files.numbers < MAX_CAPTURED
  pub more : a.files.next < 18446744073709551615
  pub cuts : HasLiveCuts a.journal a.snapshots f file
  pub is : b ≡ record a {
    files = record a.files {
      numbers = a.files.numbers ++ record { number = a.files.next; status = Pending; family = Some f } ∷ [];
      captured = slice_set a.files.captured f (Some a.files.next);
      next = a.files.next + 1;
    };
    metas = a.metas ++ file ∷ [];
  }

-- A flush begins: the file is to cover the current's list, which has a member.
pub record IsFlushBegun (a b : Books) (f : ℕ) (file : FileMeta) : Type 0 where
  pub s : ℕ
  pub c : SuperVersion
  pub is_open : IsOpen a f s c
  pub list : MemtableList
  pub list_at : entry a.lists c.descriptor.list ≡ Some list
  pub some : 0 < length list.members
  pub version : Version
  pub version_at : entry a.versions c.descriptor.version ≡ Some version
  pub from_is : file.from ≡ reach_of version.files
  pub to_is : file.to ≡ c.descriptor.base
  pub kind : file.bottom.last ≡ false
  pub captured : IsFileCaptured a b f file

-- A compaction begins: the file is to cover the files of the current's Version, which has one.
pub record IsMergePlanned (a b : Books) (f : ℕ) (file : FileMeta) : Type 0 where
  pub s : ℕ
  pub c : SuperVersion
  pub is_open : IsOpen a f s c
  pub version : Version
  pub version_at : entry a.versions c.descriptor.version ≡ Some version
  pub some : 0 < length version.files
  pub from_is : file.from ≡ 0
  pub to_is : file.to ≡ reach_of version.files
  pub kind : file.bottom.last ≡ true
  pub captured : IsFileCaptured a b f file

-- The output is given up: its number is Obsolete.
pub record IsGivenUp (a b : Books) (f number : ℕ) : Type 0 where
  pub settled : IsSettled f number Obsolete a.files b.files
  pub is : b ≡ record a { files = b.files }
