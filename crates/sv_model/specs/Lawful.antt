-- What always holds of the books.
use Rattle.std.specs.Prelude.{◌≡◌, ◌≤◌, ◌<◌, ◌↔◌, ℕ, true, false, Some, length, slice_get}
use Rattle.sv_model.specs.declared.records.Family.{Family}
use Rattle.sv_model.specs.declared.records.Top.{Top}
use Rattle.sv_model.specs.declared.records.FileStatus.TheVariants.{Live}
use Rattle.sv_model.specs.Flat.{AreCuts}
use Rattle.sv_model.specs.Lists.{bit, total, Every}
use Rattle.sv_model.specs.Registers.{EachEntry}
use Rattle.sv_model.specs.Books.{Books}
use Rattle.sv_model.specs.Named.{IsLiveMemtable, IsLiveList, IsLiveVersion, NamedMemtable, NamedList, NamedVersion, NamedFile, numbers_of}
use Rattle.sv_model.specs.Families.{IsDefault, InRange}
use Rattle.sv_model.specs.Numbers.{NumbersStand, IsRegistered, captures, captured_numbers}
use Rattle.sv_model.specs.Snapshots.{SnapshotsStand}
use Rattle.sv_model.specs.Described.{Describes, LastFits, BearsFrom, IsTop}
use Rattle.sv_model.specs.declared.limits.TheConstants.{MAX_CAPTURED, MAX_CELLS, MAX_FAMILIES, MAX_HOLDS, MAX_JOBS, MAX_PLACES, MAX_SUPERS, MAX_WRITES}

pub record Limits (b : Books) : Type 0 where
  pub families : length b.families ≤ MAX_FAMILIES
  pub supers : length b.supers ≤ MAX_SUPERS
  pub live_supers : total (λ s. bit s.live) b.supers ≤ MAX_PLACES
  pub live_memtables : total (λ m. bit m.live) b.memtables ≤ MAX_CELLS
  pub captured : captures b.files.numbers ≤ MAX_CAPTURED
  pub writes : length b.journal ≤ MAX_WRITES
  pub holds : Every (λ h. h ≤ MAX_HOLDS) b.files.holds
  pub jobs : b.files.jobs ≤ MAX_JOBS
  pub options : Every (λ f. InRange f.options) b.families

pub record Lawful (b : Books) : Type 0 where
  -- what is Live is named, and what is named is Live
  pub memtables : (m : ℕ) → IsLiveMemtable b.memtables m ↔ NamedMemtable b.supers b.lists m
  pub lists : (l : ℕ) → IsLiveList b.lists l ↔ NamedList b.supers l
  pub versions : (v : ℕ) → IsLiveVersion b.versions v ↔ NamedVersion b.supers b.families b.tops v
  pub files : (n : ℕ) → IsRegistered b.files.numbers n Live ↔ NamedFile b.versions n
  -- what fits together
  pub descriptors : EachEntry (λ n s. s.live ≡ true → Describes b.journal b.memtables b.lists b.versions b.files.numbers b.metas s.descriptor) b.supers
  pub lasts : (f : ℕ) (t : Top) → slice_get b.tops f ≡ Some t → LastFits b.journal b.versions b.files.numbers b.metas f t.last
  pub rows : EachEntry (BearsFrom b.journal) b.memtables
  -- currents, each of which is Live
  pub tops : (f s : ℕ) (x : Family) (t : Top) → slice_get b.families f ≡ Some x → slice_get b.tops f ≡ Some t → t.current ≡ Some s → IsTop b.journal b.supers f x t.last s
  pub paired : length b.tops ≡ length b.families
  -- file numbers, and what their files keep
  pub numbers : NumbersStand b.files.numbers b.files.captured b.files.next
  pub metas : numbers_of b.metas ≡ captured_numbers b.files.numbers
  pub cuts : Every (λ m. AreCuts m.from m.to m.bottom.cuts) b.metas
  -- no two Live SuperVersions have one place, and no two Live memtables one cell
  pub places : EachEntry (λ n x. x.live ≡ true → (x.place < MAX_PLACES) × EachEntry (λ k y. y.live ≡ true → y.place ≡ x.place → k ≡ n) b.supers) b.supers
  pub cells : EachEntry (λ n x. x.live ≡ true → (x.cell < MAX_CELLS) × EachEntry (λ k y. y.live ≡ true → y.cell ≡ x.cell → k ≡ n) b.memtables) b.memtables
  -- families
  pub distinct : (f g : ℕ) (x y : Family) → slice_get b.families f ≡ Some x → slice_get b.families g ≡ Some y → x.dropped ≡ false → y.dropped ≡ false → x.name ≡ y.name → f ≡ g
  pub default : IsDefault b.families
  pub limits : Limits b
  pub snapshots : SnapshotsStand b.journal b.versions b.files.captured b.metas b.tops b.snapshots
