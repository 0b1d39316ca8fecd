-- The books that a database begins with.
use Rattle.std.specs.Prelude.{◌≡◌, ◌<◌, ◌≤◌, ◌↔◌, ℕ, suc, true, false, List, [], ◌∷◌, Some, None, length, slice_get, replicate}
use Rattle.sv_model.specs.declared.writes.Write.{Write}
use Rattle.sv_model.specs.declared.settings.Options.{Options}
use Rattle.sv_model.specs.declared.records.SuperVersion.{SuperVersion}
use Rattle.sv_model.specs.declared.records.Memtable.{Memtable}
use Rattle.sv_model.specs.declared.records.Version.{Version}
use Rattle.sv_model.specs.declared.records.Family.{Family}
use Rattle.sv_model.specs.declared.records.FileStatus.TheVariants.{Live}
use Rattle.sv_model.specs.Flat.{AreCuts}
use Rattle.sv_model.specs.Journal.{of_family}
use Rattle.sv_model.specs.Named.{NamedFile, numbers_of}
use Rattle.sv_model.specs.Lists.{Every}
use Rattle.sv_model.specs.Books.{Books}
use Rattle.sv_model.specs.Families.{IsDefault, InRange, default_name, first_options}
use Rattle.sv_model.specs.Numbers.{NumbersStand, IsRegistered, captures, captured_numbers}
use Rattle.sv_model.specs.Described.{FilesStand}
use Rattle.sv_model.specs.declared.limits.TheConstants.{MAX_CAPTURED, MAX_FAMILIES, MAX_LANES, MAX_WRITES}

-- One family, `default`, of which each lane has a handle; its memtable in cell 0, its SuperVersion at place 0. The next
-- file number is given.
abbrev pub opening_books : ℕ → Books
opening_books next = record {
  journal = [];
  supers = record { descriptor = record { family = 0; active = 1; list = 1; version = 1; base = 0; options = first_options }; place = 0; live = true } ∷ [];
  memtables = record { family = 0; first = 0; cell = 0; live = true } ∷ [];
  lists = record { members = []; live = true } ∷ [];
  versions = record { files = []; live = true } ∷ [];
  files = record { numbers = []; captured = replicate MAX_FAMILIES None; holds = replicate MAX_LANES 0; jobs = 0; next = next };
  metas = [];
  families = record { name = default_name; options = first_options; dropped = false; handles = replicate MAX_LANES true } ∷ [];
  tops = record { current = Some 1; last = 1 } ∷ [];
  snapshots = [];
}

-- the SuperVersion and the memtable that family i begins with
abbrev pub first_super : List Write → ℕ → Options → SuperVersion
first_super journal i o = record { descriptor = record { family = i; active = suc i; list = suc i; version = suc i; base = length (of_family i journal); options = o }; place = i; live = true }

abbrev pub first_memtable : List Write → ℕ → Memtable
first_memtable journal i = record { family = i; first = length (of_family i journal); cell = i; live = true }

-- the Version of a family's files, which end where its opening writes do
pub record IsFirstVersion (b : Books) (i : ℕ) : Type 0 where
  pub it : Version
  pub at : slice_get b.versions i ≡ Some it
  pub live : it.live ≡ true
  pub files : FilesStand b.files.numbers b.metas i it.files (length (of_family i b.journal))

-- The books of an opening that has families, files and writes: family i has memtable, list, Version and SuperVersion
-- i + 1, and the opening writes bear memtable 0 and lane 255.
pub record IsOpening (b : Books) : Type 0 where
  pub most : length b.families ≤ MAX_FAMILIES
  pub supers_made : length b.supers ≡ length b.families
  pub memtables_made : length b.memtables ≡ length b.families
  pub lists_made : length b.lists ≡ length b.families
  pub versions_made : length b.versions ≡ length b.families
  pub tops_made : length b.tops ≡ length b.families
  pub supers : (i : ℕ) (y : Family) → slice_get b.families i ≡ Some y → slice_get b.supers i ≡ Some (first_super b.journal i y.options)
  pub memtables : (i : ℕ) (y : Family) → slice_get b.families i ≡ Some y → slice_get b.memtables i ≡ Some (first_memtable b.journal i)
  pub lists : (i : ℕ) (y : Family) → slice_get b.families i ≡ Some y → slice_get b.lists i ≡ Some (record { members = []; live = true })
  pub versions : (i : ℕ) (y : Family) → slice_get b.families i ≡ Some y → IsFirstVersion b i
  pub tops : (i : ℕ) (y : Family) → slice_get b.families i ≡ Some y → slice_get b.tops i ≡ Some (record { current = Some (suc i); last = suc i })
  pub stand : Every (λ y. y.dropped ≡ false) b.families
  pub handles : Every (λ y. length y.handles ≡ MAX_LANES) b.families
  pub options : Every (λ y. InRange y.options) b.families
  pub distinct : (f g : ℕ) (x y : Family) → slice_get b.families f ≡ Some x → slice_get b.families g ≡ Some y → x.name ≡ y.name → f ≡ g
  pub default : IsDefault b.families
  pub writes : Every (λ w. (w.mem ≡ 0) × (w.lane ≡ 255) × (w.family < length b.families)) b.journal
  pub few : length b.journal ≤ MAX_WRITES
  -- just the files of the Versions are registered, each Live, and none is captured
  pub numbers : NumbersStand b.files.numbers b.files.captured b.files.next
  pub metas : numbers_of b.metas ≡ captured_numbers b.files.numbers
  pub cuts : Every (λ m. AreCuts m.from m.to m.bottom.cuts) b.metas
  pub files : (n : ℕ) → IsRegistered b.files.numbers n Live ↔ NamedFile b.versions n
  pub few_files : captures b.files.numbers ≤ MAX_CAPTURED
  pub idle : (f n : ℕ) → slice_get b.files.captured f ≡ Some (Some n) → ⊥
  pub captured : length b.files.captured ≡ MAX_FAMILIES
  pub holds : Every (λ h. h ≡ 0) b.files.holds
  pub lanes : length b.files.holds ≡ MAX_LANES
  pub jobs : b.files.jobs ≡ 0
  pub snapshots : b.snapshots ≡ []
