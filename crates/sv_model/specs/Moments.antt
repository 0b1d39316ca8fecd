-- What a refusal that speaks of one moment says of all later books.
use Rattle.std.specs.Prelude.{◌≡◌, ◌≤◌, ◌⊎◌, ℕ, List, length, is_some, count_by}
use Rattle.sv_model.specs.declared.records.Memtable.{Memtable}
use Rattle.sv_model.specs.declared.records.FileMeta.{FileMeta}
use Rattle.sv_model.specs.Lists.{In}
use Rattle.sv_model.specs.Registers.{Has}
use Rattle.sv_model.specs.Books.{Books}
use Rattle.sv_model.specs.Reads.{IsCapturedFor}
use Rattle.sv_model.specs.declared.limits.TheConstants.{MAX_CAPTURED, MAX_CELLS, MAX_PLACES, MAX_SUPERS}

-- a memtable of the family that begins at this write of it or later
pub record BeginsFrom (family first : ℕ) (m : Memtable) : Type 0 where
  pub family_is : m.family ≡ family
  pub from : first ≤ m.first

-- two objects of the register are so
pub record HasTwo {A : Type 0} (P : A → Type 0) (l : List A) : Type 0 where
  pub one : Has P l
  pub other : Has P l
  pub apart : one.0 ≡ other.0 → ⊥

-- Stalled: the family had two memtables that no flush up to this write reached.
abbrev pub WasStalled : Books → ℕ → ℕ → Type 0
WasStalled books family flushed = HasTwo (BeginsFrom family flushed) books.memtables

-- a file captured for the family that reaches this write
pub record ReachesTo (books : Books) (family upto : ℕ) (file : FileMeta) : Type 0 where
  pub captured : Has (IsCapturedFor family file.number) books.files.numbers
  pub covers : In file books.metas
  pub reaches : upto ≤ file.to

-- Nothing to flush: no write of the family was seen, or a file reaches what was seen.
abbrev pub WasFlushed : Books → ℕ → ℕ → Type 0
WasFlushed books family upto = (upto ≡ 0) ⊎ ((file : FileMeta) × ReachesTo books family upto file)

-- Too many memtables: 64 were made.
abbrev pub WereManyMemtables : Books → Type 0
WereManyMemtables books = MAX_CELLS ≤ length books.memtables

-- Too many Live SuperVersions: 256 were made.
abbrev pub WereManyLive : Books → Type 0
WereManyLive books = MAX_PLACES ≤ length books.supers

-- The register of SuperVersions was full.
abbrev pub WereAllMade : Books → Type 0
WereAllMade books = MAX_SUPERS ≤ length books.supers

-- A register was full, or file numbers were at their end.
abbrev pub WereAllNumbered : Books → Type 0
WereAllNumbered books =
    WereAllMade books ⊎ ((MAX_CAPTURED ≤ count_by (λ f. is_some f.family) books.files.numbers) ⊎ (18446744073709551615 ≤ books.files.next))

-- the number was captured for the family
abbrev pub WasCapturedFor : Books → ℕ → ℕ → Type 0
WasCapturedFor books family number = Has (IsCapturedFor family number) books.files.numbers
