-- What a reply says of families, and what a refusal that speaks of one moment says of all later books.
use Rattle.std.specs.Prelude.{◌≡◌, ◌≤◌, ◌⊎◌, ℕ, true, List, Some, length, slice_get}
use Rattle.sv_model.specs.declared.records.Family.{Family}
use Rattle.sv_model.specs.declared.records.FileMeta.{FileMeta}
use Rattle.sv_model.specs.declared.records.SuperVersion.{SuperVersion}
use Rattle.sv_model.specs.Books.{Books}
use Rattle.sv_model.specs.Registers.{entry, Has}
use Rattle.sv_model.specs.Moments.{ReachesTo}
use Rattle.sv_replies.specs.Known.{Known}
use Rattle.sv_model.specs.declared.limits.TheConstants.{MAX_SNAPSHOTS, MAX_WRITES}

-- item number n of the list, from 0, is so
abbrev pub IsAt : {A : Type 0} → (A → Type 0) → List A → ℕ → Type 0
IsAt {A} P l n = (x : A) × (slice_get l n ≡ Some x) × P x

-- object number n of the register, from 1, is so
abbrev pub IsIn : {A : Type 0} → (A → Type 0) → List A → ℕ → Type 0
IsIn {A} P l n = (x : A) × (entry l n ≡ Some x) × P x

-- ---- families

abbrev pub HasName : List ℕ → Family → Type 0
HasName name f = f.name ≡ name

abbrev pub IsDead : Family → Type 0
IsDead f = f.dropped ≡ true

abbrev pub IsNamed : Books → ℕ → List ℕ → Type 0
IsNamed books id name = IsAt (HasName name) books.families id

abbrev pub WasDropped : Books → ℕ → Type 0
WasDropped books id = IsAt IsDead books.families id

-- a family ever made has the name
abbrev pub IsTaken : Books → List ℕ → Type 0
IsTaken books name = Has (HasName name) books.families

-- each family that was shown to have the name is dropped
abbrev pub NamedAreDropped : Books → Known → List ℕ → Type 0
NamedAreDropped books k name = (id : ℕ) → k.named name id ≡ true → WasDropped books id

-- the SuperVersion is of the family
abbrev pub IsOf : ℕ → SuperVersion → Type 0
IsOf family s = s.descriptor.family ≡ family

-- ---- moments

abbrev pub WereManyFamilies : Books → Type 0
WereManyFamilies books = 16 ≤ length books.families

abbrev pub WasJournalFull : Books → Type 0
WasJournalFull books = MAX_WRITES ≤ length books.journal

-- 64 snapshots were made, or all that may ever be
abbrev pub WereManySnapshots : Books → Type 0
WereManySnapshots books = 64 ≤ length books.snapshots

abbrev pub WereAllSnapped : Books → Type 0
WereAllSnapped books = MAX_SNAPSHOTS ≤ length books.snapshots

-- a file with nothing below it, captured for the family, that reaches this write
pub record IsMergedTo (books : Books) (family upto : ℕ) (file : FileMeta) : Type 0 where
  pub reaches : ReachesTo books family upto file
  pub last : file.bottom.last ≡ true

-- Nothing to compact: no flush of the family was shown, or such a file reaches as far as they do.
abbrev pub WasMerged : Books → ℕ → ℕ → Type 0
WasMerged books family flushed = (flushed ≡ 0) ⊎ ((file : FileMeta) × IsMergedTo books family flushed file)
