-- Snapshots, and what files keep for them.
use Rattle.std.specs.Prelude.{◌≡◌, ◌≤◌, ◌⊎◌, ℕ, true, List, Option, Some, length, slice_get, take}
use Rattle.sv_model.specs.declared.writes.Write.{Write}
use Rattle.sv_model.specs.declared.records.Version.{Version}
use Rattle.sv_model.specs.declared.records.FileMeta.{FileMeta}
use Rattle.sv_model.specs.declared.records.Top.{Top}
use Rattle.sv_model.specs.declared.records.Snapshot.{Snapshot}
use Rattle.sv_model.specs.Journal.{of_family}
use Rattle.sv_model.specs.Lists.{In, bit, total}
use Rattle.sv_model.specs.Registers.{entry, EachEntry}
use Rattle.sv_model.specs.declared.limits.TheConstants.{MAX_SNAPSHOTS, MAX_SNAPSHOTS_LIVE}

-- where a snapshot of this place in the journal reads a family: at so many of its writes
abbrev pub cut_of : List Write → ℕ → ℕ → ℕ
cut_of journal at family = length (of_family family (take at journal))

-- A read at the cut finds in the file what it needs: the cut is one of the file's, or none inside its range.
abbrev pub IsClear : ℕ → FileMeta → Type 0
IsClear cut file = In cut file.bottom.cuts ⊎ ((file.to ≤ cut) ⊎ (cut ≤ file.from))

-- the file is one of the family's last Version
pub record IsLastFile (versions : List Version) (tops : List Top) (family : ℕ) (file : FileMeta) : Type 0 where
  pub top : Top
  pub top_at : slice_get tops family ≡ Some top
  pub version : Version
  pub version_at : entry versions top.last ≡ Some version
  pub has : In file version.files

-- the file is what the family's captured number is to cover
pub record IsAwaitedFile (captured : List (Option ℕ)) (metas : List FileMeta) (family : ℕ) (file : FileMeta) : Type 0 where
  pub captured_is : slice_get captured family ≡ Some (Some file.number)
  pub covered : In file metas

-- each such file is clear of the cut that each Live snapshot has for its family
abbrev pub AreClear : List Write → List Snapshot → (ℕ → FileMeta → Type 0) → Type 0
AreClear journal snapshots Is =
    EachEntry (λ n s. s.live ≡ true → (f : ℕ) (file : FileMeta) → Is f file → IsClear (cut_of journal s.at f) file) snapshots

pub record SnapshotsStand (journal : List Write) (versions : List Version) (captured : List (Option ℕ)) (metas : List FileMeta) (tops : List Top) (snapshots : List Snapshot) : Type 0 where
  pub within : EachEntry (λ n s. s.at ≤ length journal) snapshots
  pub few : total (λ s. bit s.live) snapshots ≤ MAX_SNAPSHOTS_LIVE
  pub made : length snapshots ≤ MAX_SNAPSHOTS
  pub lasts : AreClear journal snapshots (IsLastFile versions tops)
  pub awaited : AreClear journal snapshots (IsAwaitedFile captured metas)
