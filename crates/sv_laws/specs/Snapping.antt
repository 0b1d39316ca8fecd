-- Snapshots are taken and released, and what a file keeps for them.
use Rattle.std.specs.Prelude.{◌≡◌, ◌<◌, ◌≤◌, ◌++◌, ◌∷◌, ◌⊎◌, ℕ, true, false, List, [], Some, length}
use Rattle.sv_model.specs.declared.writes.Write.{Write}
use Rattle.sv_model.specs.declared.records.FileMeta.{FileMeta}
use Rattle.sv_model.specs.declared.records.Snapshot.{Snapshot}
use Rattle.sv_model.specs.Lists.{In, bit, total}
use Rattle.sv_model.specs.Flat.{AreCuts, CutsFrom}
use Rattle.sv_model.specs.Registers.{entry, change, Has, EachEntry}
use Rattle.sv_model.specs.Snapshots.{cut_of, IsClear, IsLastFile, IsAwaitedFile}
use Rattle.sv_model.specs.After.{Continues}
use Rattle.sv_model.specs.Books.{Books}
use Rattle.sv_model.specs.declared.limits.TheConstants.{MAX_SNAPSHOTS, MAX_SNAPSHOTS_LIVE}

-- the snapshot is Live, and this is its cut for the family
pub record IsCutOf (journal : List Write) (family cut : ℕ) (s : Snapshot) : Type 0 where
  pub live : s.live ≡ true
  pub is : cut_of journal s.at family ≡ cut

-- each cut of the file is that of a Live snapshot
abbrev pub AreLiveCuts : List Write → List Snapshot → ℕ → FileMeta → Type 0
AreLiveCuts journal snapshots family file = (cut : ℕ) → In cut file.bottom.cuts → Has (IsCutOf journal family cut) snapshots

-- a read of the family at a Live snapshot finds in the file what it needs
abbrev pub IsClearOfLive : List Write → List Snapshot → ℕ → FileMeta → Type 0
IsClearOfLive journal snapshots family file = EachEntry (λ n s. s.live ≡ true → IsClear (cut_of journal s.at family) file) snapshots

-- The file's cuts are just those of the Live snapshots that lie inside its range, each once, ascending.
pub record HasLiveCuts (journal : List Write) (snapshots : List Snapshot) (family : ℕ) (file : FileMeta) : Type 0 where
  pub clear : IsClearOfLive journal snapshots family file
  pub live : AreLiveCuts journal snapshots family file
  pub cuts : AreCuts file.from file.to file.bottom.cuts

-- The frame of the law of snapshots: a file of a last Version was one, or was to be one; one that is to be one was so
-- before, or is clear of the Live snapshots.
pub record KeepsCuts (a b : Books) : Type 0 where
  pub journal : Continues a.journal b.journal
  pub snapshots : b.snapshots ≡ a.snapshots
  pub lasts : (f : ℕ) (file : FileMeta) → IsLastFile b.versions b.tops f file
      → IsLastFile a.versions a.tops f file ⊎ IsAwaitedFile a.files.captured a.metas f file
  pub awaited : (f : ℕ) (file : FileMeta) → IsAwaitedFile b.files.captured b.metas f file
      → IsAwaitedFile a.files.captured a.metas f file ⊎ IsClearOfLive b.journal b.snapshots f file

-- a snapshot more, which reads what all writes so far leave
pub record IsSnapped (a b : Books) : Type 0 where
  pub few_live : total (λ s. bit s.live) a.snapshots < MAX_SNAPSHOTS_LIVE
  pub few : length a.snapshots < MAX_SNAPSHOTS
  pub is : b ≡ record a { snapshots = a.snapshots ++ record { at = length a.journal; live = true } ∷ [] }

-- a Live snapshot is Gone
pub record IsUnsnapped (a b : Books) (n : ℕ) (x : Snapshot) : Type 0 where
  pub at : entry a.snapshots n ≡ Some x
  pub live : x.live ≡ true
  pub is : b ≡ record a { snapshots = change a.snapshots n (record x { live = false }) }

-- Snapshots were taken in the order of their places in the journal.
abbrev pub Ascend : List Snapshot → Type 0
Ascend snapshots = (n m : ℕ) (s t : Snapshot) → entry snapshots n ≡ Some s → entry snapshots m ≡ Some t → n ≤ m → s.at ≤ t.at

-- The cuts gathered from the snapshots seen so far, which were taken one after the other: those of the Live ones that
-- lie inside the range, of which `last` is the greatest, or the range's beginning where there is none.
pub record AreGathered (journal : List Write) (family from to last : ℕ) (seen : List Snapshot) (cuts : List ℕ) : Type 0 where
  pub ascend : CutsFrom from cuts to
  pub begins : from ≤ last
  pub greatest : (cut : ℕ) → In cut cuts → cut ≤ last
  pub last_is : (last ≡ from) ⊎ In last cuts
  pub live : (cut : ℕ) → In cut cuts → Has (IsCutOf journal family cut) seen
  pub clear : EachEntry (λ n s. s.live ≡ true
      → In (cut_of journal s.at family) cuts ⊎ ((to ≤ cut_of journal s.at family) ⊎ (cut_of journal s.at family ≤ from))) seen
  pub few : length cuts ≤ total (λ s. bit s.live) seen
