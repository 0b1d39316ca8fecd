-- Snapshots of the books.
use Rattle.std.specs.Prelude.{◌≡◌, ℕ, true, Some}
use Rattle.sv_model.specs.declared.records.Snapshot.{Snapshot}
use Rattle.sv_model.specs.Books.{Books}
use Rattle.sv_model.specs.Registers.{entry}
use Rattle.sv_model.specs.Snapshots.{cut_of}
use Rattle.sv_laws.specs.Snapping.{IsUnsnapped}

-- the snapshot of this number is Gone
pub record IsEnded (a : Books) (id : ℕ) (b : Books) : Type 0 where
  pub it : Snapshot
  pub is : IsUnsnapped a b id it

-- where the Live snapshot of this number reads the family
pub record IsCut (b : Books) (id family cut : ℕ) : Type 0 where
  pub it : Snapshot
  pub found : entry b.snapshots id ≡ Some it
  pub live : it.live ≡ true
  pub is : cut ≡ cut_of b.journal it.at family
