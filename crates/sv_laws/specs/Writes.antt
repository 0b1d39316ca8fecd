-- A write is accepted.
use Rattle.std.specs.Prelude.{◌≡◌, ◌<◌, ◌++◌, ◌∷◌, ℕ, [], length}
use Rattle.sv_model.specs.declared.writes.Write.{Write}
use Rattle.sv_model.specs.declared.records.SuperVersion.{SuperVersion}
use Rattle.sv_model.specs.Journal.{borne_by}
use Rattle.sv_model.specs.Books.{Books}
use Rattle.sv_laws.specs.Installs.{IsOpen}
use Rattle.sv_model.specs.declared.limits.TheConstants.{MAX_LANES, MAX_ROWS, MAX_WRITES}

-- The write, which a lane makes and the active memtable of the family's current bears, is the last of the journal.
pub record IsWritten (a b : Books) (f : ℕ) (w : Write) : Type 0 where
  pub s : ℕ
  pub c : SuperVersion
  pub is_open : IsOpen a f s c
  pub family_is : w.family ≡ f
  pub mem_is : w.mem ≡ c.descriptor.active
  pub by_lane : w.lane < MAX_LANES
  pub few : length a.journal < MAX_WRITES
  pub few_rows : length (borne_by w.mem a.journal) < MAX_ROWS
  pub is : b ≡ record a { journal = a.journal ++ w ∷ [] }
