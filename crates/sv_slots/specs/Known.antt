-- What clauses say of a table and of a lane's seat.
use Rattle.std.specs.Prelude.{◌≡◌, ℕ}
use Rattle.atomic_table.specs.Seated.{TableId}
use Rattle.sv_rule.specs.Views.{LaneView}
use Rattle.sv_rule.specs.declared.parts.Parts.{Ghosts}
use Rattle.sv_slots.specs.declared.table.Core.{Core}
use Rattle.sv_slots.specs.declared.table.LaneSeat.{LaneSeat}

abbrev pub table_of : {P S D C B : Type 0} → Core P S D C B → TableId
table_of c = c.table.shared.table_id

module _ {P S D C B : Type 0} {g : Ghosts P S D C B} where
  -- what the lane knows and has in hand
  abbrev pub view_of : LaneSeat P S D C B g → LaneView
  view_of s = s.seat.me.0

  -- its number
  abbrev pub lane_of : LaneSeat P S D C B g → ℕ
  lane_of s = s.lane

  -- the seat came with this table
  abbrev pub CameWith : TableId → LaneSeat P S D C B g → Type 0
  CameWith t s = s.seat.table_id ≡ t

  -- the seat is that of the same lane of the same table
  abbrev pub IsSameSeat : LaneSeat P S D C B g → LaneSeat P S D C B g → Type 0
  IsSameSeat old new = (new.seat.table_id ≡ old.seat.table_id) × (new.lane ≡ old.lane)
