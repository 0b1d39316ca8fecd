-- Lanes that have nothing, and a lane that can borrow.
use Rattle.std.specs.Prelude.{◌≡◌, ◌<◌, ℕ, List, [], length}
use Rattle.atomic_table.specs.Seated.{TableId}
use Rattle.sv_model.specs.Lists.{Every}
use Rattle.sv_rule.specs.SeatPlays.{IsIdle}
use Rattle.sv_rule.specs.Table.{slot_of}
use Rattle.sv_rule.specs.Views.{LaneView, away}
use Rattle.sv_rule.specs.declared.parts.Parts.{Ghosts}
use Rattle.sv_slots.specs.Known.{CameWith, view_of}
use Rattle.sv_slots.specs.declared.table.LaneSeat.{LaneSeat}

-- the lane's slot of the family is not out, and there is room in its hand
pub record CanBorrow (f : ℕ) (v : LaneView) : Type 0 where
  pub free : slot_of v f ≡ away
  pub room : length v.hand < 65600

-- the lane is of the table, and has nothing
abbrev pub IsUnused : {P S D C B : Type 0} {g : Ghosts P S D C B} → TableId → LaneSeat P S D C B g → Type 0
IsUnused t seat = CameWith t seat × IsIdle (view_of seat)

abbrev pub AreUnused : {P S D C B : Type 0} {g : Ghosts P S D C B} → TableId → List (LaneSeat P S D C B g) → Type 0
AreUnused t seats = Every (IsUnused t) seats

-- the lane's table has so many lanes, and no seat was joined into the lane's
abbrev pub IsAlone : {P S D C B : Type 0} {g : Ghosts P S D C B} → ℕ → LaneSeat P S D C B g → Type 0
IsAlone lanes seat = ((view_of seat).seat.lanes ≡ lanes) × ((view_of seat).joined ≡ [])

abbrev pub AreAlone : {P S D C B : Type 0} {g : Ghosts P S D C B} → ℕ → List (LaneSeat P S D C B g) → Type 0
AreAlone lanes seats = Every (IsAlone lanes) seats
