-- What the seats of a table are at its end.
use Rattle.std.specs.Prelude.{◌≡◌, ◌<◌, ◌≤◌, ◌+◌, ◌∷◌, [], ℕ, true, false, Bool, List, length, map, slice_index_or}
use Rattle.atomic_table.specs.Seated.{TableId}
use Rattle.sv_model.specs.Lists.{Every, total}
use Rattle.sv_rule.specs.Blanks.{nobody}
use Rattle.sv_rule.specs.SeatPlays.{IsIdle, gathered}
use Rattle.sv_rule.specs.Tasks.{joined_count}
use Rattle.sv_rule.specs.Views.{LaneView}
use Rattle.sv_rule.specs.declared.parts.Parts.{Ghosts}
use Rattle.sv_slots.specs.declared.table.LaneSeat.{LaneSeat}

-- into v the others are joined, the last of them first
abbrev pub gathered_by : LaneView → List LaneView → LaneView
gathered_by v [] = v
gathered_by v (w ∷ ws) = gathered (gathered_by v ws) w

abbrev pub gathered_all : List LaneView → LaneView
gathered_all [] = nobody
gathered_all (v ∷ vs) = gathered_by v vs

-- the first is lane 0's, and with those that were joined before they are all that were made
abbrev pub AreAll : List LaneView → Type 0
AreAll [] = ⊥
AreAll (v ∷ vs) = (0 < v.seat.made) × (total joined_count (v ∷ vs) + length vs + 1 ≡ v.seat.made)

abbrev pub views_of : {P S D C B : Type 0} {g : Ghosts P S D C B} → List (LaneSeat P S D C B g) → List LaneView
views_of seats = map (λ s. s.seat.me.0) seats

-- All seats that were not joined, and no lane has anything in hand.
pub record CanClose {P S D C B : Type 0} {g : Ghosts P S D C B} (t : TableId) (seats : List (LaneSeat P S D C B g)) : Type 0 where
  pub table : Every (λ s. s.seat.table_id ≡ t) seats
  pub idle : Every IsIdle (views_of seats)
  pub all : AreAll (views_of seats)

-- of n slots just those from i on still have their values
pub record FilledFrom (i : ℕ) (filled : List Bool) (n : ℕ) : Type 0 where
  pub there : (k : ℕ) → i ≤ k → k < n → slice_index_or filled k false ≡ true
  pub taken : (k : ℕ) → k < i → slice_index_or filled k false ≡ false
