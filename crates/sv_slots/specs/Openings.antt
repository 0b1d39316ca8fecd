-- What a table begins with, and what its lanes know then.
use Rattle.std.specs.Prelude.{◌≡◌, ◌≢◌, ◌<◌, ◌≤◌, ◌+◌, ◌*◌, ◌∷◌, ◌++◌, [], ℕ, zero, suc, List, Option, Some, None, length, map, replicate, slice_get}
use Rattle.sv_model.specs.Supers.{pack}
use Rattle.atomic_table.specs.Seated.{TableId}
use Rattle.sv_model.specs.Cells.{Cell}
use Rattle.sv_rule.specs.Blanks.{new_view}
use Rattle.sv_rule.specs.Table.{number_word, reference_word}
use Rattle.sv_rule.specs.Views.{LaneView, Start}
use Rattle.sv_rule.specs.declared.parts.Parts.{Ghosts}
use Rattle.sv_rule.specs.declared.parts.Stored.{Stored}
use Rattle.sv_rule.specs.declared.parts.Stored.TheVariants as is
use Rattle.sv_slots.specs.declared.table.LaneSeat.{LaneSeat}

-- Word k is w, of so many families: family f has SuperVersion f + 1, which lies at place f and has one holder.
pub record IsFirstWord (families k w : ℕ) : Type 0 where
  pub number : (f : ℕ) → f < families → k ≡ number_word f → w ≡ pack (suc f) f
  pub reference : (f : ℕ) → f < families → k ≡ reference_word f → w ≡ suc f * 4294967296 + 1
  pub other : ((f : ℕ) → f < families → k ≢ number_word f) → ((f : ℕ) → f < families → k ≢ reference_word f) → w ≡ 0

-- cell c has the memtable of family c without rows, and is vacant where there is no such family
pub record FirstCells {C : Type 0} (cell : C → Option Cell) (families : ℕ) (cells : List C) : Type 0 where
  pub count : length cells ≡ 64
  pub has : (c : ℕ) (y : C) → slice_get cells c ≡ Some y → c < families
      → cell y ≡ Some (record { id = suc c; rows = [] })
  pub vacant : (c : ℕ) (y : C) → slice_get cells c ≡ Some y → families ≤ c → cell y ≡ None

module _ {S D C B : Type 0} where
  -- the state, the directory, the cells, and nothing at the slots of lanes
  abbrev pub first_slots : S → D → List C → List (Stored S D C B)
  first_slots state dir cells = is.State state ∷ is.Dir dir ∷ map (λ c. is.Cell c) cells ++ replicate 512 is.Nothing

  abbrev pub StartsWith : S → D → List (Stored S D C B) → Type 0
  StartsWith state dir slots = (more : List (Stored S D C B)) × (slots ≡ is.State state ∷ is.Dir dir ∷ more)

-- a lane's view once all lanes have their seats, which lane 0 made
abbrev pub opened_view : ℕ → Start → ℕ → LaneView
opened_view lanes start zero = new_view 0 lanes lanes start
opened_view lanes start (suc lane) = new_view (suc lane) lanes 0 start

-- the seat of a lane, with this view
pub record IsSeat {P S D C B : Type 0} {g : Ghosts P S D C B} (t : TableId) (lane : ℕ) (view : LaneView) (seat : LaneSeat P S D C B g) : Type
    0 where
  pub table : seat.seat.table_id ≡ t
  pub lane_is : seat.lane ≡ lane
  pub view_is : seat.seat.me.0 ≡ view

-- the seats of so many lanes, in their order
pub record AreOpened {P S D C B : Type 0} {g : Ghosts P S D C B} (t : TableId) (lanes : ℕ) (start : Start)
    (seats : List (LaneSeat P S D C B g)) : Type 0 where
  pub count : length seats ≡ lanes
  pub each : (lane : ℕ) (s : LaneSeat P S D C B g) → slice_get seats lane ≡ Some s
      → IsSeat t lane (opened_view lanes start lane) s

-- the seats of the lanes from 1 on that were made so far
pub record AreOthers {P S D C B : Type 0} {g : Ghosts P S D C B} (t : TableId) (lanes made : ℕ) (start : Start)
    (seats : List (LaneSeat P S D C B g)) : Type 0 where
  pub count : length seats + 1 ≡ made
  pub each : (i : ℕ) (s : LaneSeat P S D C B g) → slice_get seats i ≡ Some s
      → IsSeat t (suc i) (new_view (suc i) lanes 0 start) s
