-- A lane of a database between two calls.
use Rattle.std.specs.Prelude.{List, Option, Some, length, slice_get, ℕ, ◌<◌, ◌≡◌, ◌≤◌}
use Rattle.atomic_table.specs.Seated.{TableId}
use Rattle.sv_borrows.specs.Lending.{IsAtRest}
use Rattle.sv_borrows.specs.Parts.{body_of}
use Rattle.sv_db.specs.Handles.{IsHandleOf}
use Rattle.sv_db.specs.Pins.{IsPin, pin_count, pin_one}
use Rattle.sv_model.specs.Books.{Books}
use Rattle.sv_model.specs.Lists.{In, times, total}
use Rattle.sv_model.specs.declared.records.Family.{Family}
use Rattle.sv_model.specs.declared.sv_refs.SvRef.{SvRef}
use Rattle.sv_objects.specs.declared.bodies.Body.{Body as Kept}
use Rattle.sv_rule.specs.Fits.{Fits}
use Rattle.sv_rule.specs.SlotPlays.{IsShown}
use Rattle.sv_rule.specs.Views.{Bodied, LaneView}
use Rattle.sv_rule.specs.declared.parts.Parts.{Ghosts}
use Rattle.sv_slots.specs.Known.{CameWith, view_of}
use Rattle.sv_slots.specs.Seats.{bodied}
use Rattle.sv_slots.specs.declared.table.LaneSeat.{LaneSeat}

-- ---- handles

-- the family has the name
pub record IsNamed (b : Books) (f : ℕ) (name : List ℕ) : Type 0 where
  pub it : Family
  pub at : slice_get b.families f ≡ Some it
  pub name_is : it.name ≡ name

abbrev pub has_name : Option (Option (List ℕ)) → ℕ
has_name (Some (Some name)) = 1
has_name o = 0

-- The lane's handles are these, by family. Each is by the name that its family has, in all books that fit what the lane
-- knows, and no two are by the same.
pub record HandlesFit (handles : List (Option (List ℕ))) (v : LaneView) : Type 0 where
  pub long : length handles ≡ 16
  pub count : (f : ℕ) → f < 16 → times f v.known.task.handles ≡ has_name (slice_get handles f)
  pub named : (f : ℕ) (name : List ℕ) → IsHandleOf name handles f → (b : Books) → Fits b v.known → IsNamed b f name
  pub distinct : (f g : ℕ) (name : List ℕ) → IsHandleOf name handles f → IsHandleOf name handles g → f ≡ g

-- ---- pins

abbrev pub pinned : SvRef Kept → Bodied
pinned sv = bodied body_of sv

-- the lane may read what it has pinned
pub record IsPinned (v : LaneView) (x : Bodied) : Type 0 where
  pub near : x.body.descriptor.family < 16
  pub has : In x v.known.bodies
  pub shown : IsShown x.body.descriptor.family x

-- the lane's references in hand are those of its pins
pub record PinsFit (pins : List (Option (SvRef Kept))) (v : LaneView) : Type 0 where
  pub long : length pins ≡ 16
  pub hand : (p : ℕ) → times p v.hand ≡ total (pin_count p) pins
  pub count : length v.hand ≡ total pin_one pins
  pub each : (n : ℕ) (sv : SvRef Kept) → IsPin pins n sv → IsPinned v (pinned sv)

-- ---- the lane

module _ {P S D C B : Type 0} {g : Ghosts P S D C B} where
  -- The lane of this number is one of so many of the table. It is between two calls, with these handles and pins.
  pub record IsLocal (t : TableId) (lanes lane : ℕ) (names : List (Option (List ℕ)))
      (kept : List (Option (SvRef Kept))) (seat : LaneSeat P S D C B g)
      : Type 0 where
    pub table : CameWith t seat
    pub rest : IsAtRest (view_of seat)
    pub some : (0 < lanes) × (lanes ≤ 32) × (lanes ≡ (view_of seat).seat.lanes)
    pub number : (lane < 32) × (lane ≡ (view_of seat).known.lane)
    pub handles : HandlesFit names (view_of seat)
    pub pins : PinsFit kept (view_of seat)
