-- What a clause says of a lane's seat.
use Rattle.std.specs.Prelude.{◌∷◌, ◌≡◌, ℕ, ◌<◌, false, List, Some}
use Rattle.atomic_table.specs.Table.{rest}
use Rattle.atomic_table.specs.Seated.{TableId}
use Rattle.sv_model.specs.Lists.{In}
use Rattle.sv_model.specs.declared.sv_refs.SvRef.{SvRef}
use Rattle.sv_rule.specs.Views.{Bodied, Body, Desk, LaneView, borrow}
use Rattle.sv_rule.specs.Table.{slot_of, slot_home, spot}
use Rattle.sv_rule.specs.declared.parts.Stored.{Stored}
use Rattle.sv_rule.specs.declared.parts.Stored.TheVariants as is

-- the table of a database
pub record IsSized (t : TableId) : Type 0 where
  pub words : t.words ≡ 851
  pub slots : t.slots ≡ 578

-- the seat is a lane's, with this number
pub record IsLane (v : LaneView) (lane : ℕ) : Type 0 where
  pub alive : v.seat.spent ≡ false
  pub lane_is : v.known.lane ≡ lane
  pub low : lane < 32

-- the lane has the DB lock, with such a desk
abbrev pub HasDesk : LaneView → (Desk → Type 0) → Type 0
HasDesk v P = (d : Desk) × (v.locks.db ≡ Some d) × P d

-- a reference as views know it
abbrev pub bodied : {B : Type 0} → (B → Body) → SvRef B → Bodied
bodied body x = record { pack = x.pack; body = body x.body.value }

-- the lane has a borrow of the family, of this SuperVersion
abbrev pub Lends : LaneView → ℕ → ℕ → Type 0
Lends v family pack = (floor : ℕ) × (slot_of v family ≡ borrow pack floor)

module _ {S D C B : Type 0} where
  -- the slot of the family was taken last, and the reference lies there
  abbrev pub CarriesRef : (B → Body) → LaneView → ℕ → ℕ → ℕ → List (ℕ × Stored S D C B) → Type 0
  CarriesRef body v lane family pack carried =
      (more : List (ℕ × Stored S D C B)) × (r : SvRef B) × (r.pack ≡ pack) × In (bodied body r) v.known.bodies
      × (carried ≡ (slot_home (spot lane family), is.Cached r) ∷ more)

  -- the same, and nothing lies there
  abbrev pub CarriesNothing : ℕ → ℕ → List (ℕ × Stored S D C B) → Type 0
  CarriesNothing lane family carried =
      (more : List (ℕ × Stored S D C B)) × (carried ≡ (slot_home (spot lane family), is.Nothing) ∷ more)

  -- the slot was taken last, and nothing lies there
  abbrev pub CarriesAt : ℕ → List (ℕ × Stored S D C B) → List (ℕ × Stored S D C B) → Type 0
  CarriesAt slot more carried = carried ≡ (slot, is.Nothing) ∷ more

  abbrev pub StartsAt : ℕ → List (ℕ × Stored S D C B) → Type 0
  StartsAt slot carried = carried ≡ (slot, is.Nothing) ∷ rest carried
