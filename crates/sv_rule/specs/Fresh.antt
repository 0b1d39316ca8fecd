-- What a lane borrowed, cached or looked at is no newer than the number word, and shows what the lane saw.
use Rattle.std.specs.Prelude.{◌≡◌, ◌≢◌, ℕ, ◌/◌, ◌<◌, ◌≤◌, List}
use Rattle.sv_model.specs.Books.{Books}
use Rattle.sv_model.specs.Supers.{IsPackOf, current_of, writes, end_at}
use Rattle.sv_model.specs.Lists.{at}
use Rattle.sv_rule.specs.Views.{LaneView, SlotView, away, held, borrow}
use Rattle.sv_rule.specs.Sums.{Each}
use Rattle.sv_rule.specs.Table.{slot_of}
use Rattle.sv_rule.specs.Sweep.{pack_of}

-- p is the pack of a SuperVersion of family f that is not after the number word n
pub record Past (b : Books) (n f p : ℕ) : Type 0 where
  pub is : IsPackOf b.supers f p
  pub below : 0 < n → p / 256 ≤ n / 256
  pub none : n ≡ 0 → p ≢ current_of b f

abbrev pub floor_of : SlotView → ℕ
floor_of away = 0
floor_of (held p) = 0
floor_of (borrow p n) = n

-- a lane's slot x, what it cached, the pack that it looked at last, and how far it saw
pub record FreshOf (b : Books) (n f : ℕ) (x : SlotView) (c p seen : ℕ) : Type 0 where
  pub slot : 256 ≤ pack_of x → Past b n f (pack_of x)
  pub cached : 256 ≤ c → Past b n f c
  pub looked : 256 ≤ p → Past b n f p
  -- a borrow ends at its floor or after it
  pub floor : floor_of x ≤ end_at b (pack_of x)
  pub seen_is : seen ≤ writes b.journal f

abbrev pub FreshIn : Books → (ℕ → ℕ) → LaneView → Type 0
FreshIn b number v =
    (f : ℕ) → f < 16 → FreshOf b (number f) f (slot_of v f) (at 0 v.slots.cached f) (at 0 v.slots.looked f)
    (at 0 v.known.seen f)

abbrev pub Fresh : Books → (ℕ → ℕ) → List LaneView → Type 0
Fresh b number vs = Each (λ j v. FreshIn b number v) vs
