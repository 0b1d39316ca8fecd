-- Who has a slot, and what it names.
use Rattle.std.specs.Prelude.{◌≡◌, ℕ, ◌+◌, ◌<◌, ◌≤◌, List, Some}
use Rattle.sv_rule.specs.Views.{LaneView, SlotView, away, held, borrow, Desk, Work}
use Rattle.sv_rule.specs.Sums.{Each}
use Rattle.sv_rule.specs.Table.{spot, slot_at, cached_at}
use Rattle.sv_rule.specs.UnderWay.{fit, middle, Apart, Stock}

abbrev pub lent : SlotView → ℕ
lent away = 0
lent (held p) = 1
lent (borrow p n) = 1

abbrev pub pack_of : SlotView → ℕ
pack_of away = 0
pack_of (held p) = p
pack_of (borrow p n) = p

-- A slot word w, where its lane has the slot as x and cached c, the number word is n, the slot may name the pack
-- `fits`, and the sweep is in the middle of it `mid` times. Who is out with the slot is one of the two.
pub record Right (fits mid w n c : ℕ) (x : SlotView) : Type 0 where
  pub empty : w ≡ 0 → lent x + mid ≡ 0
  pub full : 256 ≤ w → lent x + mid ≡ 0
  pub out : 0 < w → w < 256 → lent x + mid ≡ 1
  -- a pack at home is what the lane cached
  pub cached : 256 ≤ w → w ≡ c
  pub fitting : 256 ≤ w → w ≡ fits
  pub used : w ≡ 1 → 256 ≤ pack_of x → pack_of x ≡ fits
  -- what is cached and current is at home
  pub away : lent x ≡ 0 → 256 ≤ c → c ≡ n → w ≡ n
  pub none : 0 < lent x → c ≡ 0

abbrev pub Rights : Work → (ℕ → ℕ) → (ℕ → ℕ) → List LaneView → Type 0
Rights work number slot vs =
    (l f : ℕ) → l < 32 → f < 16 → Right (fit work f l (number f)) (middle (spot l f) work) (slot (spot l f))
    (number f) (cached_at vs l f) (slot_at vs l f)

pub record Sweep (work : Work) (number slot : ℕ → ℕ) (vs : List LaneView) : Type 0 where
  pub right : Rights work number slot vs
  pub apart : Apart number work
  pub stock : Each (λ j v. (k : Desk) → v.locks.db ≡ Some k → Stock k.books k.work v.hand) vs
