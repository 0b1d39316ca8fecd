-- The slots that a lane carries, and which of them its view has out.
use Rattle.std.specs.Prelude.{◌≡◌, ◌≤◌, ◌+◌, ◌==◌, ℕ, suc, cond, List, [], ◌∷◌, ◌++◌, Option, Some, None, length}
use Rattle.sv_model.specs.Lists.{same, times, total}
use Rattle.sv_rule.specs.Sweep.{lent}
use Rattle.sv_rule.specs.Table.{cell_word, slot_home, slot_of, spot}
use Rattle.sv_rule.specs.Tasks.{some_count}
use Rattle.sv_rule.specs.Views.{CellHeld, LaneView, SlotView, away, borrow, held}
use Rattle.sv_rule.specs.declared.parts.Stored.{Stored}
use Rattle.sv_rule.specs.declared.parts.Stored.TheVariants as is

module _ {S D C B : Type 0} where
  -- the slots that are out with the lane, the one taken last first, with nothing lying there
  abbrev pub nothings : List ℕ → List (ℕ × Stored S D C B)
  nothings [] = []
  nothings (k ∷ ks) = (k, is.Nothing) ∷ nothings ks

-- the first goes behind the others
abbrev pub rotated : List ℕ → List ℕ
rotated [] = []
rotated (x ∷ xs) = xs ++ x ∷ []

-- how many lie before k
abbrev pub ahead : ℕ → List ℕ → ℕ
ahead k [] = 0
ahead k (x ∷ xs) = cond (x == k) 0 (suc (ahead k xs))

-- ---- how often a view has slot k out

abbrev pub out_lock : {A : Type 0} → ℕ → ℕ → Option A → ℕ
out_lock k i None = 0
out_lock k i (Some _) = same k i

abbrev pub out_cell : ℕ → Option CellHeld → ℕ
out_cell k None = 0
out_cell k (Some h) = same k (cell_word h.number)

abbrev pub out_slot : ℕ → ℕ → SlotView → ℕ
out_slot k i away = 0
out_slot k i (held p) = same k i
out_slot k i (borrow p n) = same k i

-- the lane's slots, from slot i on
abbrev pub out_slots : ℕ → ℕ → List SlotView → ℕ
out_slots k i [] = 0
out_slots k i (x ∷ xs) = out_slot k i x + out_slots k (suc i) xs

abbrev pub out_of : ℕ → LaneView → ℕ
out_of k v = out_lock k 0 v.locks.db + out_lock k 1 v.locks.dir + out_cell k v.locks.cell
    + out_slots k (slot_home (spot v.known.lane 0)) v.slots.slot

abbrev pub many_out : LaneView → ℕ
many_out v = some_count v.locks.db + some_count v.locks.dir + some_count v.locks.cell + total lent v.slots.slot

-- A lane carries just the slots that its view has out, and nothing lies there.
pub record Carries {S D C B : Type 0} (v : LaneView) (carried : List (ℕ × Stored S D C B)) (out : List ℕ) : Type
    0 where
  pub stands : carried ≡ nothings out
  pub each : (k : ℕ) → times k out ≡ out_of k v
  pub many : length out ≡ many_out v
  pub few : length v.slots.slot ≤ 16
  -- between calls it has no slot in hand but for a borrow
  pub none_held : (f p : ℕ) → slot_of v f ≡ held p → ⊥
