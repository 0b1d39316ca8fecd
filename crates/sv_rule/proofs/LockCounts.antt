-- What a lane's locks count for.
use Rattle.std.proofs.Common.{List, None, Option, Some, ap, arith, option_map, refl, ℕ, ◌∙◌, ◌≡◌, ◌≤◌}
use Rattle.sv_rule.specs.Tasks.{cell_count, due_count, due_of, dues, fill_count, fills, has_cell, has_db, some_count}
use Rattle.sv_rule.specs.Views.{CellHeld, Desk, LaneView}
use Rattle.sv_model.specs.Lists.{same, times}
use Rattle.sv_rule.proofs.Basics.{no_db, some_is}
use Rattle.sv_model.specs.Cells.{Cell}
use Rattle.sv_rule.proofs.Sums.{same_one}

pub fills_none : (v : LaneView) → v.locks.cell ≡ None → (k : ℕ) → fills k v ≡ 0
fills_none v e k = ap (λ h. fill_count k (due_of v) h) e ∙ by (due_of v)
  where
    by : (o : Option (List ℕ)) → fill_count k o None ≡ 0
    by None = refl
    by (Some d) = refl

-- whoever is to fill a cell has its lock
pub fills_le : (c : ℕ) (v : LaneView) → fills c v ≤ has_cell c v
fills_le c v = by (due_of v) v.locks.cell
  where
    by : (d : Option (List ℕ)) (h : Option CellHeld) → fill_count c d h ≤ cell_count c h
    by None None = omega arith
    by None (Some h) = omega arith
    by (Some d) None = omega arith
    by (Some d) (Some h) = omega arith

pub dues_none : (c : ℕ) (v : LaneView) → has_db v ≡ 0 → dues c v ≡ 0
dues_none c v z = ap (λ (o : Option Desk). due_count c (option_map (λ (d : Desk). d.due) o)) (no_db v z)

pub dues_is : (c : ℕ) (v : LaneView) (d : Desk) → v.locks.db ≡ Some d → dues c v ≡ times c d.due
dues_is c v d e = ap (λ (o : Option Desk). due_count c (option_map (λ (k : Desk). k.due) o)) e

pub held_is : (x y : CellHeld) → Some x ≡ Some y → x ≡ y
held_is x y e = some_is e

pub no_held : (h : CellHeld) → None ≡ Some h → ⊥
no_held h e = cc

pub db_none : (v : LaneView) → v.locks.db ≡ None → has_db v ≡ 0
db_none v e = ap (λ (o : Option Desk). some_count o) e

pub cell_one : (c : ℕ) (v : LaneView) (x : Option Cell) → v.locks.cell ≡ Some (record { number = c; found = x })
    → has_cell c v ≡ 1
cell_one c v x e = ap (cell_count c) e ∙ same_one c c refl

-- the cell that a lane has is the lock that it has
pub cell_at : (c : ℕ) (v : LaneView) (h : CellHeld) → v.locks.cell ≡ Some h → has_cell c v ≡ same c h.number
cell_at c v h e = ap (cell_count c) e
