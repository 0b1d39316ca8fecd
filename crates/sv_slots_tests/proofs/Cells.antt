-- Cells that are numbered from 0 are those of an opening.
use Rattle.std.proofs.Common.{List, None, Some, [], ap, arith, length, refl, subst, suc, sym, zero, ℕ, ◌++◌, ◌<◌, ◌∙◌, ◌∷◌, ◌≡◌, ◌≤◌, ⊎_elim}
use Rattle.std.specs.Prelude.{slice_get}
use Rattle.sv_slots.proofs.Rows.{get-last}
use Rattle.sv_slots.specs.Openings.{FirstCells}
use Rattle.sv_slots_tests.specs.World.{cell_at}
use Rattle.sv_slots_tests.specs.declared.world.Place.{Place}

abbrev pub AreNumbered : List Place → Type 0
AreNumbered cells = (i : ℕ) (y : Place) → slice_get cells i ≡ Some y → y.number ≡ i

pub numbered_push : (cells all : List Place) (x : Place) → AreNumbered cells → x.number ≡ length cells
    → all ≡ cells ++ x ∷ [] → AreNumbered all
numbered_push cells all x are is e = subst AreNumbered (sym e)
    (λ i y at. ⊎_elim (λ (old : slice_get cells i ≡ Some y). are i y old)
    (λ (new : (y ≡ x) × (i ≡ length cells)). ap (λ (z : Place). z.number) new.0 ∙ (is ∙ sym new.1))
    (get-last cells x i y at))

pub first_cells : (cells : List Place) → length cells ≡ 64 → AreNumbered cells
    → FirstCells (λ (place : Place). cell_at place.number) 4 cells
first_cells cells count are = record {
  count = count;
  has = λ c y e low. ap cell_at (are c y e) ∙ below c low;
  vacant = λ c y e high. ap cell_at (are c y e) ∙ above c high;
}
  where
    below : (c : ℕ) → c < 4 → cell_at c ≡ Some (record { id = suc c; rows = [] })
    below zero low = refl
    below (suc zero) low = refl
    below (suc (suc zero)) low = refl
    below (suc (suc (suc zero))) low = refl
    below (suc (suc (suc (suc c)))) low = absurd (omega (arith, low))

    above : (c : ℕ) → 4 ≤ c → cell_at c ≡ None
    above zero high = absurd (omega (arith, high))
    above (suc zero) high = absurd (omega (arith, high))
    above (suc (suc zero)) high = absurd (omega (arith, high))
    above (suc (suc (suc zero))) high = absurd (omega (arith, high))
    above (suc (suc (suc (suc c)))) high = refl
