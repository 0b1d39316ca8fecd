-- The books, the cells and the seats of a database that is new.
use Rattle.std.proofs.Common.{List, None, Option, Some, [], ap, arith, length, refl, subst, suc, sym, zero, ℕ, ⊎_elim, ◌++◌, ◌<◌, ◌∙◌, ◌∷◌, ◌≡◌, ◌≤◌}
use Rattle.std.specs.Prelude.{slice_get}
use Rattle.sv_borrows.specs.Lending.{IsAtRest}
use Rattle.sv_laws.proofs.Opened.{first-opening}
use Rattle.sv_model.proofs.Entries.{get_none, some}
use Rattle.sv_model.specs.Books.{Books}
use Rattle.sv_model.specs.Cells.{Cell}
use Rattle.sv_model.specs.Openings.{opening_books}
use Rattle.sv_model.specs.Steady.{Sound}
use Rattle.sv_rule.specs.Begins.{FirstBooks}
use Rattle.sv_rule.specs.Views.{Disk, Start}
use Rattle.sv_rule_seats.proofs.NewBooks.{new-books}
use Rattle.sv_slots.proofs.Rows.{get-last}
use Rattle.sv_slots.specs.Openings.{FirstCells, opened_view}

pub first-books : (b : Books) (next : ℕ) (d : Disk) → b ≡ opening_books next → Sound b → 1 ≤ next
    → (1 ≡ length b.families) × FirstBooks b d
first-books b next d is sound least = (
  sym (ap (λ (z : Books). length z.families) is),
  subst (λ z. FirstBooks z d) (sym is) (new-books next d (first-opening next least now.lawful.numbers.most) now.lawful),
)
  where
    now : Sound (opening_books next)
    now = subst Sound is sound

-- ---- cells

-- what lies in a cell
abbrev pub first_at : ℕ → Option Cell
first_at zero = Some (record { id = 1; rows = [] })
first_at (suc c) = None

-- the cells that were made so far
abbrev pub AreFirst : List (Option Cell) → Type 0
AreFirst cells = (c : ℕ) (y : Option Cell) → slice_get cells c ≡ Some y → y ≡ first_at c

pub first-one : (none all : List (Option Cell)) (y : Option Cell) → none ≡ [] → y ≡ Some (record { id = 1; rows = [] })
    → all ≡ none ++ y ∷ [] → AreFirst all
first-one none all y before is e = subst AreFirst (sym (e ∙ ap (λ l. l ++ y ∷ []) before)) one
  where
    one : AreFirst (y ∷ [])
    one zero z at = sym (some at) ∙ is
    one (suc c) z at = absurd (get_none c z at)

pub first-more : (cells all : List (Option Cell)) (y : Option Cell) → AreFirst cells → 1 ≤ length cells → y ≡ None
    → all ≡ cells ++ y ∷ [] → AreFirst all
first-more cells all y are some is e = subst AreFirst (sym e)
    (λ c z at. ⊎_elim (λ (old : slice_get cells c ≡ Some z). are c z old)
    (λ (new : (z ≡ y) × (c ≡ length cells)). more c z new.0 new.1) (get-last cells y c z at))
  where
    more : (c : ℕ) (z : Option Cell) → z ≡ y → c ≡ length cells → z ≡ first_at c
    more zero z e n = absurd (omega (arith, n, some))
    more (suc c) z e n = e ∙ is

pub are-first : (cells : List (Option Cell)) → length cells ≡ 64 → AreFirst cells → FirstCells (λ slot. slot) 1 cells
are-first cells count are = record {
  count = count;
  has = λ c y at low. are c y at ∙ has c low;
  vacant = λ c y at high. are c y at ∙ vacant c high;
}
  where
    has : (c : ℕ) → c < 1 → first_at c ≡ Some (record { id = suc c; rows = [] })
    has zero low = refl
    has (suc c) low = absurd (omega (arith, low))

    vacant : (c : ℕ) → 1 ≤ c → first_at c ≡ None
    vacant zero high = absurd (omega (arith, high))
    vacant (suc c) high = refl

-- ---- seats

pub opened-rests : (lanes : ℕ) (start : Start) (lane : ℕ) → IsAtRest (opened_view lanes start lane)
opened-rests lanes start zero = record {
  free = record { alive = refl; locks = refl; ends = refl; few = omega arith };
  owes = refl;
  away_all = λ f. refl;
}
opened-rests lanes start (suc lane) = record {
  free = record { alive = refl; locks = refl; ends = refl; few = omega arith };
  owes = refl;
  away_all = λ f. refl;
}
