-- A lane that has the DB lock makes cells vacant.
use Rattle.std.proofs.Common.{Bool, List, None, Option, Some, [], ap, arith, cond, eq-eqb, false, inl, refl, slice_get, subst, suc, sym, true, zero, ℕ, ⊎_elim, ◌++◌, ◌+◌, ◌==◌, ◌∙◌, ◌∷◌, ◌≡◌}
use Rattle.std.specs.Prelude.{not}
use Rattle.sv_borrows.specs.Desks.{AreAlike, GoesOn, IsAtDesk, Vacates, at_desk, due_at}
use Rattle.sv_borrows.proofs.Alike.{alike-itself, raised-none}
use Rattle.sv_model.specs.Books.{Books}
use Rattle.sv_model.specs.Cells.{Cell}
use Rattle.sv_model.specs.Lists.{Every, In, at}
use Rattle.sv_model.proofs.Entries.{get_none, get_one, in-none, in_append, some}
use Rattle.sv_rule.proofs.Basics.{append_none, true_not}
use Rattle.sv_rule.specs.Blanks.{desk_of}
use Rattle.sv_rule.specs.Held.{Free, is_vacant}
use Rattle.sv_rule.specs.LockPlays.{MayWriteCell, raised, read_of, takings, took_cell, without_cell, wrote_cell}
use Rattle.sv_rule.specs.Views.{Desk, LaneView, RowsRead, idle}
use Rattle.sv_rule.proofs.TurnsSame.{stands-same}
use Rattle.sv_slots.proofs.Laws.{desk_is_of}
use Rattle.sv_slots.proofs.Unchanged.{still-turns}

module _ (b : Books) (due : List ℕ) (v : LaneView) (at_d : IsAtDesk b due v) where
  abbrev pub desk : Desk
  desk = record { books = b; work = idle; due = due }

  pub is_desk : desk_of v ≡ desk
  is_desk = desk_is_of v desk at_d.db

  -- with the DB lock a taking of a cell tells nothing of its rows, and is not counted
  pub took-locked : (c : ℕ) (x : Option Cell) → took_cell c x v ≡ record v {
    locks = record v.locks { cell = Some (record { number = c; found = x }) };
  }
  took-locked c x =
      let none : read_of v.locks.db v.known.bodies v.known.seen x ≡ [] = ap (λ (o : Option Desk). read_of o v.known.bodies v.known.seen x) at_d.db in
      let rows : v.known.rows ++ read_of v.locks.db v.known.bodies v.known.seen x ≡ v.known.rows
      = ap (λ (l : List RowsRead). v.known.rows ++ l) none ∙ sym (append_none v.known.rows) in
      let takes : v.counts.takes + takings v.locks.db ≡ v.counts.takes = omega (arith, ap takings at_d.db) in
      λ i. record v {
        locks = record v.locks { cell = Some (record { number = c; found = x }) };
        known = record v.known { rows = rows i };
        counts = record v.counts { takes = takes i };
      }

  module _ (c : ℕ) (x : Option Cell) (u : LaneView) (took : u ≡ took_cell c x v) where
    pub may-vacate : Free b.memtables c → MayWriteCell u c b u.known.task [] None 0 0
    may-vacate free = subst (λ (z : LaneView). MayWriteCell z c b z.known.task [] None 0 0) (sym (took ∙ took-locked c x)) (record {
      alive = at_d.alive;
      desk = desk;
      has = at_d.db;
      found = x;
      cell = refl;
      turns = still-turns v.known.lane b v.known.task at_d.own;
      stands = stands-same b;
      more_is = inl refl;
      says = is_vacant free refl;
      seen = omega arith;
    })

    pub vacated : (w : LaneView) → w ≡ wrote_cell (desk_of u) c b u.known.task [] 0 0 u → Vacates b c v w
    vacated w wrote =
        let s = raised v.known.seen 0 0 in
        let here : u ≡ record v { locks = record v.locks { cell = Some (record { number = c; found = x }) } } = took ∙ took-locked c x in
        let d : desk_of u ≡ desk = ap desk_of here ∙ is_desk in
        let mine : v.known.mine ++ [] ≡ v.known.mine = sym (append_none v.known.mine) in
        let bare : Some (record { books = b; work = idle; due = without_cell c due }) ≡ Some (record { books = b; work = idle; due = without_cell c (due_at v) })
        = ap (λ (k : Desk). Some (record { books = b; work = idle; due = without_cell c k.due })) (sym is_desk) in (
          s,
          raised-none v.known.seen,
          wrote ∙ (λ i. wrote_cell (d i) c b (here i).known.task [] 0 0 (here i))
              ∙ (λ i. record v {
                locks = record v.locks { db = bare i; cell = sym at_d.cell i };
                known = record v.known { mine = mine i; seen = s };
              }),
        )

-- ---- one after the other

-- what is due without c lies in the cells before c
due-rest : (c : ℕ) (cells due : List ℕ) → Every (λ k. In k (cells ++ c ∷ [])) due
    → Every (λ k. In k cells) (without_cell c due)
due-rest c cells [] h = λ i k e. absurd (get_none i k e)
due-rest c cells (x ∷ due) h = one (x == c) refl (due-rest c cells due (λ i k e. h (suc i) k e))
  where
    one : (q : Bool) → (x == c) ≡ q → Every (λ k. In k cells) (without_cell c due)
        → Every (λ k. In k cells) (cond (not q) (x ∷ without_cell c due) (without_cell c due))
    one true e rest = rest
    one false e rest = λ i k g. first i k g
      where
        ne : x ≡ c → ⊥
        ne q = true_not (sym (eq-eqb x c q) ∙ e)

        in_one : In x (c ∷ []) → x ≡ c
        in_one m = (get_one c m.at x m.is).1

        first : (i k : ℕ) → slice_get (x ∷ without_cell c due) i ≡ Some k → In k cells
        first zero k g = subst (λ z. In z cells) (some g)
            (⊎_elim (λ m. m) (λ (m : In x (c ∷ [])). absurd (ne (in_one m))) (in_append x cells (c ∷ []) (h 0 x refl)))
        first (suc i) k g = rest i k g

-- some cells were made vacant, and those that are due are left
pub record IsVacating (b : Books) (v : LaneView) (cells : List ℕ) (u : LaneView) : Type 0 where
  pub due : List ℕ
  pub seen : List ℕ
  pub alike : AreAlike seen v.known.seen
  pub left : Every (λ c. In c cells) due
  pub is : u ≡ at_desk b due seen v

module _ (b : Books) (v : LaneView) (at_d : IsAtDesk b (due_at v) v) where
  pub begins-vacating : (cells : List ℕ) → Every (λ c. In c cells) (due_at v) → IsVacating b v cells v
  begins-vacating cells left = record {
    due = due_at v;
    seen = v.known.seen;
    alike = alike-itself v.known.seen;
    left = left;
    is = λ i. record v { locks = record v.locks { db = at_d.db i } };
  }

  module _ (cells : List ℕ) (u : LaneView) (h : IsVacating b v cells u) where
    pub vacating-desk : IsAtDesk b (due_at u) u
    vacating-desk = subst (λ (z : LaneView). IsAtDesk b (due_at z) z) (sym h.is) (record {
      alive = at_d.alive;
      db = refl;
      cell = at_d.cell;
      own = at_d.own;
    })

    pub goes-on-vacating : (rest : List ℕ) (c : ℕ) → cells ≡ rest ++ c ∷ [] → (w : LaneView) → Vacates b c u w
        → IsVacating b v rest w
    goes-on-vacating rest c e w k = record {
      due = without_cell c h.due;
      seen = k.0;
      alike = λ f. k.1 f ∙ ap (λ (z : LaneView). at 0 z.known.seen f) h.is ∙ h.alike f;
      left = due-rest c rest h.due (λ i n d. subst (In n) e (h.left i n d));
      is = k.2 ∙ (λ i. at_desk b (without_cell c (due_at (h.is i))) k.0 (h.is i));
    }

  pub ends-vacating : (u : LaneView) → IsVacating b v [] u → GoesOn b [] v u
  ends-vacating u h = (h.seen, h.alike, h.is ∙ ap (λ d. at_desk b d h.seen v) (none h.due h.left))
    where
      none : (l : List ℕ) → Every (λ c. In c []) l → l ≡ []
      none [] k = refl
      none (x ∷ l) k = absurd (in-none x (k 0 x refl))
