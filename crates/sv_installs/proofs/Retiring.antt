-- All slots are swept, and the reference of the SuperVersion before is dropped and cleaned up.
use Rattle.std.proofs.Common.{List, [], ap, refl, subst, sym, ℕ, ◌<◌, ◌∙◌, ◌∷◌, ◌≡◌, ◌≤◌}
use Rattle.std.specs.Prelude.{Some, false, true}
use Rattle.sv_borrows.specs.Desks.{IsAtDesk, IsCleanedUp, MayGo, at_desk, owed_of}
use Rattle.sv_installs.specs.Sweeping.{BeginsSweep, IsReclaimed, IsTurn, reclaimed}
use Rattle.sv_model.specs.Books.{Books}
use Rattle.sv_model.specs.Lists.{at, same, total}
use Rattle.sv_model.specs.Turns.{IsAccounted}
use Rattle.sv_rule.specs.Blanks.{desk_of}
use Rattle.sv_rule.specs.ReferencePlays.{MayDropAt, learnt}
use Rattle.sv_rule.specs.Sums.{without}
use Rattle.sv_rule.specs.SweepPlays.{works}
use Rattle.sv_rule.specs.Views.{Desk, LaneView, idle, sweeping}
use Rattle.sv_slots.proofs.InstallSweeps.{none-passed, old-dropped, old-held, old-may, without-first}
use Rattle.sv_slots.proofs.Laws.{desk_is_of}
use Rattle.sv_slots.specs.Installs.{IsPassed}
use Rattle.sv_slots.specs.References.{IsDropped}
use Rattle.sv_slots.specs.declared.refs.Sub.{Sub}
use Rattle.sv_slots.specs.declared.refs.Sub.TheVariants.{Last, More}
use Rattle.sv_state.specs.Gone.{IsFree}

module _ (b : Books) (f r : ℕ) (v : LaneView) (h : BeginsSweep b f r v) (some : 0 < v.seat.lanes) where
  abbrev desk : Desk
  desk = record { books = b; work = sweeping f r 0 false 0; due = [] }

  is_desk : desk_of v ≡ desk
  is_desk = desk_is_of v desk h.db

  pub none-swept : IsPassed f r v 0 v
  none-swept = none-passed f r v desk h.db refl some

  pub first-turn : IsTurn f 0 v
  first-turn = record { old = r; from = v; passed = none-swept; left = some; few = h.few }

  module _ (u : LaneView) (all : IsPassed f r v v.seat.lanes u) where
    pub swept-held : (256 ≤ r) × (0 < total (same r) u.hand)
    swept-held = (h.big, old-held f r v u all h.big h.hand h.has)

    pub swept-may : MayDropAt r u.seat.lanes u.hand u.locks.db
    swept-may = old-may f r v u all h.big h.hand h.has

    -- the hand without the reference, and what is owed then
    abbrev rest : List ℕ → LaneView
    rest owes = record (learnt all.0 (works (desk_of v) idle h.hand v)) { owes = owes }

    left-is : (left : Sub) (t : LaneView) → IsDropped r left u t → t ≡ rest (owed_of left)
    left-is More t e = old-dropped f r v u all h.big h.hand h.has false t e ∙ ap rest h.owes
    left-is (Last owed) t e = old-dropped f r v u all h.big h.hand h.has true t e.1
        ∙ (λ i. rest (sym e.0 i ∷ h.owes i))

    left-goes : (left : Sub) (t : LaneView) → IsDropped r left u t → MayGo b left
    left-goes More t e = tt
    left-goes (Last owed) t e = subst (λ (n : ℕ). (256 ≤ n) × IsFree b n) (sym e.0) (h.big, h.goes)

    module _ (left : Sub) (t : LaneView) (drop : IsDropped r left u t) where
      here : t ≡ rest (owed_of left)
      here = left-is left t drop

      pub left-desk : IsAtDesk b [] t
      left-desk = subst (IsAtDesk b []) (sym here) (record {
        alive = h.alive;
        db = ap (λ (d : Desk). Some (record { books = d.books; work = idle; due = d.due })) is_desk;
        cell = h.cell;
        own = h.own;
      })

      pub left-owed : (t.owes ≡ owed_of left) × MayGo b left
      left-owed = (ap (λ (z : LaneView). z.owes) here, left-goes left t drop)

      gone : h.hand ≡ without r v.hand
      gone = sym (ap (without r) h.has ∙ without-first r h.hand)

      pub left-reclaimed : (c : Books) (w : LaneView) → IsCleanedUp b c t w → IsReclaimed r b c v w
      left-reclaimed c w k = (
        k.0,
        subst (λ (z : LaneView). IsAccounted z.known.lane c z.known.task) here k.1,
        (
          all.0,
          k.2.0,
          (λ g. k.2.1 g ∙ ap (λ (z : LaneView). at 0 z.known.seen g) here),
          k.2.2 ∙ ap (λ (z : LaneView). record (at_desk c [] k.2.0 z) { owes = [] }) here
              ∙ (λ i. record (reclaimed r c all.0 k.2.0 v) { hand = gone i }),
        ),
      )
