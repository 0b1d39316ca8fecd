-- A put takes the DB lock and gives it.
use Rattle.std.proofs.Common.{Bool, List, None, Result, Some, [], ap, arith, map, refl, subst, suc, sym, zero, ℕ, ◌<◌, ◌∙◌, ◌∷◌, ◌≡◌, ◌≤◌}
use Rattle.std.specs.Prelude.{slice_get, true}
use mathlib.Core.Logic.{dite}
use native.Mathlib.Decide.{dec_le}
use Rattle.sv_borrows.proofs.CurrentRefs.{has-current}
use Rattle.sv_borrows.specs.Desks.{IsAtDesk}
use Rattle.sv_borrows.specs.Lending.{IsFree}
use Rattle.sv_installs.specs.Changing.{changed}
use Rattle.sv_laws.proofs.GrownRegisters.{get_within}
use Rattle.sv_model.proofs.Entries.{get_none, in-none, some}
use Rattle.sv_model.specs.Books.{Books}
use Rattle.sv_model.specs.Lists.{In, at, bit, times}
use Rattle.sv_model.specs.Tasks.{handle, handle_in}
use Rattle.sv_model.specs.Turns.{IsAccounted}
use Rattle.sv_model.specs.declared.refusals.Refusal.{Refusal}
use Rattle.sv_model.specs.declared.writes.Row.{Row}
use Rattle.sv_puts.specs.Locked.{PutsLocked}
use Rattle.sv_puts.specs.Putting.{HasMet, Puts, put_view}
use Rattle.sv_rule.specs.LockPlays.{IsTold, MayGiveDb, gave_db, took_db}
use Rattle.sv_rule.specs.Views.{LaneView, Locks, idle}
use Rattle.sv_slots.proofs.Unchanged.{gives_found}
use Rattle.sv_state.specs.Currents.{OwnHaveCurrents}

bit-at : (hs : List Bool) (l : ℕ) → slice_get hs l ≡ Some true → at 0 (map bit hs) l ≡ 1
bit-at [] l e = absurd (get_none l true e)
bit-at (x ∷ hs) zero e = ap bit (some e)
bit-at (x ∷ hs) (suc l) e = bit-at hs l e

module _ (v : LaneView) (free : IsFree v) (a : Books) (u : LaneView) (took : u ≡ took_db a v) (told : IsTold v a) where
  pub taken-desk : IsAtDesk a [] u
  taken-desk = subst (IsAtDesk a []) (sym took) (record {
    alive = free.alive;
    db = refl;
    cell = ap (λ (k : Locks). k.cell) free.locks;
    own = told.accounted;
  })

  -- the lane has a handle of each family that it means by a name, so that it has a current
  pub own-currents : (l : ℕ) → l ≡ v.known.lane → (name : List ℕ) → OwnHaveCurrents a l name
  own-currents l lane name f x at_f own = has-current a f (told.currents f near has none)
    where
      near : f < 16
      near = omega (arith, get_within a.families f x at_f, told.accounted.lawful.limits.families)

      none : In f v.seat.ends → ⊥
      none h = in-none f (subst (In f) free.ends h)

      one : handle a.families v.known.lane f ≡ 1
      one = ap (handle_in v.known.lane) at_f ∙ ap (λ (k : ℕ). at 0 (map bit x.handles) k) (sym lane)
          ∙ bit-at x.handles l own.handle

      has : 1 ≤ times f v.known.task.handles
      has = dite (dec_le 1 f)
          (λ some. omega (arith, told.accounted.handles f some, one))
          (λ n.
          let first : f ≡ 0 = omega (arith, n) in
          omega (arith, told.accounted.default, ap (λ (k : ℕ). times k v.known.task.handles) first))

  module _ (l : ℕ) (name : List ℕ) (row : Row) (r : Result ℕ Refusal) (b : Books) (w : LaneView)
      (h : PutsLocked l name row r a b u w) where
    pub gives-put : MayGiveDb w b w.known.task
    gives-put = gives_found w (record { books = b; work = idle; due = [] })
        (ap (λ (z : LaneView). z.seat.spent) here ∙ free.alive) (ap (λ (z : LaneView). z.locks.db) h.changes.is) refl refl
        (ap (λ (z : LaneView). z.locks.cell) here ∙ ap (λ (k : Locks). k.cell) free.locks)
        (subst (λ (z : LaneView). IsAccounted z.known.lane b z.known.task) (sym h.changes.is) h.changes.own)
      where
        here : w ≡ changed b h.changes.more h.changes.writes h.changes.seen h.changes.looked h.changes.adds (took_db a v)
        here = h.changes.is
            ∙ ap (changed b h.changes.more h.changes.writes h.changes.seen h.changes.looked h.changes.adds) took

    pub puts : (z : LaneView) → z ≡ gave_db b w.known.task w → Puts l name row r v z
    puts z gave =
        let k = h.changes in record {
          found = a;
          left = b;
          answers = h.answers;
          more = k.more;
          writes = k.writes;
          seen = k.seen;
          looked = k.looked;
          adds = k.adds;
          journal = k.journal;
          rises = λ f. omega (arith, k.rises f, ap (λ (y : LaneView). at 0 y.known.seen f) took);
          met = subst (HasMet l name r a) (ap (λ (y : LaneView). y.known.seen) k.is) h.met;
          is = gave ∙ ap (λ (y : LaneView). gave_db b y.known.task y) k.is
              ∙ ap (λ (y : LaneView). gave_db b y.known.task (changed b k.more k.writes k.seen k.looked k.adds y)) took
              ∙ (λ i. record (put_view a b k.more k.writes k.seen k.looked k.adds v) {
                locks = locks i;
              });
        }
      where
        locks : record v.locks { db = None } ≡ v.locks
        locks = ap (λ (k : Locks). record k { db = None }) free.locks ∙ sym free.locks
