-- A lane gives up what its slots cache, and rests.
use Rattle.std.proofs.Common.{None, [], ap, arith, length, refl, subst, sym, ℕ, ◌<◌, ◌∙◌, ◌∷◌, ◌≡◌, ◌≤◌}
use Rattle.sv_borrows.specs.Grown.{Grows}
use Rattle.sv_borrows.specs.Lending.{IsAtRest, IsFree, MayLend}
use Rattle.sv_model.specs.Books.{Books}
use Rattle.sv_model.specs.Lists.{at, times}
use Rattle.sv_model.proofs.AfterLaws.{continues-itself}
use Rattle.sv_rests.specs.Resting.{AreEmptied, Rests, RestsTo, rested_view, resting_view}
use Rattle.sv_rule.specs.Blanks.{desk_of}
use Rattle.sv_rule.specs.LockPlays.{IsTold, MayGiveDb, gave_db, took_db}
use Rattle.sv_rule.specs.Table.{slot_of}
use Rattle.sv_rule.specs.Views.{LaneView, Locks, away, idle}
use Rattle.sv_slots.specs.Seats.{HasDesk}
use Rattle.sv_slots.proofs.Unchanged.{gives_found}

-- ---- the call

module _ (v : LaneView) (free : IsFree v) (a : Books) (u : LaneView) (took : u ≡ took_db a v) (told : IsTold v a) where
  pub rest-desk : HasDesk u (λ d. d.work ≡ idle)
  rest-desk = (record { books = a; work = idle; due = [] }, ap (λ (z : LaneView). z.locks.db) took, refl)

  pub rest-away : ((f : ℕ) → f < 16 → slot_of v f ≡ away) → (f : ℕ) → f < 16 → slot_of u f ≡ away
  rest-away was f near = ap (λ (z : LaneView). slot_of z f) took ∙ was f near

  pub rest-room : length u.hand < 65500
  rest-room = subst (λ (z : LaneView). length z.hand < 65500) (sym took) free.few

  module _ (n : ℕ) (x : LaneView) (h : RestsTo 16 n u x) where
    is_resting : x ≡ resting_view h.more h.slots (took_db a v)
    is_resting = h.is ∙ ap (resting_view h.more h.slots) took

    pub rest-gives : MayGiveDb x a x.known.task
    rest-gives = subst (λ (z : LaneView). MayGiveDb z a z.known.task) (sym is_resting)
        (gives_found (resting_view h.more h.slots (took_db a v)) (record { books = a; work = idle; due = [] }) free.alive
        refl refl refl (ap (λ (k : Locks). k.cell) free.locks) told.accounted)

    pub rest-is : (w : LaneView) → w ≡ gave_db a x.known.task x → Rests n v w
    rest-is w gave = record {
      found = a;
      more = h.more;
      slots = h.slots;
      is = gave ∙ (λ i. gave_db a (is_resting i).known.task (is_resting i))
          ∙ ap (λ (k : Locks). record (rested_view a h.more h.slots v) { locks = k })
          (ap (λ (k : Locks). record k { db = None }) free.locks ∙ sym free.locks);
      emptied = subst (λ (z : LaneView). AreEmptied 16 (desk_of z).books h.more z.slots h.slots) took h.emptied;
      counted = h.counted;
      bodies = h.bodies;
    }

-- ---- what a rest keeps

module _ (n : ℕ) (v w : LaneView) (h : Rests n v w) where
  -- the lane learnt more, and changed nothing of its own
  pub rests-grows : Grows v.known w.known
  rests-grows = subst (λ (z : LaneView). Grows v.known z.known) (sym h.is) (record {
    base = refl;
    found = (h.found ∷ [], refl);
    left = (h.found ∷ [], refl);
    bodies = (h.more, refl);
    rows = continues-itself v.known.rows;
    reads = continues-itself v.known.reads;
    seen = λ f. omega arith;
  })

  pub rests-slot : (f : ℕ) → slot_of w f ≡ slot_of v f
  rests-slot f = ap (λ (z : LaneView). slot_of z f) h.is ∙ h.emptied.slot f

  pub rests-hand : w.hand ≡ v.hand
  rests-hand = ap (λ (z : LaneView). z.hand) h.is

  pub rests-cached : (f : ℕ) → f < 16 → at 0 w.slots.cached f ≡ 0
  rests-cached f near = ap (λ (z : LaneView). at 0 z.slots.cached f) h.is ∙ h.emptied.emptied f near

  -- it is between two calls still, and ready for the next
  pub rests-at-rest : IsAtRest v → IsAtRest w
  rests-at-rest was = record {
    free = subst (λ (z : LaneView). IsFree z) (sym h.is) (record {
      alive = was.free.alive;
      locks = was.free.locks;
      ends = was.free.ends;
      few = was.free.few;
    });
    owes = ap (λ (z : LaneView). z.owes) h.is ∙ was.owes;
    away_all = λ f. rests-slot f ∙ was.away_all f;
  }

  pub rests-lends : (f : ℕ) → MayLend f v → MayLend f w
  rests-lends f lend = (
    lend.0,
    subst (λ (z : LaneView). 1 ≤ times f z.known.task.handles) (sym h.is) lend.1,
    rests-slot f ∙ lend.2,
  )
