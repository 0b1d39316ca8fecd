-- What a lane keeps through its calls.
use Rattle.std.proofs.Common.{List, Option, [], ap, arith, length, refl, subst, sym, ℕ, ◌++◌, ◌<◌, ◌∙◌, ◌∷◌, ◌≡◌, ◌≤◌}
use Rattle.std.specs.Prelude.{Result}
use mathlib.Core.Logic.{dite}
use native.Mathlib.Decide.{ℕ_discrete}
use Rattle.atomic_table.specs.Seated.{TableId}
use Rattle.sv_borrows.specs.Grown.{Grows}
use Rattle.sv_borrows.specs.Lending.{Drops, IsAtRest, MayLend, less}
use Rattle.sv_borrows.proofs.Growing.{Base, grows-fits, in-front}
use Rattle.sv_db.specs.Handles.{IsHandleOf}
use Rattle.sv_db.specs.Locals.{HandlesFit, IsLocal, IsPinned, PinsFit, has_name, pinned}
use Rattle.sv_db.specs.Named.{Asks, asked_view}
use Rattle.sv_gets.specs.Getting.{Goes}
use Rattle.sv_gets.specs.Reading.{Reads}
use Rattle.sv_model.specs.After.{Continues}
use Rattle.sv_model.specs.Books.{Books}
use Rattle.sv_model.specs.Journal.{by_lane}
use Rattle.sv_model.specs.Lists.{at, times}
use Rattle.sv_model.specs.declared.refusals.Refusal.{Refusal}
use Rattle.sv_model.specs.declared.sv_refs.SvRef.{SvRef}
use Rattle.sv_model.specs.declared.writes.Row.{Row}
use Rattle.sv_model.specs.declared.writes.Write.{Write}
use Rattle.sv_model.proofs.AfterLaws.{continues-itself, continues-through}
use Rattle.sv_objects.specs.declared.bodies.Body.{Body as Kept}
use Rattle.sv_handles.specs.Handling.{turned_view}
use Rattle.sv_puts.specs.Putting.{Puts, put_view}
use Rattle.sv_rests.specs.Resting.{Rests, rested_view}
use Rattle.sv_rule.specs.Fits.{Fits}
use Rattle.sv_rule.specs.Table.{slot_of}
use Rattle.sv_rule.specs.Views.{Bodied, Known, LaneView, Seat, Slots, away}
use Rattle.sv_rule.specs.declared.parts.Parts.{Ghosts}
use Rattle.sv_slots.specs.Known.{IsSameSeat, view_of}
use Rattle.sv_slots.specs.declared.table.LaneSeat.{LaneSeat}

-- The lane has its seat and no locks or borrows as before, and forgot nothing.
pub record Carries (v w : LaneView) : Type 0 where
  pub seat : w.seat ≡ v.seat
  pub locks : w.locks ≡ v.locks
  pub away : (f : ℕ) → slot_of v f ≡ away → slot_of w f ≡ away
  pub owes : w.owes ≡ v.owes
  pub lane : w.known.lane ≡ v.known.lane
  pub bodies : Continues v.known.bodies w.known.bodies
  pub fits : (b : Books) → Fits b w.known → Fits b v.known

-- so it has its handles
pub record Keeps (v w : LaneView) : Type 0 where
  pub carries : Carries v w
  pub handles : w.known.task.handles ≡ v.known.task.handles

module _ (v w : LaneView) (k : Carries v w) where
  pub still-rests : length w.hand < 65500 → IsAtRest v → IsAtRest w
  still-rests few rest = record {
    free = record {
      alive = ap (λ (s : Seat). s.spent) k.seat ∙ rest.free.alive;
      locks = k.locks ∙ rest.free.locks;
      ends = ap (λ (s : Seat). s.ends) k.seat ∙ rest.free.ends;
      few = few;
    };
    owes = k.owes ∙ rest.owes;
    away_all = λ f. k.away f (rest.away_all f);
  }

  pub still-handles : (names : List (Option (List ℕ))) → w.known.task.handles ≡ v.known.task.handles → HandlesFit names v
      → HandlesFit names w
  still-handles names same h = record {
    long = h.long;
    count = λ f near. ap (times f) same ∙ h.count f near;
    named = λ f name own b fits. h.named f name own b (k.fits b fits);
    distinct = h.distinct;
  }

  pub still-pinned : (x : Bodied) → IsPinned v x → IsPinned w x
  still-pinned x h = record {
    near = h.near;
    has = in-front x v.known.bodies w.known.bodies k.bodies h.has;
    shown = h.shown;
  }

  pub still-pins : (pins : List (Option (SvRef Kept))) → w.hand ≡ v.hand → PinsFit pins v → PinsFit pins w
  still-pins pins hand h = record {
    long = h.long;
    hand = λ p. ap (times p) hand ∙ h.hand p;
    count = ap (λ l. length l) hand ∙ h.count;
    each = λ n sv is. still-pinned (pinned sv) (h.each n sv is);
  }

module _ {P S D C B : Type 0} {g : Ghosts P S D C B} (t : TableId) (lanes lane : ℕ) (names : List (Option (List ℕ)))
    (pins : List (Option (SvRef Kept))) (old new : LaneSeat P S D C B g) (same : IsSameSeat old new) where
  module _ (k : Carries (view_of old) (view_of new)) (was : IsLocal t lanes lane names pins old) where
    -- with handles and pins that may have changed
    local-of : (handles : List (Option (List ℕ))) (after : List (Option (SvRef Kept))) → length (view_of new).hand < 65500
        → HandlesFit handles (view_of new) → PinsFit after (view_of new) → IsLocal t lanes lane handles after new
    local-of handles after few own fit = record {
      table = same.0 ∙ was.table;
      rest = still-rests (view_of old) (view_of new) k few was.rest;
      some = (was.some.0, was.some.1, was.some.2 ∙ sym (ap (λ (s : Seat). s.lanes) k.seat));
      number = (was.number.0, was.number.1 ∙ sym k.lane);
      handles = own;
      pins = fit;
    }

    -- with handles that may have changed
    pub handled-local : (handles : List (Option (List ℕ))) → (view_of new).hand ≡ (view_of old).hand
        → HandlesFit handles (view_of new) → IsLocal t lanes lane handles pins new
    handled-local handles hand own = local-of handles pins (subst (λ l. length l < 65500) (sym hand) was.rest.free.few) own
        (still-pins (view_of old) (view_of new) k pins hand was.pins)

  module _ (k : Keeps (view_of old) (view_of new)) (was : IsLocal t lanes lane names pins old) where
    -- with pins that may have changed
    pub local-with : (after : List (Option (SvRef Kept))) → length (view_of new).hand < 65500
        → PinsFit after (view_of new) → IsLocal t lanes lane names after new
    local-with after few fit = local-of k.carries was names after few
        (still-handles (view_of old) (view_of new) k.carries names k.handles was.handles) fit

    pub still-local : (view_of new).hand ≡ (view_of old).hand → IsLocal t lanes lane names pins new
    still-local hand = local-with pins (subst (λ l. length l < 65500) (sym hand) was.rest.free.few)
        (still-pins (view_of old) (view_of new) k.carries pins hand was.pins)

-- ---- calls

module _ (v w : LaneView) (grows : Grows v.known w.known) where
  base_lane : w.known.lane ≡ v.known.lane
  base_lane = ap (λ (z : Base). z.0) grows.base

  base_handles : w.known.task.handles ≡ v.known.task.handles
  base_handles = ap (λ (z : Base). z.2.handles) grows.base

pub goes-keeps : (f : ℕ) (v w : LaneView) → Goes f v w → Keeps v w
goes-keeps f v w h = record {
  carries = record {
    seat = h.seat;
    locks = h.locks;
    away = λ g was. dite (ℕ_discrete g f) (λ e. ap (slot_of w) e ∙ h.slot) (λ ne. h.others g ne ∙ was);
    owes = h.owes;
    lane = base_lane v w h.grows;
    bodies = h.grows.bodies;
    fits = grows-fits v.known w.known h.grows;
  };
  handles = base_handles v w h.grows;
}

pub reads-keeps : (n : ℕ) (v w : LaneView) → Reads n v w → Keeps v w
reads-keeps n v w h = record {
  carries = record {
    seat = h.seat;
    locks = h.locks;
    away = λ g was. ap (λ (s : Slots). at away s.slot g) h.slots ∙ was;
    owes = h.owes;
    lane = base_lane v w h.grows;
    bodies = h.grows.bodies;
    fits = grows-fits v.known w.known h.grows;
  };
  handles = base_handles v w h.grows;
}

pub drops-keeps : (p : ℕ) (v w : LaneView) → Drops p v w → Keeps v w
drops-keeps p v w h = record {
  carries = record {
    seat = h.seat;
    locks = h.locks;
    away = λ g was. ap (λ (s : Slots). at away s.slot g) h.slots ∙ was;
    owes = h.owes;
    lane = base_lane v w h.grows;
    bodies = h.grows.bodies;
    fits = grows-fits v.known w.known h.grows;
  };
  handles = base_handles v w h.grows;
}

-- the reference that a pin keeps changes nothing of that
pub less-keeps : (p : ℕ) (v w : LaneView) → Keeps v (less p w) → Keeps v w
less-keeps p v w h = record {
  carries = record {
    seat = h.carries.seat;
    locks = h.carries.locks;
    away = h.carries.away;
    owes = h.carries.owes;
    lane = h.carries.lane;
    bodies = h.carries.bodies;
    fits = h.carries.fits;
  };
  handles = h.handles;
}

asked-grows : (v : LaneView) (b : Books) → Grows v.known (asked_view b v).known
asked-grows v b = record {
  base = refl;
  found = (b ∷ [], refl);
  left = (b ∷ [], refl);
  bodies = continues-itself v.known.bodies;
  rows = continues-itself v.known.rows;
  reads = continues-itself v.known.reads;
  seen = λ f. omega arith;
}

pub asks-keeps : (l : ℕ) (name : List ℕ) (e : Refusal) (v w : LaneView) → Asks l name e v w → Keeps v w
asks-keeps l name e v w h = subst (Keeps v) (sym h.is) (record {
  carries = record {
    seat = refl;
    locks = refl;
    away = λ f was. was;
    owes = refl;
    lane = refl;
    bodies = continues-itself v.known.bodies;
    fits = grows-fits v.known (asked_view h.found v).known (asked-grows v h.found);
  };
  handles = refl;
})

pub asks-hand : (l : ℕ) (name : List ℕ) (e : Refusal) (v w : LaneView) → Asks l name e v w → w.hand ≡ v.hand
asks-hand l name e v w h = ap (λ (z : LaneView). z.hand) h.is

-- ---- a family that the lane means

-- the handle of a name lends the family's current
pub may-lend : (names : List (Option (List ℕ))) (v : LaneView) → HandlesFit names v → IsAtRest v → (f : ℕ) (name : List ℕ)
    → f < 16 → IsHandleOf name names f → MayLend f v
may-lend names v h rest f name near own = (
  near,
  omega (arith, h.count f near, ap has_name own),
  rest.away_all f,
)

-- ---- puts

module _ (a b : Books) (more : List Bodied) (writes : List Write) (seen looked : List ℕ) (adds : ℕ) (v : LaneView)
    (rises : (f : ℕ) → at 0 v.known.seen f ≤ at 0 seen f) where
  abbrev after_put : LaneView
  after_put = put_view a b more writes seen looked adds v

  -- what it knows then, but for its own writes
  abbrev without_writes : Known
  without_writes = record after_put.known { mine = v.known.mine }

  put-grows : Grows v.known without_writes
  put-grows = record {
    base = refl;
    found = (a ∷ [], refl);
    left = (b ∷ [], refl);
    bodies = (more, refl);
    rows = continues-itself v.known.rows;
    reads = continues-itself v.known.reads;
    seen = rises;
  }

  fewer-fits : (c : Books) → Fits c after_put.known → Fits c without_writes
  fewer-fits c t = record {
    lawful = t.lawful;
    start = t.start;
    found = t.found;
    left = t.left;
    mine = continues-through v.known.mine (v.known.mine ++ writes) (by_lane v.known.lane c.journal) (writes, refl) t.mine;
    bodies = t.bodies;
    rows = t.rows;
    reads = t.reads;
    seen = t.seen;
    removed = t.removed;
    ended = t.ended;
    round = t.round;
    frames = t.frames;
  }

  put-keeps : Keeps v after_put
  put-keeps = record {
    carries = record {
      seat = refl;
      locks = refl;
      away = λ f was. was;
      owes = refl;
      lane = refl;
      bodies = (more, refl);
      fits = λ c t. grows-fits v.known without_writes put-grows c (fewer-fits c t);
    };
    handles = refl;
  }

pub puts-keeps : (l : ℕ) (name : List ℕ) (row : Row) (r : Result ℕ Refusal) (v w : LaneView) → Puts l name row r v w
    → Keeps v w × (w.hand ≡ v.hand)
puts-keeps l name row r v w h = (
  subst (Keeps v) (sym h.is) (put-keeps h.found h.left h.more h.writes h.seen h.looked h.adds v h.rises),
  ap (λ (z : LaneView). z.hand) h.is,
)

-- ---- a rest

module _ (a : Books) (more : List Bodied) (slots : Slots) (v : LaneView) where
  rested-grows : Grows v.known (rested_view a more slots v).known
  rested-grows = record {
    base = refl;
    found = (a ∷ [], refl);
    left = (a ∷ [], refl);
    bodies = (more, refl);
    rows = continues-itself v.known.rows;
    reads = continues-itself v.known.reads;
    seen = λ f. omega arith;
  }

  rested-keeps : ((f : ℕ) → at away slots.slot f ≡ at away v.slots.slot f) → Keeps v (rested_view a more slots v)
  rested-keeps same = record {
    carries = record {
      seat = refl;
      locks = refl;
      away = λ f was. same f ∙ was;
      owes = refl;
      lane = refl;
      bodies = (more, refl);
      fits = grows-fits v.known (rested_view a more slots v).known rested-grows;
    };
    handles = refl;
  }

pub rests-keeps : (n : ℕ) (v w : LaneView) → Rests n v w → Keeps v w × (w.hand ≡ v.hand)
rests-keeps n v w h = (
  subst (Keeps v) (sym h.is) (rested-keeps h.found h.more h.slots v h.emptied.slot),
  ap (λ (z : LaneView). z.hand) h.is,
)

-- ---- a turn of the books that leaves what the lane has of its own

module _ (a b : Books) (v : LaneView) where
  turned-grows : Grows v.known (turned_view a b v.known.task v).known
  turned-grows = record {
    base = refl;
    found = (a ∷ [], refl);
    left = (b ∷ [], refl);
    bodies = continues-itself v.known.bodies;
    rows = continues-itself v.known.rows;
    reads = continues-itself v.known.reads;
    seen = λ f. omega arith;
  }

  turned-keeps : Keeps v (turned_view a b v.known.task v)
  turned-keeps = record {
    carries = record {
      seat = refl;
      locks = refl;
      away = λ f was. was;
      owes = refl;
      lane = refl;
      bodies = continues-itself v.known.bodies;
      fits = grows-fits v.known (turned_view a b v.known.task v).known turned-grows;
    };
    handles = refl;
  }

pub turns-keep : (a b : Books) (v w : LaneView) → w ≡ turned_view a b v.known.task v → Keeps v w × (w.hand ≡ v.hand)
turns-keep a b v w is = (subst (Keeps v) (sym is) (turned-keeps a b v), ap (λ (z : LaneView). z.hand) is)
