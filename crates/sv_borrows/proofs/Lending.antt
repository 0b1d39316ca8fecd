-- How a lane comes to have a borrow, and gives it back.
use Rattle.std.proofs.Common.{Bool, List, None, false, true, [], ap, arith, inl, inr, refl, subst, sym, ℕ, ◌++◌, ◌+◌, ◌∙◌, ◌∷◌, ◌≡◌, ◌≢◌, ◌≤◌, ◌⊎◌}
use mathlib.Core.Logic.{dite}
use native.Mathlib.Decide.{ℕ_discrete}
use Rattle.sv_borrows.specs.Desks.{AreAlike}
use Rattle.sv_borrows.specs.Grown.{Cleans, Grows}
use Rattle.sv_borrows.specs.Lending.{Borrows, BorrowsNone, Drops, GivesBack, IsLent, IsNotLent, MayLend, ended_view, fresh_view}
use Rattle.sv_borrows.proofs.Lists.{without-first}
use Rattle.sv_borrows.proofs.Growing.{Base, givings-none, givings-one, grows-on, in-last}
use Rattle.sv_model.specs.Books.{Books}
use Rattle.sv_model.specs.Lists.{at, times}
use Rattle.sv_model.specs.Tasks.{Task}
use Rattle.sv_model.proofs.AfterLaws.{continues-itself}
use Rattle.sv_rule.specs.Blanks.{no_locks}
use Rattle.sv_rule.specs.ReferencePlays.{dropped, lowers}
use Rattle.sv_rule.specs.SlotPlays.{IsShown}
use Rattle.sv_rule.specs.Table.{slot_of}
use Rattle.sv_rule.specs.Views.{Bodied, Counts, Known, LaneView, Locks, SlotView, Slots, away, borrow}
use Rattle.sv_rule.proofs.Basics.{append_none}
use Rattle.sv_rule.proofs.Sums.{at-put_else, at-put_same}
use Rattle.sv_slots.specs.References.{IsDropped}
use Rattle.sv_slots.specs.declared.refs.Sub.{Sub}
use Rattle.sv_slots.specs.declared.refs.Sub.TheVariants.{Last, More}
use Rattle.sv_slots.specs.Borrows.{given_back, hit, missed, stale, swept_back}

none_locks : (v : LaneView) → v.locks ≡ no_locks → record v.locks { db = None } ≡ v.locks
none_locks v h = ap (λ (k : Locks). record k { db = None }) h ∙ sym h

lowered_none : (p : ℕ) (v : LaneView) → v.locks ≡ no_locks → record v.locks { db = lowers p v.locks.db } ≡ v.locks
lowered_none p v h = ap (λ (k : Locks). record k { db = lowers p k.db }) h ∙ sym h

apart : (n m : ℕ) → (n ≡ m) ⊎ (n ≢ m)
apart n m = dite (ℕ_discrete n m) (λ e. inl e) (λ e. inr e)

-- nothing that is known is forgotten
same-grows : (v : Known) (w : Known) → w ≡ v → Grows v w
same-grows v w e = subst (Grows v) (sym e) (record {
  base = refl;
  found = continues-itself v.found;
  left = continues-itself v.left;
  bodies = continues-itself v.bodies;
  rows = continues-itself v.rows;
  reads = continues-itself v.reads;
  seen = λ f. omega arith;
})

-- the books of a taking and its giving, and bodies, are learnt
more-grows : (v : Known) (a b : Books) (more : List Bodied) (s : List ℕ) → AreAlike s v.seen
    → Grows v (record v { found = v.found ++ a ∷ []; left = v.left ++ b ∷ []; bodies = v.bodies ++ more; seen = s })
more-grows v a b more s alike = record {
  base = refl;
  found = (a ∷ [], refl);
  left = (b ∷ [], refl);
  bodies = (more, refl);
  rows = continues-itself v.rows;
  reads = continues-itself v.reads;
  seen = λ f. omega (arith, alike f);
}

module _ (f : ℕ) (v : LaneView) where
  abbrev floor : ℕ
  floor = at 0 v.known.seen f

  pub by-hit : (x : Bodied) (w : LaneView) → IsShown f x → w ≡ hit f x v → Borrows f x v w
  by-hit x w shown e = subst (λ (z : LaneView). Borrows f x v z) (sym e) (record {
    grows = record {
      base = refl;
      found = continues-itself v.known.found;
      left = continues-itself v.known.left;
      bodies = (x ∷ [], refl);
      rows = continues-itself v.known.rows;
      reads = continues-itself v.known.reads;
      seen = λ g. omega arith;
    };
    has = in-last v.known.bodies x;
    shown = shown;
    alike = λ g. refl;
    seat = refl;
    locks = refl;
    slot = at-put_same away v.slots.slot f (borrow x.pack floor);
    others = λ g ne. at-put_else away v.slots.slot f g (borrow x.pack floor) ne;
    looked = at-put_same 0 v.slots.looked f x.pack;
    hand = refl;
    owes = refl;
    joined = refl;
    givings = givings-none Cleans v.known (hit f x v).known refl refl;
    looks = omega arith;
    uses = refl;
    swept = omega arith;
    takes = refl;
    faults = refl;
    misses = omega arith;
    locked = λ m. refl;
  })

-- What a miss left: the slot is away, and the lane knows and has what it had before, but for what it owes.
pub record IsMissed (f : ℕ) (v u : LaneView) : Type 0 where
  pub seat : u.seat ≡ v.seat
  pub known : Grows v.known u.known
  pub found : u.known.found ≡ v.known.found
  pub left : u.known.left ≡ v.known.left
  pub seen : u.known.seen ≡ v.known.seen
  pub locks : u.locks ≡ v.locks
  pub slot : slot_of u f ≡ away
  pub cached : at 0 u.slots.cached f ≡ 0
  pub others : (g : ℕ) → g ≢ f → slot_of u g ≡ slot_of v g
  pub hand : u.hand ≡ v.hand
  pub joined : u.joined ≡ v.joined
  pub looks : v.counts.looks ≤ u.counts.looks
  pub uses : u.counts.uses ≡ v.counts.uses + 1
  pub swept : u.counts.swept ≡ v.counts.swept
  pub takes : u.counts.takes ≡ v.counts.takes
  pub faults : u.counts.faults ≡ v.counts.faults
  pub misses : u.counts.misses ≡ v.counts.misses + 1

module _ (f : ℕ) (v : LaneView) where
  pub is-missed : (r : ℕ) (u : LaneView) → u ≡ missed f r v → IsMissed f v u
  is-missed r u e = subst (λ (z : LaneView). IsMissed f v z) (sym e) (record {
    seat = refl;
    known = same-grows v.known v.known refl;
    found = refl;
    left = refl;
    seen = refl;
    locks = refl;
    slot = at-put_same away v.slots.slot f away;
    cached = at-put_same 0 v.slots.cached f 0;
    others = λ g ne. at-put_else away v.slots.slot f g away ne;
    hand = refl;
    joined = refl;
    looks = omega arith;
    uses = refl;
    swept = omega arith;
    takes = refl;
    faults = refl;
    misses = refl;
  })

  pub is-stale : (x : Bodied) (now : ℕ) (last : Bool) (t u : LaneView) → t ≡ stale f x now v
      → v.locks ≡ no_locks → u ≡ dropped x.pack last t → IsMissed f v u
  is-stale x now last t u e locks h = subst (λ (z : LaneView). IsMissed f v z) (sym (h ∙ ap (dropped x.pack last) e)) (record {
    seat = refl;
    known = record {
      base = refl;
      found = continues-itself v.known.found;
      left = continues-itself v.known.left;
      bodies = (x ∷ [], refl);
      rows = continues-itself v.known.rows;
      reads = continues-itself v.known.reads;
      seen = λ g. omega arith;
    };
    found = refl;
    left = refl;
    seen = refl;
    locks = lowered_none x.pack v locks;
    slot = at-put_same away v.slots.slot f away;
    cached = at-put_same 0 v.slots.cached f 0;
    others = λ g ne. at-put_else away v.slots.slot f g away ne;
    hand = without-first x.pack v.hand;
    joined = refl;
    looks = omega arith;
    uses = refl;
    swept = omega arith;
    takes = refl;
    faults = refl;
    misses = refl;
  })

-- ---- a miss, and the slot may be lent

pub miss-lends : (f : ℕ) (v u : LaneView) → IsMissed f v u → MayLend f v → MayLend f u × (at 0 u.slots.cached f ≡ 0)
miss-lends f v u m lend = (
  (lend.0, subst (λ (t : Task). 1 ≤ times f t.handles) (sym (ap (λ (z : Base). z.2) m.known.base)) lend.1, m.slot),
  m.cached,
)

pub stale-missed : (f : ℕ) (v : LaneView) → v.locks ≡ no_locks → (x : Bodied) (now : ℕ) (t : LaneView)
    → t ≡ stale f x now v → (left : Sub) (u : LaneView) → IsDropped x.pack left t u → IsMissed f v u
stale-missed f v locks x now t e More u h = is-stale f v x now false t u e locks h
stale-missed f v locks x now t e (Last owed) u h = is-stale f v x now true t u e locks h.1

-- ---- under the DB lock

module _ (f : ℕ) (v : LaneView) (locks : v.locks ≡ no_locks) (none : v.owes ≡ []) (u : LaneView) (m : IsMissed f v u) where
  locks_u : u.locks ≡ no_locks
  locks_u = m.locks ∙ locks

  seen_is : (s : List ℕ) → AreAlike s u.known.seen → (g : ℕ) → at 0 s g ≡ at 0 v.known.seen g
  seen_is s alike g = alike g ∙ ap (λ z. at 0 z g) m.seen

  lent : (a b : Books) (x : Bodied) (s : List ℕ) → IsShown f x → Cleans a b → AreAlike s u.known.seen
      → Borrows f x v (fresh_view a b f x s u)
  lent a b x s shown clean alike =
      let place : SlotView = borrow x.pack (at 0 s f) in record {
        grows = grows-on v.known u.known (fresh_view a b f x s u).known m.known (more-grows u.known a b (x ∷ []) s alike);
        has = in-last u.known.bodies x;
        shown = shown;
        alike = seen_is s alike;
        seat = m.seat;
        locks = none_locks u locks_u ∙ m.locks;
        slot = at-put_same away u.slots.slot f place ∙ ap (borrow x.pack) (seen_is s alike f);
        others = λ g ne. at-put_else away u.slots.slot f g place ne ∙ m.others g ne;
        looked = at-put_same 0 u.slots.looked f x.pack;
        hand = without-first x.pack u.hand ∙ m.hand;
        owes = sym none;
        joined = m.joined;
        givings = givings-one Cleans v.known (fresh_view a b f x s u).known a b clean
            (ap (λ z. z ++ a ∷ []) m.found) (ap (λ z. z ++ b ∷ []) m.left);
        looks = omega (arith, m.looks);
        uses = m.uses;
        swept = m.swept;
        takes = m.takes;
        faults = m.faults;
        misses = omega (arith, m.misses);
        locked = λ e. absurd (omega (arith, e, m.misses));
      }

  pub by-lent : (x : Bodied) (w : LaneView) → IsShown f x → IsLent f x u w → Borrows f x v w
  by-lent x w shown h = subst (Borrows f x v) (sym h.5) (lent h.0 h.1 x h.2 shown h.3 h.4)

  ended : (a b : Books) (s : List ℕ) → Cleans a b → AreAlike s u.known.seen → BorrowsNone f v (ended_view a b s u)
  ended a b s clean alike = record {
    grows = grows-on v.known u.known (ended_view a b s u).known m.known
        (subst (λ l. Grows u.known (record u.known { found = u.known.found ++ a ∷ []; left = u.known.left ++ b ∷ []; bodies = l; seen = s }))
        (sym (append_none u.known.bodies)) (more-grows u.known a b [] s alike));
    alike = seen_is s alike;
    seat = m.seat;
    locks = none_locks u locks_u ∙ m.locks;
    slot = m.slot;
    others = m.others;
    hand = m.hand;
    owes = sym none;
    joined = m.joined;
    givings = givings-one Cleans v.known (ended_view a b s u).known a b clean
        (ap (λ z. z ++ a ∷ []) m.found) (ap (λ z. z ++ b ∷ []) m.left);
    uses = m.uses;
    swept = m.swept;
    takes = m.takes;
    faults = m.faults;
    missed = m.misses;
  }

  pub by-none : (w : LaneView) → IsNotLent u w → BorrowsNone f v w
  by-none w h = subst (BorrowsNone f v) (sym h.5) (ended h.0 h.1 h.2 h.3 h.4)

-- ---- giving back

module _ (f p : ℕ) (v : LaneView) where
  pub gives-kept : (w : LaneView) → w ≡ given_back f p v → GivesBack f p v w
  gives-kept w e = subst (GivesBack f p v) (sym e) (record {
    grows = same-grows v.known v.known refl;
    alike = λ g. refl;
    seat = refl;
    locks = refl;
    slot = at-put_same away v.slots.slot f away;
    others = λ g ne. at-put_else away v.slots.slot f g away ne;
    looked = refl;
    hand = refl;
    owes = refl;
    joined = refl;
    givings = givings-none Cleans v.known v.known refl refl;
    looks = refl;
    uses = refl;
    misses = refl;
    takes = refl;
    faults = refl;
    swept = omega arith;
    cached = inl (at-put_same 0 v.slots.cached f p);
    locked = λ m. refl;
  })

  -- a sweep was there, and the reference is dropped
  pub gives-swept : (t w : LaneView) → t ≡ swept_back f p v → Drops p t w → GivesBack f p v w
  gives-swept t w e h = subst (λ (z : LaneView). Drops p z w → GivesBack f p v w) (sym e) from h
    where
      from : Drops p (swept_back f p v) w → GivesBack f p v w
      from d = record {
        grows = d.grows;
        alike = d.alike;
        seat = d.seat;
        locks = d.locks;
        slot = ap (λ (s : Slots). at away s.slot f) d.slots ∙ at-put_same away v.slots.slot f away;
        others = λ g ne. ap (λ (s : Slots). at away s.slot g) d.slots ∙ at-put_else away v.slots.slot f g away ne;
        looked = ap (λ (s : Slots). s.looked) d.slots;
        hand = d.hand ∙ without-first p v.hand;
        owes = d.owes;
        joined = d.joined;
        givings = d.givings;
        looks = ap (λ (c : Counts). c.looks) d.counts;
        uses = omega (arith, ap (λ (c : Counts). c.uses) d.counts);
        misses = omega (arith, ap (λ (c : Counts). c.misses) d.counts);
        takes = ap (λ (c : Counts). c.takes) d.counts;
        faults = ap (λ (c : Counts). c.faults) d.counts;
        swept = omega (arith, ap (λ (c : Counts). c.swept) d.counts);
        cached = inr (omega (arith, ap (λ (c : Counts). c.swept) d.counts));
        locked = λ m. absurd (omega (arith, m, ap (λ (c : Counts). c.swept) d.counts));
      }

-- ---- dropping

module _ (p : ℕ) (v : LaneView) (locks : v.locks ≡ no_locks) (none : v.owes ≡ []) where
  pub drops-more : (w : LaneView) → w ≡ dropped p false v → Drops p v w
  drops-more w e = subst (Drops p v) (sym e) (record {
    grows = same-grows v.known v.known refl;
    alike = λ g. refl;
    seat = refl;
    locks = lowered_none p v locks;
    slots = refl;
    counts = refl;
    hand = refl;
    owes = refl;
    joined = refl;
    givings = givings-none Cleans v.known v.known refl refl;
  })

  last : (a b : Books) (s : List ℕ) → Cleans a b → AreAlike s v.known.seen
      → Drops p v (ended_view a b s (dropped p true v))
  last a b s clean alike = let w = ended_view a b s (dropped p true v) in record {
    grows = subst (λ l. Grows v.known (record v.known { found = v.known.found ++ a ∷ []; left = v.known.left ++ b ∷ []; bodies = l; seen = s }))
        (sym (append_none v.known.bodies)) (more-grows v.known a b [] s alike);
    alike = alike;
    seat = refl;
    locks = none_locks v locks;
    slots = refl;
    counts = refl;
    hand = refl;
    owes = sym none;
    joined = refl;
    givings = givings-one Cleans v.known w.known a b clean refl refl;
  }

  pub drops-last : (u w : LaneView) → u ≡ dropped p true v → IsNotLent u w → Drops p v w
  drops-last u w h k = subst (Drops p v) (sym (k.5 ∙ ap (ended_view k.0 k.1 k.2) h))
      (last k.0 k.1 k.2 k.3 (λ g. k.4 g ∙ ap (λ (z : LaneView). at 0 z.known.seen g) h))
