-- A lane gives the DB lock with books in which it opened or dropped a family.
use Rattle.std.proofs.Common.{Bool, Err, List, None, Ok, Result, Some, [], arith, ap, false, map, refl, subst, suc, sym, true, zero, ℕ, ◌∙◌, ◌∷◌, ◌≡◌, ◌≤◌}
use Rattle.std.specs.Prelude.{IfOk, IsSomeAnd, OnErr, not, slice_get}
use mathlib.Core.Logic.{dite}
use native.Mathlib.Decide.{dec_le}
use Rattle.sv_borrows.specs.Lending.{IsFree}
use Rattle.sv_family.specs.Calls.{IsFreshTo}
use Rattle.sv_family.proofs.SoughtFamilies.{own_known}
use Rattle.sv_family.specs.Refused.{drop_refusal, handle_refusal, open_refusal, stands, when}
use Rattle.sv_handles.specs.Handling.{DropsFamily, DropsOwn, OpensFamily, turned_view}
use Rattle.sv_laws.proofs.GrownRegisters.{get_within}
use Rattle.sv_laws.specs.Families.{IsDropped, IsOpened}
use Rattle.sv_model.proofs.Entries.{get_none, some}
use Rattle.sv_model.proofs.RefusalLaws.{none_due}
use Rattle.sv_model.specs.Books.{Books}
use Rattle.sv_model.specs.Families.{IsOwn, IsStanding}
use Rattle.sv_model.specs.Lists.{at, bit, times}
use Rattle.sv_model.specs.Refusals.{RefusesExactly}
use Rattle.sv_model.specs.Tasks.{Task, handle, handle_in}
use Rattle.sv_model.specs.Turns.{IsAccounted, Stands, Turns}
use Rattle.sv_model.specs.declared.records.Family.{Family}
use Rattle.sv_model.specs.declared.refusals.Refusal.{Refusal}
use Rattle.sv_model.specs.declared.refusals.Refusal.TheVariants as refusal
use Rattle.sv_rule.specs.LockPlays.{IsTold, MayGiveDb, gave_db, took_db}
use Rattle.sv_rule.specs.Views.{LaneView, Locks, idle}
use Rattle.sv_slots.proofs.Unchanged.{gives_found}
use Rattle.sv_state.specs.Follows.{Follows}
use Rattle.sv_state.specs.Seen.{StateSeen}
use Rattle.sv_turns.proofs.Families.{dropped-stands, dropped-turns, opened-stands, opened-turns}
use Rattle.sv_turns.specs.Called.{IsCalled}
use Rattle.sv_turns.specs.Owned.{opens_family}

bit-off : (hs : List Bool) (l : ℕ) → slice_get hs l ≡ Some false → at 0 (map bit hs) l ≡ 0
bit-off [] l e = absurd (get_none l false e)
bit-off (x ∷ hs) zero e = ap bit (some e)
bit-off (x ∷ hs) (suc l) e = bit-off hs l e

bit-true : (hs : List Bool) (l : ℕ) → 1 ≤ at 0 (map bit hs) l → slice_get hs l ≡ Some true
bit-true [] l h = absurd (omega (arith, h, at-none l))
  where
    at-none : (k : ℕ) → at {A = ℕ} 0 [] k ≡ 0
    at-none zero = refl
    at-none (suc k) = refl
bit-true (true ∷ hs) zero h = refl
bit-true (false ∷ hs) zero h = absurd (omega (arith, h))
bit-true (x ∷ hs) (suc l) h = bit-true hs l h

-- a refusal leaves the books of the state as they were
pub on-err : (z p s : StateSeen) → p ≡ s → (r : Result ℕ Refusal) → OnErr r (z ≡ p) → OnErr r (z.books ≡ s.books)
on-err z p s same (Ok f) h = tt
on-err z p s same (Err e) h = ap (λ (k : StateSeen). k.books) (h ∙ same)

module _ (v : LaneView) (free : IsFree v) (a : Books) (u : LaneView) (took : u ≡ took_db a v) (told : IsTold v a) where
  gives-turned : (b : Books) (t : Task) → Turns v.known.lane a v.known.task b t [] → Stands a b → MayGiveDb u b t
  gives-turned b t turns stands = subst (λ (z : LaneView). MayGiveDb z b t) (sym took) (record {
    alive = free.alive;
    desk = record { books = a; work = idle; due = [] };
    has = refl;
    resting = refl;
    due = refl;
    cell = ap (λ (k : Locks). k.cell) free.locks;
    turns = turns;
    stands = stands;
  })

  -- the task that the lane has, seen from its taking of the lock
  gives-same : (b : Books) → MayGiveDb u b v.known.task → MayGiveDb u b u.known.task
  gives-same b h = subst (λ (t : Task). MayGiveDb u b t) (sym (ap (λ (z : LaneView). z.known.task) took)) h

  gave-turned : (b : Books) (t : Task) (w : LaneView) → w ≡ gave_db b t u → w ≡ turned_view a b t v
  gave-turned b t w gave =
      gave ∙ ap (gave_db b t) took ∙ (λ i. record (turned_view a b t v) { locks = locks i })
    where
      locks : record v.locks { db = None } ≡ v.locks
      locks = ap (λ (k : Locks). record k { db = None }) free.locks ∙ sym free.locks

  gave-same : (b : Books) (w : LaneView) → w ≡ gave_db b u.known.task u → w ≡ turned_view a b v.known.task v
  gave-same b w gave =
      gave-turned b v.known.task w (gave ∙ ap (λ (t : Task). gave_db b t u) (ap (λ (z : LaneView). z.known.task) took))

  -- a refusal
  pub gives-kept : (b : Books) → b ≡ a → MayGiveDb u b u.known.task
  gives-kept b same = gives-same b (subst (λ (z : Books). MayGiveDb u z v.known.task) (sym same)
      (subst (λ (z : LaneView). MayGiveDb z a v.known.task) (sym took)
      (gives_found (took_db a v) (record { books = a; work = idle; due = [] }) free.alive refl refl refl
      (ap (λ (k : Locks). k.cell) free.locks) told.accounted)))

  module _ (l : ℕ) (lane : l ≡ v.known.lane) (name : List ℕ) where
    accounted : IsAccounted l a v.known.task
    accounted = subst (λ (k : ℕ). IsAccounted k a v.known.task) (sym lane) told.accounted

    called : (b : Books) → Follows a b → IsCalled l a v.known.task b
    called b follows = record { own = accounted; lawful = follows.sound.lawful; later = follows.after }

    of-lane : (b : Books) (t : Task) → Turns l a v.known.task b t [] → Turns v.known.lane a v.known.task b t []
    of-lane b t h = subst (λ (k : ℕ). Turns k a v.known.task b t []) lane h

    -- ---- an open

    module _ (b : Books) (follows : Follows a b) (f : ℕ) (h : IsOpened a b f l) (fresh : IsFreshTo l a.families f) where
      off : slice_get h.it.handles l ≡ Some false
      off = subst (λ (y : Family). slice_get y.handles l ≡ Some false) (some (sym fresh.at ∙ h.at)) fresh.none

      none : times f v.known.task.handles ≡ 0
      none =
          let was : handle a.families l f ≡ 0 = ap (handle_in l) h.at ∙ bit-off h.it.handles l off in
          omega (arith, was, accounted.handles f fresh.other)

      -- The lane would have been refused by another family of the name of which it has a handle.
      owned : (name : List ℕ) → IsStanding name h.it → open_refusal a.families l name ≡ None → (g : ℕ) (x : Family)
          → slice_get a.families g ≡ Some x → x.name ≡ name → 1 ≤ times g v.known.task.handles → ⊥
      owned name standing due zero x e name_is has =
          let d = told.accounted.lawful.default in
          let named : d.it.name ≡ h.it.name =
          ap (λ (z : Family). z.name) (some (sym d.at ∙ e)) ∙ name_is ∙ sym standing.name_is in
          let one : 0 ≡ f = told.accounted.lawful.distinct 0 f d.it h.it d.at h.at d.stands standing.stands named in
          omega (arith, one, fresh.other)
      owned name standing due (suc g) x e name_is has =
          let one : 1 ≤ at 0 (map bit x.handles) l =
          omega (arith, has, accounted.handles (suc g) (omega arith), ap (handle_in l) e) in
          let own : IsOwn l name x = record { name_is = name_is; handle = bit-true x.handles l one } in
          let has_one = own_known a.families l name (suc g) x e own in
          let free = (none_due (handle_refusal a.families l name) (when (not (stands a.families name)) refusal.NoFamily ∷ []) due).0 in
          let met : Some refusal.AlreadyOpen ≡ None =
          sym (ap (λ (k : Bool). when k refusal.AlreadyOpen) has_one) ∙ free in
          absurd (cc met)

      alone : (name : List ℕ) → IsStanding name h.it → open_refusal a.families l name ≡ None → (g : ℕ) (x : Family)
          → slice_get a.families g ≡ Some x → x.name ≡ name → times g v.known.task.handles ≡ 0
      alone name standing due g x e name_is = dite (dec_le 1 (times g v.known.task.handles))
          (λ has. absurd (owned name standing due g x e name_is has))
          (λ no. omega (arith, no))

      pub gives-opened : MayGiveDb u b (opens_family f u.known.task)
      gives-opened =
          subst (λ (t : Task). MayGiveDb u b (opens_family f t)) (sym (ap (λ (z : LaneView). z.known.task) took))
          (gives-turned b (opens_family f v.known.task)
          (of-lane b (opens_family f v.known.task) (opened-turns l a b v.known.task (called b follows) f h fresh.other off))
          (opened-stands l a b v.known.task (called b follows) f l h))

      pub opens : IsSomeAnd (slice_get a.families f) (IsStanding name) → open_refusal a.families l name ≡ None
          → (w : LaneView) → w ≡ gave_db b (opens_family f u.known.task) u → OpensFamily l name (Ok f) v w
      opens standing due w gave = record {
        found = a;
        left = b;
        fits = told.fits;
        refused = due;
        ok = record {
          near = omega (arith, get_within a.families f h.it h.at, told.accounted.lawful.limits.families);
          opened = h;
          name_is = (subst (λ o. IsSomeAnd o (IsStanding name)) h.at standing).name_is;
          none = none;
          alone = alone name (subst (λ o. IsSomeAnd o (IsStanding name)) h.at standing) due;
          is = gave-turned b (opens_family f v.known.task) w
              (gave ∙ ap (λ (t : Task). gave_db b (opens_family f t) u) (ap (λ (z : LaneView). z.known.task) took));
        };
        err = tt;
      }

    pub opens-refused : (b : Books) → b ≡ a → (e : Refusal) → open_refusal a.families l name ≡ Some e → (w : LaneView)
        → w ≡ gave_db b u.known.task u → OpensFamily l name (Err e) v w
    opens-refused b same e due w gave = record {
      found = a;
      left = b;
      fits = told.fits;
      refused = due;
      ok = tt;
      err = (same, gave-same a w (gave ∙ ap (λ (z : Books). gave_db z u.known.task u) same));
    }

    -- ---- a drop

    module _ (b : Books) (follows : Follows a b) where
      pub gives-dropped : (r : Result ℕ Refusal) → IfOk r (λ f. IsDropped a b f l) → OnErr r (b ≡ a)
          → MayGiveDb u b u.known.task
      gives-dropped (Ok f) h k = gives-same b (gives-turned b v.known.task
          (of-lane b v.known.task (dropped-turns l a b v.known.task (called b follows) f l h))
          (dropped-stands l a b v.known.task (called b follows) f l h))
      gives-dropped (Err e) h k = gives-kept b k

      drops-own : (r : Result ℕ Refusal) → IfOk r (λ f. IsDropped a b f l)
          → IfOk r (λ f. IsSomeAnd (slice_get a.families f) (IsOwn l name)) → IfOk r (DropsOwn l name a b)
      drops-own (Ok f) h own =
          record { dropped = h; name_is = (subst (λ o. IsSomeAnd o (IsOwn l name)) h.at own).name_is }
      drops-own (Err e) h own = tt

      pub drops : (r : Result ℕ Refusal) → IfOk r (λ f. IsDropped a b f l)
          → IfOk r (λ f. IsSomeAnd (slice_get a.families f) (IsOwn l name)) → OnErr r (b ≡ a)
          → RefusesExactly (drop_refusal a.families l name) r → (w : LaneView) → w ≡ gave_db b u.known.task u
          → DropsFamily l name r v w
      drops r h own kept due w gave = record {
        found = a;
        left = b;
        refused = due;
        ok = drops-own r h own;
        err = kept;
        is = gave-same b w gave;
      }
