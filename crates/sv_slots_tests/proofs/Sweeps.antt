-- A lane makes a SuperVersion current or ends a current, sweeps the slots of the lanes, and drops the old reference.
use Rattle.std.proofs.Common.{Bool, List, None, Option, Some, [], ap, arith, false, inl, inr, length, refl, subst, sym, true, ℕ, ◌+◌, ◌<◌, ◌∙◌, ◌∷◌, ◌≡◌, ◌≤◌}
use Rattle.sv_model.specs.Books.{Books}
use Rattle.sv_model.specs.Families.{default_family}
use Rattle.sv_model.specs.Lists.{same, total}
use Rattle.sv_model.specs.Turns.{IsAccounted, Turns}
use Rattle.sv_rule.proofs.Sums.{same-self}
use Rattle.sv_rule.specs.Blanks.{desk_of, old_in, taken_in}
use Rattle.sv_rule.specs.LockPlays.{MayGiveDb, gave_db, took_db}
use Rattle.sv_rule.specs.ReferencePlays.{MayDropAt, MayOpen, MaySettle, dropped, has_taken_at, learnt, lowers, settled}
use Rattle.sv_rule.specs.RoundPlays.{MayEndCurrent}
use Rattle.sv_rule.specs.SeatPlays.{IsIdle}
use Rattle.sv_rule.specs.SweepPlays.{Sweeps, beyond, works}
use Rattle.sv_rule.specs.Sums.{without}
use Rattle.sv_rule.specs.Views.{Bodied, Desk, Known, LaneView, idle, sweeping}
use Rattle.sv_slots.proofs.Laws.{desk_is_of}
use Rattle.sv_slots.proofs.Unchanged.{gives_still, turned-still}
use Rattle.sv_slots.specs.Installs.{installed, retired, swept_on}
use Rattle.sv_slots.specs.References.{IsDropped, IsMore, NotLast}
use Rattle.sv_slots.specs.declared.refs.Sub.{Sub}
use Rattle.sv_slots.specs.declared.refs.Sub.TheVariants.{Last, More}
use Rattle.sv_slots.specs.declared.refs.Owed.{Owed}
use Rattle.sv_slots_tests.proofs.Changes.{cleanup-ends, cleanup-turns, end-ends, end-turns, install-opens, install-turns, new-fits}
use Rattle.sv_slots_tests.specs.Stages.{cleaned_books, ended_books, installed_books, new_bodied, new_pack, old_pack}
use Rattle.sv_slots_tests.specs.Sweeping.{IsFree, IsLeft, IsOwing, IsSweeping}
use Rattle.sv_slots_tests.specs.World.{body_of, world_books}

-- ---- the current changes

module _ (v : LaneView) (bare : IsIdle v) (own : IsAccounted v.known.lane world_books v.known.task) where
  few : length v.hand ≡ 0
  few = ap (λ l. length l) bare.hand

  pub may_open : (w : LaneView) → w ≡ took_db world_books v → (x : Bodied) → x ≡ new_bodied
      → MayOpen w 0 x installed_books w.known.task
  may_open w e x is = subst (λ (z : LaneView). MayOpen z 0 x installed_books z.known.task) (sym e)
      (subst (λ (y : Bodied). MayOpen (took_db world_books v) 0 y installed_books v.known.task) (sym is) (record {
        alive = bare.alive;
        desk = record { books = world_books; work = idle; due = [] };
        has = refl;
        resting = refl;
        near = omega arith;
        turns = install-turns v.known.lane v.known.task own;
        made = install-opens v.known.lane v.known.task own;
        memtable = inl refl;
        body = new-fits;
        room = omega (arith, few);
      }))

  pub sweeps_new : (w u : LaneView) → w ≡ took_db world_books v → (x : Bodied) → x ≡ new_bodied → (r : ℕ) → r ≡ old_pack
      → u ≡ installed 0 x installed_books w.known.task [] r w → IsSweeping installed_books 0 u
  sweeps_new w u e x is r at is_u =
      let same : u ≡ installed 0 new_bodied installed_books v.known.task [] old_pack (took_db world_books v)
      = is_u ∙ (λ i. installed 0 (is i) installed_books (e i).known.task [] (at i) (e i)) in
      subst (IsSweeping installed_books 0) (sym same) (record {
        alive = bare.alive;
        db = refl;
        cell = bare.cell;
        hand = ap (λ (l : List ℕ). old_pack ∷ l) bare.hand;
        stays = turned-still v.known.lane world_books installed_books v.known.task v.known.task []
            (install-turns v.known.lane v.known.task own);
      })

  pub may_end : (w : LaneView) → w ≡ took_db world_books v → length v.joined + 1 ≡ v.seat.lanes
      → MayEndCurrent w 0 ended_books w.known.task
  may_end w e all = subst (λ (z : LaneView). MayEndCurrent z 0 ended_books z.known.task) (sym e) (record {
    alive = bare.alive;
    desk = record { books = world_books; work = idle; due = [] };
    has = refl;
    resting = refl;
    near = omega arith;
    current = omega arith;
    turns = end-turns v.known.lane v.known.task own;
    ended = end-ends v.known.lane v.known.task own;
    family = default_family;
    family_at = refl;
    may = inr all;
  })

  pub sweeps_ended : (w u : LaneView) → w ≡ took_db world_books v → (r : ℕ) → r ≡ old_pack
      → u ≡ retired 0 ended_books w.known.task [] r w → IsSweeping ended_books 0 u
  sweeps_ended w u e r at is_u =
      let same : u ≡ retired 0 ended_books v.known.task [] old_pack (took_db world_books v)
      = is_u ∙ (λ i. retired 0 ended_books (e i).known.task [] (at i) (e i)) in
      subst (IsSweeping ended_books 0) (sym same) (record {
        alive = bare.alive;
        db = refl;
        cell = bare.cell;
        hand = ap (λ (l : List ℕ). old_pack ∷ without 0 l) bare.hand;
        stays = turned-still v.known.lane world_books ended_books v.known.task v.known.task []
            (end-turns v.known.lane v.known.task own);
      })

-- ---- a slot is swept

module _ (b : Books) (l : ℕ) (v : LaneView) (s : IsSweeping b l v) where
  abbrev desk : Desk
  desk = record { books = b; work = sweeping 0 old_pack l false 0; due = [] }

  is_desk : desk_of v ≡ desk
  is_desk = desk_is_of v desk s.db

  pub sweeps : Sweeps v 0 l false
  sweeps = record {
    has = s.db ∙ ap Some (sym is_desk);
    work = subst (λ (d : Desk). d.work ≡ sweeping 0 (old_in d.work) l false (taken_in d.work)) (sym is_desk) refl;
  }

  pub room : length v.hand < 65600
  room = omega (arith, ap (λ (h : List ℕ). length h) s.hand)

  pub passes_none : (w : LaneView) → w ≡ swept_on 0 l (taken_in (desk_of v).work) v.hand v → IsSweeping b (l + 1) w
  passes_none w e =
      let same : w ≡ works desk (beyond v.seat.lanes 0 old_pack l 0) v.hand v = e
      ∙ ap (λ (d : Desk). works d (beyond v.seat.lanes 0 (old_in d.work) l (taken_in d.work)) v.hand v) is_desk in
      subst (IsSweeping b (l + 1)) (sym same)
      (record { alive = s.alive; db = refl; cell = s.cell; hand = s.hand; stays = s.stays })

  module _ (p : ℕ) (more : List Bodied) (w : LaneView) (old : p ≡ old_in (desk_of v).work)
      (is : w ≡ learnt more (swept_on 0 l (taken_in (desk_of v).work + 1) (p ∷ v.hand) v)) where
    is_old : p ≡ old_pack
    is_old = old ∙ ap (λ (d : Desk). old_in d.work) is_desk

    abbrev took : LaneView
    took = learnt more (works desk (sweeping 0 old_pack (l + 1) false 1) (old_pack ∷ v.hand) v)

    is_took : w ≡ took
    is_took = is
        ∙ (ap (λ (d : Desk). learnt more (works d (beyond v.seat.lanes 0 (old_in d.work) l (taken_in d.work + 1)) (p ∷ v.hand) v)) is_desk
        ∙ ap (λ (q : ℕ). learnt more (works desk (sweeping 0 old_pack (l + 1) false 1) (q ∷ v.hand) v)) is_old)

    pub taken_held : (256 ≤ p) × (0 < total (same p) w.hand)
    taken_held = (
      omega (arith, is_old),
      omega (
        arith,
        ap (λ (z : LaneView). total (same p) z.hand) is_took,
        ap (λ (q : ℕ). same p q) (sym is_old),
        same-self p,
      ),
    )

    pub taken_may : MayDropAt p w.seat.lanes w.hand w.locks.db
    taken_may = subst (λ (z : LaneView). MayDropAt p z.seat.lanes z.hand z.locks.db) (sym is_took) tt

    pub taken_more : (answer : Sub) → NotLast p answer w → IsMore answer
    taken_more answer n = n.taken (subst (λ (z : LaneView). 0 < has_taken_at p z.locks.db) (sym is_took)
        (subst (λ (q : ℕ). 0 < has_taken_at q took.locks.db) (sym is_old) (omega arith)))

    pub passes_some : (u : LaneView) → u ≡ dropped p false w → IsSweeping b (l + 1) u
    passes_some u e =
        let same : u ≡ dropped old_pack false took = e ∙ (λ i. dropped (is_old i) false (is_took i)) in
        subst (IsSweeping b (l + 1)) (sym same)
        (record { alive = s.alive; db = refl; cell = s.cell; hand = s.hand; stays = s.stays })

-- ---- all slots are swept

abbrev is_last : Sub → Bool
is_last More = false
is_last (Last owed) = true

is_dropped : (p : ℕ) (answer : Sub) (v w : LaneView) → IsDropped p answer v w → w ≡ dropped p (is_last answer) v
is_dropped p More v w e = e
is_dropped p (Last owed) v w e = e.1

module _ (b : Books) (v : LaneView) (s : IsSweeping b v.seat.lanes v) (p : ℕ) (old : p ≡ old_pack) where
  pub last_held : (256 ≤ p) × (0 < total (same p) v.hand)
  last_held = (
    omega (arith, old),
    omega (
      arith,
      ap (λ (h : List ℕ). total (same p) h) s.hand,
      ap (λ (q : ℕ). same p q) (sym old),
      same-self p,
    ),
  )

  pub last_may : MayDropAt p v.seat.lanes v.hand v.locks.db
  last_may = subst (λ (o : Option Desk). MayDropAt p v.seat.lanes v.hand o) (sym s.db) (λ _. (refl, refl))

  module _ (answer : Sub) (w : LaneView) (is : IsDropped p answer v w) where
    same_known : w.known ≡ v.known
    same_known = ap (λ (z : LaneView). z.known) (is_dropped p answer v w is)

    rests : w.locks.db ≡ Some (record { books = b; work = idle; due = [] })
    rests = ap (λ (z : LaneView). z.locks.db) (is_dropped p answer v w is)
        ∙ (ap (λ (o : Option Desk). lowers p o) s.db
        ∙ ap (λ (q : ℕ). lowers q (Some (record { books = b; work = sweeping 0 old_pack v.seat.lanes false 0; due = [] }))) old)

    alive : w.seat.spent ≡ false
    alive = ap (λ (z : LaneView). z.seat.spent) (is_dropped p answer v w is) ∙ s.alive

    bare : w.locks.cell ≡ None
    bare = ap (λ (z : LaneView). z.locks.cell) (is_dropped p answer v w is) ∙ s.cell

    pub last_gives : MayGiveDb w b w.known.task
    last_gives = gives_still w (record { books = b; work = idle; due = [] }) alive rests refl refl bare
        (subst (λ (k : Known). Turns k.lane b k.task b k.task []) (sym same_known) s.stays)

    left_free : (u : LaneView) → u ≡ gave_db b w.known.task w → IsFree u
    left_free u e = record {
      alive = ap (λ (z : LaneView). z.seat.spent) e ∙ alive;
      db = ap (λ (z : LaneView). z.locks.db) e;
      cell = ap (λ (z : LaneView). z.locks.cell) e ∙ bare;
    }

  pub leaves : (answer : Sub) (w u : LaneView) → IsDropped p answer v w → u ≡ gave_db b w.known.task w → IsLeft answer u
  leaves More w u is e = left_free More w is u e
  leaves (Last owed) w u is e = record {
    free = left_free (Last owed) w is u e;
    pack = is.0 ∙ old;
    owes = omega (
      arith,
      ap (λ (z : LaneView). total (same old_pack) z.owes) (e ∙ ap (gave_db b w.known.task) is.1),
      ap (λ (q : ℕ). same old_pack q) old,
      same-self old_pack,
    );
  }

-- ---- a cleanup

module _ (owed : Owed) (v : LaneView) (o : IsOwing owed v)
    (own : IsAccounted v.known.lane installed_books v.known.task) where
  settles : MaySettle (took_db installed_books v) old_pack cleaned_books v.known.task []
  settles = record {
    alive = o.free.alive;
    desk = record { books = installed_books; work = idle; due = [] };
    has = refl;
    big = omega arith;
    owed = o.owes;
    turns = cleanup-turns v.known.lane v.known.task own;
    gone = cleanup-ends v.known.lane v.known.task own;
    cell = o.free.cell;
  }

  pub may_settle : (w : LaneView) → w ≡ took_db installed_books v → MaySettle w owed.pack cleaned_books w.known.task []
  may_settle w e = subst (λ (z : LaneView). MaySettle z owed.pack cleaned_books z.known.task []) (sym e)
      (subst (λ (p : ℕ). MaySettle (took_db installed_books v) p cleaned_books v.known.task []) (sym o.pack) settles)

  pub settled_gives : (w u : LaneView) → w ≡ took_db installed_books v
      → u ≡ settled owed.pack cleaned_books w.known.task [] (desk_of w) w → MayGiveDb u cleaned_books u.known.task
  settled_gives w u e is =
      let z : LaneView = took_db installed_books v in
      let same : u ≡ settled owed.pack cleaned_books v.known.task [] (desk_of z) z = is
      ∙ (λ i. settled owed.pack cleaned_books (e i).known.task [] (desk_of (e i)) (e i)) in
      subst (λ (y : LaneView). MayGiveDb y cleaned_books y.known.task) (sym same)
      (gives_still (settled owed.pack cleaned_books v.known.task [] (desk_of z) z)
      (record { books = cleaned_books; work = idle; due = [] }) o.free.alive refl refl refl o.free.cell
      (turned-still v.known.lane installed_books cleaned_books v.known.task v.known.task []
      (cleanup-turns v.known.lane v.known.task own)))

-- ---- the new reference

pub new_is : (p f : ℕ) → p ≡ new_pack → f ≡ 0 → ◌≡◌ {A = Bodied} (record { pack = p; body = body_of f }) new_bodied
new_is p f e s = λ i. record { pack = e i; body = body_of (s i) }
