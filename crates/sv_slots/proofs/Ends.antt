-- The end of a table: all seats in one, and what the last finds.
use Rattle.std.proofs.Common.{Bool, List, Option, [], ap, arith, false, get_or, get_or-set_other, length, length-append, map, refl, set, subst, suc, sym, zero, ℕ, ◌++◌, ◌+◌, ◌<◌, ◌∙◌, ◌∷◌, ◌≡◌}
use mathlib.Core.Logic.{dite}
use mathlib.Core.Option.{some, some-injective}
use native.Mathlib.Decide.{ℕ_discrete}
use lib.ListN.{get_elem?}
use Rattle.atomic_table.specs.Table.{Final, Seen}
use Rattle.sv_model.specs.Books.{Books}
use Rattle.sv_model.specs.Cells.{Cell}
use Rattle.sv_model.specs.Lists.{Every, total}
use Rattle.sv_rule.specs.Blanks.{no_locks}
use Rattle.sv_rule.specs.Closings.{IsEnd}
use Rattle.sv_rule.specs.Rule.{Kept}
use Rattle.sv_rule.specs.SeatPlays.{IsIdle, IsLast, gathered}
use Rattle.sv_rule.specs.Tasks.{joined_count}
use Rattle.sv_rule.specs.Views.{Body, Disk, LaneView}
use Rattle.atomic_table.specs.Seated.{TableId}
use Rattle.sv_rule.specs.declared.parts.Parts.{Ghosts}
use Rattle.sv_rule.specs.declared.parts.Stored.{Stored}
use Rattle.sv_rule.specs.declared.parts.Stored.TheVariants as is
use Rattle.sv_rule_seats.proofs.Closes.{dir_home, state_home}
use Rattle.sv_rule_seats.proofs.Ends.{ends}
use Rattle.sv_slots.specs.Closings.{AreAll, CanClose, FilledFrom, gathered_all, gathered_by, views_of}
use Rattle.sv_slots.specs.declared.table.LaneSeat.{LaneSeat}

-- ---- seats

-- the last of the list is joined first
pub gathered-last : (v w : LaneView) (ws all : List LaneView) → all ≡ ws ++ w ∷ []
    → gathered_by (gathered v w) ws ≡ gathered_by v all
gathered-last v w ws all e = go ws ∙ ap (gathered_by v) (sym e)
  where
    go : (ws : List LaneView) → gathered_by (gathered v w) ws ≡ gathered_by v (ws ++ w ∷ [])
    go [] = refl
    go (x ∷ ws) = ap (λ z. gathered z x) (go ws)

idle-gathered : (v w : LaneView) → IsIdle v → IsIdle (gathered v w)
idle-gathered v w h = record {
  alive = h.alive;
  db = h.db;
  cell = h.cell;
  dir = h.dir;
  slots = h.slots;
  cached = h.cached;
  hand = h.hand;
  owes = h.owes;
  holds = h.holds;
  handles = h.handles;
  output = h.output;
  job = h.job;
}

idle-by : (v : LaneView) (ws : List LaneView) → IsIdle v → IsIdle (gathered_by v ws)
idle-by v [] h = h
idle-by v (w ∷ ws) h = idle-gathered (gathered_by v ws) w (idle-by v ws h)

made-by : (v : LaneView) (ws : List LaneView) → (gathered_by v ws).seat.made ≡ v.seat.made
made-by v [] = refl
made-by v (w ∷ ws) = made-by v ws

joined-by : (v : LaneView) (ws : List LaneView) → length (gathered_by v ws).joined ≡ total joined_count (v ∷ ws)
    + length ws
joined-by v [] = omega arith
joined-by v (w ∷ ws) = omega (
  arith,
  length-append (gathered_by v ws).joined (Rattle.sv_rule.specs.SeatPlays.kept_of w ∷ w.joined),
  joined-by v ws,
)

bare : (v : LaneView) → IsIdle v → v.locks ≡ no_locks
bare v h = λ k. record { db = h.db k; cell = h.cell k; dir = h.dir k }

pub all_idle : (vs : List LaneView) → AreAll vs → Every IsIdle vs → IsLast (gathered_all vs) × IsIdle (gathered_all vs)
all_idle [] all h = absurd all
all_idle (v ∷ vs) all h = let it = idle-by v vs (h 0 v refl) in (
  record {
    alive = it.alive;
    locks = bare (gathered_by v vs) it;
    first = omega (arith, all.0, made-by v vs);
    all = omega (arith, all.1, made-by v vs, joined-by v vs);
  },
  it,
)

pub some_seat : {A : Type 0} (l : List A) (view : A → LaneView) → AreAll (map view l) → 0 < length l
some_seat [] view all = absurd all
some_seat (x ∷ l) view all = omega arith

module _ {P S D C B : Type 0} {g : Ghosts P S D C B} where
  -- the first seat, and the others
  pub gathers-first : (t : TableId) (all others : List (LaneSeat P S D C B g)) (first : LaneSeat P S D C B g)
      → CanClose t all → all ≡ first ∷ others
      → (first.seat.table_id ≡ t) × Every (λ s. s.seat.table_id ≡ t) others × Every IsIdle (views_of others)
      × (gathered_all (views_of all) ≡ gathered_by first.seat.me.0 (views_of others))
  gathers-first t all others first can e = let c = subst (CanClose t) e can in (
    c.table 0 first refl,
    λ i y a. c.table (suc i) y a,
    λ i y a. c.idle (suc i) y a,
    ap (λ (z : List (LaneSeat P S D C B g)). gathered_all (views_of z)) e,
  )

  pub views-last : (l all : List (LaneSeat P S D C B g)) (x : LaneSeat P S D C B g) → all ≡ l ++ x ∷ []
      → views_of all ≡ views_of l ++ x.seat.me.0 ∷ []
  views-last l all x e = ap (λ (z : List (LaneSeat P S D C B g)). views_of z) e ∙ go l
    where
      go : (l : List (LaneSeat P S D C B g)) → views_of (l ++ x ∷ []) ≡ views_of l ++ x.seat.me.0 ∷ []
      go [] = refl
      go (y ∷ l) = ap (λ z. y.seat.me.0 ∷ z) (go l)

-- ---- slots

cleared_here : (fs : List Bool) (i : ℕ) → get_or (set fs i false) i false ≡ false
cleared_here [] i = refl
cleared_here (x ∷ fs) zero = refl
cleared_here (x ∷ fs) (suc i) = cleared_here fs i

-- one more is taken
pub cleared : (fs fs' : List Bool) (i n n' : ℕ) → FilledFrom i fs n → fs' ≡ set fs i false → n' ≡ n
    → FilledFrom (i + 1) fs' n'
cleared fs fs' i n n' h e l = record {
  there = λ k a b. ap (λ (z : List Bool). get_or z k false) e
      ∙ (get_or-set_other fs i k false false (λ z. omega arith) ∙ h.there k (omega arith) (omega arith));
  taken = λ k a. ap (λ (z : List Bool). get_or z k false) e ∙ dite (ℕ_discrete k i)
      (λ z. ap (λ (y : ℕ). get_or (set fs i false) y false) z ∙ cleared_here fs i)
      (λ z. get_or-set_other fs i k false false z ∙ h.taken k (omega arith));
}

-- ---- what the last finds

module _ {S D C B : Type 0} (books : S → Books) (disk : D → Disk) (cell : C → Option Cell) (body : B → Body) (id : ℕ)
    (v : LaneView) (ws : List ℕ) (xs : List (Stored S D C B)) (f : Final (Seen (Kept books disk cell body) id v) ws xs)
    (last : IsLast v) where
  pub finds_state : (y : Stored S D C B) → get_elem? xs 0 ≡ some y
      → (st : S) × (y ≡ is.State st) × (books st ≡ f.1.0.b)
  finds_state y e = let t = state_home books disk cell body f.0 f.1.0 id v f.1.1 last in
      (t.0, some-injective y (is.State t.0) (sym e ∙ f.4 0 (is.State t.0) t.1), t.2)

  pub finds_dir : (y : Stored S D C B) → get_elem? xs 1 ≡ some y → (d : D) × (y ≡ is.Dir d) × (disk d ≡ f.1.0.d)
  finds_dir y e = let t = dir_home books disk cell body f.0 f.1.0 id v f.1.1 last in
      (t.0, some-injective y (is.Dir t.0) (sym e ∙ f.4 1 (is.Dir t.0) t.1), t.2)

  state_in : (st st' : S) → ◌≡◌ {A = Stored S D C B} (is.State st) (is.State st') → st ≡ st'
  state_in st st' e = cc

  dir_in : (d d' : D) → ◌≡◌ {A = Stored S D C B} (is.Dir d) (is.Dir d') → d ≡ d'
  dir_in d d' e = cc

  pub finds_end : IsIdle v → (y z : Stored S D C B) (st : S) (d : D) → get_elem? xs 0 ≡ some y → get_elem? xs 1 ≡ some z
      → y ≡ is.State st → z ≡ is.Dir d → IsEnd (books st) (disk d) v
  finds_end idle y z st d at_state at_dir is_state is_dir =
      let a = finds_state y at_state in let b = finds_dir z at_dir in
      let same_state : books st ≡ f.1.0.b = ap books (state_in st a.0 (sym is_state ∙ a.1)) ∙ a.2 in
      let same_disk : disk d ≡ f.1.0.d = ap disk (dir_in d b.0 (sym is_dir ∙ b.1)) ∙ b.2 in
      subst (λ (q : Books × Disk). IsEnd q.0 q.1 v) (λ k. (sym same_state k, sym same_disk k))
      (ends books disk cell body f.0 f.1.0 id v f.1.1 last idle)
