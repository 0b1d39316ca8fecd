-- A seat that is joined into another keeps the rule.
use Rattle.std.proofs.Common.{Bool, List, Option, [], ap, arith, cond, false, length, length-append, length-set, refl, set, subst, suc, sym, true, ℕ, ◌+◌, ◌<◌, ◌==◌, ◌∙◌, ◌∷◌, ◌≡◌, ◌≢◌, ◌≤◌}
use Rattle.sv_model.specs.Tasks.{job_count, marks_of, output_count, Mark}
use mathlib.Core.Logic.{dite}
use mathlib.Core.Option.{some}
use native.Mathlib.Decide.{ℕ_discrete}
use lib.ListN.{get_elem?}
use Rattle.atomic_table.specs.Table.{Joins, State}
use Rattle.sv_model.specs.Books.{Books}
use Rattle.sv_model.specs.Cells.{Cell}
use Rattle.sv_model.specs.Lists.{Every, same, times, total, at}
use Rattle.sv_rule.specs.Blanks.{no_start, nobody}
use Rattle.sv_rule.specs.Home.{Seats}
use Rattle.sv_rule.specs.InHand.{Accounts, IsClosing}
use Rattle.sv_rule.specs.Rule.{Kept}
use Rattle.sv_rule.specs.SeatPlays.{IsIdle, gathered, kept_of}
use Rattle.sv_rule.specs.Sums.{Each}
use Rattle.sv_rule.specs.Table.{holds, names, number, slot_of}
use Rattle.sv_rule.specs.Tasks.{cell_count, has_db, is_spent, joined_count, lanes, own_lane, some_count}
use Rattle.sv_rule.specs.Views.{Body, Disk, Joined, LaneView, SlotView, away}
use Rattle.sv_rule.specs.declared.parts.Stored.{Stored}
use Rattle.sv_rule.proofs.Basics.{each_set, every_append, every_cons, every_none, true_not, views-else}
use Rattle.sv_rule.proofs.LockCounts.{db_none, dues_none, fills_le}
use Rattle.sv_rule_seats.proofs.SeatRest.{kept-by-seats}
use Rattle.sv_rule_seats.proofs.SeatWork.{Moves, work-seats, zero-cond}
use Rattle.sv_rule.proofs.Sums.{at-is, at-set_else, at-set_same, at_lt, same-else, term_le, terms_le, total-append, total-set}

names_none : (q : ℕ) (l : List SlotView) → ((f : ℕ) → at away l f ≡ away) → total (names q) l ≡ 0
names_none q [] h = refl
names_none q (x ∷ l) h = omega (arith, ap (names q) (h 0), names_none q l (λ f. h (suc f)))

pub alive_one : LaneView → ℕ
alive_one u = cond u.seat.spent 0 1

-- each view is spent or not
pub count_all : (vs : List LaneView) → total is_spent vs + total alive_one vs ≡ length vs
unfolding alive_one
count_all [] = refl
count_all (u ∷ vs) = omega (arith, one u.seat.spent, count_all vs)
  where
    one : (q : Bool) → cond q 1 0 + cond q 0 1 ≡ 1
    one true = refl
    one false = refl

pub is_alive : (u : LaneView) → u.seat.spent ≡ false → alive_one u ≡ 1
unfolding alive_one
is_alive u e = ap (λ (q : Bool). cond q 0 1) e

-- where two seats stand, none has all lanes
two_seats : {A : Type 0} (s : State A LaneView) → Seats s → (f j : ℕ) (u : LaneView) → get_elem? s.views j ≡ some u
    → IsClosing f u → (k : ℕ) (y : LaneView) → get_elem? s.views k ≡ some y → k ≢ j → y.seat.spent ≡ false → ⊥
two_seats s sh f j u at_u c k y at_y ne alive = omega (
  arith,
  terms_le alive_one s.views j k u y ne at_u at_y,
  is_alive u c.alive,
  is_alive y alive,
  count_all s.views,
  sh.joined,
  term_le joined_count s.views j u at_u,
  c.all,
  sh.told j u at_u c.alive,
  sh.views,
)

module _ {S D C B : Type 0} (books : S → Books) (disk : D → Disk) (cell : C → Option Cell) (body : B → Body) where
  pub idle_holds : (w : LaneView) → IsIdle w → (q : ℕ) → holds q w ≡ 0
  idle_holds w h q = omega (arith, names_none q w.slots.slot h.slots, ap (total (same q)) h.hand)

  moves : (s : State (Stored S D C B) LaneView) (kept : Kept books disk cell body s) (id : ℕ) (v : LaneView)
      (me : get_elem? s.views id ≡ some v) (other : ℕ) (w : LaneView) → other ≢ id → get_elem? s.views other ≡ some w
      → get_elem? (set s.views id (gathered v w)) other ≡ some w → v.seat.spent ≡ false → IsIdle w
      → Moves s.views (set (set s.views id (gathered v w)) other nobody) other id v (gathered v w) nobody (λ g. g w)
  moves s kept id v me other w apart there them alive bare =
      let b = gathered v w in let vs = set s.views id b in let ws = set vs other nobody in
      let spots : (P : LaneView → LaneView → Type 0) → ((u : LaneView) → P u u) → P b v → P nobody w → (k : ℕ)
      → P (at nobody ws k) (at nobody s.views k) = λ P same_all left right k.
      dite (ℕ_discrete k other)
      (λ e. subst (λ (z : LaneView × LaneView). P z.0 z.1)
      (λ c. (
        sym (ap (at nobody ws) e ∙ at-set_same nobody vs other w nobody them) c,
        sym (ap (at nobody s.views) e ∙ at-is nobody s.views other w there) c,
      )) right)
      (λ n. subst (λ (z : LaneView). P z (at nobody s.views k)) (sym (at-set_else nobody vs other k nobody n))
      (dite (ℕ_discrete k id)
      (λ e. subst (λ (z : LaneView × LaneView). P z.0 z.1)
      (λ c. (
        sym (ap (at nobody vs) e ∙ at-set_same nobody s.views id v b me) c,
        sym (ap (at nobody s.views) e ∙ at-is nobody s.views id v me) c,
      )) left)
      (λ m. subst (λ (z : LaneView). P z (at nobody s.views k)) (sym (at-set_else nobody s.views id k b m))
      (same_all (at nobody s.views k))))) in
      let lone : has_db w ≡ 0 = db_none w bare.db in
      record {
        both = λ P new mine all. each_set P vs other nobody new (each_set P s.views id b mine all);
        sum = λ g. omega (arith, total-set g s.views id v b me, total-set g vs other w nobody them);
        spots = λ m f. (
          spots (λ a c. at 0 a.slots.cached f ≡ at 0 c.slots.cached f) (λ u. refl) refl
              (sym (bare.cached f)) m,
          spots (λ a c. slot_of a f ≡ slot_of c f) (λ u. refl) refl (sym (bare.slots f)) m,
        );
        holders = λ q. idle_holds w bare q;
        owers = λ q. ap (total (same q)) bare.owes;
        db = lone;
        dir = ap (λ (o : Option Disk). some_count o) bare.dir;
        cells = λ c. ap (cell_count c) bare.cell;
        dues_none = λ c. dues_none c w lone;
        fills_none = λ c. omega (arith, fills_le c w, ap (cell_count c) bare.cell);
        outputs = λ n. ap (output_count n) bare.output;
        grabbed = λ n. ap (λ o. total (λ (m : Mark). same n m.number) (marks_of o)) bare.job;
        jobs = ap job_count bare.job;
        holds_none = λ m. zero-cond (w.known.lane == m) w.known.task.holds bare.holds;
        handles_none = λ m f pos. zero-cond (w.known.lane == m) (times f w.known.task.handles)
            (ap (times f) bare.handles ∙ let z : times f (0 ∷ []) ≡ 0 = omega
            (arith, same-else f 0 (λ e. omega (arith, pos, e))) in z);
        removed = λ n. omega (
          arith,
          total-append (λ (o : Joined). times n o.known.task.removed) v.joined
              (kept_of w ∷ w.joined),
        );
        ended = λ n. omega (
          arith,
          total-append (λ (o : Joined). times n o.known.task.ended) v.joined
              (kept_of w ∷ w.joined),
        );
        faults_on = omega (arith, total-append (λ (o : Joined). o.counts.faults) v.joined (kept_of w ∷ w.joined));
        adds = omega (arith, total-append (λ (o : Joined). o.counts.adds) v.joined (kept_of w ∷ w.joined));
        lanes_on = λ m. omega (
          arith,
          total-append (λ (o : Joined). same m o.known.lane) v.joined
              (kept_of w ∷ w.joined),
          own m w.seat.spent bare.alive,
        );
        closing = λ f z. dite (ℕ_discrete z.0 id)
            (λ e. absurd (two_seats s kept.home.seats f z.0 z.1 z.2 z.3 other w there (λ q. apart (q ∙ e)) bare.alive))
            (λ n. dite (ℕ_discrete z.0 other)
            (λ e. absurd (two_seats s kept.home.seats f z.0 z.1 z.2 z.3 id v me (λ q. n (sym q)) alive))
            (λ m. (z.0, z.1, views-else vs other z.0 nobody m ∙ views-else s.views id z.0 b n ∙ z.2, z.3)));
      }
    where
      own : (m : ℕ) (q : Bool) → q ≡ false → own_lane m q w.known ≡ same m w.known.lane
      own m q e = ap (λ z. cond z 0 (same m w.known.lane)) e

  pub joins : (id : ℕ) (v : LaneView) (other : ℕ) (w : LaneView) → v.seat.spent ≡ false → IsIdle w
      → Joins (Kept {S = S} {D = D} {C = C} {B = B} books disk cell body) id v other w (gathered v w) nobody
  joins id v other w alive bare s kept me apart them =
      let b = gathered v w in let vs = set s.views id b in let ws = set vs other nobody in
      let sh = kept.home.seats in
      let there : get_elem? s.views other ≡ some w = sym (views-else s.views id other b apart) ∙ them in
      let long : length ws ≡ length s.views = length-set vs other nobody ∙ length-set s.views id b in
      let move = moves s kept id v me other w apart there them alive bare in
      let both = move.both in
      let own : (m : ℕ) → own_lane m w.seat.spent w.known ≡ same m w.known.lane = λ m. ap
      (λ z. cond z 0 (same m w.known.lane)) bare.alive in
      let one : Bool → ℕ = λ y. cond y 1 0 in
      kept-by-seats books disk cell body s kept id v me v.seat nobody.seat b.joined 0 no_start [] ws other (λ g. g w)
      move refl alive
      record {
        words = sh.words;
        homes = sh.homes;
        given = sh.given;
        few = sh.few;
        views = omega (arith, long, sh.views);
        told = both (λ j u. u.seat.spent ≡ false → u.seat.lanes ≡ sh.given) (λ e. absurd (true_not e))
            (sh.told id v me) sh.told;
        made = subst (λ (z : ℕ). Each (λ j u. 0 < u.seat.made → (j ≡ 0) × (u.seat.made ≡ z)) ws) (sym long)
            (both (λ j u. 0 < u.seat.made → (j ≡ 0) × (u.seat.made ≡ length s.views)) (λ z. absurd (omega arith))
            (sh.made id v me) sh.made);
        ordered = both (λ j u. u.seat.spent ≡ false → u.known.lane ≡ j) (λ e. absurd (true_not e))
            (sh.ordered id v me) sh.ordered;
        slots = both (λ j u. length u.slots.slot ≤ 16) (omega arith) (sh.slots id v me) sh.slots;
        spent = both (λ j u. u.seat.spent ≡ true → u ≡ nobody) (λ _. refl) (λ z. absurd (true_not (sym z ∙ alive)))
            sh.spent;
        joined = omega (
          arith,
          total-set is_spent s.views id v b me,
          total-set is_spent vs other w nobody them,
          total-set joined_count s.views id v b me,
          total-set joined_count vs other w nobody them,
          sh.joined,
          ap one bare.alive,
          length-append v.joined (kept_of w ∷ w.joined),
        );
        below = subst (λ (z : ℕ). Each (λ j u. Every (λ o. o.known.lane < z) u.joined) ws) (sym long)
            (both (λ j u. Every (λ o. o.known.lane < length s.views) u.joined)
            (every_none (λ o. o.known.lane < length s.views))
            (every_append (λ o. o.known.lane < length s.views) v.joined (kept_of w ∷ w.joined) (sh.below id v me)
            (every_cons (λ o. o.known.lane < length s.views) (kept_of w) w.joined
            (omega (arith, sh.ordered other w there bare.alive, at_lt s.views other w there))
            (sh.below other w there)))
            sh.below);
        once = λ m. omega (
          arith,
          move.sum (lanes m),
          total-append (λ (o : Joined). same m o.known.lane) v.joined
              (kept_of w ∷ w.joined),
          own m,
          sh.once m,
        );
      }
      (work-seats kept.b kept.work kept.start kept.d (number s) s.views ws other id v me v.seat nobody.seat b.joined 0
      no_start [] (λ g. g w) move refl alive (λ e. absurd (true_not e)) (λ _. refl) (λ f pos. refl)
      (λ e. absurd (true_not e))
      (every_append (λ o. Accounts kept.b o.known) v.joined (kept_of w ∷ w.joined) (kept.in_hand.joined id v me)
      (every_cons (λ o. Accounts kept.b o.known) (kept_of w) w.joined (kept.in_hand.accounts other w there bare.alive)
      (kept.in_hand.joined other w there)))
      (λ excepted z. refl) kept.in_hand)
