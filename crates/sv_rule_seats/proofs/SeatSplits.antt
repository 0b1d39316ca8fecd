-- A seat that is made keeps the rule.
use Rattle.std.proofs.Common.{Bool, List, None, Option, Some, [], ap, arith, cond, false, length, length-append, length-set, ne_eqb, refl, set, slice_get, subst, suc, sym, true, zero, ℕ, ◌++◌, ◌+◌, ◌<◌, ◌∙◌, ◌∷◌, ◌≡◌, ◌≢◌, ◌≤◌}
use mathlib.Core.Logic.{dite}
use mathlib.Core.Option.{some, some-injective, some-ne-none}
use native.Mathlib.Decide.{ℕ_discrete}
use lib.ListN.{get_elem?}
use Rattle.atomic_table.specs.Table.{Splits, State}
use Rattle.sv_model.specs.After.{After}
use Rattle.sv_model.specs.Books.{Books}
use Rattle.sv_model.specs.Cells.{Cell}
use Rattle.sv_model.specs.Journal.{by_lane}
use Rattle.sv_model.specs.Lawful.{Lawful}
use Rattle.sv_model.specs.Lists.{Every, same, total, at}
use Rattle.sv_model.specs.Numbers.{IsRegistered}
use Rattle.sv_model.specs.TableTextFields.{start}
use Rattle.sv_model.specs.declared.records.FileStatus.TheVariants.{Gone}
use Rattle.sv_model.specs.declared.writes.Write.{Write}
use Rattle.sv_rule.specs.Blanks.{bare_known, nobody}
use Rattle.sv_rule.specs.Fits.{BodyFits, IsGoneSnapshot, ReadFits, RowsFit, Together}
use Rattle.sv_rule.specs.Home.{Seats}
use Rattle.sv_rule.specs.InHand.{Accounts, IsClosing, WorkHeld}
use Rattle.sv_rule.specs.Rule.{Kept}
use Rattle.sv_rule.specs.SeatPlays.{MaySplit, split_left, split_right}
use Rattle.sv_rule.specs.Sums.{Each}
use Rattle.sv_rule.specs.Table.{number, slot_of}
use Rattle.sv_rule.specs.Tasks.{is_spent, joined_count, lanes, own_lane}
use Rattle.sv_rule.specs.Views.{Body, Disk, Joined, LaneView, Start, Work}
use Rattle.sv_rule.specs.declared.parts.Stored.{Stored}
use Rattle.sv_rule.proofs.Basics.{each_other, each_set, every_map, every_none, get-past, some_is, true_not, views-else, views-here}
use Rattle.sv_rule.proofs.LaterBooks.{continues-at}
use Rattle.sv_rule_seats.proofs.SeatRest.{kept-by-seats}
use Rattle.sv_rule_seats.proofs.SeatWork.{Moves, work-seats}
use Rattle.sv_rule.proofs.Sums.{at-is, at-past, at-set_else, at-set_same, at-snoc_else, at-snoc_last, at_lt, same-else, same_le, total-append, total-set, total-zero}

-- what holds of all and of one more holds of all with it
pub each_snoc : {A : Type 0} (P : ℕ → A → Type 0) (vs : List A) (w : A) → P (length vs) w → Each P vs
    → Each P (vs ++ w ∷ [])
each_snoc P [] w last all zero u e = subst (P 0) (some-injective w u e) last
each_snoc P [] w last all (suc j) u e = absurd (some-ne-none u (sym e))
each_snoc P (x ∷ xs) w last all zero u e = all 0 u e
each_snoc P (x ∷ xs) w last all (suc j) u e = each_snoc (λ k. P (suc k)) xs w last (λ k. all (suc k)) j u e

get_snoc : {A : Type 0} (vs : List A) (w : A) (j : ℕ) (u : A) → get_elem? vs j ≡ some u
    → get_elem? (vs ++ w ∷ []) j ≡ some u
get_snoc [] w j u e = absurd (some-ne-none u (sym e))
get_snoc (x ∷ xs) w zero u e = e
get_snoc (x ∷ xs) w (suc j) u e = get_snoc xs w j u e

-- no write is the lane's
pub none_by : (l : ℕ) (journal : List Write) → ((i : ℕ) (w : Write) → slice_get journal i ≡ Some w → w.lane ≢ l)
    → by_lane l journal ≡ []
none_by l [] h = refl
none_by l (w ∷ journal) h = ap (λ z. cond z (w ∷ by_lane l journal) (by_lane l journal))
    (ne_eqb w.lane l (h 0 w refl)) ∙ none_by l journal (λ i x e. h (suc i) x e)

-- a lane that stands at no seat has no writes
new_lane : (b : Books) (work : Work) (start : Start) (disk : Disk) (number : ℕ → ℕ) (vs : List LaneView) (l : ℕ)
    → l < 32 → total (lanes l) vs ≡ 0 → After start.books b → WorkHeld b work start disk number vs
    → by_lane l b.journal ≡ []
new_lane b work start disk number vs l few free later held = none_by l b.journal
    (λ i w e is. by i w e is (slice_get start.books.journal i) refl)
  where
    by : (i : ℕ) (w : Write) → slice_get b.journal i ≡ Some w → w.lane ≡ l → (o : Option Write)
        → slice_get start.books.journal i ≡ o → ⊥
    by i w e is None none_there = omega (
      arith,
      held.writes i w e (get-past start.books.journal i none_there),
      free,
      ap (λ m. total (lanes m) vs) is,
    )
    by i w e is (Some y) there = let same : y ≡ w = some_is
        (sym (continues-at start.books.journal b.journal later.journal i y there) ∙ e) in
        omega (arith, held.opening i y there, few, ap (λ (z : Write). z.lane) same, is)

-- books fit a view that knows nothing
pub accounts-none : (b : Books) (l : ℕ) (start : Start) (handles : List ℕ) → Lawful b → After start.books b
    → by_lane l b.journal ≡ [] → Accounts b (bare_known l start handles)
accounts-none b l start handles lawful later none = record {
  fits = record {
    lawful = lawful;
    start = later;
    found = every_none (λ a. After a b);
    left = every_none (λ a. After a b);
    mine = (by_lane l b.journal, refl);
    bodies = every_none (BodyFits b);
    rows = every_none (RowsFit b);
    reads = λ _. every_none (ReadFits b);
    seen = λ f. omega arith;
    removed = every_none (λ n. IsRegistered b.files.numbers n Gone);
    ended = every_none (IsGoneSnapshot b.snapshots);
    round = omega arith;
    frames = every_none (Together b.supers);
  };
  mine = none;
}

no_lane_joined : (l m : ℕ) (os : List Joined) → Every (λ o. o.known.lane < m) os → m ≤ l
    → total (λ o. same l o.known.lane) os ≡ 0
no_lane_joined l m [] h le = refl
no_lane_joined l m (o ∷ os) h le = omega (
  arith,
  same-else l o.known.lane (λ e. omega (arith, h 0 o refl, le, e)),
  no_lane_joined l m os (λ i y e. h (suc i) y e) le,
)

module _ {S D C B : Type 0} (books : S → Books) (disk : D → Disk) (cell : C → Option Cell) (body : B → Body) where
  pub splits : (id : ℕ) (v : LaneView) → MaySplit v → Splits
      (Kept {S = S} {D = D} {C = C} {B = B} books disk cell body) id v (split_left v) (split_right v)
  splits id v may s kept me =
      let l = split_left v in let r = split_right v in let ls = set s.views id l in let ws = ls ++ r ∷ [] in
      let sh = kept.home.seats in
      let here = sh.made id v me may.first in
      let given : v.seat.lanes ≡ sh.given = sh.told id v me may.alive in
      let wide : length ls ≡ length s.views = length-set s.views id l in
      let long : length ws ≡ length s.views + 1 = omega (arith, length-append ls (r ∷ []), wide) in
      let both : (P : ℕ → LaneView → Type 0) → P (length ls) r → P id l → Each P s.views
      → Each P ws = λ P new mine all. each_snoc P ls r new (each_set P s.views id l mine all) in
      let sum : (g : LaneView → ℕ) → total g ws + g v + 0 ≡ total g s.views + g l + g r = λ g. omega
      (arith, total-append g ls (r ∷ []), total-set g s.views id v l me) in
      let start_is = kept.in_hand.starts id v me may.alive in
      let free : total (lanes v.seat.made) s.views ≡ 0 = total-zero (lanes v.seat.made) s.views
      (λ j u at_u. no_lane s sh v.seat.made here.1 j u at_u) in
      let later : After v.known.start.books kept.b = (kept.in_hand.accounts id v me may.alive).fits.start in
      let none : by_lane v.seat.made kept.b.journal ≡ [] = new_lane kept.b kept.work kept.start kept.d (number s)
      s.views v.seat.made (omega (arith, may.more, given, sh.few)) free
      (subst (λ (z : Start). After z.books kept.b) start_is later) kept.in_hand in
      let move : Moves s.views ws (length ls) id v l r (λ g. 0) = moves s kept id v me may in
      kept-by-seats books disk cell body s kept id v me l.seat r.seat v.joined v.seat.made v.known.start (0 ∷ []) ws
      (length ls) (λ g. 0) move refl may.alive
      record {
        words = sh.words;
        homes = sh.homes;
        given = sh.given;
        few = sh.few;
        views = omega (arith, long, here.1, may.more, given);
        told = both (λ j u. u.seat.spent ≡ false → u.seat.lanes ≡ sh.given) (λ _. given) (λ _. given) sh.told;
        made = subst (λ (z : ℕ). Each (λ j u. 0 < u.seat.made → (j ≡ 0) × (u.seat.made ≡ z)) ws) (sym long)
            (each_snoc (λ j u. 0 < u.seat.made → (j ≡ 0) × (u.seat.made ≡ length s.views + 1)) ls r
            (λ z. absurd (omega arith))
            (each_other (λ j u. 0 < u.seat.made → (j ≡ 0) × (u.seat.made ≡ length s.views + 1)) s.views id l
            (λ _. (here.0, omega (arith, here.1)))
            (λ j u ne y z. absurd (ne ((sh.made j u y z).0 ∙ sym here.0)))));
        ordered = both (λ j u. u.seat.spent ≡ false → u.known.lane ≡ j) (λ _. here.1 ∙ sym wide) (sh.ordered id v me)
            sh.ordered;
        slots = both (λ j u. length u.slots.slot ≤ 16) (omega arith) (sh.slots id v me) sh.slots;
        spent = both (λ j u. u.seat.spent ≡ true → u ≡ nobody) (λ z. absurd (true_not (sym z)))
            (λ z. absurd (true_not (sym z ∙ may.alive))) sh.spent;
        joined = omega (arith, sum is_spent, sum joined_count, sh.joined);
        below = both (λ j u. Every (λ o. o.known.lane < length ws) u.joined)
            (every_none (λ o. o.known.lane < length ws)) (below_more long v.joined (sh.below id v me))
            (λ j u at_u. below_more long u.joined (sh.below j u at_u));
        once = λ m. dite (ℕ_discrete m v.seat.made)
            (λ e. omega (arith, sum (lanes m), free, ap (λ z. total (lanes z) s.views) e, same_le m v.seat.made))
            (λ n. omega (arith, sum (lanes m), sh.once m, same-else m v.seat.made (λ e. n (sym e))));
      }
      (work-seats kept.b kept.work kept.start kept.d (number s) s.views ws (length ls) id v me l.seat r.seat v.joined
      v.seat.made v.known.start (0 ∷ []) (λ g. 0) move refl may.alive (λ _. refl) (λ z. absurd (true_not (sym z)))
      (λ f pos. omega (arith, same-else f 0 (λ e. omega (arith, pos, e))))
      (λ _. (start_is, accounts-none kept.b v.seat.made v.known.start (0 ∷ []) kept.numbers.lawful later none))
      (kept.in_hand.joined id v me)
      (λ excepted z. absurd (omega (arith, kept.numbers.default excepted, z))) kept.in_hand)
    where
      below_more : {n m : ℕ} → m ≡ n + 1 → (os : List Joined) → Every (λ o. o.known.lane < n) os
          → Every (λ o. o.known.lane < m) os
      below_more {n} {m} e os = every_map (λ (o : Joined). o.known.lane < n) (λ (o : Joined). o.known.lane < m) os
          (λ o h. omega (arith, h, e))

      no_lane : (s : State (Stored S D C B) LaneView) (sh : Seats s) (m : ℕ) → m ≡ length s.views
          → (j : ℕ) (u : LaneView) → get_elem? s.views j ≡ some u → lanes m u ≡ 0
      no_lane s sh m e j u at_u = omega (
        arith,
        own u.seat.spent refl,
        no_lane_joined m (length s.views) u.joined (sh.below j u at_u) (omega (arith, e)),
      )
        where
          own : (q : Bool) → u.seat.spent ≡ q → own_lane m q u.known ≡ 0
          own true z = refl
          own false z = same-else m u.known.lane (λ y. omega
              (arith, at_lt s.views j u at_u, sh.ordered j u at_u z, e, y))

      moves : (s : State (Stored S D C B) LaneView) (kept : Kept books disk cell body s) (id : ℕ) (v : LaneView)
          (me : get_elem? s.views id ≡ some v) → MaySplit v
          → Moves s.views (set s.views id (split_left v) ++ split_right v ∷ [])
          (length (set s.views id (split_left v))) id v (split_left v) (split_right v) (λ g. 0)
      moves s kept id v me may =
          let l = split_left v in let r = split_right v in let ls = set s.views id l in let ws = ls ++ r ∷ [] in
          let wide : length ls ≡ length s.views = length-set s.views id l in
          let spots : (P : LaneView → LaneView → Type 0) → ((u : LaneView) → P u u) → P l v → P r nobody → (k : ℕ)
          → P (at nobody ws k) (at nobody s.views k) = λ P same_all left right k.
          dite (ℕ_discrete k (length ls))
          (λ e. subst (λ (z : LaneView × LaneView). P z.0 z.1)
          (λ c. (
            sym (ap (at nobody ws) e ∙ at-snoc_last nobody ls r) c,
            sym (at-past nobody s.views k (omega (arith, e, wide))) c,
          )) right)
          (λ n. subst (λ (z : LaneView). P z (at nobody s.views k)) (sym (at-snoc_else nobody ls r k n))
          (dite (ℕ_discrete k id)
          (λ e. subst (λ (z : LaneView × LaneView). P z.0 z.1)
          (λ c. (
            sym (ap (at nobody ls) e ∙ at-set_same nobody s.views id v l me) c,
            sym (ap (at nobody s.views) e ∙ at-is nobody s.views id v me) c,
          )) left)
          (λ m. subst (λ (z : LaneView). P z (at nobody s.views k)) (sym (at-set_else nobody s.views id k l m))
          (same_all (at nobody s.views k))))) in record {
            both = λ P new mine all. each_snoc P ls r new (each_set P s.views id l mine all);
            sum = λ g. omega (arith, total-append g ls (r ∷ []), total-set g s.views id v l me);
            spots = λ m f. (
              spots (λ a b. at 0 a.slots.cached f ≡ at 0 b.slots.cached f) (λ u. refl) refl refl m,
              spots (λ a b. slot_of a f ≡ slot_of b f) (λ u. refl) refl refl m,
            );
            holders = λ q. refl;
            owers = λ q. refl;
            db = refl;
            dir = refl;
            cells = λ c. refl;
            dues_none = λ c. refl;
            fills_none = λ c. refl;
            outputs = λ n. refl;
            grabbed = λ n. refl;
            jobs = refl;
            holds_none = λ m. refl;
            handles_none = λ m f pos. refl;
            removed = λ n. omega arith;
            ended = λ n. omega arith;
            faults_on = omega arith;
            adds = omega arith;
            lanes_on = λ m. omega arith;
            closing = λ f z. dite (ℕ_discrete z.0 id)
                (λ e. let same : z.1 ≡ v = some-injective z.1 v (sym z.2 ∙ ap (λ j. get_elem? s.views j) e ∙ me) in (
                  id,
                  l,
                  get_snoc ls r id l (views-here s.views id v l me),
                  let c : IsClosing f v = subst (IsClosing f) same z.3 in
                      record { all = c.all; alive = c.alive; ends = c.ends },
                ))
                (λ n. (z.0, z.1, get_snoc ls r z.0 z.1 (views-else s.views id z.0 l n ∙ z.2), z.3));
          }
