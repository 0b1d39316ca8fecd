-- What a step on the lock of a cell or of the directory leaves.
use Rattle.std.proofs.Common.{List, None, Option, Some, ap, arith, false, length, refl, subst, sym, ℕ, ◌+◌, ◌<◌, ◌∙◌, ◌≡◌, ◌≢◌, ◌≤◌, ◌⊎◌}
use mathlib.Core.Option.{some}
use mathlib.Core.Option as maybe
use lib.ListN.{get_elem?}
use Rattle.atomic_table.specs.Table.{State}
use Rattle.sv_model.specs.After.{After}
use Rattle.sv_model.specs.Books.{Books}
use Rattle.sv_model.specs.Cells.{Cell}
use Rattle.sv_model.specs.Lawful.{Lawful}
use Rattle.sv_model.specs.Lists.{same, total, at}
use Rattle.sv_model.specs.declared.records.SuperVersion.{SuperVersion}
use Rattle.sv_rule.specs.Fresh.{FreshIn, FreshOf}
use Rattle.sv_rule.specs.Held.{Held}
use Rattle.sv_rule.specs.Home.{IsDir, IsState, Lock, SlotOk}
use Rattle.sv_rule.specs.InHand.{WorkHeld}
use Rattle.sv_rule.specs.Ledger.{Places}
use Rattle.sv_rule.specs.Rule.{Kept}
use Rattle.sv_rule.specs.Sums.{Each}
use Rattle.sv_model.specs.Supers.{IsSerialOf, current_of, writes}
use Rattle.sv_model.specs.Turns.{Stands}
use Rattle.sv_rule.specs.Table.{Box, holders, holds, home, names, number, number_word, owers, owes, reference, reference_word, slot, slot_home, slot_of, slot_word, word}
use Rattle.sv_rule.specs.Tasks.{has_db, has_dir, some_count}
use Rattle.sv_rule.specs.UnderWay.{Stock}
use Rattle.sv_rule.specs.Views.{Body, Desk, Disk, LaneView, Slots, Work, away, idle}
use Rattle.sv_rule.specs.declared.parts.Stored.{Stored}
use Rattle.sv_rule.proofs.Assembly.{Desks, low_id}
use Rattle.sv_rule.proofs.Basics.{each_other, each_set, has_one, true_not}
use Rattle.sv_rule.proofs.FreshTurns.{fresh-stands, stock-turn}
use Rattle.sv_rule.proofs.NumberTurns.{current-stands, numbers-stands}
use Rattle.sv_rule.proofs.Places.{places_same}
use Rattle.sv_rule.proofs.RoundTurns.{loaded-turn, rounds-on}
use Rattle.sv_rule.proofs.RoundRises.{has-current-same}
use Rattle.sv_rule.proofs.StepLaws.{apart_same, hands_step, holders_by_view, next, numbers_same, rights_stay, rounds_view, seat_view, seats_step, views_move, word_else}
use Rattle.sv_rule.proofs.Sums.{term_le, total-set}

module _ {S D C B : Type 0} (books : S → Books) (disk : D → Disk) (cell : C → Option Cell) (body : B → Body)
    (s : State (Stored S D C B) LaneView) (kept : Kept books disk cell body s) (id : ℕ) (v w : LaneView)
    (me : get_elem? s.views id ≡ some v) (i x : ℕ) (homes : List (maybe.Option (Stored S D C B))) where
  abbrev pub G : State (Stored S D C B) LaneView
  G = next s i x homes id v w me

  pub kept-by-other-lock : (b : Books) (d : Disk) → 0 < i → i < 66 → length homes ≡ length s.homes
      → ((k : ℕ) → k ≢ i → get_elem? homes k ≡ get_elem? s.homes k)
      → After kept.b b → Lawful b → Stands kept.b b → (kept.work ≡ idle) ⊎ (b.journal ≡ kept.b.journal)
      → seat_view w ≡ seat_view v → w.slots ≡ v.slots → w.hand ≡ v.hand → w.owes ≡ v.owes
      → rounds_view w ≡ rounds_view v → v.seat.spent ≡ false → w.seat.spent ≡ v.seat.spent
      → ((f : ℕ) → at 0 w.known.seen f ≤ writes b.journal f)
      → Lock (IsState {S = S} {D = D} {C = C} {B = B} books b kept.work) has_db (word s 0) (home s 0) G.views
      → Desks b kept.work G.views
      → Lock (IsDir {S = S} {D = D} {C = C} {B = B} disk d) has_dir (word G 1) (home G 1) G.views
      → Each (λ j u. (k : Disk) → u.locks.dir ≡ Some k → k ≡ d) G.views
      → Held cell body b kept.start.disk d G → WorkHeld b kept.work kept.start d (number G) G.views
      → Kept books disk cell body G
  kept-by-other-lock b d low high long others later lawful stands still shaped same_slots same_hand owed circles alive
      spent seen db desks dir disks held in_hand =
      let a = kept.b in
      let else : (k : ℕ) → k ≢ i → word G k ≡ word s k = word_else s i x homes id v w me in
      let numbers : (f : ℕ) → f < 16 → number G f ≡ number s f = λ f l. else (number_word f) (λ z. omega arith) in
      let current : (f : ℕ) → current_of b f ≡ current_of a f = current-stands a b stands in
      let same_holds : (q : ℕ) → holds q w ≡ holds q v = λ q.
      (λ k. total (names q) (same_slots k).slot + total (same q) (same_hand k)) in record {
        b = b;
        work = kept.work;
        start = kept.start;
        d = d;
        home = record {
          seats = seats_step s i x homes id v w me kept.home.seats long
              (subst (λ (z : Slots). length z.slot ≤ 16) (sym same_slots) (kept.home.seats.slots id v me)) shaped
              (λ z. absurd (true_not (sym z ∙ spent ∙ alive)));
          db = subst (λ (z : ℕ × Box (Stored S D C B)). Lock
              (IsState {S = S} {D = D} {C = C} {B = B} books b kept.work) has_db z.0 z.1 G.views)
              (λ k. (sym (else 0 (λ z. omega arith)) k, sym (others 0 (λ z. omega arith)) k)) db;
          desks = desks;
          dir = dir;
          disks = disks;
          slots = λ k l. subst (λ (z : ℕ × Box (Stored S D C B)). SlotOk z.0 z.1)
              (λ c. (sym (else (slot_word k) (λ z. omega arith)) c, sym (others (slot_home k) (λ z. omega arith)) c))
              (kept.home.slots k l);
        };
        ledger = record {
          places = subst (λ (z : List SuperVersion). Places z (reference G) (holders G) (owers G)) (sym stands.supers)
              (places_same a.supers (reference s) (reference G) (holders s) (holders G) (owers s) (owers G)
              (λ k l. else (reference_word k) (λ z. omega arith))
              (λ q l. omega (
                arith,
                holders_by_view s i x homes id v w me (λ f y z. omega arith)
                    (λ f y z. omega arith) q,
                same_holds q,
              ))
              (λ q l. omega (arith, views_move s i x homes id v w me (owes q), ap (total (same q)) owed))
              kept.ledger.places);
          hands = hands_step s i x homes id v w me kept.ledger.hands
              (omega (arith, kept.ledger.hands id v me, ap (λ (z : List ℕ). length z) same_hand));
        };
        numbers = numbers_same b kept.work (number s) (number G) numbers
            (numbers-stands a b later lawful stands kept.work (number s) still kept.numbers);
        rounds = rounds-on a b kept.work kept.work (word s 82) (word G 82) (number s) (number G) s.views id v w me
            (else 82 (λ z. omega arith)) numbers refl kept.rounds
            (loaded-turn a b later (λ f t k. subst (λ z. IsSerialOf z f t) stands.supers k) kept.work kept.work
            kept.rounds.moved (number s) (number G) numbers (λ f. refl) (λ f z. current f))
            (omega (
              arith,
              kept.rounds.bound,
              has-current-same a b current,
              ap (λ (z : List SuperVersion). length z) stands.supers,
              stands.long,
            )) circles;
        sweep = record {
          right = rights_stay kept.work kept.work (number s) (number G) (slot s) (slot G) s.views id v w me
              (low_id books disk cell body s kept id v w me) (λ k. ((same_slots k).slot, (same_slots k).cached))
              numbers (λ j l. else (slot_word j) (λ z. omega arith)) (λ l f n. refl) (λ j. refl) kept.sweep.right;
          apart = apart_same (number s) (number G) kept.work numbers kept.sweep.apart;
          stock = λ j u at_u k e. stock_all j u at_u k e;
        };
        fresh = each_set (λ j u. FreshIn b (number G) u) s.views id w
            (λ f l. let o = fresh-stands a b later (number s f) f (at 0 v.slots.cached f) (at 0 v.slots.looked f)
            (at 0 v.known.seen f) (slot_of v f) (current f) (kept.fresh id v me f l) in
            subst (λ (z : ℕ × Slots). FreshOf b z.0 f (at away z.1.slot f) (at 0 z.1.cached f) (at 0 z.1.looked f)
            (at 0 w.known.seen f)) (λ k. (sym (numbers f l) k, sym same_slots k))
            (record { slot = o.slot; cached = o.cached; looked = o.looked; floor = o.floor; seen_is = seen f }))
            (λ j u e f l. subst (λ (z : ℕ). FreshOf b z f (slot_of u f) (at 0 u.slots.cached f)
            (at 0 u.slots.looked f) (at 0 u.known.seen f)) (sym (numbers f l))
            (fresh-stands a b later (number s f) f _ _ _ _ (current f) (kept.fresh j u e f l)));
        held = held;
        in_hand = in_hand;
      }
    where
      -- what each lane with the DB lock has in hand, in the books that it has
      stock_all : (j : ℕ) (u : LaneView) → get_elem? G.views j ≡ some u → (k : Desk) → u.locks.db ≡ Some k
          → Stock k.books k.work u.hand
      stock_all j u at_u k e =
          let q = desks j u at_u k e in
          let h : Stock kept.b kept.work u.hand = each_hand j u at_u k e in
          subst (λ (z : Books × Work). Stock z.0 z.1 u.hand) (λ c. (sym q.0 c, sym q.1 c))
          (stock-turn kept.b b (current-stands kept.b b stands) kept.work u.hand h)
        where
          -- the lock has an owner now where it had one
          taken_now : (j : ℕ) (u : LaneView) → get_elem? G.views j ≡ some u → (k : Desk) → u.locks.db ≡ Some k
              → word s 0 ≡ 1
          taken_now j u at_u k e = omega (arith, db.bit, db.one, term_le has_db G.views j u at_u, has_one u k e)

          of_view : (h : List ℕ) (y : LaneView) → h ≡ y.hand → Stock kept.b kept.work y.hand → Stock kept.b kept.work h
          of_view h y e st = subst (Stock kept.b kept.work) (sym e) st

          old_stock : (j : ℕ) (y : LaneView) → get_elem? s.views j ≡ some y → (o : Option Desk) → y.locks.db ≡ o
              → (1 ≤ has_db y) → Stock kept.b kept.work y.hand
          old_stock j y at_y None e h = absurd (omega (arith, ap (λ (o : Option Desk). some_count o) e))
          old_stock j y at_y (Some k) e h = let q = kept.home.desks j y at_y k e in
              subst (λ (z : Books × Work). Stock z.0 z.1 y.hand) (λ c. (q.0 c, q.1 c)) (kept.sweep.stock j y at_y k e)

          same_db_count : has_db w ≡ has_db v
          same_db_count = omega (arith, total-set has_db s.views id v w me, kept.home.db.bit, db.bit)

          each_hand : (j : ℕ) (u : LaneView) → get_elem? G.views j ≡ some u → (k : Desk) → u.locks.db ≡ Some k
              → Stock kept.b kept.work u.hand
          each_hand j u at_u k e = each_other (λ j y. 1 ≤ has_db y → Stock kept.b kept.work y.hand) s.views id w
              (λ h. of_view w.hand v same_hand (old_stock id v me v.locks.db refl (omega (arith, same_db_count))))
              (λ j y ne at_y h. old_stock j y at_y y.locks.db refl h) j u at_u (omega (arith, has_one u k e))
