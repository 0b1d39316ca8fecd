-- What is left to show of a step on a word.
use Rattle.std.proofs.Common.{List, Option, Some, ap, arith, length, refl, subst, sym, true, ℕ, ◌+◌, ◌<◌, ◌≡◌, ◌≢◌, ◌≤◌}
use mathlib.Core.Logic.{dite}
use mathlib.Core.Option.{some}
use mathlib.Core.Option as maybe
use native.Mathlib.Decide.{ℕ_discrete}
use lib.ListN.{get_elem?}
use Rattle.atomic_table.specs.Table.{State, rest}
use Rattle.sv_model.specs.Books.{Books}
use Rattle.sv_model.specs.Cells.{Cell}
use Rattle.sv_model.specs.Lists.{same, total, at}
use Rattle.sv_rule.specs.Blanks.{nobody}
use Rattle.sv_rule.specs.Fresh.{Fresh, FreshOf}
use Rattle.sv_rule.specs.Home.{IsState, Lock, SlotOk}
use Rattle.sv_rule.specs.Ledger.{Places, most_hand}
use Rattle.sv_rule.specs.Numbers.{Numbers}
use Rattle.sv_rule.specs.Rounds.{Rounds}
use Rattle.sv_rule.specs.Rule.{Kept}
use Rattle.sv_rule.specs.Sums.{Each}
use Rattle.sv_rule.specs.Sweep.{Right, Rights}
use Rattle.sv_rule.specs.Table.{Box, cached_at, holders, holds, home, number, number_word, owers, owes, reference, reference_word, slot, slot_at, slot_home, slot_of, slot_word, spot, word}
use Rattle.sv_rule.specs.Tasks.{has_db}
use Rattle.sv_rule.specs.UnderWay.{Apart, Stock, fit, middle}
use Rattle.sv_rule.specs.Views.{Body, Desk, Disk, LaneView, Work}
use Rattle.sv_rule.specs.declared.parts.Stored.{Stored}
use Rattle.sv_rule.proofs.Places.{places_same}
use Rattle.sv_rule.proofs.StepRests.{Rest}
use Rattle.sv_rule.proofs.RoundTurns.{rounds-work, rounds_of}
use Rattle.sv_rule.proofs.StepLaws.{apart_same, hands_step, holders_by_slot, next, numbers_same, rounds_view, seat_view, seats_step, stock_set, views_move, word_else, word_here}
use Rattle.sv_rule.proofs.Sums.{at_lt}

-- whoever has the state in hand
abbrev pub Desks : Books → Work → List LaneView → Type 0
Desks b work vs = Each (λ j u. (k : Desk) → u.locks.db ≡ Some k → (k.books ≡ b) × (k.work ≡ work)) vs

module _ {S D C B : Type 0} (books : S → Books) (disk : D → Disk) (cell : C → Option Cell) (body : B → Body)
    (s : State (Stored S D C B) LaneView) (kept : Kept books disk cell body s) (id : ℕ) (v w : LaneView)
    (me : get_elem? s.views id ≡ some v) where
  pub low_id : id < 32
  low_id = omega (arith, at_lt s.views id v me, kept.home.seats.views, kept.home.seats.few)

  -- a lock of a cell, a number word, the round word or a reference word
  module _ (i x : ℕ) (low : 0 < i) (high : i < 339) where
    abbrev pub N : State (Stored S D C B) LaneView
    N = next s i x s.homes id v w me

    pub stays : (j : ℕ) → j ≢ i → word N j ≡ word s j
    stays = word_else s i x s.homes id v w me

    pub kept-by-word : (b : Books) (work : Work) → Lock (IsState {S = S} {D = D} {C = C} {B = B} books b work) has_db
        (word s 0) (home s 0) N.views → Desks b work N.views → Rest books disk cell body b work kept.start kept.d N
        → Places b.supers (reference N) (holders N) (owers N) → length w.hand ≤ most_hand → length w.slots.slot ≤ 16
        → seat_view w ≡ seat_view v → (w.seat.spent ≡ true → w ≡ nobody)
        → Numbers b work (number N) → Rights work (number N) (slot N) N.views → Apart (number N) work
        → ((d : Desk) → w.locks.db ≡ Some d → Stock d.books d.work w.hand) → Fresh b (number N) N.views
        → Rounds b work (word N 82) (number N) N.views → Kept books disk cell body N
    kept-by-word b work lock desks rest places few slots shaped dead numbers rights apart stock fresh rounds = record {
      b = b;
      work = work;
      start = kept.start;
      d = kept.d;
      home = record {
        seats = seats_step s i x s.homes id v w me kept.home.seats refl slots shaped dead;
        db = subst (λ (z : ℕ). Lock (IsState {S = S} {D = D} {C = C} {B = B} books b work) has_db z (home s 0)
            N.views) (sym (stays 0 (λ z. omega arith))) lock;
        desks = desks;
        dir = rest.dir;
        disks = rest.disks;
        slots = λ k l. subst (λ (z : ℕ). SlotOk z (home s (slot_home k)))
            (sym (stays (slot_word k) (λ z. omega arith))) (kept.home.slots k l);
      };
      ledger = record { places = places; hands = hands_step s i x s.homes id v w me kept.ledger.hands few };
      numbers = numbers;
      sweep = record { right = rights; apart = apart; stock = stock_set s.views id w stock kept.sweep.stock };
      fresh = fresh;
      rounds = rounds;
      held = rest.held;
      in_hand = rest.in_hand;
    }

  -- the word of the DB lock
  module _ (x : ℕ) (homes : List (maybe.Option (Stored S D C B))) where
    abbrev pub Z : State (Stored S D C B) LaneView
    Z = next s 0 x homes id v w me

    pub z_stays : (j : ℕ) → j ≢ 0 → word Z j ≡ word s j
    z_stays = word_else s 0 x homes id v w me

    pub kept-by-lock : (b : Books) (work : Work) → length homes ≡ length s.homes
        → ((k : ℕ) → k ≢ 0 → get_elem? homes k ≡ get_elem? s.homes k)
        → Lock (IsState {S = S} {D = D} {C = C} {B = B} books b work) has_db x (get_elem? homes 0) Z.views
        → Desks b work Z.views → Rest books disk cell body b work kept.start kept.d Z
        → Places b.supers (reference Z) (holders Z) (owers Z) → length w.hand ≤ most_hand → length w.slots.slot ≤ 16
        → seat_view w ≡ seat_view v
        → (w.seat.spent ≡ true → w ≡ nobody) → Numbers b work (number Z)
        → Rights work (number Z) (slot Z) Z.views → Apart (number Z) work
        → ((d : Desk) → w.locks.db ≡ Some d → Stock d.books d.work w.hand) → Fresh b (number Z) Z.views
        → Rounds b work (word Z 82) (number Z) Z.views → Kept books disk cell body Z
    kept-by-lock b work long others lock desks rest places few slots shaped dead numbers rights apart stock fresh
        rounds = record {
          b = b;
          work = work;
          start = kept.start;
          d = kept.d;
          home = record {
            seats = seats_step s 0 x homes id v w me kept.home.seats long slots shaped dead;
            db = subst (λ (z : ℕ). Lock (IsState {S = S} {D = D} {C = C} {B = B} books b work) has_db z
                (get_elem? homes 0) Z.views) (sym (word_here s 0 x homes id v w me
                (omega (arith, kept.home.seats.words)))) lock;
            desks = desks;
            dir = rest.dir;
            disks = rest.disks;
            slots = λ k l. subst (λ (z : ℕ × Box (Stored S D C B)). SlotOk z.0 z.1)
                (λ c. (
                  sym (z_stays (slot_word k) (λ z. omega arith)) c,
                  sym (others (slot_home k) (λ z. omega arith)) c,
                ))
                (kept.home.slots k l);
          };
          ledger = record { places = places; hands = hands_step s 0 x homes id v w me kept.ledger.hands few };
          numbers = numbers;
          sweep = record { right = rights; apart = apart; stock = stock_set s.views id w stock kept.sweep.stock };
          fresh = fresh;
          rounds = rounds;
          held = rest.held;
          in_hand = rest.in_hand;
        }

  -- the slot word i, with the books, the number words and the old pack of a sweep as they are
  module _ (i x : ℕ) (near : i < 512) (homes : List (maybe.Option (Stored S D C B))) where
    abbrev pub M : State (Stored S D C B) LaneView
    M = next s (slot_word i) x homes id v w me

    pub m_stays : (j : ℕ) → j ≢ slot_word i → word M j ≡ word s j
    m_stays = word_else s (slot_word i) x homes id v w me

    pub m_here : slot M i ≡ x
    m_here = word_here s (slot_word i) x homes id v w me (omega (arith, kept.home.seats.words))

    pub m_else : (k : ℕ) → k ≢ i → slot M k ≡ slot s k
    m_else k n = m_stays (slot_word k) (λ z. n (omega arith))

    pub m_numbers : (f : ℕ) → f < 16 → number M f ≡ number s f
    m_numbers f l = m_stays (number_word f) (λ z. omega arith)

    pub kept-by-slot : (work : Work) → length homes ≡ length s.homes
        → ((k : ℕ) → k ≢ slot_home i → get_elem? homes k ≡ get_elem? s.homes k)
        → SlotOk x (get_elem? homes (slot_home i)) → Lock (IsState {S = S} {D = D} {C = C} {B = B} books kept.b work)
        has_db (word s 0) (home s 0) M.views → Desks kept.b work M.views
        → Rest books disk cell body kept.b work kept.start kept.d M
        → ((q : ℕ) → 256 ≤ q → same q (slot s i) + holds q v ≡ same q x + holds q w) → w.owes ≡ v.owes
        → length w.hand ≤ most_hand → length w.slots.slot ≤ 16 → seat_view w ≡ seat_view v
        → (w.seat.spent ≡ true → w ≡ nobody)
        → Numbers kept.b work (number s) → Rights work (number s) (slot M) M.views → Apart (number s) work
        → ((d : Desk) → w.locks.db ≡ Some d → Stock d.books d.work w.hand) → Fresh kept.b (number s) M.views
        → rounds_of work ≡ rounds_of kept.work → rounds_view w ≡ rounds_view v → Kept books disk cell body M
    kept-by-slot work long others ok lock desks rest moves owed few slots shaped dead numbers rights apart stock fresh
        e stand = record {
          b = kept.b;
          work = work;
          start = kept.start;
          d = kept.d;
          home = record {
            seats = seats_step s (slot_word i) x homes id v w me kept.home.seats long slots shaped dead;
            db = subst (λ (z : ℕ × Box (Stored S D C B)). Lock
                (IsState {S = S} {D = D} {C = C} {B = B} books kept.b work) has_db z.0 z.1 M.views)
                (λ c. (sym (m_stays 0 (λ z. omega arith)) c, sym (others 0 (λ z. omega arith)) c))
                lock;
            desks = desks;
            dir = rest.dir;
            disks = rest.disks;
            slots = λ k l. dite (ℕ_discrete k i)
                (λ e. subst (λ (z : ℕ). SlotOk (slot M z) (get_elem? homes (slot_home z))) (sym e)
                (subst (λ (z : ℕ). SlotOk z (get_elem? homes (slot_home i))) (sym m_here) ok))
                (λ n. subst (λ (z : ℕ × Box (Stored S D C B)). SlotOk z.0 z.1)
                (λ c. (sym (m_else k n) c, sym (others (slot_home k) (λ z. n (omega arith))) c)) (kept.home.slots k l));
          };
          ledger = record {
            places = places_same kept.b.supers (reference s) (reference M) (holders s) (holders M) (owers s) (owers M)
                (λ k l. m_stays (reference_word k) (λ z. omega arith))
                (λ q l. omega (
                  arith,
                  holders_by_slot s (slot_word i) x homes id v w me i refl near
                      (omega (arith, kept.home.seats.words)) q,
                  moves q l,
                ))
                (λ q l. omega (arith, views_move s (slot_word i) x homes id v w me (owes q), ap (total (same q)) owed))
                kept.ledger.places;
            hands = hands_step s (slot_word i) x homes id v w me kept.ledger.hands few;
          };
          numbers = numbers_same kept.b work (number s) (number M) m_numbers numbers;
          sweep = record {
            right = λ l f a b. subst (λ (z : ℕ). Right (fit work f l z) (middle (spot l f) work) (slot M (spot l f)) z
                (cached_at M.views l f) (slot_at M.views l f)) (sym (m_numbers f b)) (rights l f a b);
            apart = apart_same (number s) (number M) work m_numbers apart;
            stock = stock_set s.views id w stock kept.sweep.stock;
          };
          fresh = λ j u e f l. subst (λ (z : ℕ). FreshOf kept.b z f (slot_of u f) (at 0 u.slots.cached f)
              (at 0 u.slots.looked f) (at 0 u.known.seen f)) (sym (m_numbers f l)) (fresh j u e f l);
          rounds = rounds-work kept.b kept.work work (word s 82) (word M 82) (number s) (number M) s.views id v w me
              (m_stays 82 (λ z. omega arith)) m_numbers e stand kept.rounds;
          held = rest.held;
          in_hand = rest.in_hand;
        }
