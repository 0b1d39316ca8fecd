-- What a step on a reference word leaves.
use Rattle.std.proofs.Common.{Bool, List, Option, Some, ap, arith, cond, eq-eqb, false, length, ne_eqb, refl, subst, suc, sym, true, zero, ℕ, ◌<◌, ◌==◌, ◌≡◌, ◌≢◌, ◌≤◌}
use mathlib.Core.Logic.{dite}
use mathlib.Core.Option.{some}
use native.Mathlib.Decide.{ℕ_discrete}
use lib.ListN.{get_elem?}
use Rattle.atomic_table.specs.Table.{State}
use Rattle.sv_model.specs.Books.{Books}
use Rattle.sv_model.specs.Cells.{Cell}
use Rattle.sv_model.specs.Lists.{same, total}
use Rattle.sv_rule.specs.Blanks.{nobody}
use Rattle.sv_rule.specs.Home.{IsState, Lock}
use Rattle.sv_rule.specs.InHand.{Accounts}
use Rattle.sv_rule.specs.Ledger.{Places, most_hand}
use Rattle.sv_rule.specs.Numbers.{Numbers}
use Rattle.sv_rule.specs.ReferencePlays.{has_taken, lowered}
use Rattle.sv_rule.specs.Rule.{Kept}
use Rattle.sv_rule.specs.Sweep.{Rights}
use Rattle.sv_rule.specs.Table.{holders, home, number, number_word, owers, reference, reference_word, slot, slot_word, word}
use Rattle.sv_rule.specs.Tasks.{has_db}
use Rattle.sv_rule.specs.UnderWay.{Apart, Stock, excepts}
use Rattle.sv_rule.specs.Views.{Body, Desk, Disk, LaneView, SlotView, Work, begun, idle, opens, sweeping}
use Rattle.sv_rule.specs.declared.parts.Stored.{Stored}
use Rattle.sv_rule.proofs.Assembly.{Desks, kept-by-word, low_id}
use Rattle.sv_rule.proofs.StepRests.{hand_view, rest-same}
use Rattle.sv_rule.proofs.RoundTurns.{rounds-work, rounds_of}
use Rattle.sv_rule.proofs.StepLaws.{apart_same, fresh_same, fresh_stay, fresh_view, next, numbers_same, rights_stay, rounds_view, seat_view, word_else}

pub lowered_rounds : (p : ℕ) (work : Work) → rounds_of (lowered p work) ≡ rounds_of work
lowered_rounds p idle = refl
lowered_rounds p (opens f) = refl
lowered_rounds p (begun f) = refl
lowered_rounds p (sweeping f old m mid zero) = elim (old == p) as
    (λ z. rounds_of (cond z idle (sweeping f old m mid zero)) ≡ rounds_of (sweeping f old m mid zero))
    [ true ↦ refl | false ↦ refl ]
lowered_rounds p (sweeping f old m mid (suc t)) = elim (old == p) as
    (λ z. rounds_of (cond z (sweeping f old m mid t) (sweeping f old m mid (suc t))) ≡ rounds_of
    (sweeping f old m mid (suc t))) [ true ↦ refl | false ↦ refl ]

pub lowered-excepts : (p : ℕ) (work : Work) (f : ℕ) → excepts f (lowered p work) ≤ excepts f work
lowered-excepts p idle f = omega arith
lowered-excepts p (opens g) f = omega arith
lowered-excepts p (begun g) f = omega arith
lowered-excepts p (sweeping g old m mid zero) f = elim (old == p) as
    (λ z. excepts f (cond z idle (sweeping g old m mid zero)) ≤ 0) [ true ↦ omega arith | false ↦ omega arith ]
lowered-excepts p (sweeping g old m mid (suc t)) f = elim (old == p) as
    (λ z. excepts f (cond z (sweeping g old m mid t) (sweeping g old m mid (suc t))) ≤ 0)
    [ true ↦ omega arith | false ↦ omega arith ]

-- what the sweep took is not the last
pub taken_more : (p : ℕ) (b : Books) (work : Work) (hand : List ℕ) → 256 ≤ p → 0 < has_taken p work → Stock b work hand
    → 2 ≤ total (same p) hand
taken_more p b idle hand big h ok = absurd (omega arith)
taken_more p b (opens f) hand big h ok = absurd (omega arith)
taken_more p b (begun f) hand big h ok = absurd (omega arith)
taken_more p b (sweeping f old m mid taken) hand big h ok = dite (ℕ_discrete old p)
    (λ e. subst (λ (z : ℕ). 2 ≤ total (same z) hand) e (omega
    (arith, ok (omega arith), ap (λ (z : Bool). cond z taken 0) (eq-eqb old p e))))
    (λ n. absurd (omega (arith, ap (λ (z : Bool). cond z taken 0) (ne_eqb old p n))))

-- a step on a reference word, where the books and the slots are as they were
-- a step on a reference word, where the books and the slots are as they were
module _ {S D C B : Type 0} (books : S → Books) (disk : D → Disk) (cell : C → Option Cell) (body : B → Body)
    (s : State (Stored S D C B) LaneView) (kept : Kept books disk cell body s) (id : ℕ) (v w : LaneView)
    (me : get_elem? s.views id ≡ some v) (k x : ℕ) (near : k < 256) where
  abbrev pub R : State (Stored S D C B) LaneView
  R = next s (reference_word k) x s.homes id v w me

  else : (j : ℕ) → j ≢ reference_word k → word R j ≡ word s j
  else = word_else s (reference_word k) x s.homes id v w me

  same_numbers : (f : ℕ) → f < 16 → number R f ≡ number s f
  same_numbers f l = else (number_word f) (λ z. omega arith)

  pub kept-by-reference : (work : Work) → Lock (IsState {S = S} {D = D} {C = C} {B = B} books kept.b work) has_db
      (word s 0) (home s 0) R.views → Desks kept.b work R.views
      → ((f : ℕ) → 0 < excepts f work → 0 < excepts f kept.work) → (v.seat.spent ≡ false → Accounts kept.b w.known)
      → hand_view w ≡ hand_view v
      → Places kept.b.supers (reference R) (holders R) (owers R) → length w.hand ≤ most_hand
      → fresh_view w ≡ fresh_view v → seat_view w ≡ seat_view v → (w.seat.spent ≡ true → w ≡ nobody)
      → Numbers kept.b work (number s) → Rights work (number s) (slot s) s.views → Apart (number s) work
      → ((d : Desk) → w.locks.db ≡ Some d → Stock d.books d.work w.hand) → rounds_of work ≡ rounds_of kept.work
      → rounds_view w ≡ rounds_view v → Kept books disk cell body R
  kept-by-reference work lock desks less mine hands places few stand shaped dead numbers rights apart stock same_work
      same_rounds =
      kept-by-word books disk cell body s kept id v w me (reference_word k) x (omega arith) (omega arith) kept.b work
      lock desks
      (rest-same books disk cell body s kept id v w me (reference_word k) x hands work (omega arith) same_numbers less
      mine) places few
      (subst (λ (l : ℕ). l ≤ 16) (sym (ap (λ (z : List SlotView × List ℕ × List ℕ × List ℕ). length z.0) stand))
      (kept.home.seats.slots id v me)) shaped dead
      (numbers_same kept.b work (number s) (number R) same_numbers numbers)
      (rights_stay work work (number s) (number R) (slot s) (slot R) s.views id v w me
      (low_id books disk cell body s kept id v w me) (λ i. ((stand i).0, (stand i).1)) same_numbers
      (λ j l. else (slot_word j) (λ z. omega arith)) (λ l f n. refl) (λ j. refl) rights)
      (apart_same (number s) (number R) work same_numbers apart) stock
      (fresh_stay kept.b kept.b (number s) (number R) s.views id v w me stand
      (λ f c p e y l. fresh_same kept.b (number s) (number R) same_numbers f c p e y l) kept.fresh)
      (rounds-work kept.b kept.work work (word s 82) (word R 82) (number s) (number R) s.views id v w me
      (else 82 (λ z. omega arith)) same_numbers same_work same_rounds kept.rounds)
