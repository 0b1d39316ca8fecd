-- What a load leaves, which changes nothing but the view of its lane.
use Rattle.std.proofs.Common.{Bool, List, Option, Some, ap, arith, false, length, refl, set, sym, ℕ, ◌<◌, ◌∙◌, ◌≡◌, ◌≤◌}
use mathlib.Core.Logic.{dite}
use mathlib.Core.Option.{some}
use native.Mathlib.Decide.{ℕ_discrete}
use lib.ListN.{get_elem?}
use Rattle.atomic_table.specs.Table.{State}
use Rattle.sv_model.specs.Books.{Books}
use Rattle.sv_model.specs.Cells.{Cell}
use Rattle.sv_model.specs.Lists.{same, total, at}
use Rattle.sv_rule.specs.Blanks.{nobody}
use Rattle.sv_rule.specs.Fresh.{FreshOf}
use Rattle.sv_rule.specs.InHand.{Accounts}
use Rattle.sv_rule.specs.Ledger.{most_hand}
use Rattle.sv_rule.specs.Rounds.{Rounds}
use Rattle.sv_rule.specs.Rule.{Kept}
use Rattle.sv_rule.specs.Sweep.{Right}
use Rattle.sv_rule.specs.Table.{holders, holds, number, number_word, owers, owes, reference, reference_word, slot, slot_of, slot_word, spot, word}
use Rattle.sv_rule.specs.UnderWay.{Stock, fit, middle}
use Rattle.sv_rule.specs.Views.{Body, Desk, Disk, Joined, LaneView}
use Rattle.sv_rule.specs.declared.parts.Stored.{Stored}
use Rattle.sv_rule.proofs.Assembly.{kept-by-word, low_id}
use Rattle.sv_rule.proofs.Basics.{each_set, true_not}
use Rattle.sv_rule.proofs.DbLock.{db-same, owners-same}
use Rattle.sv_rule.proofs.Places.{places_same}
use Rattle.sv_rule.proofs.StepRests.{hand_view, rest-same}
use Rattle.sv_rule.proofs.StepLaws.{apart_same, fresh_same, next, numbers_same, right_same, seat_view, spots_set, views_move, word_else, word_here}
use Rattle.sv_rule.proofs.Sums.{at-is, below-same}

-- a load of the word i, which changes nothing but the view of its lane
module _ {S D C B : Type 0} (books : S → Books) (disk : D → Disk) (cell : C → Option Cell) (body : B → Body)
    (s : State (Stored S D C B) LaneView) (kept : Kept books disk cell body s) (id : ℕ) (v w : LaneView)
    (me : get_elem? s.views id ≡ some v) (i : ℕ) (low : 65 < i) (near : i < 339) where
  abbrev pub L : State (Stored S D C B) LaneView
  L = next s i (word s i) s.homes id v w me

  pub stays : (k : ℕ) → word L k ≡ word s k
  stays k = dite (ℕ_discrete k i) (λ e. ap (word L) e ∙
      (word_here s i (word s i) s.homes id v w me (omega (arith, kept.home.seats.words)) ∙ ap (word s) (sym e)))
      (word_else s i (word s i) s.homes id v w me k)

  pub kept-by-load : v.seat.spent ≡ false → hand_view w ≡ hand_view v → (v.seat.spent ≡ false → Accounts kept.b w.known)
      → ((q : ℕ) → 256 ≤ q → holds q w ≡ holds q v) → length w.slots.slot ≤ 16 → length w.hand ≤ most_hand
      → w.owes ≡ v.owes → seat_view w ≡ seat_view v → w.locks.db ≡ v.locks.db
      → ((f : ℕ) → f < 16 → Right (fit kept.work f id (number s f)) (middle (spot id f) kept.work)
      (slot s (spot id f)) (number s f) (at 0 v.slots.cached f) (slot_of v f)
      → Right (fit kept.work f id (number s f)) (middle (spot id f) kept.work) (slot s (spot id f)) (number s f)
      (at 0 w.slots.cached f) (slot_of w f))
      → ((d : Desk) → v.locks.db ≡ Some d → Stock d.books d.work w.hand)
      → ((f : ℕ) → f < 16 → FreshOf kept.b (number s f) f (slot_of w f) (at 0 w.slots.cached f)
      (at 0 w.slots.looked f) (at 0 w.known.seen f))
      → ((round : ℕ) (number' : ℕ → ℕ) → round ≡ word s 82 → ((f : ℕ) → f < 16 → number' f ≡ number s f)
      → Rounds kept.b kept.work round number' (set s.views id w)) → Kept books disk cell body L
  kept-by-load alive hands mine same_holds few hand owed shaped e₃ rights stock fresh circles =
      let numbers : (f : ℕ) → f < 16 → number L f ≡ number s f = λ f l. stays (number_word f) in
      let rights_at : (f : ℕ) → f < 16 → Right (fit kept.work f id (number s f)) (middle (spot id f) kept.work)
      (slot s (spot id f)) (number s f) (at 0 v.slots.cached f) (slot_of v f) = λ f l.
      right_same refl refl refl refl (ap (λ (z : LaneView). at 0 z.slots.cached f)
      (sym (at-is nobody s.views id v me))) (ap (λ (z : LaneView). slot_of z f)
      (sym (at-is nobody s.views id v me))) (kept.sweep.right id f (low_id books disk cell body s kept id v w me)
      l) in
      kept-by-word books disk cell body s kept id v w me i (word s i) (omega arith) near kept.b kept.work
      (db-same books disk cell body s kept id v w me e₃) (owners-same books disk cell body s kept id v w me e₃)
      (rest-same books disk cell body s kept id v w me i (word s i) hands kept.work low numbers (λ f z. z) mine)
      (places_same kept.b.supers (reference s) (reference L) (holders s) (holders L) (owers s) (owers L)
      (λ k l. stays (reference_word k))
      (λ q l. omega (
        arith,
        views_move s i (word s i) s.homes id v w me (holds q),
        same_holds q l,
        below-same (λ f. same q (number s f)) (λ f. same q (number L f)) 16
            (λ f y. ap (same q) (stays (number_word f))),
        below-same (λ f. same q (slot s f)) (λ f. same q (slot L f)) 512 (λ f y. ap (same q) (stays (slot_word f))),
      ))
      (λ q l. omega (arith, views_move s i (word s i) s.homes id v w me (owes q), ap (total (same q)) owed))
      kept.ledger.places)
      hand few shaped (λ z. absurd (true_not (sym z
      ∙ ap (λ (y : Bool × ℕ × ℕ × ℕ × List Joined). y.0) shaped ∙ alive)))
      (numbers_same kept.b kept.work (number s) (number L) numbers kept.numbers)
      (spots_set (λ l f c x. Right (fit kept.work f l (number L f)) (middle (spot l f) kept.work) (slot L (spot l f))
      (number L f) c x) s.views id v w me
      (λ f l. right_same (ap (fit kept.work f id) (numbers f l)) refl (stays (slot_word (spot id f))) (numbers f l)
      refl refl (rights f l (rights_at f l)))
      (λ l f a b n. right_same (ap (fit kept.work f l) (numbers f b)) refl (stays (slot_word (spot l f)))
      (numbers f b) refl refl (kept.sweep.right l f a b)))
      (apart_same (number s) (number L) kept.work numbers kept.sweep.apart) (λ d z. stock d (sym e₃ ∙ z))
      (each_set (λ j u. (f : ℕ) → f < 16 → FreshOf kept.b (number L f) f (slot_of u f) (at 0 u.slots.cached f)
      (at 0 u.slots.looked f) (at 0 u.known.seen f)) s.views id w
      (λ f l. fresh_same kept.b (number s) (number L) numbers f _ _ _ _ l (fresh f l))
      (λ j u e f l. fresh_same kept.b (number s) (number L) numbers f _ _ _ _ l (kept.fresh j u e f l)))
      (circles (word L 82) (number L) (stays 82) numbers)
