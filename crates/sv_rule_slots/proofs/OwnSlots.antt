-- What a step on a slot of the lane's own leaves.
use Rattle.std.proofs.Common.{Bool, List, Option, Some, ap, arith, false, length, refl, subst, suc, sym, zero, ℕ, ◌+◌, ◌<◌, ◌∙◌, ◌≡◌, ◌≢◌, ◌≤◌}
use mathlib.Core.Logic.{dite}
use mathlib.Core.Option.{some}
use mathlib.Core.Option as maybe
use native.Mathlib.Decide.{dec_le, ℕ_discrete}
use lib.ListN.{get_elem?}
use Rattle.atomic_table.specs.Table.{State}
use Rattle.sv_model.specs.Books.{Books}
use Rattle.sv_model.specs.Cells.{Cell}
use Rattle.sv_model.specs.Lists.{same, total, at}
use Rattle.sv_model.specs.declared.sv_refs.SvRef.{SvRef}
use Rattle.sv_rule.specs.Blanks.{nobody}
use Rattle.sv_rule.specs.Fits.{BodyFits}
use Rattle.sv_rule.specs.Fresh.{FreshOf}
use Rattle.sv_rule.specs.Home.{SlotOk}
use Rattle.sv_rule.specs.InHand.{Accounts}
use Rattle.sv_rule.specs.Ledger.{most_hand}
use Rattle.sv_rule.specs.Rule.{Kept}
use Rattle.sv_rule.specs.SlotPlays.{reached}
use Rattle.sv_rule.specs.Sums.{put}
use Rattle.sv_rule.specs.Sweep.{Right, lent}
use Rattle.sv_rule.specs.Table.{names, number, slot, slot_home, slot_of, slot_word, spot}
use Rattle.sv_rule.specs.UnderWay.{Stock, fit, middle}
use Rattle.sv_rule.specs.Views.{Body, Desk, Disk, Joined, LaneView, SlotView, Work, away, borrow, idle}
use Rattle.sv_rule.specs.declared.parts.Stored.{Stored}
use Rattle.sv_rule.specs.declared.parts.Stored.TheVariants as is
use Rattle.sv_rule.proofs.Assembly.{M, kept-by-slot, low_id, m_else, m_here, m_numbers}
use Rattle.sv_rule.proofs.Basics.{each_set, true_not}
use Rattle.sv_rule.proofs.DbLock.{db-same, owners-same}
use Rattle.sv_rule.proofs.FreshTurns.{stock-more}
use Rattle.sv_rule.proofs.StepRests.{hand_view, rest-stays, silent-stands}
use Rattle.sv_rule.proofs.StepLaws.{right_same, rounds_view, seat_view, spots_set}
use Rattle.sv_rule.proofs.Sums.{at-is, at-put_else, at-put_same, length-put, marked, total-put}

not_away : {x : SlotView} {p n : ℕ} → x ≡ away → x ≡ borrow p n → ⊥
not_away e d = cc

pub reach : (q p : ℕ) (hand : List ℕ) → 256 ≤ q → total (same q) (reached p hand) ≡ total (same q) hand + same q p
reach q zero hand l = omega (arith, marked q 0 l (omega arith))
reach q (suc p) hand l = omega arith

pub reach_len : (p : ℕ) (hand : List ℕ) → length (reached p hand) ≤ length hand + 1
reach_len zero hand = omega arith
reach_len (suc p) hand = omega arith

pub stock_reached : (p : ℕ) (b : Books) (work : Work) (hand : List ℕ) → Stock b work hand
    → Stock b work (reached p hand)
stock_reached zero b work hand h = h
stock_reached (suc p) b work hand h = stock-more (suc p) b work hand h

module _ {S D C B : Type 0} (books : S → Books) (disk : D → Disk) (cell : C → Option Cell) (body : B → Body)
    (s : State (Stored S D C B) LaneView) (kept : Kept books disk cell body s) (id : ℕ) (v : LaneView)
    (me : get_elem? s.views id ≡ some v) (f : ℕ) (near : f < 16) where
  pub lane_lt : spot id f < 512
  lane_lt = omega (arith, low_id books disk cell body s kept id v v me)

  -- what the rule says of the lane's slot
  pub own_right : Right (fit kept.work f id (number s f)) (middle (spot id f) kept.work) (slot s (spot id f))
      (number s f) (at 0 v.slots.cached f) (slot_of v f)
  own_right = subst (λ (z : LaneView). Right (fit kept.work f id (number s f)) (middle (spot id f) kept.work)
      (slot s (spot id f)) (number s f) (at 0 z.slots.cached f) (slot_of z f)) (at-is nobody s.views id v me)
      (kept.sweep.right id f (low_id books disk cell body s kept id v v me) near)

  pub own_fresh : FreshOf kept.b (number s f) f (slot_of v f) (at 0 v.slots.cached f) (at 0 v.slots.looked f)
      (at 0 v.known.seen f)
  own_fresh = kept.fresh id v me f near

  -- a step on a slot word of the lane's own, which leaves it the slot as X
  pub kept_by_own : v.seat.spent ≡ false → (w : LaneView) (x : ℕ) (X : SlotView) (homes : List (maybe.Option (Stored S D C B)))
      → length homes ≡ length s.homes → ((k : ℕ) → k ≢ slot_home (spot id f)
      → get_elem? homes k ≡ get_elem? s.homes k) → SlotOk x (get_elem? homes (slot_home (spot id f)))
      → ((q : ℕ) → 256 ≤ q → same q (slot s (spot id f)) + names q (slot_of v f) + total (same q) v.hand ≡ same q
      x + names q X + total (same q) w.hand)
      → w.slots.slot ≡ put away v.slots.slot f X → ((g : ℕ) → g ≢ f → at 0 w.slots.cached g ≡ at 0 v.slots.cached g)
      → w.slots.looked ≡ v.slots.looked → w.known.seen ≡ v.known.seen → w.locks.db ≡ v.locks.db → w.owes ≡ v.owes
      → length w.hand ≤ most_hand → seat_view w ≡ seat_view v → rounds_view w ≡ rounds_view v
      → ((d : Desk) → v.locks.db ≡ Some d → Stock d.books d.work w.hand)
      → hand_view w ≡ hand_view v → (v.seat.spent ≡ false → Accounts kept.b w.known)
      → ((r : SvRef B) → get_elem? homes (slot_home (spot id f)) ≡ some (some (is.Cached r))
      → BodyFits kept.b (record { pack = r.pack; body = body r.body.value }))
      → Right (fit kept.work f id (number s f)) (middle (spot id f) kept.work) x (number s f) (at 0 w.slots.cached f) X
      → FreshOf kept.b (number s f) f X (at 0 w.slots.cached f) (at 0 v.slots.looked f) (at 0 v.known.seen f)
      → Kept books disk cell body (M books disk cell body s kept id v w me (spot id f) x lane_lt homes)
  kept_by_own alive w x X homes long others ok moves slots_are cached_else looks seen desk owed few shaped stand stock hands
      mine fits_here right fresh = let i = spot id f in
      let N = M books disk cell body s kept id v w me i x lane_lt homes in
      let rest = rest-stays books disk cell body s kept id v w me (slot_word i) x homes hands kept.work (omega arith)
      (λ k l. others k (λ e. omega arith)) mine
      (silent-stands kept.b kept.work kept.work kept.start kept.d (number s) (number N) s.views id v w me hands
      (m_numbers books disk cell body s kept id v w me i x lane_lt homes) (λ g z. z) kept.in_hand)
      (λ k r l e. dite (ℕ_discrete k i) (λ z. fits_here r (ap (λ j. get_elem? homes (slot_home j)) (sym z) ∙ e))
      (λ z. kept.held.bodies k r l (sym (others (slot_home k) (λ y. z (omega arith))) ∙ e))) in
      let here : slot_of w f ≡ X = ap (λ (z : List SlotView). at away z f) slots_are
      ∙ at-put_same away v.slots.slot f X in
      let elsewhere : (g : ℕ) → g ≢ f → slot_of w g ≡ slot_of v g = λ g n. ap (λ (z : List SlotView). at away z g)
      slots_are ∙ at-put_else away v.slots.slot f g X n in
      kept-by-slot books disk cell body s kept id v w me i x lane_lt homes kept.work long others ok
      (db-same books disk cell body s kept id v w me desk) (owners-same books disk cell body s kept id v w me desk) rest
      (λ q l. omega (
        arith,
        moves q l,
        total-put (names q) away refl v.slots.slot f X,
        ap (total (names q)) slots_are,
      )) owed few
      (subst (λ (z : List SlotView). length z ≤ 16) (sym slots_are)
      (length-put away v.slots.slot f X 16 (kept.home.seats.slots id v me) near)) shaped
      (λ z. absurd (true_not (sym z ∙ ap (λ (y : Bool × ℕ × ℕ × ℕ × List Joined). y.0) shaped ∙ alive))) kept.numbers
      (spots_set (λ l g c y. Right (fit kept.work g l (number s g)) (middle (spot l g) kept.work) (slot N (spot l g))
      (number s g) c y) s.views id v w me
      (λ g l. dite (ℕ_discrete g f)
      (λ e. subst (λ (z : ℕ). Right (fit kept.work z id (number s z)) (middle (spot id z) kept.work)
      (slot N (spot id z)) (number s z) (at 0 w.slots.cached z) (slot_of w z)) (sym e)
      (right_same refl refl (m_here books disk cell body s kept id v w me i x lane_lt homes) refl refl here right))
      (λ n. right_same refl refl (m_else books disk cell body s kept id v w me i x lane_lt homes (spot id g)
      (λ z. n (omega arith))) refl (cached_else g n
      ∙ ap (λ (z : LaneView). at 0 z.slots.cached g) (sym (at-is nobody s.views id v me)))
      (elsewhere g n ∙ ap (λ (z : LaneView). slot_of z g) (sym (at-is nobody s.views id v me)))
      (kept.sweep.right id g (low_id books disk cell body s kept id v v me) l)))
      (λ l g a b n. right_same refl refl (m_else books disk cell body s kept id v w me i x lane_lt homes (spot l g)
      (λ z. n (omega arith))) refl refl refl (kept.sweep.right l g a b)))
      kept.sweep.apart (λ d z. stock d (sym desk ∙ z))
      (each_set (λ j u. (g : ℕ) → g < 16 → FreshOf kept.b (number s g) g (slot_of u g) (at 0 u.slots.cached g)
      (at 0 u.slots.looked g) (at 0 u.known.seen g)) s.views id w
      (λ g l. dite (ℕ_discrete g f)
      (λ e. subst (λ (z : ℕ). FreshOf kept.b (number s z) z (slot_of w z) (at 0 w.slots.cached z)
      (at 0 w.slots.looked z) (at 0 w.known.seen z)) (sym e)
      (subst (λ (z : SlotView × List ℕ × List ℕ). FreshOf kept.b (number s f) f z.0 (at 0 w.slots.cached f)
      (at 0 z.1 f) (at 0 z.2 f)) (λ k. (sym here k, sym looks k, sym seen k)) fresh))
      (λ n. subst (λ (z : SlotView × ℕ × List ℕ × List ℕ). FreshOf kept.b (number s g) g z.0 z.1 (at 0 z.2 g)
      (at 0 z.3 g)) (λ k. (sym (elsewhere g n) k, sym (cached_else g n) k, sym looks k, sym seen k))
      (kept.fresh id v me g l)))
      (λ j u e g l. kept.fresh j u e g l)) refl stand

-- a slot that someone has is out
pub out_of : {a m w n c : ℕ} {x : SlotView} → Right a m w n c x → 1 ≤ lent x + m → (0 < w) × (w < 256)
out_of {a} {m} {w} {n} {c} {x} r one = dite (ℕ_discrete w 0) (λ e. absurd (omega (arith, r.empty e)))
    (λ n. dite (dec_le 256 w) (λ z. absurd (omega (arith, r.full z))) (λ z. (omega arith, omega arith)))

-- what fits in a rest
pub fit_idle : (W : Work) → W ≡ idle → (f l n : ℕ) → fit W f l n ≡ n
fit_idle W e f l n = ap (λ (z : Work). fit z f l n) e
