-- A step sets one word, may move one value, and gives one lane another view. What it does not touch stands.
use Rattle.std.proofs.Common.{Bool, List, Some, [], ap, arith, cond, false, get_or-set_other, get_or-set_same, length, length-set, refl, set, subst, sym, true, ℕ, ◌*◌, ◌+◌, ◌<◌, ◌∙◌, ◌∷◌, ◌≡◌, ◌≢◌, ◌≤◌}
use mathlib.Core.Logic.{dite}
use mathlib.Core.Option.{some}
use mathlib.Core.Option as maybe
use native.Mathlib.Decide.{ℕ_discrete}
use lib.ListN.{get_elem?}
use Rattle.atomic_table.specs.Table.{State}
use Rattle.sv_model.specs.Books.{Books}
use Rattle.sv_model.specs.Lists.{Every, same, total, at}
use Rattle.sv_model.specs.Places.{taken}
use Rattle.sv_rule.specs.Blanks.{nobody}
use Rattle.sv_rule.specs.Fresh.{Fresh, FreshIn, FreshOf}
use Rattle.sv_rule.specs.Home.{Seats}
use Rattle.sv_rule.specs.Ledger.{most_hand}
use Rattle.sv_rule.specs.Numbers.{NumberOk, Numbers}
use Rattle.sv_rule.specs.Sums.{Each, below}
use Rattle.sv_rule.specs.Sweep.{Right, Rights}
use Rattle.sv_rule.specs.Table.{cached_at, holders, holds, names, number, number_word, slot, slot_at, slot_of, slot_word, spot, word}
use Rattle.sv_rule.specs.Tasks.{is_spent, joined_count, lanes}
use Rattle.sv_rule.specs.UnderWay.{Apart, Stock, fit, middle}
use Rattle.sv_rule.specs.Views.{Desk, Joined, LaneView, Load, SlotView, Work, away, begun, borrow, held, idle, opens, sweeping}
use Rattle.sv_rule.proofs.Basics.{each_set}
use Rattle.sv_rule.proofs.Sums.{at-is, at-set_else, at-set_same, below-put, below-same, below_le, same_le, term_le, total-same_le, total-set, total_le}

-- ---- views

pub view_le : (g : LaneView → ℕ) (vs : List LaneView) (id : ℕ) (v : LaneView) → get_elem? vs id ≡ some v
    → g v ≤ total g vs
view_le g vs id v = term_le g vs id v

pub view_same : (g : LaneView → ℕ) (vs : List LaneView) (id : ℕ) (v w : LaneView) → get_elem? vs id ≡ some v
    → g w ≡ g v → total g (set vs id w) ≡ total g vs
view_same g vs id v w me e = omega (arith, total-set g vs id v w me, e)

-- what the parts read of a view
abbrev pub seat_view : LaneView → Bool × ℕ × ℕ × ℕ × List Joined
seat_view v = (v.seat.spent, v.known.lane, v.seat.lanes, v.seat.made, v.joined)

abbrev pub slots_view : LaneView → List SlotView × List ℕ
slots_view v = (v.slots.slot, v.slots.cached)

abbrev pub fresh_view : LaneView → List SlotView × List ℕ × List ℕ × List ℕ
fresh_view v = (v.slots.slot, v.slots.cached, v.slots.looked, v.known.seen)

abbrev pub rounds_view : LaneView → ℕ × List Load × ℕ × List Joined
rounds_view v = (v.known.round, v.loads, v.counts.adds, v.joined)

-- ---- words, holders and owers

module _ {S : Type 0} (s : State S LaneView) (i x : ℕ) (homes : List (maybe.Option S)) (id : ℕ) (v w : LaneView)
    (me : get_elem? s.views id ≡ some v) where
  abbrev pub next : State S LaneView
  next = record { words = set s.words i x; homes = homes; views = set s.views id w }

  pub word_else : (k : ℕ) → k ≢ i → word next k ≡ word s k
  word_else k n = get_or-set_other s.words i k x 0 n

  pub word_here : i < length s.words → word next i ≡ x
  word_here h = get_or-set_same s.words i x 0 h

  pub views_move : (g : LaneView → ℕ) → total g next.views + g v ≡ total g s.views + g w
  views_move g = total-set g s.views id v w me

  pub numbers_stay : ((f : ℕ) → f < 16 → number_word f ≢ i) → (q : ℕ)
      → below (λ f. same q (number next f)) 16 ≡ below (λ f. same q (number s f)) 16
  numbers_stay n q = below-same (λ f. same q (number s f)) (λ f. same q (number next f)) 16
      (λ f l. ap (same q) (word_else (number_word f) (n f l)))

  pub slots_stay : ((k : ℕ) → k < 512 → slot_word k ≢ i) → (q : ℕ)
      → below (λ f. same q (slot next f)) 512 ≡ below (λ f. same q (slot s f)) 512
  slots_stay n q = below-same (λ f. same q (slot s f)) (λ f. same q (slot next f)) 512
      (λ f l. ap (same q) (word_else (slot_word f) (n f l)))

  -- a step on a word that names no pack
  pub holders_by_view : ((f : ℕ) → f < 16 → number_word f ≢ i) → ((k : ℕ) → k < 512 → slot_word k ≢ i) → (q : ℕ)
      → holders next q + holds q v ≡ holders s q + holds q w
  holders_by_view n m q = omega (arith, numbers_stay n q, slots_stay m q, views_move (holds q))

  -- a step on the slot word k
  pub holders_by_slot : (k : ℕ) → i ≡ slot_word k → k < 512 → i < length s.words → (q : ℕ)
      → holders next q + same q (word s i) + holds q v ≡ holders s q + same q x + holds q w
  holders_by_slot k is near long q =
      let here : slot next k ≡ x = ap (word next) (sym is) ∙ word_here long in
      omega (
        arith,
        numbers_stay (λ f l e. omega arith) q,
        below-put (λ f. same q (slot s f)) (λ f. same q (slot next f)) k 512 near
            (λ j n. ap (same q) (word_else (slot_word j) (λ e. n (omega arith)))),
        ap (same q) here,
        ap (λ (z : ℕ). same q (word s z)) is,
        views_move (holds q),
      )

  -- ---- seats

  pub seats_step : Seats s → length homes ≡ length s.homes → length w.slots.slot ≤ 16 → seat_view w ≡ seat_view v
      → (w.seat.spent ≡ true → w ≡ nobody) → Seats next
  seats_step sh long few stand dead =
      let spent : w.seat.spent ≡ v.seat.spent = ap (λ (z : Bool × ℕ × ℕ × ℕ × List Joined). z.0) stand in
      let joined : w.joined ≡ v.joined = ap (λ (z : Bool × ℕ × ℕ × ℕ × List Joined). z.4) stand in
      let same_length : length (set s.views id w) ≡ length s.views = length-set s.views id w in record {
        words = length-set s.words i x ∙ sh.words;
        homes = long ∙ sh.homes;
        given = sh.given;
        few = sh.few;
        views = omega (arith, same_length, sh.views);
        told = each_set (λ j u. u.seat.spent ≡ false → u.seat.lanes ≡ sh.given) s.views id w
            (λ e. ap (λ (z : Bool × ℕ × ℕ × ℕ × List Joined). z.2) stand ∙ sh.told id v me (sym spent ∙ e)) sh.told;
        made = subst (λ (z : ℕ). Each (λ j u. 0 < u.seat.made → (j ≡ 0) × (u.seat.made ≡ z)) (set s.views id w))
            (sym same_length)
            (each_set (λ j u. 0 < u.seat.made → (j ≡ 0) × (u.seat.made ≡ length s.views)) s.views id w
            (λ y. let made : w.seat.made ≡ v.seat.made = ap (λ (z : Bool × ℕ × ℕ × ℕ × List Joined). z.3) stand in
            let t = sh.made id v me (omega arith) in (t.0, made ∙ t.1)) sh.made);
        ordered = each_set (λ j u. u.seat.spent ≡ false → u.known.lane ≡ j) s.views id w
            (λ e. ap (λ (z : Bool × ℕ × ℕ × ℕ × List Joined). z.1) stand ∙ sh.ordered id v me (sym spent ∙ e))
            sh.ordered;
        slots = each_set (λ j u. length u.slots.slot ≤ 16) s.views id w few sh.slots;
        spent = each_set (λ j u. u.seat.spent ≡ true → u ≡ nobody) s.views id w dead sh.spent;
        joined = let one : Bool → ℕ = λ b. cond b 1 0 in
            omega (
              arith,
              views_move is_spent,
              views_move joined_count,
              sh.joined,
              ap one spent,
              ap (λ (z : List Joined). length z) joined,
            );
        below = subst (λ (z : ℕ). Each (λ j u. Every (λ o. o.known.lane < z) u.joined) (set s.views id w))
            (sym same_length)
            (each_set (λ j u. Every (λ o. o.known.lane < length s.views) u.joined) s.views id w
            (subst (Every (λ o. o.known.lane < length s.views)) (sym joined) (sh.below id v me)) sh.below);
        once = λ l. omega (
          arith,
          view_same (lanes l) s.views id v w me
              (λ k. cond (spent k) 0 (same l ((ap (λ (z : Bool × ℕ × ℕ × ℕ × List Joined). z.1) stand) k)) + total
              (λ o. same l o.known.lane) (joined k)),
          sh.once l,
        );
      }

  pub hands_step : Each (λ j u. length u.hand ≤ most_hand) s.views → length w.hand ≤ most_hand
      → Each (λ j u. length u.hand ≤ most_hand) next.views
  hands_step hs few = each_set (λ j u. length u.hand ≤ most_hand) s.views id w few hs

-- how many holders there can be
pub holders_few : {S : Type 0} (s : State S LaneView) → Seats s → Each (λ j u. length u.hand ≤ most_hand) s.views
    → (q : ℕ) → holders s q ≤ 528 + length s.views * 65616
holders_few s sh hs q =
    let a = below_le (λ f. same q (number s f)) 16 (λ k. same_le q (number s k)) in
    let b = below_le (λ f. same q (slot s f)) 512 (λ k. same_le q (slot s k)) in
    let c = total_le (holds q) s.views 65616 (λ j v e. let x = total_names_le v.slots.slot in
    let y = total-same_le q v.hand in omega (arith, sh.slots j v e, hs j v e)) in
    omega arith
  where
    total_names_le : (l : List SlotView) → total (names q) l ≤ length l
    total_names_le [] = omega arith
    total_names_le (away ∷ l) = omega (arith, total_names_le l)
    total_names_le (held p ∷ l) = omega (arith, total_names_le l, same_le q p)
    total_names_le (borrow p n ∷ l) = omega (arith, total_names_le l, same_le q p)

-- ---- slots

-- a slot where nothing of what is said of it changes
pub right_same : {a m w n c a' m' w' n' c' : ℕ} {x x' : SlotView} → a' ≡ a → m' ≡ m → w' ≡ w → n' ≡ n → c' ≡ c
    → x' ≡ x → Right a m w n c x → Right a' m' w' n' c' x'
right_same {a} {m} {w} {n} {c} {a'} {m'} {w'} {n'} {c'} {x} {x'} e₁ e₂ e₃ e₄ e₅ e₆ = subst
    (λ (z : ℕ × ℕ × ℕ × ℕ × ℕ × SlotView). Right z.0 z.1 z.2 z.3 z.4 z.5)
    (λ k. (sym e₁ k, sym e₂ k, sym e₃ k, sym e₄ k, sym e₅ k, sym e₆ k))

-- what holds of the slots of the new view and of each other holds of all
pub spots_set : (P : ℕ → ℕ → ℕ → SlotView → Type 0) (vs : List LaneView) (id : ℕ) (v w : LaneView)
    → get_elem? vs id ≡ some v → ((f : ℕ) → f < 16 → P id f (at 0 w.slots.cached f) (slot_of w f))
    → ((l f : ℕ) → l < 32 → f < 16 → l ≢ id → P l f (cached_at vs l f) (slot_at vs l f)) → (l f : ℕ) → l < 32 → f < 16
    → P l f (cached_at (set vs id w) l f) (slot_at (set vs id w) l f)
spots_set P vs id v w me mine others l f a b = dite (ℕ_discrete l id)
    (λ e. subst (λ (z : ℕ × LaneView). P z.0 f (at 0 z.1.slots.cached f) (slot_of z.1 f))
    (λ k. (sym e k, sym (ap (at nobody (set vs id w)) e ∙ at-set_same nobody vs id v w me) k)) (mine f b))
    (λ n. subst (λ (z : LaneView). P l f (at 0 z.slots.cached f) (slot_of z f)) (sym (at-set_else nobody vs id l w n))
    (others l f a b n))

-- the same of a view that keeps its slots
pub spots_keep : (P : ℕ → ℕ → ℕ → SlotView → Type 0) (vs : List LaneView) (id : ℕ) (v w : LaneView)
    → get_elem? vs id ≡ some v → id < 32 → slots_view w ≡ slots_view v
    → ((l f : ℕ) → l < 32 → f < 16 → P l f (cached_at vs l f) (slot_at vs l f)) → (l f : ℕ) → l < 32 → f < 16
    → P l f (cached_at (set vs id w) l f) (slot_at (set vs id w) l f)
spots_keep P vs id v w me low stand all = spots_set P vs id v w me
    (λ f b. subst (λ (z : List SlotView × List ℕ). P id f (at 0 z.1 f) (at away z.0 f)) (sym stand)
    (subst (λ (z : LaneView). P id f (at 0 z.slots.cached f) (slot_of z f)) (at-is nobody vs id v me)
    (all id f low b)))
    (λ l f a b n. all l f a b)

-- the slots, where no slot word and no number word changes
pub rights_stay : (work work' : Work) (number₀ number₁ slot₀ slot₁ : ℕ → ℕ) (vs : List LaneView) (id : ℕ)
    (v w : LaneView) → get_elem? vs id ≡ some v → id < 32 → slots_view w ≡ slots_view v
    → ((f : ℕ) → f < 16 → number₁ f ≡ number₀ f) → ((i : ℕ) → i < 512 → slot₁ i ≡ slot₀ i)
    → ((l f n : ℕ) → fit work' f l n ≡ fit work f l n) → ((i : ℕ) → middle i work' ≡ middle i work)
    → Rights work number₀ slot₀ vs → Rights work' number₁ slot₁ (set vs id w)
rights_stay work work' number₀ number₁ slot₀ slot₁ vs id v w me low stand numbers slots fits mids rights =
    spots_keep (λ l f c x. Right (fit work' f l (number₁ f)) (middle (spot l f) work') (slot₁ (spot l f)) (number₁ f)
    c x) vs id v w me low stand
    (λ l f a b. right_same (fits l f (number₁ f) ∙ ap (fit work f l) (numbers f b)) (mids (spot l f))
    (slots (spot l f) (omega arith)) (numbers f b) refl refl (rights l f a b))

pub apart_same : (number₀ number₁ : ℕ → ℕ) (work : Work) → ((f : ℕ) → f < 16 → number₁ f ≡ number₀ f)
    → Apart number₀ work → Apart number₁ work
apart_same number₀ number₁ idle numbers h = h
apart_same number₀ number₁ (opens f) numbers h = h
apart_same number₀ number₁ (begun f) numbers h = h
apart_same number₀ number₁ (sweeping g old m mid taken) numbers h = λ l big e. h l big (e ∙ numbers g l)

-- what a lane with the DB lock has in hand
pub stock_set : (vs : List LaneView) (id : ℕ) (w : LaneView)
    → ((d : Desk) → w.locks.db ≡ Some d → Stock d.books d.work w.hand)
    → Each (λ j v. (d : Desk) → v.locks.db ≡ Some d → Stock d.books d.work v.hand) vs
    → Each (λ j v. (d : Desk) → v.locks.db ≡ Some d → Stock d.books d.work v.hand) (set vs id w)
stock_set vs id w mine all = each_set (λ j v. (d : Desk) → v.locks.db ≡ Some d → Stock d.books d.work v.hand) vs id w
    mine all

-- ---- packs and floors

-- where no number word changes and the books show no less
pub fresh_stay : (b b' : Books) (number₀ number₁ : ℕ → ℕ) (vs : List LaneView) (id : ℕ) (v w : LaneView)
    → get_elem? vs id ≡ some v → fresh_view w ≡ fresh_view v
    → ((f c p seen : ℕ) (x : SlotView) → f < 16 → FreshOf b (number₀ f) f x c p seen
    → FreshOf b' (number₁ f) f x c p seen) → Fresh b number₀ vs → Fresh b' number₁ (set vs id w)
fresh_stay b b' number₀ number₁ vs id v w me stand moves fresh = each_set (λ j u. FreshIn b' number₁ u) vs id w
    (λ f l. subst (λ (z : List SlotView × List ℕ × List ℕ × List ℕ). FreshOf b' (number₁ f) f (at away z.0 f)
    (at 0 z.1 f) (at 0 z.2 f) (at 0 z.3 f)) (sym stand) (moves f _ _ _ _ l (fresh id v me f l)))
    (λ j u e f l. moves f _ _ _ _ l (fresh j u e f l))

pub fresh_same : (b : Books) (number₀ number₁ : ℕ → ℕ) → ((f : ℕ) → f < 16 → number₁ f ≡ number₀ f)
    → (f c p seen : ℕ) (x : SlotView) → f < 16 → FreshOf b (number₀ f) f x c p seen → FreshOf b (number₁ f) f x c p seen
fresh_same b number₀ number₁ numbers f c p seen x l = subst (λ (z : ℕ). FreshOf b z f x c p seen) (sym (numbers f l))

-- ---- number words

-- where no book, no work and no number word changes
pub numbers_same : (b : Books) (work : Work) (number₀ number₁ : ℕ → ℕ) → ((f : ℕ) → f < 16 → number₁ f ≡ number₀ f)
    → Numbers b work number₀ → Numbers b work number₁
numbers_same b work number₀ number₁ numbers h = record {
  lawful = h.lawful;
  word = λ f l. subst (λ (z : ℕ). NumberOk b work f z) (sym (numbers f l)) (h.word f l);
  top = h.top;
  default = λ z. omega (arith, h.default z, numbers 0 (omega arith));
  based = h.based;
}
