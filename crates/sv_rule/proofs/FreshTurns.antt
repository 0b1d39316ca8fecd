-- What lanes borrowed, cached and looked at, as the books change or a number word does.
use Rattle.std.proofs.Common.{List, ap, arith, subst, sym, ℕ, ◌/◌, ◌<◌, ◌∙◌, ◌∷◌, ◌≡◌, ◌≢◌, ◌≤◌}
use mathlib.Core.Logic.{dite}
use native.Mathlib.Decide.{dec_le}
use Rattle.sv_model.specs.After.{After}
use Rattle.sv_model.specs.Books.{Books}
use Rattle.sv_model.specs.Lists.{same, total}
use Rattle.sv_model.specs.Places.{taken}
use Rattle.sv_model.specs.Registers.{entry}
use Rattle.sv_rule.specs.Fresh.{FreshOf, Past, floor_of}
use Rattle.sv_model.specs.Supers.{IsPackOf, current_of, end_at, end_in}
use Rattle.sv_rule.specs.Sweep.{pack_of}
use Rattle.sv_rule.specs.UnderWay.{Stock}
use Rattle.sv_rule.specs.Views.{SlotView, Work, begun, idle, opens, sweeping}
use Rattle.sv_rule.proofs.LaterBooks.{end-after, pack-after, writes-after}

floor_low : (b b' : Books) (x : SlotView) → pack_of x < 256 → floor_of x ≤ end_at b (pack_of x)
    → floor_of x ≤ end_at b' (pack_of x)
floor_low b b' x small h = let z : pack_of x / 256 ≡ 0 = omega arith in
    omega (arith, ap (λ (y : ℕ). end_in b.journal (entry b.supers y)) z)

module _ (a b : Books) (later : After a b) where
  -- where no pack of the past is the new current
  pub fresh-turn : (n f c p seen : ℕ) (x : SlotView) → ((q : ℕ) → IsPackOf a.supers f q → n ≡ 0 → q ≢ current_of a f
      → q ≢ current_of b f) → FreshOf a n f x c p seen → FreshOf b n f x c p seen
  fresh-turn n f c p seen x else h = record {
    slot = λ z. past (pack_of x) (h.slot z);
    cached = λ z. past c (h.cached z);
    looked = λ z. past p (h.looked z);
    floor = dite (dec_le 256 (pack_of x)) (λ big. let e = end-after a b later f (pack_of x) (h.slot big).is in
        omega (arith, h.floor)) (λ small. floor_low a b x (omega arith) h.floor);
    seen_is = omega (arith, h.seen_is, writes-after a b later f);
  }
    where
      past : (q : ℕ) → Past a n f q → Past b n f q
      past q k = record { is = pack-after a b later f q k.is; below = k.below; none = λ z. else q k.is z (k.none z) }

  -- where the current stands
  pub fresh-stands : (n f c p seen : ℕ) (x : SlotView) → current_of b f ≡ current_of a f → FreshOf a n f x c p seen
      → FreshOf b n f x c p seen
  fresh-stands n f c p seen x e = fresh-turn n f c p seen x (λ q k z ne s. ne (s ∙ e))

-- the number word is another, which is no less
pub fresh-number : (b : Books) (n n' f c p seen : ℕ) (x : SlotView) → ((q : ℕ) → Past b n f q → Past b n' f q)
    → FreshOf b n f x c p seen → FreshOf b n' f x c p seen
fresh-number b n n' f c p seen x moves h = record {
  slot = λ z. moves _ (h.slot z);
  cached = λ z. moves _ (h.cached z);
  looked = λ z. moves _ (h.looked z);
  floor = h.floor;
  seen_is = h.seen_is;
}

-- what a lane with a work has in hand
pub stock-turn : (a b : Books) → ((f : ℕ) → current_of b f ≡ current_of a f) → (work : Work) (hand : List ℕ)
    → Stock a work hand → Stock b work hand
stock-turn a b e idle hand k = tt
stock-turn a b e (opens f) hand k = λ big. subst (λ (z : ℕ). 0 < total (same z) hand) (sym (e f))
    (k (omega (arith, e f)))
stock-turn a b e (begun f) hand k = λ big. subst (λ (z : ℕ). 0 < total (same z) hand) (sym (e f))
    (k (omega (arith, e f)))
stock-turn a b e (sweeping f old m mid taken) hand k = k

-- one more in hand
pub stock-more : (p : ℕ) (b : Books) (work : Work) (hand : List ℕ) → Stock b work hand → Stock b work (p ∷ hand)
stock-more p b idle hand h = tt
stock-more p b (opens f) hand h = λ big. omega (arith, h big)
stock-more p b (begun f) hand h = λ big. omega (arith, h big)
stock-more p b (sweeping f old m mid taken) hand h = λ big. omega (arith, h big)
