-- What the work is once its lane drops a reference.
use Rattle.std.proofs.Common.{Bool, List, ap, arith, cond, eq-eqb, false, length, nat_le, ne_eqb, refl, subst, suc, sym, true, zero, ℕ, ◌<◌, ◌∙◌, ◌≡◌, ◌≢◌, ◌≤◌}
use Rattle.std.proofs.lemmas.Bool.{lt-leb}
use mathlib.Core.Logic.{dite}
use native.Mathlib.Decide.{dec_le, ℕ_discrete}
use Rattle.sv_model.specs.Books.{Books}
use Rattle.sv_model.specs.Lists.{same, total, at}
use Rattle.sv_rule.specs.Blanks.{nobody}
use Rattle.sv_rule.specs.Numbers.{Numbers}
use Rattle.sv_rule.specs.ReferencePlays.{MayDrop, lowered}
use Rattle.sv_rule.specs.Sums.{without}
use Rattle.sv_model.specs.Supers.{current_of}
use Rattle.sv_rule.specs.Sweep.{Right, Rights, pack_of}
use Rattle.sv_rule.specs.Table.{number, slot, slot_of, spot}
use Rattle.sv_rule.specs.Tasks.{lanes}
use Rattle.sv_rule.specs.UnderWay.{Apart, Stock, fit, middle}
use Rattle.sv_rule.specs.Views.{LaneView, SlotView, Work, begun, idle, opens, sweeping}
use Rattle.sv_rule.proofs.NumberWorks.{numbers-work}
use Rattle.sv_rule.proofs.StepLaws.{right_same}
use Rattle.sv_rule.proofs.Sums.{at-past, same-self, total-without, total-without_else}

-- what is said of a work
pub record WorkOk (b : Books) (work : Work) (number slot : ℕ → ℕ) (vs : List LaneView) (hand : List ℕ) : Type 0 where
  pub numbers : Numbers b work number
  pub right : Rights work number slot vs
  pub apart : Apart number work
  pub stock : Stock b work hand

-- a slot that caches nothing, nor is in use with a pack, fits with any
pub right_void : {a a' m w n c : ℕ} {x : SlotView} → (256 ≤ w → ⊥) → (w ≡ 1 → 256 ≤ pack_of x → ⊥) → Right a m w n c x
    → Right a' m w n c x
right_void not_full not_used r = record {
  empty = r.empty;
  full = r.full;
  out = r.out;
  cached = r.cached;
  fitting = λ z. absurd (not_full z);
  used = λ y z. absurd (not_used y z);
  away = r.away;
  none = r.none;
}

fit_else : (f old m : ℕ) (mid : Bool) (taken g l n : ℕ) → g ≢ f → fit (sweeping f old m mid taken) g l n ≡ n
fit_else f old m mid taken g l n ne = ap (λ (z : Bool). cond z (cond (nat_le m l) old 0) n)
    (ne_eqb f g (λ e. ne (sym e)))

pub fit_here : (f old m : ℕ) (mid : Bool) (taken l n : ℕ)
    → fit (sweeping f old m mid taken) f l n ≡ cond (nat_le m l) old 0
fit_here f old m mid taken l n = ap (λ (z : Bool). cond z (cond (nat_le m l) old 0) n) (eq-eqb f f refl)

pub fit_passed : (f old m : ℕ) (mid : Bool) (taken l n : ℕ) → l < m → fit (sweeping f old m mid taken) f l n ≡ 0
fit_passed f old m mid taken l n h = fit_here f old m mid taken l n ∙ ap (λ (z : Bool). cond z old 0) (lt-leb m l h)

-- a sweep that passed all lanes ends
pub sweep_ends : (f old m taken lanes : ℕ) (number slot : ℕ → ℕ) (vs : List LaneView) → m ≡ lanes → length vs ≤ lanes
    → Rights (sweeping f old m false taken) number slot vs → Rights idle number slot vs
sweep_ends f old m taken lanes number slot vs all few rights l g a b = let r = rights l g a b in dite (ℕ_discrete g f)
    (λ e. dite (dec_le (length vs) l)
    (λ past. let nothing : at nobody vs l ≡ nobody = at-past nobody vs l past in
    right_void (λ big. omega (arith, r.cached big, ap (λ (z : LaneView). at 0 z.slots.cached g) nothing))
    (λ _ big. omega (arith, ap (λ (z : LaneView). pack_of (slot_of z g)) nothing)) r)
    (λ low. let no : fit (sweeping f old m false taken) g l (number g) ≡ 0 = ap
    (λ (z : ℕ). fit (sweeping f old m false taken) z l (number g)) e
    ∙ fit_passed f old m false taken l (number g) (omega arith) in
    right_void (λ big. omega (arith, r.fitting big, no)) (λ one big. omega (arith, r.used one big, no)) r))
    (λ ne. right_same (sym (fit_else f old m false taken g l (number g) ne)) refl refl refl refl refl r)

one_less : (t p : ℕ) (hand : List ℕ) → suc t < total (same p) hand → t < total (same p) (without p hand)
one_less t p hand h = omega (arith, total-without p hand (omega arith) p, same-self p)

others_stand : (p q : ℕ) (hand : List ℕ) → q ≢ p → total (same q) (without p hand) ≡ total (same q) hand
others_stand p q hand n = total-without_else p q hand n

-- the current of a work in hand
current_stands : (p c : ℕ) (hand : List ℕ) → (p ≡ c → 2 ≤ total (same p) hand) → 0 < total (same c) hand
    → 0 < total (same c) (without p hand)
current_stands p c hand may has = dite (ℕ_discrete p c)
    (λ e. subst (λ (z : ℕ). 0 < total (same z) (without p hand)) e (one_less 0 p hand (may e)))
    (λ n. omega (arith, others_stand p c hand (λ e. n (sym e))))

mid_same : (i f old m t u : ℕ) (mid : Bool) → middle i (sweeping f old m mid t) ≡ middle i (sweeping f old m mid u)
mid_same i f old m t u true = refl
mid_same i f old m t u false = refl

module _ (p lanes : ℕ) (b : Books) (number slot : ℕ → ℕ) (vs : List LaneView) (hand : List ℕ)
    (few : length vs ≤ lanes) (has : 0 < total (same p) hand) where
  pub lowers_ok : (work : Work) → MayDrop p lanes b hand work → WorkOk b work number slot vs hand
      → WorkOk b (lowered p work) number slot vs (without p hand)
  lowers_ok idle may ok = record { numbers = ok.numbers; right = ok.right; apart = tt; stock = tt }
  lowers_ok (opens f) may ok = record {
    numbers = ok.numbers;
    right = ok.right;
    apart = tt;
    stock = λ big. current_stands p (current_of b f) hand may (ok.stock big);
  }
  lowers_ok (begun f) may ok = record {
    numbers = ok.numbers;
    right = ok.right;
    apart = tt;
    stock = λ big. current_stands p (current_of b f) hand may (ok.stock big);
  }
  lowers_ok (sweeping f old m mid zero) may ok = dite (ℕ_discrete old p)
      (λ e. subst (λ (z : Work). WorkOk b z number slot vs (without p hand))
      (ap (λ (z : Bool). cond z idle (sweeping f old m mid zero)) (sym (eq-eqb old p e)))
      record {
        numbers = numbers-work b (sweeping f old m mid zero) idle number (λ g. refl) ok.numbers;
        right = let t = may e in sweep_ends f old m 0 lanes number slot vs t.0 few
            (subst (λ (z : Bool). Rights (sweeping f old m z zero) number slot vs) t.1 ok.right);
        apart = tt;
        stock = tt;
      })
      (λ n. subst (λ (z : Work). WorkOk b z number slot vs (without p hand))
      (ap (λ (z : Bool). cond z idle (sweeping f old m mid zero)) (sym (ne_eqb old p n)))
      record {
        numbers = ok.numbers;
        right = ok.right;
        apart = ok.apart;
        stock = λ big. omega (arith, ok.stock big, others_stand p old hand n);
      })
  lowers_ok (sweeping f old m mid (suc t)) may ok = dite (ℕ_discrete old p)
      (λ e. subst (λ (z : Work). WorkOk b z number slot vs (without p hand))
      (ap (λ (z : Bool). cond z (sweeping f old m mid t) (sweeping f old m mid (suc t))) (sym (eq-eqb old p e)))
      record {
        numbers = numbers-work b (sweeping f old m mid (suc t)) (sweeping f old m mid t) number (λ g. refl) ok.numbers;
        right = λ l g a z. right_same refl (mid_same (spot l g) f old m t (suc t) mid) refl refl refl refl
            (ok.right l g a z);
        apart = ok.apart;
        stock = λ big. subst (λ (z : ℕ). t < total (same z) (without p hand)) (sym e)
            (one_less t p hand (subst (λ (z : ℕ). suc t < total (same z) hand) e (ok.stock big)));
      })
      (λ n. subst (λ (z : Work). WorkOk b z number slot vs (without p hand))
      (ap (λ (z : Bool). cond z (sweeping f old m mid t) (sweeping f old m mid (suc t))) (sym (ne_eqb old p n)))
      record {
        numbers = ok.numbers;
        right = ok.right;
        apart = ok.apart;
        stock = λ big. omega (arith, ok.stock big, others_stand p old hand n);
      })
