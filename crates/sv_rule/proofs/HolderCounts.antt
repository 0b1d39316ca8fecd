-- The count of a SuperVersion's holders is the length of their list.
use Rattle.std.proofs.Common.{List, [], ap, arith, length, length-append, refl, replicate, suc, zero, ℕ, ⊎_elim, ◌*◌, ◌++◌, ◌+◌, ◌<◌, ◌∷◌, ◌≡◌}
use Rattle.atomic_table.specs.Table.{State}
use Rattle.sv_model.specs.Lists.{same, total}
use Rattle.sv_model.specs.declared.records.SuperVersion.{SuperVersion}
use Rattle.sv_rule.specs.Holding.{Holder, by_hand, by_number, by_slot, by_word, holders_of, in_views, over, upto}
use Rattle.sv_rule.specs.Ledger.{Counted, Places, Vacant}
use Rattle.sv_rule.specs.Sums.{below}
use Rattle.sv_model.specs.Supers.{LiveAt, pack}
use Rattle.sv_rule.specs.Table.{holders, holds, names, number, owers, reference, slot}
use Rattle.sv_rule.specs.Views.{LaneView}

length-replicate : {A : Type 0} (n : ℕ) (x : A) → length (replicate n x) ≡ n
length-replicate zero x = refl
length-replicate (suc n) x = ap suc (length-replicate n x)

length-upto : (count : ℕ → ℕ) (tag : ℕ → Holder) (n : ℕ) → length (upto count tag n) ≡ below count n
unfolding below
length-upto count tag zero = refl
length-upto count tag (suc n) = omega (
  arith,
  length-append (upto count tag n) (replicate (count n) (tag n)),
  length-upto count tag n,
  length-replicate (count n) (tag n),
)

length-over : {A : Type 0} (g : A → ℕ) (tag : ℕ → Holder) (k : ℕ) (l : List A) → length (over g tag k l) ≡ total g l
length-over g tag k [] = refl
length-over g tag k (x ∷ xs) = omega (
  arith,
  length-append (replicate (g x) (tag k)) (over g tag (suc k) xs),
  length-replicate (g x) (tag k),
  length-over g tag (suc k) xs,
)

length-views : (p j : ℕ) (vs : List LaneView) → length (in_views p j vs) ≡ total (holds p) vs
length-views p j [] = refl
length-views p j (v ∷ vs) = omega (
  arith,
  length-append (over (names p) (by_slot j) 0 v.slots.slot ++ over (same p) (by_hand j) 0 v.hand)
      (in_views p (suc j) vs),
  length-append (over (names p) (by_slot j) 0 v.slots.slot) (over (same p) (by_hand j) 0 v.hand),
  length-over (names p) (by_slot j) 0 v.slots.slot,
  length-over (same p) (by_hand j) 0 v.hand,
  length-views p (suc j) vs,
)

pub length-holders : {S : Type 0} (s : State S LaneView) (p : ℕ) → length (holders_of s p) ≡ holders s p
length-holders s p = omega (
  arith,
  length-append (upto (λ f. same p (number s f)) by_number 16)
      (upto (λ i. same p (slot s i)) by_word 512 ++ in_views p 0 s.views),
  length-append (upto (λ i. same p (slot s i)) by_word 512) (in_views p 0 s.views),
  length-upto (λ f. same p (number s f)) by_number 16,
  length-upto (λ i. same p (slot s i)) by_word 512,
  length-views p 0 s.views,
)

-- a reference word counts them
pub counts-holders : {S : Type 0} (s : State S LaneView) (supers : List SuperVersion)
    → Places supers (reference s) (holders s) (owers s) → (t k : ℕ) → k < 256 → LiveAt supers t k
    → reference s k ≡ t * 4294967296 + length (holders_of s (pack t k))
counts-holders s supers places t k near live = ⊎_elim
    (λ (c : Vacant supers (holders s) (owers s) k (reference s k)). absurd (c.dead t live))
    (λ (c : Counted supers (holders s) (owers s) k (reference s k)). let same_serial = c.only t live in
    omega (arith, c.word, length-holders s (pack t k), same_serial, ap (λ z. holders s (pack z k)) same_serial))
    (places k near)
