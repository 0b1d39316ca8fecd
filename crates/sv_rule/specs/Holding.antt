-- Who holds a SuperVersion, in a list.
use Rattle.std.specs.Prelude.{◌++◌, ℕ, zero, suc, List, [], ◌∷◌, replicate}
use Rattle.atomic_table.specs.Table.{State}
use Rattle.sv_model.specs.Lists.{same}
use Rattle.sv_rule.specs.Views.{LaneView}
use Rattle.sv_rule.specs.Table.{number, slot, names}

-- the number word of a family; the slot word of a spot; slot f of the view at j; and reference i in its hand
pub data Holder : Type 0 where
  by_number : ℕ → Holder
  by_word : ℕ → Holder
  by_slot : ℕ → ℕ → Holder
  by_hand : ℕ → ℕ → Holder

-- each number below n as often as it is counted
abbrev pub upto : (ℕ → ℕ) → (ℕ → Holder) → ℕ → List Holder
upto count tag zero = []
upto count tag (suc n) = upto count tag n ++ replicate (count n) (tag n)

-- each place of the list, from k, as often as what stands there counts
abbrev pub over : {A : Type 0} → (A → ℕ) → (ℕ → Holder) → ℕ → List A → List Holder
over g tag k [] = []
over g tag k (x ∷ xs) = replicate (g x) (tag k) ++ over g tag (suc k) xs

abbrev pub in_views : ℕ → ℕ → List LaneView → List Holder
in_views p j [] = []
in_views p j (v ∷ vs) = (over (names p) (by_slot j) 0 v.slots.slot ++ over (same p) (by_hand j) 0 v.hand) ++ in_views
    p (suc j) vs

module _ {S : Type 0} (s : State S LaneView) where
  -- who holds the pack
  abbrev pub holders_of : ℕ → List Holder
  holders_of p = upto (λ f. same p (number s f)) by_number
      16 ++ (upto (λ i. same p (slot s i)) by_word 512 ++ in_views p 0 s.views)
