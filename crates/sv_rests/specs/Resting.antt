-- What a lane gives up when it rests.
use Rattle.std.specs.Prelude.{Bool, List, [], cond, false, length, nat_le, true, ℕ, ◌++◌, ◌<◌, ◌∷◌, ◌≡◌, ◌≤◌, ◌⊎◌}
use Rattle.sv_model.specs.Books.{Books}
use Rattle.sv_model.specs.Lists.{In, at}
use Rattle.sv_model.specs.Supers.{current_of}
use Rattle.sv_rule.specs.Blanks.{desk_of}
use Rattle.sv_rule.specs.ReferencePlays.{learnt}
use Rattle.sv_rule.specs.SlotPlays.{IsShown, slotted}
use Rattle.sv_rule.specs.Sums.{below}
use Rattle.sv_rule.specs.Views.{Bodied, LaneView, Slots, away}

-- ---- the slot of one family, under the DB lock

-- The slot caches nothing. It cached the family's current, as the lane knew; or the use of it found a mark.
abbrev pub GivesUp : ℕ → Bool → LaneView → LaneView → Type 0
GivesUp f true v w =
    (x : Bodied) × IsShown f x × (x.pack ≡ at 0 v.slots.cached f) × (x.pack ≡ current_of (desk_of v).books f)
    × (w ≡ learnt (x ∷ []) (slotted f away 0 x.pack v))
GivesUp f false v w = (r : ℕ) × (r < 3) × (w ≡ slotted f away 0 r v)

-- ---- the slots of all families

-- What the use of the slot of family f found is the current of the family in the books, which the lane had cached there;
-- it is one of these SuperVersions.
pub record IsGivenUp (b : Books) (more : List Bodied) (f found had : ℕ) : Type 0 where
  pub it : Bodied
  pub has : In it more
  pub shown : IsShown f it
  pub is : it.pack ≡ found
  pub was_cached : it.pack ≡ had
  pub current : it.pack ≡ current_of b f

-- it found a mark, or a SuperVersion that is given up
abbrev pub IsFound : Books → List Bodied → ℕ → ℕ → ℕ → Type 0
IsFound b more f found had = (found < 3) ⊎ IsGivenUp b more f found had

-- The slots of the families below n cache nothing. No slot is in the lane's hands that was not, and those of other
-- families cache what they did.
pub record AreEmptied (n : ℕ) (b : Books) (more : List Bodied) (s t : Slots) : Type 0 where
  pub emptied : (f : ℕ) → f < n → at 0 t.cached f ≡ 0
  pub found : (f : ℕ) → f < n → IsFound b more f (at 0 t.met f) (at 0 s.cached f)
  pub slot : (f : ℕ) → at away t.slot f ≡ at away s.slot f
  pub looked : t.looked ≡ s.looked
  pub cached : (f : ℕ) → n ≤ f → at 0 t.cached f ≡ at 0 s.cached f
  pub met : (f : ℕ) → n ≤ f → at 0 t.met f ≡ at 0 s.met f

-- 1 where the word that a use of a slot found is a pack
abbrev pub is_pack : ℕ → ℕ
is_pack r = cond (nat_le 256 r) 1 0

-- at how many families below n the latest use found a pack
abbrev pub pack_count : ℕ → Slots → ℕ
pack_count n s = below (λ f. is_pack (at 0 s.met f)) n

-- ---- under the DB lock

abbrev pub resting_view : List Bodied → Slots → LaneView → LaneView
resting_view more s v = record v { slots = s; known = record v.known { bodies = v.known.bodies ++ more } }

-- The slots of the families below n are given up, and so many of them cached a SuperVersion. The references are dropped,
-- and none of them was the last.
pub record RestsTo (n count : ℕ) (v w : LaneView) : Type 0 where
  pub more : List Bodied
  pub slots : Slots
  pub is : w ≡ resting_view more slots v
  pub emptied : AreEmptied n (desk_of v).books more v.slots slots
  pub counted : count ≡ pack_count n slots
  pub bodies : count ≡ length more

-- ---- the call

-- the lane took the DB lock, found these books, and left them
abbrev pub rested_view : Books → List Bodied → Slots → LaneView → LaneView
rested_view b more s v = record v {
  slots = s;
  known = record v.known { found = v.known.found ++ b ∷ []; left = v.known.left ++ b ∷ []; bodies = v.known.bodies ++ more };
}

-- No slot of the lane caches anything. So many did, each the current SuperVersion of its family in the books that the
-- lane found under the DB lock and left as they were; none of these references was the last. Nothing else changed.
pub record Rests (count : ℕ) (v w : LaneView) : Type 0 where
  pub found : Books
  pub more : List Bodied
  pub slots : Slots
  pub is : w ≡ rested_view found more slots v
  pub emptied : AreEmptied 16 found more v.slots slots
  pub counted : count ≡ pack_count 16 slots
  pub bodies : count ≡ length more
