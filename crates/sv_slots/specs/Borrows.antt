-- What the calls on a lane's own slots make of its view, and what they answer.
use Rattle.std.specs.Prelude.{◌≡◌, ◌≢◌, ◌+◌, ◌≤◌, ◌<◌, ◌^◌, ◌∷◌, [], ℕ, Option, Some, None, Bool, true, false}
use Rattle.sv_model.specs.declared.sv_refs.SvRef.{SvRef}
use Rattle.sv_model.specs.Lists.{In, times, at}
use Rattle.sv_rule.specs.ReferencePlays.{learnt}
use Rattle.sv_rule.specs.SlotPlays.{IsCurrentAt, IsShown, counted, looked_by, slotted}
use Rattle.sv_rule.specs.Sums.{put, without}
use Rattle.sv_rule.specs.Views.{Bodied, Body, LaneView, away, borrow}
use Rattle.sv_slots.specs.Seats.{bodied}
use Rattle.sv_slots.specs.declared.borrows.Back.{Back}
use Rattle.sv_slots.specs.declared.borrows.Back.TheVariants.{Kept, Swept}
use Rattle.sv_slots.specs.declared.borrows.Miss.{Miss}
use Rattle.sv_slots.specs.declared.borrows.Miss.TheVariants.{Empty, Stale}

-- the lane loaded p from the number word of f
abbrev pub saw : ℕ → ℕ → LaneView → LaneView
saw f p v = record v {
  slots = record v.slots { looked = put 0 v.slots.looked f p };
  counts = record v.counts { looks = v.counts.looks + 1 };
  loads = record { family = f; pack = p } ∷ v.loads;
}

-- the lane has one reference more in hand
abbrev pub handed : ℕ → LaneView → LaneView
handed p v = record v { hand = p ∷ v.hand }

-- ---- try_borrow

-- the lane has a borrow of what it cached, after a load that found the same
abbrev pub hit : ℕ → Bodied → LaneView → LaneView
hit f x v = learnt (x ∷ [])
    (saw f x.pack (counted 1 0 0 (slotted f (borrow x.pack (at 0 v.known.seen f)) 0 x.pack v)))

-- its use found the mark r
abbrev pub missed : ℕ → ℕ → LaneView → LaneView
missed f r v = counted 1 1 0 (slotted f away 0 r v)

-- its load found another pack than it cached, whose reference it has in hand
abbrev pub stale : ℕ → Bodied → ℕ → LaneView → LaneView
stale f x now v = handed x.pack (learnt (x ∷ []) (saw f now (counted 1 1 0 (slotted f away 0 x.pack v))))

-- what a load of the number word tells
pub record Told (f p : ℕ) (old : LaneView) : Type 0 where
  pub current : IsCurrentAt f p old.locks.db
  pub rises : 256 ≤ p → at 0 old.slots.looked f ≤ p
  pub small : p < 2 ^ 40
  pub there : 1 ≤ times f old.known.task.handles → old.locks.db ≡ None → (In f old.seat.ends → ⊥) → 256 ≤ p

pub record IsHit {B : Type 0} (body : B → Body) (f : ℕ) (sv : SvRef B) (old new : LaneView) : Type 0 where
  pub view : new ≡ hit f (bodied body sv) old
  pub shown : IsShown f (bodied body sv)
  pub was_cached : sv.pack ≡ at 0 old.slots.cached f
  pub told : Told f sv.pack old

pub record IsStale {B : Type 0} (body : B → Body) (f : ℕ) (sv : SvRef B) (now : ℕ) (old new : LaneView) : Type
    0 where
  pub view : new ≡ stale f (bodied body sv) now old
  pub shown : IsShown f (bodied body sv)
  pub was_cached : sv.pack ≡ at 0 old.slots.cached f
  pub other : now ≢ sv.pack
  pub told : Told f now old

-- a miss is Empty only where the use found a mark, and Stale only where the load found another pack
abbrev pub IsMiss : {P S D C B : Type 0} → (B → Body) → ℕ → Miss P S D C B → LaneView → LaneView → Type 0
IsMiss body f Empty old new = (r : ℕ) × (r < 3) × (new ≡ missed f r old)
IsMiss body f (Stale sv now) old new = IsStale body f sv now old new

-- ---- borrow_locked

abbrev pub borrowed : ℕ → ℕ → LaneView → LaneView
borrowed f p v = record (saw f p (slotted f (borrow p (at 0 v.known.seen f)) 0 0 v)) { hand = without p v.hand }

-- ---- give_back

-- the slot caches the reference; or a sweep was there, and the lane has it in hand
abbrev pub given_back : ℕ → ℕ → LaneView → LaneView
given_back f p v = slotted f away p 1 v

abbrev pub swept_back : ℕ → ℕ → LaneView → LaneView
swept_back f p v = handed p (counted 0 0 1 (slotted f away 0 2 v))

abbrev pub IsBack : {P S D C B : Type 0} → (B → Body) → ℕ → SvRef B → Back P S D C B → LaneView → LaneView → Type 0
IsBack body f sv Kept old new = new ≡ given_back f sv.pack old
IsBack body f sv (Swept back) old new = (bodied body back ≡ bodied body sv) × (new ≡ swept_back f sv.pack old)

abbrev pub was_swept : {P S D C B : Type 0} → Back P S D C B → Bool
was_swept Kept = false
was_swept (Swept back) = true

-- ---- rest

-- the slot caches nothing, and the lane has in hand what it cached, which with the DB lock and no work is the current
pub record IsTaken {B : Type 0} (body : B → Body) (f : ℕ) (sv : SvRef B) (old new : LaneView) : Type 0 where
  pub view : new ≡ handed sv.pack (learnt (bodied body sv ∷ []) (slotted f away 0 sv.pack old))
  pub shown : IsShown f (bodied body sv)
  pub was_cached : sv.pack ≡ at 0 old.slots.cached f
  pub current : IsCurrentAt f sv.pack old.locks.db

abbrev pub IsRested : {B : Type 0} → (B → Body) → ℕ → Option (SvRef B) → LaneView → LaneView → Type 0
IsRested body f None old new = (r : ℕ) × (r < 3) × (new ≡ slotted f away 0 r old)
IsRested body f (Some sv) old new = IsTaken body f sv old new

-- ---- look

abbrev pub word_of : Option ℕ → ℕ
word_of None = 0
word_of (Some p) = p

-- the number word was 0 just where the answer is None
pub record IsLooked (f : ℕ) (answer : Option ℕ) (old new : LaneView) : Type 0 where
  pub view : new ≡ looked_by false f (word_of answer) old
  pub told : Told f (word_of answer) old
  pub some : (p : ℕ) → answer ≡ Some p → 0 < p
