-- What the calls of a lane answer that mean a family by its name.
use Rattle.std.specs.Prelude.{Err, IfErr, IfOk, List, None, Option, Result, Some, [], slice_set, ℕ, ◌++◌, ◌/◌, ◌∷◌, ◌≡◌, ◌⊎◌}
use Rattle.sv_borrows.specs.Lending.{Drops}
use Rattle.sv_db.specs.Handles.{HasNone, IsHandleOf}
use Rattle.sv_db.specs.Locals.{pinned}
use Rattle.sv_db.specs.Pins.{AreAllTaken, HasNoPin, IsLeastFree, IsPin}
use Rattle.sv_family.specs.Refused.{find_refusal}
use Rattle.sv_gets.specs.Getting.{Gets, GetsThrough, Goes, Pins, PinsNone}
use Rattle.sv_gets.specs.Reading.{Reads, StopsRead}
use Rattle.sv_gets.specs.declared.gets.Got.{Got}
use Rattle.sv_model.specs.Books.{Books}
use Rattle.sv_model.specs.declared.refusals.Refusal.{Refusal}
use Rattle.sv_model.specs.declared.refusals.Refusal.TheVariants as refusal
use Rattle.sv_model.specs.declared.sv_refs.SvRef.{SvRef}
use Rattle.sv_objects.specs.declared.bodies.Body.{Body as Kept}
use Rattle.sv_rule.specs.Views.{LaneView}

-- ---- a name by which the lane has no handle

-- the lane took the DB lock, found these books, and left them
abbrev pub asked_view : Books → LaneView → LaneView
asked_view b v = record v { known = record v.known { found = v.known.found ++ b ∷ []; left = v.known.left ++ b ∷ [] } }

-- Such a name is refused as the books found say, under the DB lock.
pub record Asks (l : ℕ) (name : List ℕ) (e : Refusal) (v w : LaneView) : Type 0 where
  pub found : Books
  pub due : find_refusal found.families l name ≡ Some e
  pub is : w ≡ asked_view found v

pub record IsUnnamed (l : ℕ) (handles : List (Option (List ℕ))) (name : List ℕ) {T : Type 0} (r : Result T Refusal) (v w : LaneView) : Type
    0 where
  pub none : HasNone name handles
  pub refusal : Refusal
  pub answer : r ≡ Err refusal
  pub asks : Asks l name refusal v w

-- ---- gets

-- a get of the family that the lane means
pub record GetsOwn (handles : List (Option (List ℕ))) (name key : List ℕ) (r : Result Got Refusal) (v w : LaneView) : Type 0 where
  pub family : ℕ
  pub own : IsHandleOf name handles family
  pub goes : Goes family v w
  pub got : IfOk r (λ got. Gets family key got v w)
  pub stops : IfErr r (StopsRead v w)

abbrev pub GetsNamed : ℕ → List (Option (List ℕ)) → List ℕ → List ℕ → Result Got Refusal → LaneView → LaneView → Type 0
GetsNamed l handles name key r v w = GetsOwn handles name key r v w ⊎ IsUnnamed l handles name r v w

-- ---- pins

-- The lane has one more pin, under the least number that was free.
pub record AddsPin (before after : List (Option (SvRef Kept))) (n serial f : ℕ) (v w : LaneView) : Type 0 where
  pub least : IsLeastFree before n
  pub sv : SvRef Kept
  pub is : after ≡ slice_set before n (Some sv)
  pub shows : serial ≡ sv.pack / 256
  pub pins : Pins f (pinned sv) v w

-- a pin of the family
pub record PinsOf (pins after : List (Option (SvRef Kept))) (f : ℕ) (r : Result (ℕ × ℕ) Refusal) (v w : LaneView) : Type
    0 where
  pub ok : IfOk r (λ a. AddsPin pins after a.0 a.1 f v w)
  -- without a free number nothing is done; without memory there is no pin
  pub err : IfErr r (λ e. (after ≡ pins) × (((e ≡ refusal.TooManyPins) × AreAllTaken pins × (w ≡ v))
      ⊎ ((e ≡ refusal.OutOfMemory) × PinsNone f v w)))

-- a pin of the family that the lane means
pub record PinsOwn (handles : List (Option (List ℕ))) (before after : List (Option (SvRef Kept))) (name : List ℕ)
    (r : Result (ℕ × ℕ) Refusal) (v w : LaneView) : Type 0 where
  pub family : ℕ
  pub own : IsHandleOf name handles family
  pub pins : PinsOf before after family r v w

abbrev pub PinsNamed : ℕ → List (Option (List ℕ)) → List (Option (SvRef Kept)) → List (Option (SvRef Kept)) → List ℕ → Result (ℕ × ℕ) Refusal → LaneView → LaneView → Type 0
PinsNamed l handles pins after name r v w =
    PinsOwn handles pins after name r v w ⊎ ((after ≡ pins) × IsUnnamed l handles name r v w)

-- the pin of this number is not the lane's any more, and its reference is dropped
pub record Unpins (pins after : List (Option (SvRef Kept))) (n : ℕ) (v w : LaneView) : Type 0 where
  pub sv : SvRef Kept
  pub was : IsPin pins n sv
  pub is : after ≡ slice_set pins n None
  pub drops : Drops sv.pack v w

-- the lane has no pin of this number
pub record IsUnpinned (pins after : List (Option (SvRef Kept))) (n : ℕ) {T : Type 0} (r : Result T Refusal) (v w : LaneView) : Type
    0 where
  pub none : HasNoPin pins n
  pub answer : r ≡ Err refusal.NoPin
  pub is : after ≡ pins
  pub same : w ≡ v

-- a get through the pin of this number
pub record GetsPinned (pins : List (Option (SvRef Kept))) (n : ℕ) (key : List ℕ) (r : Result Got Refusal) (v w : LaneView) : Type
    0 where
  pub sv : SvRef Kept
  pub was : IsPin pins n sv
  pub reads : Reads 1 v w
  pub got : IfOk r (λ got. GetsThrough (pinned sv) key got v w)
  pub stops : IfErr r (StopsRead v w)
