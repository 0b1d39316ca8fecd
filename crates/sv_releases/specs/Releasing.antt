-- What a lane that gives up its handle of a family needs and leaves.
use Rattle.std.specs.Prelude.{IfErr, IfOk, List, Option, Result, Some, None, [], length, slice_get, true, ℕ, ◌++◌, ◌+◌, ◌<◌, ◌∷◌, ◌≡◌, ◌⊎◌, ◌≤◌}
use Rattle.sv_borrows.specs.Desks.{AreAlike, IsAtDesk, at_desk}
use Rattle.sv_borrows.specs.Grown.{Cleans}
use Rattle.sv_family.specs.Refused.{release_refusal}
use Rattle.sv_laws.specs.Families.{IsReleased, IsRetired}
use Rattle.sv_model.specs.Books.{Books}
use Rattle.sv_model.specs.Families.{IsOwn, is_retired}
use Rattle.sv_model.specs.Lists.{same, times, total}
use Rattle.sv_model.specs.Refusals.{RefusesExactly}
use Rattle.sv_model.specs.Supers.{current_of}
use Rattle.sv_model.specs.Tasks.{Task}
use Rattle.sv_model.specs.Turns.{EndsCurrent, IsAccounted, Turns}
use Rattle.sv_model.specs.declared.records.Family.{Family}
use Rattle.sv_model.specs.declared.refusals.Refusal.{Refusal}
use Rattle.sv_rule.specs.Fits.{Fits}
use Rattle.sv_rule.specs.LockPlays.{MayGiveDb}
use Rattle.sv_rule.specs.Numbers.{NumberOk}
use Rattle.sv_rule.specs.Sums.{put}
use Rattle.sv_rule.specs.Views.{Bodied, LaneView, begun}
use Rattle.sv_slots.specs.Installs.{retired}
use Rattle.sv_slots.specs.declared.table.TheConstants.{MAX_HAND}
use Rattle.sv_turns.specs.Owned.{releases}

-- ---- the current of a family that is retired

-- The lane has the DB lock, and no work. In the books b, which the state has now, the family is retired and has no
-- current any more; the current before is of pack p. These books have u of the lane's own.
pub record MayRetire (b : Books) (f p : ℕ) (u : Task) (v : LaneView) : Type 0 where
  pub found : Books
  pub desk : IsAtDesk found [] v
  pub near : f < 16
  pub turns : Turns v.known.lane found v.known.task b u []
  pub own : IsAccounted v.known.lane b u
  pub ended : EndsCurrent found b f
  pub family : Family
  pub family_at : slice_get b.families f ≡ Some family
  pub family_is : is_retired family ≡ true
  pub was : p ≡ current_of found f
  pub big : 256 ≤ p
  pub owes : v.owes ≡ []
  pub hand : total (same 0) v.hand ≡ 0
  pub room : length v.hand + 1 < MAX_HAND

-- The family has no current any more, and the sweep of its slots begins; the number word was r.
abbrev pub IsEnded : ℕ → Books → Task → LaneView → LaneView → Type 0
IsEnded f b u v w = (r : ℕ) × NumberOk b (begun f) f r × (w ≡ retired f b u [] r v)

-- The lane, which has no work, goes on with these books and with u of its own. It knows more bodies, and began so many
-- rounds.
abbrev pub gone_on : Books → Task → List Bodied → List ℕ → List ℕ → ℕ → LaneView → LaneView
gone_on b u more seen looked adds v = record (at_desk b [] seen v) {
  known = record v.known { bodies = v.known.bodies ++ more; seen = seen; task = u };
  slots = record v.slots { looked = looked };
  counts = record v.counts { adds = v.counts.adds + adds };
}

-- The family has no current any more: its number word shows none, the slots of all lanes are swept, and the one before is
-- dropped, and cleaned up where that was its last reference. Nothing else of the lane changed but u.
pub record Retires (f : ℕ) (b c : Books) (u : Task) (v w : LaneView) : Type 0 where
  pub cleans : Cleans b c
  pub own : IsAccounted v.known.lane c u
  pub more : List Bodied
  pub seen : List ℕ
  pub alike : AreAlike seen v.known.seen
  pub is : w ≡ gone_on c u more seen (put 0 v.slots.looked f 0) 1 v

-- ---- a release

-- lane l means this family by the name
pub record IsMeant (l : ℕ) (name : List ℕ) (a : Books) (f : ℕ) : Type 0 where
  pub it : Family
  pub at : slice_get a.families f ≡ Some it
  pub own : IsOwn l name it

-- Its handle is taken back. Where the family is retired by that, it has no current any more, and the SuperVersion that was
-- is Gone unless somebody has a reference of it.
abbrev pub Closes : ℕ → Books → Books → ℕ → Type 0
Closes l a b f = IsReleased a b f l ⊎ ((m : Books) × IsRetired a m f l × Cleans m b)

-- of the books found and those left, and of what the lane has of its own
pub record Answers (l : ℕ) (name : List ℕ) (r : Result (Unit {0}) Refusal) (a b : Books) (t u : Task) : Type 0 where
  pub refused : RefusesExactly (release_refusal a.families l name) r
  pub closes : IfOk r (λ _. (f : ℕ) × IsMeant l name a f × Closes l a b f × (1 ≤ times f t.handles) × (u ≡ releases f t))
  pub stays : IfErr r (λ _. (b ≡ a) × (u ≡ t))

-- The lane took the DB lock once, found the books a and left the books b, and has u of its own. It knows more bodies, and
-- began so many rounds.
abbrev pub release_view : Books → Books → Task → List Bodied → List ℕ → List ℕ → ℕ → LaneView → LaneView
release_view a b u more seen looked adds v = record v {
  known = record v.known {
    found = v.known.found ++ a ∷ [];
    left = v.known.left ++ b ∷ [];
    bodies = v.known.bodies ++ more;
    seen = seen;
    task = u;
  };
  slots = record v.slots { looked = looked };
  counts = record v.counts { adds = v.counts.adds + adds };
}

-- What a release answers and leaves. Nothing else of the lane changed.
pub record Releases (l : ℕ) (name : List ℕ) (r : Result (Unit {0}) Refusal) (v w : LaneView) : Type 0 where
  pub found : Books
  pub left : Books
  pub fits : Fits found v.known
  pub task : Task
  pub answers : Answers l name r found left v.known.task task
  pub more : List Bodied
  pub seen : List ℕ
  pub looked : List ℕ
  pub adds : ℕ
  pub alike : AreAlike seen v.known.seen
  pub is : w ≡ release_view found left task more seen looked adds v

-- ---- while the lane has the DB lock

-- The handle is closed in the state, and is to go from the lane as the state is given; or it went, of a family that is
-- retired.
abbrev pub ClosesLocked : ℕ → Books → Books → LaneView → LaneView → ℕ → Type 0
ClosesLocked l a b v w f =
    (IsReleased a b f l × MayGiveDb v b (releases f v.known.task) × (w ≡ v))
    ⊎ ((m : Books) × IsRetired a m f l × Retires f m b (releases f v.known.task) v w)

-- The books b are those that it leaves.
pub record ReleasesLocked (l : ℕ) (name : List ℕ) (r : Result (Unit {0}) Refusal) (a b : Books) (v w : LaneView) : Type
    0 where
  pub refused : RefusesExactly (release_refusal a.families l name) r
  pub closes : IfOk r (λ _. (f : ℕ) × IsMeant l name a f × ClosesLocked l a b v w f)
  pub stays : IfErr r (λ _. (b ≡ a) × (w ≡ v))
