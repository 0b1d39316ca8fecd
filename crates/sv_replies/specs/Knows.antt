-- What a lane was told is within books: so it stays in all books that come after.
use Rattle.std.specs.Prelude.{◌≡◌, ◌≤◌, ◌<◌, ◌⊎◌, ◌↔◌, ℕ, true, List, Some, length, slice_get, sum}
use Rattle.sv_model.specs.declared.records.Top.{Top}
use Rattle.sv_model.specs.declared.records.Snapshot.{Snapshot}
use Rattle.sv_model.specs.Books.{Books, files_of}
use Rattle.sv_model.specs.Families.{IsOwn}
use Rattle.sv_model.specs.Journal.{of_family, by_lane}
use Rattle.sv_model.specs.Ranges.{reach_of}
use Rattle.sv_model.specs.Registers.{entry}
use Rattle.sv_replies.specs.Known.{Known, FamilyKnown, Pinned}
use Rattle.sv_replies.specs.Moments.{IsAt, IsIn, IsNamed, IsOf, WasDropped}
use Rattle.sv_replies.specs.SnapLaw.{IsOver}

-- the files of the last Version reach this write
abbrev pub LastReaches : Books → ℕ → Top → Type 0
LastReaches books upto t = upto ≤ reach_of (files_of books.versions t.last)

pub record KnowsFamily (books : Books) (family : ℕ) (x : FamilyKnown) : Type 0 where
  pub seen : x.seen ≤ length (of_family family books.journal)
  pub serial : (x.serial ≡ 0) ⊎ IsIn (IsOf family) books.supers x.serial
  pub flushed : x.flushed ≤ x.reached
  pub reached : (x.reached ≡ 0) ⊎ IsAt (LastReaches books x.reached) books.tops family
  pub dropped : x.dropped ≡ true → WasDropped books family

pub record Knows (books : Books) (k : Known) : Type 0 where
  pub families : (f : ℕ) → KnowsFamily books f (k.families f)
  pub handles : (name : List ℕ) (f : ℕ) → k.handles name ≡ Some f → IsNamed books f name
  pub named : (name : List ℕ) (f : ℕ) → k.named name f ≡ true → IsNamed books f name
  pub created : k.created < length books.families
  pub file : k.file < books.files.next
  pub pins : (n : ℕ) (p : Pinned) → k.pins n ≡ Some p → IsIn (IsOf p.family) books.supers p.serial
  pub snapshots : (n : ℕ) → k.snapshots n ≡ true → (x : Snapshot) × (entry books.snapshots n ≡ Some x)
  pub ended : (n : ℕ) → k.ended n ≡ true → IsIn IsOver books.snapshots n

-- What the lane alone changes is just what it was told.
pub record OwnAre (lane : ℕ) (books : Books) (k : Known) : Type 0 where
  pub handles : (name : List ℕ) (f : ℕ) → (k.handles name ≡ Some f) ↔ IsAt (IsOwn lane name) books.families f
  pub holds : slice_get books.files.holds lane ≡ Some k.holds
  pub writes : length (by_lane lane books.journal) ≡ k.accepted

-- Where no other lane is: each snapshot is the lane's own, and only its holds stand.
pub record AllAreOwn (books : Books) (k : Known) : Type 0 where
  pub taken : (n : ℕ) (x : Snapshot) → entry books.snapshots n ≡ Some x → k.snapshots n ≡ true
  pub over : (n : ℕ) → IsIn IsOver books.snapshots n → k.ended n ≡ true
  pub holds : sum books.files.holds ≡ k.holds
