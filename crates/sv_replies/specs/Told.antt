-- What a lane was told so far.
use Rattle.std.specs.Prelude.{◌≡◌, ℕ, List, map, take}
use Rattle.sv_model.specs.declared.records.FileStatus.TheVariants.{Gone}
use Rattle.sv_model.specs.declared.writes.Write.{Write}
use Rattle.sv_model.specs.Books.{Books}
use Rattle.sv_model.specs.Journal.{by_lane, change_of}
use Rattle.sv_model.specs.Lists.{Distinct, Every, In}
use Rattle.sv_model.specs.Numbers.{IsRegistered}
use Rattle.sv_script.specs.Answered.{Answered}
use Rattle.sv_replies.specs.Answers.{KnowsAll}
use Rattle.sv_replies.specs.GetsSeeAll.{GetsSeeAll}
use Rattle.sv_replies.specs.Known.{known_after}
use Rattle.sv_replies.specs.Knows.{Knows}
use Rattle.sv_replies.specs.LanesFit.{accepted, ended_of, purged_of}
use Rattle.sv_replies.specs.Moments.{IsIn}
use Rattle.sv_replies.specs.ReplyFits.{RepliesFit}
use Rattle.sv_replies.specs.Settings.{Setting}
use Rattle.sv_replies.specs.SnapLaw.{IsOver}

-- Each reply fits the books, and what each front of the replies tells is within them. So it stays in lawful books that
-- come after.
pub record Told (s : Setting) (books : Books) (all : List Answered) : Type 0 where
  pub fits : RepliesFit s books all
  pub knows : (n : ℕ) → Knows books (known_after (take n all))

-- The same in books that only this lane changed since: its own is just what it was told, and the journal has just its
-- accepted writes.
pub record LaneTold (s : Setting) (books : Books) (all : List Answered) : Type 0 where
  pub told : Told s books all
  pub known : KnowsAll s books (known_after all)
  pub journal : map change_of (by_lane s.lane books.journal) ≡ accepted all

-- the numbers are each Gone
abbrev pub AreGone : Books → List ℕ → Type 0
AreGone b numbers = (n : ℕ) → In n numbers → IsRegistered b.files.numbers n Gone

-- the snapshots are each over
abbrev pub AreOver : Books → List ℕ → Type 0
AreOver b snapshots = (n : ℕ) → In n snapshots → IsIn IsOver b.snapshots n

-- The same where no other lane is, of books that began without writes: all writes are the lane's, and each get looked at
-- just those before it. No number was purged twice, and no snapshot ended twice.
pub record AloneTold (s : Setting) (books : Books) (all : List Answered) : Type 0 where
  pub lane : LaneTold s books all
  pub writes : Every (λ (w : Write). w.lane ≡ s.lane) books.journal
  pub sees : GetsSeeAll all
  pub purged_once : Distinct (purged_of all)
  pub purged : AreGone books (purged_of all)
  pub ended_once : Distinct (ended_of all)
  pub ended : AreOver books (ended_of all)
