-- What a command does to what a lane knows, whichever command it is.
use Rattle.std.specs.Prelude.{◌≡◌, ◌≤◌, ◌++◌, ℕ, IsSomeAnd, List, Some, length, map, slice_get}
use Rattle.sv_model.specs.declared.records.FileStatus.TheVariants.{Gone}
use Rattle.sv_model.specs.declared.writes.Write.{Write}
use Rattle.sv_model.specs.Books.{Books}
use Rattle.sv_model.specs.Journal.{by_lane, change_of, of_family}
use Rattle.sv_model.specs.Lists.{In}
use Rattle.sv_model.specs.Numbers.{IsRegistered}
use Rattle.sv_script.specs.declared.commands.Command.{Command}
use Rattle.sv_script.specs.declared.commands.Command.TheVariants as command
use Rattle.sv_script.specs.declared.replies.Reply.{Reply}
use Rattle.sv_script.specs.declared.replies.Reply.TheVariants as reply
use Rattle.sv_replies.specs.Known.{Known, learn}
use Rattle.sv_replies.specs.Knows.{AllAreOwn, Knows, OwnAre}
use Rattle.sv_replies.specs.LanesFit.{change_asked}
use Rattle.sv_replies.specs.Moments.{IsIn}
use Rattle.sv_replies.specs.ReplyFits.{ReplyFits}
use Rattle.sv_replies.specs.Settings.{Setting}
use Rattle.sv_replies.specs.SnapLaw.{IsOver}

-- What the lane was told is within the books, and what it alone changes is just that; all is its own where no other
-- lane is.
pub record KnowsAll (s : Setting) (books : Books) (k : Known) : Type 0 where
  pub knows : Knows books k
  pub own : OwnAre s.lane books k
  pub alone : s.lanes ≡ 1 → AllAreOwn books k

-- each write that was added is of the lane
abbrev pub AddsOwn : ℕ → Books → Books → Type 0
AddsOwn lane a b = (n : ℕ) (w : Write) → length a.journal ≤ n → slice_get b.journal n ≡ Some w → w.lane ≡ lane

-- no number of these is Gone
abbrev pub NoneGone : Books → List ℕ → Type 0
NoneGone books numbers = (n : ℕ) → In n numbers → IsRegistered books.files.numbers n Gone → ⊥

-- the read looks at all writes so far of the family that the lane means by the name
abbrev pub SeesEnd : Books → Known → List ℕ → ℕ → Type 0
SeesEnd books k name cut = IsSomeAnd (k.handles name) (λ f. cut ≡ length (of_family f books.journal))

-- What an answered command finds, of which later books tell nothing. A purge or scan takes numbers that were not Gone, and
-- an end of a snapshot one that was not over. Where no other lane is, a get looks at all writes so far.
abbrev pub Finds : Setting → Books → Known → Command → Reply → Type 0
Finds s books k (command.Get name key) (reply.Found value cut sv) = s.lanes ≡ 1 → SeesEnd books k name cut
Finds s books k (command.Get name key) (reply.Absent cut sv) = s.lanes ≡ 1 → SeesEnd books k name cut
Finds s books k command.Purge (reply.Purge numbers) = NoneGone books numbers
Finds s books k command.Scan (reply.Scan numbers) = NoneGone books numbers
Finds s books k (command.Unsnap snapshot) reply.Unsnap = IsIn IsOver books.snapshots snapshot → ⊥
Finds s books k command reply = Unit {0}

-- The reply fits the books that the command leaves, the lane knows them, and the journal has the write that was
-- asked for, and no other.
pub record Answers (s : Setting) (a b : Books) (k : Known) (c : Command) (r : Reply) : Type 0 where
  pub fits : ReplyFits s b k c r
  pub still : KnowsAll s b (learn k c r)
  pub asked : map change_of (by_lane s.lane b.journal) ≡ map change_of (by_lane s.lane a.journal) ++ change_asked k c r
  pub own : AddsOwn s.lane a b
  pub finds : Finds s a k c r
