-- What the one lane is answered.
use Rattle.std.specs.Prelude.{◌≡◌, ◌≤◌, ℕ, Bool, List, Option}
use Rattle.sv_model.specs.declared.records.FileMeta.{FileMeta}
use Rattle.sv_model.specs.Books.{Books, FileRegister}
use Rattle.sv_model.specs.Faults.{RoseBy}
use Rattle.sv_model.specs.Files.{Files}
use Rattle.sv_store.specs.Flushing.{FlushRefused, Flushes}
pub use Rattle.sv_store.specs.HeldFiles.{IsHeld, KeepsHeld, KeepsOthers, LeavesOthers}
use Rattle.sv_store.specs.Purging.{PurgeStops, Purges}
use Rattle.sv_store.specs.Removals.{DirSeen}
use Rattle.sv_store.specs.Scanning.{ScanStops, Scans}
use Rattle.sv_store.specs.Seen.{StoreSeen}
use Rattle.sv_script.specs.Answered.{fault_by}
use Rattle.sv_script.specs.declared.commands.Command.{Command}
use Rattle.sv_script.specs.declared.replies.Reply.{Reply}
use Rattle.sv_script.specs.declared.replies.Reply.TheVariants as reply
use Rattle.sv_replies.specs.Answers.{Answers, KnowsAll}
use Rattle.sv_replies.specs.Known.{Known}
use Rattle.sv_replies.specs.Settings.{Setting}

-- lane 0, where no other lane is
abbrev pub alone : Bool → Setting
alone told = record { lane = 0; lanes = 1; told = told }

-- Whatever the lane was told before, the reply fits the books that the command leaves, of which the lane then knows what
-- it was told; and the journal has just the write that was asked for.
abbrev pub IsAnswered : Bool → Books → Books → Command → Reply → Type 0
IsAnswered told a b command reply = (k : Known) → KnowsAll (alone told) a k → Answers (alone told) a b k command reply

-- The directory's count of its failures never falls, and rose where the reply says that it failed.
pub record CountsReply (reply : Reply) (before now : ℕ) : Type 0 where
  pub later : before ≤ now
  pub rose : RoseBy (fault_by reply) before now

-- the reply tells no failure of the directory
abbrev pub TellsNoFault : Reply → Type 0
TellsNoFault reply = fault_by reply ≡ 0

-- The family that the lane means by the name was flushed, to a file of this number and range.
pub record FlushesTo (a b : Books) (before after : Option Files) (name : List ℕ) (number from to : ℕ) : Type 0 where
  pub file : FileMeta
  pub flushes : Flushes a b before after name file
  pub number_is : number ≡ file.number
  pub from_is : from ≡ file.from
  pub to_is : to ≡ file.to

-- what a flush did, as its reply tells it
abbrev pub TellsFlush : StoreSeen → StoreSeen → Option Files → Option Files → List ℕ → Reply → Type 0
TellsFlush a b before after name (reply.Flush number from to) = FlushesTo a.books b.books before after name number from to
TellsFlush a b before after name (reply.Refused e) = FlushRefused a b before after name e
TellsFlush a b before after name r = ⊥

-- what a purge did to the file register and the directory, as its reply tells it
abbrev pub TellsPurge : FileRegister → FileRegister → DirSeen → Reply → Type 0
TellsPurge old new d (reply.Purge numbers) = Purges old new d numbers
TellsPurge old new d (reply.Refused e) = PurgeStops old new d e
TellsPurge old new d r = ⊥

-- the same of a scan
abbrev pub TellsScan : FileRegister → FileRegister → DirSeen → Reply → Type 0
TellsScan old new d (reply.Scan numbers) = Scans old new d numbers
TellsScan old new d (reply.Refused e) = ScanStops old new d e
TellsScan old new d r = ⊥
