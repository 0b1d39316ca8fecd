-- What each command does to the store, as its reply tells it: the whole change, and nothing else.
use Rattle.std.specs.Prelude.{◌≡◌, ℕ, List, Ok, Option, IsSomeAnd, slice_get}
use Rattle.sv_model.specs.declared.records.FileMeta.{FileMeta}
use Rattle.sv_model.specs.declared.writes.Op.TheVariants as op
use Rattle.sv_model.specs.Families.{IsOwn}
use Rattle.sv_model.specs.Files.{Files}
use Rattle.sv_laws.specs.Families.{IsDropped, IsOpened}
use Rattle.sv_laws.specs.NewCurrents.{IsFamilyMade}
use Rattle.sv_laws.specs.Snapping.{IsSnapped}
use Rattle.sv_family.specs.Calls.{new_family}
use Rattle.sv_files.specs.Calls.{with_hold}
use Rattle.sv_state.specs.Taken.{IsEnded}
use Rattle.sv_store.specs.Compacting.{CompactRefused, Compacts}
use Rattle.sv_store.specs.Releasing.{Releases}
use Rattle.sv_store.specs.Removals.{DirSeen}
use Rattle.sv_store.specs.Seen.{StoreSeen}
use Rattle.sv_store.specs.Setting.{Sets}
use Rattle.sv_store.specs.Writing.{StopsAs, Writes}
use Rattle.sv_script.specs.declared.commands.Command.{Command}
use Rattle.sv_script.specs.declared.commands.Command.TheVariants as command
use Rattle.sv_script.specs.declared.replies.Reply.{Reply}
use Rattle.sv_script.specs.declared.replies.Reply.TheVariants as reply
use Rattle.sv_answers.specs.Answered.{TellsFlush, TellsPurge, TellsScan}

-- ---- in memory

-- the family that the lane means by the name was dropped
pub record Drops (a b : StoreSeen) (name : List ℕ) : Type 0 where
  pub family : ℕ
  pub dropped : IsDropped a.books b.books family 0
  pub own : IsSomeAnd (slice_get a.books.families family) (IsOwn 0 name)

-- the lane has so many holds, and nothing else changed
abbrev pub HoldsSo : StoreSeen → StoreSeen → ℕ → Type 0
HoldsSo a b count = b ≡ record a { books = record a.books { files = with_hold a.books.files 0 count } }

-- A command that asks nothing of the directory. A refused one leaves the store, but for a switch where a write was out of
-- memory.
abbrev pub StepsAlone : StoreSeen → StoreSeen → Command → Reply → Type 0
StepsAlone a b (command.Put name key value) (reply.Put n) = Writes a b name (record { key = key; op = op.Put value }) (Ok n)
StepsAlone a b (command.Put name key value) (reply.Refused e) = StopsAs a b name e
StepsAlone a b (command.Delete name key) (reply.Delete n) = Writes a b name (record { key = key; op = op.Delete }) (Ok n)
StepsAlone a b (command.Delete name key) (reply.Refused e) = StopsAs a b name e
StepsAlone a b (command.Create name) (reply.Create id) = IsFamilyMade a.books b.books (new_family 0 name)
StepsAlone a b (command.Open name) (reply.Open id) = IsOpened a.books b.books id 0
StepsAlone a b (command.Release name) reply.Release = Releases a.books b.books name
StepsAlone a b (command.Drop name) reply.Drop = Drops a b name
StepsAlone a b (command.Set name option value) (reply.Set sv) = Sets a.books b.books name option value sv
StepsAlone a b command.Hold (reply.Hold count) = HoldsSo a b count
StepsAlone a b command.Unhold (reply.Unhold count) = HoldsSo a b count
StepsAlone a b command.Live r = b ≡ a
StepsAlone a b command.Snap (reply.Snap snapshot at) = IsSnapped a.books b.books
StepsAlone a b (command.Unsnap snapshot) reply.Unsnap = IsEnded a.books snapshot b.books
StepsAlone a b command (reply.Refused e) = b ≡ a
StepsAlone a b command r = ⊥

-- ---- with the directory

-- The family that the lane means by the name was compacted, to a file of this number and range.
pub record CompactsTo (a b : StoreSeen) (before after : Option Files) (name : List ℕ) (number from to : ℕ) : Type 0 where
  pub file : FileMeta
  pub compacts : Compacts a.books b.books before after name file
  pub number_is : number ≡ file.number
  pub from_is : from ≡ file.from
  pub to_is : to ≡ file.to

-- what a compaction did, as its reply tells it
abbrev pub TellsCompact : StoreSeen → StoreSeen → Option Files → Option Files → List ℕ → Reply → Type 0
TellsCompact a b before after name (reply.Compact number from to) = CompactsTo a b before after name number from to
TellsCompact a b before after name (reply.Refused e) = CompactRefused a b before after name e
TellsCompact a b before after name r = ⊥

-- nothing but file numbers, holds and jobs changed
abbrev pub KeepsRest : StoreSeen → StoreSeen → Type 0
KeepsRest a b = b ≡ record a { books = record a.books { files = b.books.files } }

-- a command, with what the directory had before it and has after it
abbrev pub Steps : StoreSeen → StoreSeen → DirSeen → Command → Reply → Type 0
Steps a b d (command.Get name key) r = b ≡ a
Steps a b d (command.Gets snapshot name key) r = b ≡ a
Steps a b d (command.Flush name) r = TellsFlush a b d.files d.later name r
Steps a b d (command.Compact name) r = TellsCompact a b d.files d.later name r
Steps a b d command.Purge r = KeepsRest a b × TellsPurge a.books.files b.books.files d r
Steps a b d command.Scan r = KeepsRest a b × TellsScan a.books.files b.books.files d r
Steps a b d command r = StepsAlone a b command r
