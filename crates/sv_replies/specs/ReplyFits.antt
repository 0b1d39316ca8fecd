-- When a reply of a lane fits books: it is one that these books, and the lane's earlier replies, allow.
use Rattle.std.specs.Prelude.{◌≡◌, ◌+◌, ◌≤◌, ℕ, List, length, take, slice_get, Option, Some, None, IsSomeAnd}
use Rattle.sv_model.specs.declared.writes.Op.TheVariants as op
use Rattle.sv_model.specs.declared.refusals.Refusal.{Refusal}
use Rattle.sv_model.specs.declared.refusals.Refusal.TheVariants as refusal
use Rattle.sv_model.specs.Books.{Books}
use Rattle.sv_script.specs.Answered.{Answered}
use Rattle.sv_script.specs.declared.commands.Command.{Command}
use Rattle.sv_script.specs.declared.commands.Command.TheVariants as command
use Rattle.sv_script.specs.declared.replies.Reply.{Reply}
use Rattle.sv_script.specs.declared.replies.Reply.TheVariants as reply
use Rattle.sv_replies.specs.Known.{Known, known_after}
use Rattle.sv_replies.specs.Settings.{Setting}
use Rattle.sv_replies.specs.Due.{Cause, ComesOf, due}
use Rattle.sv_replies.specs.PutLaw.{Writes, WriteMet}
use Rattle.sv_replies.specs.GetLaw.{Gets, ReadMet}
use Rattle.sv_replies.specs.GetpLaw.{GetsPinned}
use Rattle.sv_replies.specs.GetsLaw.{GetsAt, GetsMet}
use Rattle.sv_replies.specs.FlushLaw.{Flushes, FlushMet}
use Rattle.sv_replies.specs.CompactLaw.{Compacts, CompactMet}
use Rattle.sv_replies.specs.CreateLaw.{Creates, CreateMet}
use Rattle.sv_replies.specs.OpenLaw.{Opens, OpenMet}
use Rattle.sv_replies.specs.DropLaw.{Drops, DropMet}
use Rattle.sv_replies.specs.SetLaw.{Sets, SetMet}
use Rattle.sv_replies.specs.PinLaw.{Pins}
use Rattle.sv_replies.specs.LiveLaw.{Lives}
use Rattle.sv_replies.specs.PurgeLaw.{Purges, PurgeMet, ScanMet}
use Rattle.sv_replies.specs.SnapLaw.{Snaps, SnapMet, Unsnaps, UnsnapMet}

-- ---- answers

-- What an answer that is no refusal says of the books. Where no refusal is due, the lane has the handle, the pin or the
-- hold that the command asks for.
abbrev pub Shows : Setting → Books → Known → Command → Reply → Type 0
Shows s books k (command.Put name key value) (reply.Put n) =
    IsSomeAnd (k.handles name) (Writes s books k key (op.Put value) n)
Shows s books k (command.Delete name key) (reply.Delete n) =
    IsSomeAnd (k.handles name) (Writes s books k key op.Delete n)
Shows s books k (command.Get name key) (reply.Found value cut sv) =
    IsSomeAnd (k.handles name) (Gets s books k key (Some value) cut sv)
Shows s books k (command.Get name key) (reply.Absent cut sv) =
    IsSomeAnd (k.handles name) (Gets s books k key None cut sv)
Shows s books k (command.Getp pin key) (reply.Found value cut sv) =
    IsSomeAnd (k.pins pin) (GetsPinned s books k key (Some value) cut sv)
Shows s books k (command.Getp pin key) (reply.Absent cut sv) =
    IsSomeAnd (k.pins pin) (GetsPinned s books k key None cut sv)
Shows s books k (command.Gets snapshot name key) (reply.Found value cut sv) =
    IsSomeAnd (k.handles name) (GetsAt s books k snapshot key (Some value) cut sv)
Shows s books k (command.Gets snapshot name key) (reply.Absent cut sv) =
    IsSomeAnd (k.handles name) (GetsAt s books k snapshot key None cut sv)
Shows s books k (command.Flush name) (reply.Flush number from to) =
    IsSomeAnd (k.handles name) (Flushes books k number from to)
Shows s books k (command.Compact name) (reply.Compact number from to) =
    IsSomeAnd (k.handles name) (Compacts books k number from to)
Shows s books k (command.Create name) (reply.Create id) = Creates books k name id
Shows s books k (command.Open name) (reply.Open id) = Opens books name id
Shows s books k (command.Release name) reply.Release = Unit {0}
Shows s books k (command.Drop name) reply.Drop = IsSomeAnd (k.handles name) (Drops books)
Shows s books k (command.Set name option value) (reply.Set sv) =
    IsSomeAnd (k.handles name) (Sets books k option value sv)
Shows s books k (command.Pin name) (reply.Pin pin sv) = IsSomeAnd (k.handles name) (Pins books k pin sv)
Shows s books k (command.Unpin pin) reply.Unpin = Unit {0}
Shows s books k command.Hold (reply.Hold count) = count ≡ k.holds + 1
Shows s books k command.Unhold (reply.Unhold count) = count + 1 ≡ k.holds
Shows s books k command.Live (reply.Live numbers) = Lives books k numbers
Shows s books k command.Purge (reply.Purge numbers) = Purges books numbers
Shows s books k command.Scan (reply.Scan numbers) = Purges books numbers
Shows s books k command.Rest (reply.Rest count) = count ≤ length k.touched
Shows s books k command.Snap (reply.Snap snapshot at) = Snaps s books k snapshot at
Shows s books k (command.Unsnap snapshot) reply.Unsnap = Unsnaps s books k snapshot
Shows s books k command reply = ⊥

-- ---- refusals

-- The refusal that a command met in the books of its moment, as later books show it.
abbrev pub Met : Setting → Books → Known → Command → Refusal → Type 0
Met s books k (command.Put name key value) e = IsSomeAnd (k.handles name) (WriteMet books k e)
Met s books k (command.Delete name key) e = IsSomeAnd (k.handles name) (WriteMet books k e)
Met s books k (command.Get name key) e = IsSomeAnd (k.handles name) (ReadMet s books e)
Met s books k (command.Getp pin key) e = IsSomeAnd (k.pins pin) (λ p. ReadMet s books e p.family)
Met s books k (command.Gets snapshot name key) e = IsSomeAnd (k.handles name) (GetsMet s books k snapshot e)
Met s books k (command.Flush name) e = IsSomeAnd (k.handles name) (FlushMet s books k e)
Met s books k (command.Compact name) e = IsSomeAnd (k.handles name) (CompactMet s books k e)
Met s books k (command.Create name) e = CreateMet books k name e
Met s books k (command.Open name) e = OpenMet books k name e
Met s books k (command.Drop name) e = IsSomeAnd (k.handles name) (DropMet books e)
Met s books k (command.Set name option value) e = IsSomeAnd (k.handles name) (SetMet books e)
Met s books k command.Purge e = PurgeMet s books k e
Met s books k command.Scan e = ScanMet s books k e
Met s books k command.Snap e = SnapMet books e
Met s books k (command.Unsnap snapshot) e = UnsnapMet s books k snapshot e
Met s books k command e = ⊥

-- Where a refusal is due, that one comes; else one that the books of the moment gave.
abbrev pub Refused : Setting → Books → Known → Command → Refusal → Option Cause → Type 0
Refused s books k command e (Some cause) = ComesOf s books k cause e
Refused s books k command e None = Met s books k command e

-- Out of memory may stand in place of any answer, but for the commands that take none.
abbrev pub MayRunOut : Command → Type 0
MayRunOut (command.Unpin pin) = ⊥
MayRunOut command.Hold = ⊥
MayRunOut command.Unhold = ⊥
MayRunOut command.Rest = ⊥
MayRunOut (command.Unsnap snapshot) = ⊥
MayRunOut command = Unit {0}

-- A command is refused as is due, or as the books of its moment had it, and else answered as the books say.
abbrev pub ReplyFits : Setting → Books → Known → Command → Reply → Type 0
ReplyFits s books k command (reply.Refused refusal.OutOfMemory) = MayRunOut command
ReplyFits s books k command (reply.Refused e) = Refused s books k command e (due k command)
ReplyFits s books k command reply = (due k command ≡ None) × Shows s books k command reply

-- Each reply of the lane fits the books, after the replies before it.
abbrev pub RepliesFit : Setting → Books → List Answered → Type 0
RepliesFit s books all = (n : ℕ) (a : Answered) → slice_get all n ≡ Some a
    → ReplyFits s books (known_after (take n all)) a.command a.reply
