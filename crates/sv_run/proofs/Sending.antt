-- A text that is written whole or in part ends the run.
use Rattle.std.proofs.Common.{◌≡◌, ℕ, List, Option, Some, None, arith, inl, refl}
use Rattle.sv_model.specs.declared.End.{End}
use Rattle.sv_model.specs.declared.End.TheVariants as end
use Rattle.sv_run.specs.declared.outcomes.Done.{Done}
use Rattle.sv_run.specs.declared.outcomes.Status.{Status}
use Rattle.sv_run.specs.declared.outcomes.Status.TheVariants as status
use Rattle.sv_run.specs.Ends.{Comes, Follows, Ends, IsDone, IsDueText, IsWhole, IsShort}
use Rattle.sv_run.specs.RunWords.{AreRun}
use Rattle.sv_run.specs.Statuses.{status_at}
use Rattle.sv_run.specs.Handed.{Input, Directory, Output, IsUntouched}

pub ends-whole : (i : Input) (d : Directory) (o : Output) (stands : Option Done) (due : Status) → Follows i d stands due → IsWhole o stands due → Ends i d o stands due
ends-whole i d o stands status.Ok f w = (f, w)
ends-whole i d o stands status.Usage f w = (f, w)
ends-whole i d o stands (status.BadScript bad) f w = (f, w)
ends-whole i d o stands status.ScriptTooLong f w = (f, w)
ends-whole i d o stands status.ReadFault f w = (f, w)
ends-whole i d o None status.WriteFault f w = absurd (f.1)
ends-whole i d o (Some done) status.WriteFault f w = absurd (f.1)
ends-whole i d o stands status.DirFault f w = (f, w)
ends-whole i d o stands status.OutOfMemory f w = (f, w)

-- nothing was asked of the directory, so it has its files
pub short-untouched : (d : Directory) → IsUntouched d → IsShort d
short-untouched d h = record { later = omega (arith, h.calm); kept = h.kept }

-- memory may be wanted for any text
pub follows-memory : (i : Input) (d : Directory) (stands : Option Done) (due : Status) → Follows i d stands due → Follows i d stands status.OutOfMemory
follows-memory i d None status.Ok f = short-untouched d f.1
follows-memory i d None status.Usage f = short-untouched d f.1
follows-memory i d None (status.BadScript bad) f = short-untouched d f.1.1
follows-memory i d None status.ScriptTooLong f = short-untouched d f.1.1
follows-memory i d None status.ReadFault f = short-untouched d f.1.1
follows-memory i d None status.WriteFault f = absurd (f.1)
follows-memory i d None status.DirFault f = record { later = f.1.later; kept = f.1.kept }
follows-memory i d None status.OutOfMemory f = f
follows-memory i d (Some done) status.Ok f = (f.0, f.1.is)
follows-memory i d (Some done) status.Usage f = absurd (f.1)
follows-memory i d (Some done) (status.BadScript bad) f = absurd (f.1)
follows-memory i d (Some done) status.ScriptTooLong f = absurd (f.1)
follows-memory i d (Some done) status.ReadFault f = absurd (f.1)
follows-memory i d (Some done) status.WriteFault f = absurd (f.1)
follows-memory i d (Some done) status.DirFault f = (f.0, f.1.is)
follows-memory i d (Some done) status.OutOfMemory f = f

-- the text for want of memory serves any run that came to its text
pub short_due : (stands : Option Done) (text : List ℕ) → IsDueText None status.OutOfMemory text → IsDueText stands status.OutOfMemory text
short_due None text is = is
short_due (Some done) text is = inl is

-- words that are taken come to their text
pub follows-comes : (i : Input) (d : Directory) (stands : Option Done) (due : Status) → AreRun i.words → Comes i d stands due → Follows i d stands due
follows-comes i d None status.Ok are h = absurd h
follows-comes i d None status.Usage are h = absurd h
follows-comes i d None status.OutOfMemory are h = h
follows-comes i d None due are h = (are, h)
follows-comes i d (Some done) due are h = (are, h)

-- a run that was closed ends as its close did
pub follows-closed : (i : Input) (d : Directory) (done : Done) → AreRun i.words → IsDone i d done → Follows i d (Some done) (status_at done.end)
follows-closed i d done are h = at done.end refl
  where
    at : (ended : End) → done.end ≡ ended → Follows i d (Some done) (status_at ended)
    at end.Clean is = (are, record { close = is; is = h })
    at end.DirFault is = (are, record { close = is; is = h })
    at end.OutOfMemory is = (are, h)
