-- The status that follows from how a part of a run ended.
use Rattle.sv_model.specs.declared.End.{End}
use Rattle.sv_model.specs.declared.End.TheVariants as end
use Rattle.sv_dir.specs.declared.DirError.{DirError}
use Rattle.sv_dir.specs.declared.DirError.TheVariants as failure
use Rattle.sv_run.specs.declared.outcomes.Status.{Status}
use Rattle.sv_run.specs.declared.outcomes.Status.TheVariants as status

-- after a close that ended so
abbrev pub status_at : End → Status
status_at end.Clean = status.Ok
status_at end.DirFault = status.DirFault
status_at end.OutOfMemory = status.OutOfMemory

-- after an opening that failed so
abbrev pub status_of_failure : DirError → Status
status_of_failure failure.Failed = status.DirFault
status_of_failure failure.OutOfMemory = status.OutOfMemory
