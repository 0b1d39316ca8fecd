-- The exit status of the program.
use Rattle.std.specs.Prelude.{ℕ}
use Rattle.sv_run.specs.declared.outcomes.Status.{Status}
use Rattle.sv_run.specs.declared.outcomes.Status.TheVariants as status

abbrev pub exit_code_of : Status → ℕ
exit_code_of status.Ok = 0
exit_code_of status.Usage = 2
exit_code_of (status.BadScript bad) = 3
exit_code_of status.ScriptTooLong = 4
exit_code_of status.ReadFault = 5
exit_code_of status.WriteFault = 6
exit_code_of status.DirFault = 7
exit_code_of status.OutOfMemory = 8
