-- The list's memtables bear the writes from where the files end.
use Rattle.sv_outputs.proofs.DueFiles.{flush_due, flush_own}
use Rattle.sv_outputs.proofs.laws.planned_flush_is_due.Goals as goal

pub returns-clause-due : goal.returns-clause-due
returns-clause-due c = λ b d file law h. flush_due b d file law h

pub returns-clause-own : goal.returns-clause-own
returns-clause-own c = λ b d file law h. flush_own b d file law h
