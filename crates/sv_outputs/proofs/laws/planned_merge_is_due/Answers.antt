-- The files' ranges join, up to where the memtables go on.
use Rattle.sv_outputs.proofs.DueFiles.{merge_due}
use Rattle.sv_outputs.proofs.laws.planned_merge_is_due.Goals as goal

pub returns : goal.returns
returns c = λ b d file law h. merge_due b d file law h
