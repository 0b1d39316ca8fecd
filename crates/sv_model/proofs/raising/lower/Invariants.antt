use Rattle.std.proofs.Common.{◌≤◌, length}
use Rattle.sv_model.specs.Counts.{count_of}
use Rattle.sv_model.proofs.CountLoops.{Lowering}
use Rattle.sv_model.proofs.raising.lower.Given as goal

abbrev pub invariant-loop-at : goal.invariant-loop-at
invariant-loop-at g l = record {
  lowering : Lowering (count_of l.initial.counts) (count_of l.counts) (g.T.Holder.numbers l.holder) l.at (g.T.Holder.handed l.freed);
  enough : length (g.T.Holder.numbers l.holder) ≤ g.T.Holder.room l.freed;
}
