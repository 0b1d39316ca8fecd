-- What was read is a front of what the source had.
use Rattle.std.proofs.Common.{◌≤◌, ◌<◌, ◌-◌, vec_len}
use Rattle.std.specs.Io.KnownBytes.{Consumes}
use Rattle.sv_run.proofs.transfers.read_all.Given as goal

abbrev pub invariant-loop-buffer : goal.invariant-loop-buffer
invariant-loop-buffer g l = record {
  room : 0 < vec_len l.buffer;
  few : vec_len l.bytes ≤ 16777217;
  later : g.S.Source.faults l.initial.source ≤ g.S.Source.faults l.source;
  took : Consumes (g.S.Source.left l.initial.source) (g.S.Source.left l.source) l.bytes.items;
}

abbrev pub decreases-loop-buffer : goal.decreases-loop-buffer
decreases-loop-buffer g l = 16777217 - vec_len l.bytes
