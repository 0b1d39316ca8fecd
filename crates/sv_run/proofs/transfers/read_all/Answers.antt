-- What was taken before, and at most the room of the buffer.
use Rattle.std.proofs.Common.{arith, vec_len}
use Rattle.sv_run.proofs.Moving.{takes-more}
use Rattle.sv_run.proofs.transfers.read_all.Goals as goal

pub returns-in_err-count-clause-took : goal.returns-in_err-count-clause-took
returns-in_err-count-clause-took g c =
    takes-more (vec_len c.loop-buffer.bytes) (vec_len c.truncate.new.self) 16777217 (g.S.Source.left c.args.source.now) (g.S.Source.left c.loop-buffer.source) (g.S.Source.left c.read_piece.new.source) c.loop-buffer.bytes.items (omega arith) (omega (arith, c.truncate.ensures.len)) c.loop-buffer.invariant.took c.read_piece.ensures.took

pub returns-then-count-eq0-clause-took : goal.returns-then-count-eq0-clause-took
returns-then-count-eq0-clause-took g c =
    takes-more (vec_len c.loop-buffer.bytes) (vec_len c.truncate.new.self) 16777217 (g.S.Source.left c.args.source.now) (g.S.Source.left c.loop-buffer.source) (g.S.Source.left c.read_piece.new.source) c.loop-buffer.bytes.items (omega arith) (omega (arith, c.truncate.ensures.len)) c.loop-buffer.invariant.took c.read_piece.ensures.took
