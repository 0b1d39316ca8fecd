use Rattle.std.proofs.Common.{refl}
use Rattle.sv_state_bench.proofs.CallLaws.{taken-grabbed}
use Rattle.sv_state_bench.proofs.closings.remove_ready.Goals as goal

pub ungrab-requires : goal.ungrab-requires
ungrab-requires c = taken-grabbed c.args.number c.args.state.now.books.files c.take.new.self.books.files (c.if-not-take.ensures.taken refl)
