use Rattle.sv_state_bench.proofs.KeptFamilies.{kept-stands}
use Rattle.sv_state_bench.proofs.bench.Bench.last.Goals as goal

pub last_files-file-items-requires : goal.last_files-file-items-requires
last_files-file-items-requires c =
    let i = c.self.inside in
    kept-stands i.state.books i.actives.items i.outputs.items i.waiting.items c.self.invariant c.args.family _ c.kept.result c.in-Some.field-0 c.kept.ensures c.in-Some.is
