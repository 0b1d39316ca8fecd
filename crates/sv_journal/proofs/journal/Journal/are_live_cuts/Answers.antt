use Rattle.std.proofs.Common.{arith, sym}
use Rattle.std.proofs.lemmas.Option.{slice_get_within}
use Rattle.sv_journal.specs.Calls.{is_live_cut}
use Rattle.sv_journal.proofs.CutReads.{all-so}
use Rattle.sv_journal.proofs.journal.Journal.are_live_cuts.Goals as goal

pub returns : goal.returns
returns c =
    let j = c.args.self.now in
    sym (all-so (is_live_cut j.writes j.snapshots c.args.family) c.args.cuts.now (λ i x e. c.loop-cut.invariant i x (omega (arith, slice_get_within c.args.cuts.now i x e, c.loop-cut-test.false)) e))
