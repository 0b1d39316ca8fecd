use Rattle.std.proofs.Common.{◌≡◌, ◌++◌, drop}
use Rattle.sv_model.specs.Summaries.{family_lines}
use Rattle.sv_state.proofs.state.State.family_lines.Given as goal

abbrev pub invariant-loop-index : goal.invariant-loop-index
invariant-loop-index l =
    let b = l.self.books in
    l.lines.items ++ family_lines b.journal b.versions l.index (drop l.index b.families) (drop l.index b.tops)
    ≡ family_lines b.journal b.versions 0 b.families b.tops
