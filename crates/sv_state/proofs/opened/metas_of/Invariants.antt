use Rattle.std.proofs.Common.{◌≡◌, take}
use Rattle.sv_state.specs.Openings.{opening_files}
use Rattle.sv_state.proofs.opened.metas_of.Given as goal

abbrev pub invariant-loop-family : goal.invariant-loop-family
invariant-loop-family l = l.metas.items ≡ opening_files (take l.family-index l.kept)
