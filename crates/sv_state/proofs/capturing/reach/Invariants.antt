use Rattle.std.proofs.Common.{◌≡◌, drop}
use Rattle.sv_model.specs.Ranges.{reach_from, reach_of}
use Rattle.sv_state.proofs.capturing.reach.Given as goal

abbrev pub invariant-loop-file : goal.invariant-loop-file
invariant-loop-file l = reach_from l.reach (drop l.file-index l.files) ≡ reach_of l.files
