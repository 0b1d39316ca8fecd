-- What the loop has appended so far.
use Rattle.std.proofs.Common.{◌≡◌, ◌++◌, take, flat_map}
use Rattle.sv_script.specs.ReportTexts.{lane_text}
use Rattle.sv_script.proofs.texts.report.push_lanes.Given as goal

abbrev pub invariant-loop-lane : goal.invariant-loop-lane
invariant-loop-lane l = l.out.items ≡ l.initial.out.items ++ flat_map lane_text (take l.lane-index l.lanes)
