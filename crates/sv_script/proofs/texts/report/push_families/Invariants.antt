-- What the loop has appended so far.
use Rattle.std.proofs.Common.{◌≡◌, ◌++◌, take, flat_map}
use Rattle.sv_script.specs.ReportTexts.{family_text}
use Rattle.sv_script.proofs.texts.report.push_families.Given as goal

abbrev pub invariant-loop-family : goal.invariant-loop-family
invariant-loop-family l = l.out.items ≡ l.initial.out.items ++ flat_map family_text (take l.family-index l.families)
