-- The pieces, one after another.
use Rattle.std.proofs.Common.{append_assoc}
use Rattle.sv_script.specs.ReportTexts.{strays_text}
use Rattle.sv_script.proofs.texts.report.push_strays.Goals as goal

pub returns : goal.returns
unfolding strays_text
returns c =
    rw (c.in_ok-push_bytes.ensures, c.in_ok-push_numbered-2.ensures, c.in_ok-push_numbered.ensures)
    (simp append_assoc)
