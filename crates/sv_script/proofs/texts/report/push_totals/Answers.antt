-- The pieces, one after another.
use Rattle.std.proofs.Common.{append_assoc}
use Rattle.sv_script.specs.ReportTexts.{totals_text}
use Rattle.sv_script.proofs.texts.report.push_totals.Goals as goal

pub returns : goal.returns
unfolding totals_text
returns c =
    rw (
      c.in_ok-push_bytes-2.ensures,
      c.in_ok-push_numbered-3.ensures,
      c.in_ok-push_numbered-2.ensures,
      c.in_ok-push_numbered.ensures,
      c.in_ok-push_bytes.ensures,
    )
    (simp append_assoc)
