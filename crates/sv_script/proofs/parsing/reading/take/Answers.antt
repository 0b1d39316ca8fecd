use Rattle.std.proofs.Common.{◌≡◌, length, sym, refl, rules}
use Rattle.sv_script.proofs.ProgressLemmas.{finish-skipped, finish-phase_end, finish-command, stops}
use Rattle.sv_script.proofs.parsing.reading.take.Goals as goal

pub returns-then-is_skipped-clause-goes_on : goal.returns-then-is_skipped-clause-goes_on
returns-then-is_skipped-clause-goes_on c =
    let read = c.args.read.now in
    record {
      next = refl;
      same = λ rest. finish-skipped read.number read.phase read.lines _ rest (sym c.if-is_skipped.ensures);
    }

pub returns-then-is_phase_end-clause-goes_on : goal.returns-then-is_phase_end-clause-goes_on
returns-then-is_phase_end-clause-goes_on c =
    let read = c.args.read.now in
    record {
      next = refl;
      same = λ rest. finish-phase_end read.number read.phase read.lines _ rest
          (sym c.if-is_skipped.ensures) (sym c.if-is_phase_end.ensures);
    }

pub returns-in-Err-clause-stops : goal.returns-in-Err-clause-stops
returns-in-Err-clause-stops c =
    let read = c.args.read.now in
    let before : length read.lines ≡ length c.as_slice.result.now = search rules in
    rw c.at_line.ensures
    (stops read _ c.in-Err.error (sym c.if-is_skipped.ensures) (sym c.if-is_phase_end.ensures)
    (rw before c.in-Err.ensures))

pub returns-clause-goes_on : goal.returns-clause-goes_on
returns-clause-goes_on c =
    let read = c.args.read.now in
    let before : length read.lines ≡ length c.as_slice.result.now = search rules in
    let x = c.in-Ok.lane_and_command in
    record {
      next = refl;
      same = λ rest. rw c.in_ok-push.ensures.ok
          (finish-command read.number read.phase read.lines _ rest
          (sym c.if-is_skipped.ensures) (sym c.if-is_phase_end.ensures) x.0 x.1 (rw before c.in-Ok.ensures));
    }
