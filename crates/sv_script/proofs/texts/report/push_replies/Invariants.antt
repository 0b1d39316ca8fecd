-- What the loop has appended so far.
use Rattle.std.proofs.Common.{◌≡◌, ◌++◌, take, flat_map}
use Rattle.sv_script.specs.ReplyTexts.{reply_text}
use Rattle.sv_script.proofs.texts.report.push_replies.Given as goal

abbrev pub invariant-loop-line : goal.invariant-loop-line
invariant-loop-line l =
    l.out.items ≡ l.initial.out.items ++ flat_map (λ r. reply_text r.0 r.1) (take l.line-index l.replies)
