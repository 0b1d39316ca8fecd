-- The text was written whole, so the run ends as it came to.
use Rattle.sv_run.proofs.Sending.{ends-whole}
use Rattle.sv_run.proofs.top.send.Goals as goal

pub returns-in-Ok-clause-ends : goal.returns-in-Ok-clause-ends
returns-in-Ok-clause-ends g c = λ i d follows.
    ends-whole i d (record { old = g.K.Sink.written c.args.sink.now; new = g.K.Sink.written c.write_all.new.sink; before = g.K.Sink.faults c.args.sink.now; now = g.K.Sink.faults c.write_all.new.sink }) c.args.ended.done c.args.ended.status follows
    (record { text = c.args.text.now; is = c.requires; wrote = c.in-Ok.ensures.sent })
