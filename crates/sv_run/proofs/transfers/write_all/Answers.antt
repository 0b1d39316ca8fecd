-- A piece that follows what was written makes a longer front.
use Rattle.std.proofs.Common.{arith, ◌≤◌, ◌-◌, length, take, drop, subst}
use Rattle.std.specs.Io.KnownBytes.{Appends}
use Rattle.std.proofs.lemmas.List.{length-take, take-take}
use Rattle.sv_run.proofs.Moving.{appends_more}
use Rattle.sv_run.proofs.transfers.write_all.Goals as goal

pub loop-sent-preserved : goal.loop-sent-preserved
loop-sent-preserved g c =
    let text = c.args.text.now in
    let sent = c.loop-sent.sent in
    let n = c.in-Ok.count in
    let rest = drop sent text in
    let bound : n ≤ length (take (length text - sent) rest) = c.in-Ok.ensures.count in
    let few : n ≤ length text - sent = omega (arith, bound, length-take (length text - sent) rest) in
    let piece : Appends (g.K.Sink.written c.loop-sent.sink) (g.K.Sink.written c.write.new.self) (take n (take (length text - sent) rest)) = c.in-Ok.ensures.bytes in
    record {
      within = omega (arith, few);
      later = omega arith;
      front = appends_more (g.K.Sink.written c.args.sink.now) (g.K.Sink.written c.loop-sent.sink) (g.K.Sink.written c.write.new.self) text sent n c.loop-sent.invariant.front (subst (λ z. Appends (g.K.Sink.written c.loop-sent.sink) (g.K.Sink.written c.write.new.self) z) (take-take n (length text - sent) rest few) piece);
    }
