-- The line that was answered last.
use Rattle.std.proofs.Common.{◌+◌, List, ℕ, ap, arith, length, subst, sym}
use Rattle.std.specs.Prelude.{take}
use Rattle.sv_script.specs.declared.replies.Reply.{Reply}
use Rattle.sv_lane.specs.Played.{Moment, Played}
use Rattle.sv_lane.proofs.PlayedLines.{played-more, played-none}
use Rattle.sv_lane.proofs.playing.play.Goals as goal

pub loop-line-init : goal.loop-line-init
loop-line-init g c =
    let s : Moment = record { books = c.args.store.now.books; files = g.D.Dir.files c.args.dir.now; faults = g.D.Dir.faults c.args.dir.now } in
    record {
      room = c.requires.room;
      count = omega (arith, ap length c.requires.no_replies);
      played = subst (λ (z : List (ℕ × Reply)). Played s s (take 0 c.args.lines.now) z) (sym c.requires.no_replies)
          (played-none s c.args.lines.now c.requires.told c.requires.held c.laws.ensures.rests.stands.sound);
    }

pub loop-line-preserved : goal.loop-line-preserved
loop-line-preserved g c =
    let start : Moment = record { books = c.args.store.now.books; files = g.D.Dir.files c.args.dir.now; faults = g.D.Dir.faults c.args.dir.now } in
    let old : Moment = record { books = c.loop-line.store.books; files = g.D.Dir.files c.loop-line.dir; faults = g.D.Dir.faults c.loop-line.dir } in
    let new : Moment = record { books = c.answer-reply.new.store.books; files = g.D.Dir.files c.answer-reply.new.dir; faults = g.D.Dir.faults c.answer-reply.new.dir } in
    let e = c.answer-reply.ensures in
    record {
      room = omega (arith, c.push_reserved.ensures.capacity, c.loop-line.invariant.room);
      count = omega (arith, c.push_reserved.ensures.len);
      played = subst (λ (z : List (ℕ × Reply)). Played start new (take (c.loop-line.line-index + 1) c.args.lines.now) z) (sym c.push_reserved.ensures.items)
          (played-more start old new c.args.lines.now c.loop-line.replies.items c.loop-line.line-index c.line-item.result c.answer-reply.result (omega arith) (omega arith) c.line-item.is c.loop-line.invariant.played
          (record { answered = e.answered; faults = e.faults; held = e.held; told = e.told; others = e.others; follows = e.follows; makes = e.makes }));
    }
