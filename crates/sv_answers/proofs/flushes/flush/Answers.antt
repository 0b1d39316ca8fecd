use Rattle.sv_answers.proofs.ToldFiles.{flush-stop-told, flush-told}
use Rattle.std.proofs.Common.{refl}
use Rattle.std.specs.Prelude.{Ok, Err}
use Rattle.sv_answers.proofs.FlushAnswers.{flush-replies}
use Rattle.sv_answers.proofs.MakesAnswers.{flush-makes, flush-refused}
use Rattle.sv_answers.proofs.flushes.flush.Goals as goal

pub returns-in-Ok-clause-answered : goal.returns-in-Ok-clause-answered
returns-in-Ok-clause-answered g c told k all =
    let x = c.in-Ok.ensures in
    flush-replies told c.args.store.now c.flush.new.self c.laws.ensures.rests x.follows k all c.args.name.now
    (g.D.Dir.files c.args.dir.now) (g.D.Dir.files c.flush.new.dir) (Ok c.in-Ok.file) x.flushed x.refused

pub returns-in-Err-clause-answered : goal.returns-in-Err-clause-answered
returns-in-Err-clause-answered g c told k all =
    let x = c.in-Err.ensures in
    flush-replies told c.args.store.now c.flush.new.self c.laws.ensures.rests x.follows k all c.args.name.now
    (g.D.Dir.files c.args.dir.now) (g.D.Dir.files c.flush.new.dir) (Err c.in-Err.refusal) x.flushed x.refused

pub returns-in-Ok-clause-told : goal.returns-in-Ok-clause-told
returns-in-Ok-clause-told g c =
    flush-told (g.D.Dir.files c.args.dir.now) (g.D.Dir.files c.flush.new.dir) c.args.store.now.books c.flush.new.self.books c.args.name.now c.in-Ok.file c.in-Ok.ensures.flushed

pub returns-in-Err-clause-told : goal.returns-in-Err-clause-told
returns-in-Err-clause-told g c =
    flush-stop-told (g.D.Dir.files c.args.dir.now) (g.D.Dir.files c.flush.new.dir) c.args.store.now c.flush.new.self c.args.name.now c.in-Err.refusal c.in-Err.ensures.refused

pub returns-in-Ok-clause-flushed : goal.returns-in-Ok-clause-flushed
returns-in-Ok-clause-flushed g c =
    record { file = c.in-Ok.file; flushes = c.in-Ok.ensures.flushed; number_is = refl; from_is = refl; to_is = refl }

pub returns-in-Ok-clause-makes : goal.returns-in-Ok-clause-makes
returns-in-Ok-clause-makes g c =
    flush-makes c.args.store.now.books c.flush.new.self.books (g.D.Dir.files c.args.dir.now) (g.D.Dir.files c.flush.new.dir) c.args.name.now c.in-Ok.file c.in-Ok.ensures.flushed

pub returns-in-Err-clause-makes : goal.returns-in-Err-clause-makes
returns-in-Err-clause-makes g c =
    flush-refused c.args.store.now c.flush.new.self (g.D.Dir.files c.args.dir.now) (g.D.Dir.files c.flush.new.dir) c.args.name.now c.in-Err.refusal c.in-Err.ensures.refused
