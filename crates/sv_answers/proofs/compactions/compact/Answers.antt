use Rattle.std.proofs.Common.{refl}
use Rattle.sv_answers.proofs.ToldFiles.{compact-stop-told, compact-told}
use Rattle.std.specs.Prelude.{Ok, Err}
use Rattle.sv_answers.proofs.CompactAnswers.{compact-replies}
use Rattle.sv_answers.proofs.MakesAnswers.{compact-makes, compact-refused}
use Rattle.sv_answers.proofs.compactions.compact.Goals as goal

pub returns-in-Ok-clause-answered : goal.returns-in-Ok-clause-answered
returns-in-Ok-clause-answered g c held k all =
    let x = c.in-Ok.ensures in
    let rests = c.laws.ensures.rests in
    compact-replies (g.D.Dir.files c.args.dir.now) (g.D.Dir.files c.compact.new.dir) c.args.store.now c.compact.new.self x.follows rests.stands.sound rests.still held k all c.args.name.now
    (Ok c.in-Ok.file) x.compacted x.refused

pub returns-in-Err-clause-answered : goal.returns-in-Err-clause-answered
returns-in-Err-clause-answered g c held k all =
    let x = c.in-Err.ensures in
    let rests = c.laws.ensures.rests in
    compact-replies (g.D.Dir.files c.args.dir.now) (g.D.Dir.files c.compact.new.dir) c.args.store.now c.compact.new.self x.follows rests.stands.sound rests.still held k all c.args.name.now
    (Err c.in-Err.refusal) x.compacted x.refused

pub returns-in-Ok-clause-told : goal.returns-in-Ok-clause-told
returns-in-Ok-clause-told g c =
    compact-told (g.D.Dir.files c.args.dir.now) (g.D.Dir.files c.compact.new.dir) c.args.store.now.books c.compact.new.self.books c.args.name.now c.in-Ok.file c.in-Ok.ensures.compacted

pub returns-in-Err-clause-told : goal.returns-in-Err-clause-told
returns-in-Err-clause-told g c =
    compact-stop-told (g.D.Dir.files c.args.dir.now) (g.D.Dir.files c.compact.new.dir) c.args.store.now c.compact.new.self c.args.name.now c.in-Err.refusal c.in-Err.ensures.refused

pub returns-in-Ok-clause-makes : goal.returns-in-Ok-clause-makes
returns-in-Ok-clause-makes g c =
    compact-makes c.args.store.now.books c.compact.new.self.books (g.D.Dir.files c.args.dir.now) (g.D.Dir.files c.compact.new.dir) c.args.name.now c.in-Ok.file c.in-Ok.ensures.compacted

pub returns-in-Err-clause-makes : goal.returns-in-Err-clause-makes
returns-in-Err-clause-makes g c =
    compact-refused c.args.store.now c.compact.new.self (g.D.Dir.files c.args.dir.now) (g.D.Dir.files c.compact.new.dir) c.args.name.now c.in-Err.refusal c.in-Err.ensures.refused

pub returns-in-Ok-clause-compacted : goal.returns-in-Ok-clause-compacted
returns-in-Ok-clause-compacted g c =
    record { file = c.in-Ok.file; compacts = c.in-Ok.ensures.compacted; number_is = refl; from_is = refl; to_is = refl }
