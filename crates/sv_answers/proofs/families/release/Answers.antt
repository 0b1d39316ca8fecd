use Rattle.std.proofs.Common.{refl}
use Rattle.std.specs.Prelude.{Ok, Err}
use Rattle.sv_answers.proofs.HeldAnswers.{release-held, release-others, same-held, same-others}
use Rattle.sv_answers.proofs.ReleaseAnswers.{release-replies}
use Rattle.sv_answers.proofs.QuietRefusals.{exactly-quiet, release-quiet}
use Rattle.sv_answers.proofs.MakesAnswers.{makes-same, release-makes}
use Rattle.sv_script.specs.declared.replies.Reply.TheVariants as reply
use Rattle.sv_answers.proofs.families.release.Goals as goal

pub returns-in-Ok-clause-answered : goal.returns-in-Ok-clause-answered
returns-in-Ok-clause-answered c told k all =
    let x = c.in-Ok.ensures in
    release-replies told c.args.store.now c.release.new.self x.follows c.laws.ensures.rests.stands.sound k all c.args.name.now (Ok tt) x.released x.refused x.kept

pub returns-in-Err-clause-answered : goal.returns-in-Err-clause-answered
returns-in-Err-clause-answered c told k all =
    let x = c.in-Err.ensures in
    release-replies told c.args.store.now c.release.new.self x.follows c.laws.ensures.rests.stands.sound k all c.args.name.now (Err c.in-Err.refusal) x.released x.refused x.kept

pub returns-in-Err-clause-quiet : goal.returns-in-Err-clause-quiet
returns-in-Err-clause-quiet c = exactly-quiet _ (release-quiet c.args.store.now.books.families c.args.name.now) c.in-Err.refusal c.in-Err.ensures.refused

pub returns-in-Ok-clause-held : goal.returns-in-Ok-clause-held
returns-in-Ok-clause-held c =
    let x = c.in-Ok.ensures in
    release-held c.args.store.now c.release.new.self c.laws.ensures.rests.stands.sound x.follows c.args.name.now x.released

pub returns-in-Err-clause-held : goal.returns-in-Err-clause-held
returns-in-Err-clause-held c =
    let x = c.in-Err.ensures in
    same-held c.args.store.now c.release.new.self c.laws.ensures.rests.stands.sound x.follows x.kept

pub returns-in-Ok-clause-makes : goal.returns-in-Ok-clause-makes
returns-in-Ok-clause-makes c = release-makes c.args.store.now.books c.release.new.self.books c.args.name.now c.in-Ok.ensures.released

pub returns-in-Err-clause-makes : goal.returns-in-Err-clause-makes
returns-in-Err-clause-makes c =
    makes-same c.args.store.now c.release.new.self (reply.Refused c.in-Err.refusal) 0 refl refl c.in-Err.ensures.kept

pub returns-in-Ok-clause-others : goal.returns-in-Ok-clause-others
returns-in-Ok-clause-others c =
    let x = c.in-Ok.ensures in
    release-others c.args.store.now c.release.new.self c.args.name.now x.released

pub returns-in-Err-clause-others : goal.returns-in-Err-clause-others
returns-in-Err-clause-others c =
    let x = c.in-Err.ensures in
    same-others c.args.store.now c.release.new.self x.kept

pub returns-in-Ok-clause-step : goal.returns-in-Ok-clause-step
returns-in-Ok-clause-step c = c.in-Ok.ensures.released

pub returns-in-Err-clause-step : goal.returns-in-Err-clause-step
returns-in-Err-clause-step c = c.in-Err.ensures.kept
