use Rattle.std.proofs.Common.{refl}
use Rattle.std.specs.Prelude.{Ok, Err}
use Rattle.sv_answers.proofs.HeldAnswers.{same-held, same-others, set-held, set-others}
use Rattle.sv_answers.proofs.SetAnswers.{set-replies}
use Rattle.sv_answers.proofs.QuietRefusals.{due-quiet, set-quiet}
use Rattle.sv_answers.proofs.MakesAnswers.{makes-same, set-makes}
use Rattle.sv_script.specs.declared.replies.Reply.TheVariants as reply
use Rattle.sv_answers.proofs.options.set.Goals as goal

pub returns-in-Ok-clause-answered : goal.returns-in-Ok-clause-answered
returns-in-Ok-clause-answered c told k all =
    let x = c.in-Ok.ensures in
    set-replies told c.args.store.now c.set.new.self x.follows c.laws.ensures.rests.stands.sound k all c.args.name.now c.args.option c.args.value
    (Ok c.in-Ok.serial) x.set x.refused x.kept

pub returns-in-Err-clause-answered : goal.returns-in-Err-clause-answered
returns-in-Err-clause-answered c told k all =
    let x = c.in-Err.ensures in
    set-replies told c.args.store.now c.set.new.self x.follows c.laws.ensures.rests.stands.sound k all c.args.name.now c.args.option c.args.value
    (Err c.in-Err.refusal) x.set x.refused x.kept

pub returns-in-Err-clause-quiet : goal.returns-in-Err-clause-quiet
returns-in-Err-clause-quiet c = due-quiet _ (set-quiet c.args.store.now.books.families c.args.name.now c.args.option c.args.value c.args.store.now.books.supers) c.in-Err.refusal c.in-Err.ensures.refused

pub returns-in-Ok-clause-held : goal.returns-in-Ok-clause-held
returns-in-Ok-clause-held c =
    let x = c.in-Ok.ensures in
    set-held c.args.store.now c.set.new.self c.laws.ensures.rests.stands.sound x.follows c.args.name.now c.args.option c.args.value _ x.set

pub returns-in-Err-clause-held : goal.returns-in-Err-clause-held
returns-in-Err-clause-held c =
    let x = c.in-Err.ensures in
    same-held c.args.store.now c.set.new.self c.laws.ensures.rests.stands.sound x.follows x.kept

pub returns-in-Ok-clause-makes : goal.returns-in-Ok-clause-makes
returns-in-Ok-clause-makes c =
    set-makes c.args.store.now.books c.set.new.self.books c.args.name.now c.args.option c.args.value c.in-Ok.serial c.in-Ok.ensures.set

pub returns-in-Err-clause-makes : goal.returns-in-Err-clause-makes
returns-in-Err-clause-makes c =
    makes-same c.args.store.now c.set.new.self (reply.Refused c.in-Err.refusal) 0 refl refl c.in-Err.ensures.kept

pub returns-in-Ok-clause-others : goal.returns-in-Ok-clause-others
returns-in-Ok-clause-others c =
    let x = c.in-Ok.ensures in
    set-others c.args.store.now c.set.new.self c.args.name.now c.args.option c.args.value _ x.set

pub returns-in-Err-clause-others : goal.returns-in-Err-clause-others
returns-in-Err-clause-others c =
    let x = c.in-Err.ensures in
    same-others c.args.store.now c.set.new.self x.kept

pub returns-in-Ok-clause-step : goal.returns-in-Ok-clause-step
returns-in-Ok-clause-step c = c.in-Ok.ensures.set

pub returns-in-Err-clause-step : goal.returns-in-Err-clause-step
returns-in-Err-clause-step c = c.in-Err.ensures.kept
