use Rattle.std.proofs.Common.{ap, refl, ◌∙◌}
use Rattle.std.specs.Prelude.{Ok, Err}
use Rattle.sv_model.specs.Books.{FileRegister}
use Rattle.sv_answers.proofs.HeldAnswers.{numbers-held, numbers-others, same-held, same-others}
use Rattle.sv_answers.proofs.HoldAnswers.{hold-replies}
use Rattle.sv_answers.proofs.QuietRefusals.{exactly-quiet, hold-quiet}
use Rattle.sv_answers.proofs.MakesAnswers.{makes-files, makes-same}
use Rattle.sv_script.specs.declared.replies.Reply.TheVariants as reply
use Rattle.sv_answers.proofs.StepLemmas.{with_files}
use Rattle.sv_answers.proofs.holds.hold.Goals as goal

pub returns-in-Ok-clause-answered : goal.returns-in-Ok-clause-answered
returns-in-Ok-clause-answered c told k all =
    let x = c.in-Ok.ensures in
    hold-replies told c.args.store.now c.hold.new.self x.follows k all x.rest (Ok c.in-Ok.count) x.held x.refused x.kept

pub returns-in-Err-clause-answered : goal.returns-in-Err-clause-answered
returns-in-Err-clause-answered c told k all =
    let x = c.in-Err.ensures in
    hold-replies told c.args.store.now c.hold.new.self x.follows k all x.rest (Err c.in-Err.refusal) x.held x.refused x.kept

pub returns-in-Err-clause-quiet : goal.returns-in-Err-clause-quiet
returns-in-Err-clause-quiet c = exactly-quiet _ (hold-quiet _) c.in-Err.refusal c.in-Err.ensures.refused

pub returns-in-Ok-clause-held : goal.returns-in-Ok-clause-held
returns-in-Ok-clause-held c =
    let x = c.in-Ok.ensures in
    numbers-held c.args.store.now c.hold.new.self c.laws.ensures.rests.stands.sound x.follows (ap (λ (z : FileRegister). z.numbers) x.held.1)

pub returns-in-Err-clause-held : goal.returns-in-Err-clause-held
returns-in-Err-clause-held c =
    let x = c.in-Err.ensures in
    same-held c.args.store.now c.hold.new.self c.laws.ensures.rests.stands.sound x.follows x.kept

pub returns-in-Ok-clause-makes : goal.returns-in-Ok-clause-makes
returns-in-Ok-clause-makes c =
    makes-files c.args.store.now c.hold.new.self (reply.Hold c.in-Ok.count) refl refl c.in-Ok.ensures.rest (ap (λ (z : FileRegister). z.next) c.in-Ok.ensures.held.1)

pub returns-in-Err-clause-makes : goal.returns-in-Err-clause-makes
returns-in-Err-clause-makes c =
    makes-same c.args.store.now c.hold.new.self (reply.Refused c.in-Err.refusal) 0 refl refl c.in-Err.ensures.kept

pub returns-in-Ok-clause-others : goal.returns-in-Ok-clause-others
returns-in-Ok-clause-others c =
    let x = c.in-Ok.ensures in
    numbers-others c.args.store.now c.hold.new.self (ap (λ (z : FileRegister). z.numbers) x.held.1)

pub returns-in-Err-clause-others : goal.returns-in-Err-clause-others
returns-in-Err-clause-others c =
    let x = c.in-Err.ensures in
    same-others c.args.store.now c.hold.new.self x.kept

pub returns-in-Ok-clause-step : goal.returns-in-Ok-clause-step
returns-in-Ok-clause-step c =
    let a = c.args.store.now in
    c.in-Ok.ensures.rest ∙ ap (λ (z : FileRegister). with_files a z) c.in-Ok.ensures.held.1

pub returns-in-Err-clause-step : goal.returns-in-Err-clause-step
returns-in-Err-clause-step c = c.in-Err.ensures.kept
