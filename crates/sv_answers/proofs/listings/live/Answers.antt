use Rattle.std.proofs.Common.{subst, sym, refl}
use Rattle.sv_model.specs.Numbers.{AreInOrder}
use Rattle.sv_store.specs.LiveFiles.{IsCurrentFile}
use Rattle.sv_store.specs.Seen.{StoreSeen}
use Rattle.sv_script.specs.declared.commands.Command.TheVariants as command
use Rattle.sv_script.specs.declared.replies.Reply.TheVariants as reply
use Rattle.sv_replies.specs.Answers.{Answers}
use Rattle.sv_answers.specs.Answered.{alone}
use Rattle.sv_answers.proofs.LiveAnswers.{live-refused, live-shown}
use Rattle.sv_answers.proofs.QuietRefusals.{due-quiet, unhold-quiet}
use Rattle.sv_answers.proofs.MakesAnswers.{makes-same}
use Rattle.sv_answers.proofs.listings.live.Goals as goal

pub returns-in-Ok-clause-answered : goal.returns-in-Ok-clause-answered
returns-in-Ok-clause-answered c told k all =
    let x = c.in-Ok.ensures in
    let numbers = c.from_vec.result in
    subst (λ (z : StoreSeen). Answers (alone told) c.args.store.now.books z.books k command.Live (reply.Live numbers)) (sym x.kept)
    (live-shown told c.args.store.now.books c.laws.ensures.rests.stands.sound k all numbers
    (subst (AreInOrder (IsCurrentFile c.args.store.now.books)) (sym c.from_vec.ensures) x.current) x.have_currents x.refused)

pub returns-in-Err-clause-answered : goal.returns-in-Err-clause-answered
returns-in-Err-clause-answered c told k all =
    let x = c.in-Err.ensures in
    subst (λ (z : StoreSeen). Answers (alone told) c.args.store.now.books z.books k command.Live (reply.Refused c.in-Err.refusal)) (sym x.kept)
    (live-refused told c.args.store.now.books c.laws.ensures.rests.stands.sound k all c.in-Err.refusal x.refused)

pub returns-in-Err-clause-quiet : goal.returns-in-Err-clause-quiet
returns-in-Err-clause-quiet c = due-quiet _ (unhold-quiet _) c.in-Err.refusal c.in-Err.ensures.refused

pub returns-in-Ok-clause-makes : goal.returns-in-Ok-clause-makes
returns-in-Ok-clause-makes c = makes-same c.args.store.now c.live.new.self (reply.Live c.from_vec.result) 0 refl refl c.in-Ok.ensures.kept

pub returns-in-Err-clause-makes : goal.returns-in-Err-clause-makes
returns-in-Err-clause-makes c =
    makes-same c.args.store.now c.live.new.self (reply.Refused c.in-Err.refusal) 0 refl refl c.in-Err.ensures.kept
