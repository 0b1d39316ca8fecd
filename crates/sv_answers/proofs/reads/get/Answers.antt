use Rattle.std.proofs.Common.{[], ◌∷◌, is_some, refl, sym, subst}
use Rattle.std.specs.Prelude.{Ok, Err}
use Rattle.sv_script.specs.declared.commands.Command.TheVariants as command
use Rattle.sv_replies.specs.Answers.{Answers}
use Rattle.sv_replies.specs.Due.{handle_cause}
use Rattle.sv_answers.specs.Answered.{alone}
use Rattle.sv_answers.proofs.ReadAnswers.{get-replies-as, key-replies}
use Rattle.sv_answers.proofs.MakesAnswers.{makes-read, makes-refused}
use Rattle.sv_script.specs.declared.replies.Reply.{Reply}
use Rattle.sv_replies.specs.Makes.{Makes}
use Rattle.sv_answers.proofs.reads.get.Goals as goal

pub returns-in-Ok-get-clause-answered : goal.returns-in-Ok-get-clause-answered
returns-in-Ok-get-clause-answered g c held k all =
    let told = g.D.Dir.files c.args.dir.now in
    let b = c.args.store.now.books in
    let x = c.in-Ok-get.ensures in
    subst (λ r. Answers (alone (is_some told)) b b k (command.Get c.args.name.now c.args.key.now) r) (sym c.reply_to.ensures)
    (get-replies-as told b c.laws.ensures.rests.stands.sound.lawful held k all c.args.name.now c.args.key.now c.in-Ok.key c.in-Ok.ensures.made c.in-Ok.ensures.refused (Ok c.in-Ok-get.got) x.found x.refused)

pub returns-in-Ok-clause-answered : goal.returns-in-Ok-clause-answered
returns-in-Ok-clause-answered g c held k all =
    let x = c.in-Err-get.ensures in
    get-replies-as (g.D.Dir.files c.args.dir.now) c.args.store.now.books c.laws.ensures.rests.stands.sound.lawful held k all c.args.name.now c.args.key.now c.in-Ok.key c.in-Ok.ensures.made c.in-Ok.ensures.refused
    (Err c.in-Err-get.refusal) x.found x.refused

pub returns-clause-answered : goal.returns-clause-answered
returns-clause-answered g c held k all =
    key-replies (is_some (g.D.Dir.files c.args.dir.now)) c.args.store.now.books k (command.Get c.args.name.now c.args.key.now) c.args.key.now (handle_cause k c.args.name.now ∷ [])
    c.in-Err.refusal all refl tt c.in-Err.ensures.refused

pub returns-in-Ok-get-clause-makes : goal.returns-in-Ok-get-clause-makes
returns-in-Ok-get-clause-makes g c =
    let b = c.args.store.now.books in
    let got = c.in-Ok-get.got in
    subst (λ (r : Reply). Makes b b r 0) (sym c.reply_to.ensures) (makes-read b got.value got.cut got.sv)

pub returns-in-Ok-clause-makes : goal.returns-in-Ok-clause-makes
returns-in-Ok-clause-makes g c = makes-refused c.args.store.now.books c.in-Err-get.refusal

pub returns-clause-makes : goal.returns-clause-makes
returns-clause-makes g c = makes-refused c.args.store.now.books c.in-Err.refusal
