use Rattle.std.proofs.Common.{ap, refl}
use Rattle.std.specs.Prelude.{Ok, Err}
use Rattle.sv_model.specs.Books.{Books}
use Rattle.sv_answers.proofs.HeldAnswers.{numbers-held, numbers-others, same-held, same-others}
use Rattle.sv_answers.proofs.FamilyAnswers.{drop-replies}
use Rattle.sv_answers.proofs.QuietRefusals.{drop-quiet, exactly-quiet}
use Rattle.sv_answers.proofs.MakesAnswers.{makes-same}
use Rattle.sv_replies.proofs.GrowsLaws.{grows-rest, makes-zero}
use Rattle.sv_script.specs.declared.replies.Reply.TheVariants as reply
use Rattle.sv_answers.proofs.families.drop_family.Goals as goal

pub returns-in-Ok-clause-answered : goal.returns-in-Ok-clause-answered
returns-in-Ok-clause-answered c told k all =
    let x = c.in-Ok.ensures in
    drop-replies told c.args.store.now c.drop_family.new.self x.follows k all c.args.name.now (Ok c.in-Ok.id) x.dropped x.own x.refused x.kept

pub returns-in-Err-clause-answered : goal.returns-in-Err-clause-answered
returns-in-Err-clause-answered c told k all =
    let x = c.in-Err.ensures in
    drop-replies told c.args.store.now c.drop_family.new.self x.follows k all c.args.name.now (Err c.in-Err.refusal) x.dropped x.own x.refused x.kept

pub returns-in-Err-clause-quiet : goal.returns-in-Err-clause-quiet
returns-in-Err-clause-quiet c = exactly-quiet _ (drop-quiet c.args.store.now.books.families c.args.name.now) c.in-Err.refusal c.in-Err.ensures.refused

pub returns-in-Ok-clause-held : goal.returns-in-Ok-clause-held
returns-in-Ok-clause-held c =
    let x = c.in-Ok.ensures in
    numbers-held c.args.store.now c.drop_family.new.self c.laws.ensures.rests.stands.sound x.follows (ap (λ (z : Books). z.files.numbers) x.dropped.is)

pub returns-in-Err-clause-held : goal.returns-in-Err-clause-held
returns-in-Err-clause-held c =
    let x = c.in-Err.ensures in
    same-held c.args.store.now c.drop_family.new.self c.laws.ensures.rests.stands.sound x.follows x.kept

pub returns-in-Ok-clause-makes : goal.returns-in-Ok-clause-makes
returns-in-Ok-clause-makes c =
    let is = c.in-Ok.ensures.dropped.is in
    makes-zero c.args.store.now.books c.drop_family.new.self.books reply.Drop 0 refl refl
    (grows-rest c.args.store.now.books c.drop_family.new.self.books (ap (λ (z : Books). z.supers) is) (ap (λ (z : Books). z.memtables) is)
    (ap (λ (z : Books). z.metas) is) (ap (λ (z : Books). z.files.next) is))

pub returns-in-Err-clause-makes : goal.returns-in-Err-clause-makes
returns-in-Err-clause-makes c =
    makes-same c.args.store.now c.drop_family.new.self (reply.Refused c.in-Err.refusal) 0 refl refl c.in-Err.ensures.kept

pub returns-in-Ok-clause-others : goal.returns-in-Ok-clause-others
returns-in-Ok-clause-others c =
    let x = c.in-Ok.ensures in
    numbers-others c.args.store.now c.drop_family.new.self (ap (λ (z : Books). z.files.numbers) x.dropped.is)

pub returns-in-Err-clause-others : goal.returns-in-Err-clause-others
returns-in-Err-clause-others c =
    let x = c.in-Err.ensures in
    same-others c.args.store.now c.drop_family.new.self x.kept

pub returns-in-Ok-clause-step : goal.returns-in-Ok-clause-step
returns-in-Ok-clause-step c = record { family = _; dropped = c.in-Ok.ensures.dropped; own = c.in-Ok.ensures.own }

pub returns-in-Err-clause-step : goal.returns-in-Err-clause-step
returns-in-Err-clause-step c = c.in-Err.ensures.kept
