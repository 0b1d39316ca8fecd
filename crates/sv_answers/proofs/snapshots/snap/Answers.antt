use Rattle.std.proofs.Common.{ap, refl}
use Rattle.std.specs.Prelude.{Ok, Err}
use Rattle.sv_model.specs.Books.{Books}
use Rattle.sv_answers.proofs.HeldAnswers.{numbers-held, numbers-others, same-held, same-others}
use Rattle.sv_answers.proofs.HoldAnswers.{snap-replies}
use Rattle.sv_answers.proofs.QuietRefusals.{due-quiet, snap-quiet}
use Rattle.sv_answers.proofs.MakesAnswers.{makes-same}
use Rattle.sv_replies.proofs.GrowsLaws.{grows-rest, makes-zero}
use Rattle.sv_script.specs.declared.replies.Reply.TheVariants as reply
use Rattle.sv_answers.proofs.snapshots.snap.Goals as goal

pub returns-in-Ok-clause-answered : goal.returns-in-Ok-clause-answered
returns-in-Ok-clause-answered c told k all =
    let x = c.in-Ok.ensures in
    snap-replies told c.args.store.now c.snap.new.self x.follows k all (Ok (c.in-Ok.snapshot, c.in-Ok.at)) x.made x.refused x.kept

pub returns-in-Err-clause-answered : goal.returns-in-Err-clause-answered
returns-in-Err-clause-answered c told k all =
    let x = c.in-Err.ensures in
    snap-replies told c.args.store.now c.snap.new.self x.follows k all (Err c.in-Err.refusal) x.made x.refused x.kept

pub returns-in-Err-clause-quiet : goal.returns-in-Err-clause-quiet
returns-in-Err-clause-quiet c = due-quiet _ (snap-quiet c.args.store.now.books.snapshots) c.in-Err.refusal c.in-Err.ensures.refused

pub returns-in-Ok-clause-held : goal.returns-in-Ok-clause-held
returns-in-Ok-clause-held c =
    let x = c.in-Ok.ensures in
    numbers-held c.args.store.now c.snap.new.self c.laws.ensures.rests.stands.sound x.follows (ap (λ (z : Books). z.files.numbers) x.made.0.is)

pub returns-in-Err-clause-held : goal.returns-in-Err-clause-held
returns-in-Err-clause-held c =
    let x = c.in-Err.ensures in
    same-held c.args.store.now c.snap.new.self c.laws.ensures.rests.stands.sound x.follows x.kept

pub returns-in-Ok-clause-makes : goal.returns-in-Ok-clause-makes
returns-in-Ok-clause-makes c =
    let is = c.in-Ok.ensures.made.0.is in
    makes-zero c.args.store.now.books c.snap.new.self.books (reply.Snap c.in-Ok.snapshot c.in-Ok.at) 0 refl refl
    (grows-rest c.args.store.now.books c.snap.new.self.books (ap (λ (z : Books). z.supers) is) (ap (λ (z : Books). z.memtables) is)
    (ap (λ (z : Books). z.metas) is) (ap (λ (z : Books). z.files.next) is))

pub returns-in-Err-clause-makes : goal.returns-in-Err-clause-makes
returns-in-Err-clause-makes c =
    makes-same c.args.store.now c.snap.new.self (reply.Refused c.in-Err.refusal) 0 refl refl c.in-Err.ensures.kept

pub returns-in-Ok-clause-others : goal.returns-in-Ok-clause-others
returns-in-Ok-clause-others c =
    let x = c.in-Ok.ensures in
    numbers-others c.args.store.now c.snap.new.self (ap (λ (z : Books). z.files.numbers) x.made.0.is)

pub returns-in-Err-clause-others : goal.returns-in-Err-clause-others
returns-in-Err-clause-others c =
    let x = c.in-Err.ensures in
    same-others c.args.store.now c.snap.new.self x.kept

pub returns-in-Ok-clause-step : goal.returns-in-Ok-clause-step
returns-in-Ok-clause-step c = c.in-Ok.ensures.made.0

pub returns-in-Err-clause-step : goal.returns-in-Err-clause-step
returns-in-Err-clause-step c = c.in-Err.ensures.kept
