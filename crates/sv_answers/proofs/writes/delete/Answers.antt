use Rattle.std.proofs.Common.{length, refl, ◌∷◌, []}
use Rattle.std.specs.Prelude.{Ok, Err}
use Rattle.sv_model.specs.declared.writes.Op.TheVariants as op
use Rattle.sv_script.specs.declared.commands.Command.TheVariants as command
use Rattle.sv_script.specs.declared.replies.Reply.TheVariants as reply
use Rattle.sv_answers.proofs.HeldAnswers.{same-others, write-held, write-others}
use Rattle.sv_answers.proofs.PutAnswers.{delete-is}
use Rattle.sv_answers.proofs.WriteAnswers.{write-answers}
use Rattle.sv_answers.proofs.QuietRefusals.{due-quiet, key-quiet, write-quiet}
use Rattle.sv_answers.proofs.MakesAnswers.{accepted-grows, makes-refused, refused-grows}
use Rattle.sv_replies.proofs.GrowsLaws.{makes-zero}
use Rattle.sv_replies.specs.Due.{dropped_cause, handle_cause}
use Rattle.sv_answers.proofs.ReadAnswers.{key-replies}
use Rattle.sv_answers.proofs.StepLemmas.{row-step, stops-same}
use Rattle.sv_answers.proofs.writes.delete.Goals as goal

pub returns-in-Ok-delete-clause-answered : goal.returns-in-Ok-delete-clause-answered
returns-in-Ok-delete-clause-answered c told k all =
    let name = c.args.name.now in
    let key = c.args.key.now in
    write-answers told c.args.store.now c.delete.new.self c.laws.ensures.rests.stands.sound c.delete.ensures.follows k all
    (command.Delete name key) name key op.Delete reply.Delete (delete-is told name key c.in-Ok.ensures.refused)
    (Ok c.in-Ok-delete.number) (record { key = c.in-Ok.key; op = op.Delete }) c.in-Ok.ensures.made refl c.in-Ok-delete.ensures.writes

pub returns-in-Err-delete-clause-answered : goal.returns-in-Err-delete-clause-answered
returns-in-Err-delete-clause-answered c told k all =
    let name = c.args.name.now in
    let key = c.args.key.now in
    write-answers told c.args.store.now c.delete.new.self c.laws.ensures.rests.stands.sound c.delete.ensures.follows k all
    (command.Delete name key) name key op.Delete reply.Delete (delete-is told name key c.in-Ok.ensures.refused)
    (Err c.in-Err-delete.refusal) (record { key = c.in-Ok.key; op = op.Delete }) c.in-Ok.ensures.made refl c.in-Err-delete.ensures.writes

pub returns-in-Err-delete-clause-quiet : goal.returns-in-Err-delete-clause-quiet
returns-in-Err-delete-clause-quiet c =
    write-quiet c.args.store.now c.delete.new.self c.args.name.now (record { key = c.in-Ok.key; op = op.Delete })
    c.in-Err-delete.refusal c.in-Err-delete.ensures.writes

pub returns-in-Err-clause-quiet : goal.returns-in-Err-clause-quiet
returns-in-Err-clause-quiet c = due-quiet _ (key-quiet (length c.args.key.now)) c.in-Err.refusal c.in-Err.ensures.refused

pub returns-in-Ok-delete-clause-held : goal.returns-in-Ok-delete-clause-held
returns-in-Ok-delete-clause-held c =
    write-held c.args.store.now c.delete.new.self c.laws.ensures.rests.stands.sound c.delete.ensures.follows
    c.args.name.now (record { key = c.in-Ok.key; op = op.Delete }) (Ok c.in-Ok-delete.number) c.in-Ok-delete.ensures.writes

pub returns-in-Err-delete-clause-held : goal.returns-in-Err-delete-clause-held
returns-in-Err-delete-clause-held c =
    write-held c.args.store.now c.delete.new.self c.laws.ensures.rests.stands.sound c.delete.ensures.follows
    c.args.name.now (record { key = c.in-Ok.key; op = op.Delete }) (Err c.in-Err-delete.refusal) c.in-Err-delete.ensures.writes

pub returns-in-Ok-delete-clause-makes : goal.returns-in-Ok-delete-clause-makes
returns-in-Ok-delete-clause-makes c =
    makes-zero c.args.store.now.books c.delete.new.self.books (reply.Delete c.in-Ok-delete.number) 0 refl refl
    (accepted-grows c.args.store.now c.delete.new.self c.args.name.now (record { key = c.in-Ok.key; op = op.Delete }) c.in-Ok-delete.number c.in-Ok-delete.ensures.writes)

pub returns-in-Err-delete-clause-makes : goal.returns-in-Err-delete-clause-makes
returns-in-Err-delete-clause-makes c =
    makes-zero c.args.store.now.books c.delete.new.self.books (reply.Refused c.in-Err-delete.refusal) 0 refl refl
    (refused-grows c.args.store.now c.delete.new.self c.args.name.now (record { key = c.in-Ok.key; op = op.Delete }) c.in-Err-delete.refusal c.in-Err-delete.ensures.writes)

pub returns-in-Err-clause-makes : goal.returns-in-Err-clause-makes
returns-in-Err-clause-makes c = makes-refused c.args.store.now.books c.in-Err.refusal

pub returns-in-Err-clause-answered : goal.returns-in-Err-clause-answered
returns-in-Err-clause-answered c told k all =
    key-replies told c.args.store.now.books k (command.Delete c.args.name.now c.args.key.now) c.args.key.now
    (handle_cause k c.args.name.now ∷ dropped_cause k c.args.name.now ∷ []) c.in-Err.refusal all refl tt c.in-Err.ensures.refused

pub returns-in-Ok-delete-clause-others : goal.returns-in-Ok-delete-clause-others
returns-in-Ok-delete-clause-others c =
    write-others c.args.store.now c.delete.new.self
    c.args.name.now (record { key = c.in-Ok.key; op = op.Delete }) (Ok c.in-Ok-delete.number) c.in-Ok-delete.ensures.writes

pub returns-in-Err-delete-clause-others : goal.returns-in-Err-delete-clause-others
returns-in-Err-delete-clause-others c =
    write-others c.args.store.now c.delete.new.self
    c.args.name.now (record { key = c.in-Ok.key; op = op.Delete }) (Err c.in-Err-delete.refusal) c.in-Err-delete.ensures.writes

pub returns-in-Err-clause-others : goal.returns-in-Err-clause-others
returns-in-Err-clause-others c = same-others c.args.store.now c.args.store.now refl

pub returns-in-Ok-delete-clause-step : goal.returns-in-Ok-delete-clause-step
returns-in-Ok-delete-clause-step c =
    row-step c.args.store.now c.delete.new.self c.args.name.now c.in-Ok.key c.args.key.now op.Delete op.Delete (Ok c.in-Ok-delete.number)
    c.in-Ok.ensures.made refl c.in-Ok-delete.ensures.writes

pub returns-in-Err-delete-clause-step : goal.returns-in-Err-delete-clause-step
returns-in-Err-delete-clause-step c = c.in-Err-delete.ensures.writes.stops

pub returns-in-Err-clause-step : goal.returns-in-Err-clause-step
returns-in-Err-clause-step c = stops-same c.args.store.now c.args.name.now c.in-Err.refusal
