use Rattle.std.proofs.Common.{length, ap, refl}
use Rattle.std.specs.Prelude.{Ok, Err}
use Rattle.sv_model.specs.declared.writes.Op.TheVariants as op
use Rattle.sv_script.specs.declared.commands.Command.TheVariants as command
use Rattle.sv_script.specs.declared.replies.Reply.TheVariants as reply
use Rattle.sv_answers.proofs.HeldAnswers.{same-others, write-held, write-others}
use Rattle.sv_answers.proofs.PutAnswers.{put-is, row-free, row-replies}
use Rattle.sv_answers.proofs.WriteAnswers.{write-answers}
use Rattle.sv_answers.proofs.QuietRefusals.{due-quiet, row-quiet, write-quiet}
use Rattle.sv_answers.proofs.MakesAnswers.{accepted-grows, makes-refused, refused-grows}
use Rattle.sv_replies.proofs.GrowsLaws.{makes-zero}
use Rattle.sv_answers.proofs.StepLemmas.{row-step, stops-same}
use Rattle.sv_answers.proofs.writes.put.Goals as goal

pub returns-in-Ok-put-clause-answered : goal.returns-in-Ok-put-clause-answered
returns-in-Ok-put-clause-answered c told k all =
    let name = c.args.name.now in
    let key = c.args.key.now in
    let value = c.args.value.now in
    let free = row-free (length key) (length value) c.in-Ok.ensures.refused in
    let row = c.in-Ok.ensures.row in
    write-answers told c.args.store.now c.put.new.self c.laws.ensures.rests.stands.sound c.put.ensures.follows k all
    (command.Put name key value) name key (op.Put value) reply.Put (put-is told name key value free.0 free.1)
    (Ok c.in-Ok-put.number) (record { key = c.in-Ok.key; op = op.Put c.in-Ok.value }) row.0 (ap op.Put row.1) c.in-Ok-put.ensures.writes

pub returns-in-Err-put-clause-answered : goal.returns-in-Err-put-clause-answered
returns-in-Err-put-clause-answered c told k all =
    let name = c.args.name.now in
    let key = c.args.key.now in
    let value = c.args.value.now in
    let free = row-free (length key) (length value) c.in-Ok.ensures.refused in
    let row = c.in-Ok.ensures.row in
    write-answers told c.args.store.now c.put.new.self c.laws.ensures.rests.stands.sound c.put.ensures.follows k all
    (command.Put name key value) name key (op.Put value) reply.Put (put-is told name key value free.0 free.1)
    (Err c.in-Err-put.refusal) (record { key = c.in-Ok.key; op = op.Put c.in-Ok.value }) row.0 (ap op.Put row.1) c.in-Err-put.ensures.writes

pub returns-in-Err-put-clause-quiet : goal.returns-in-Err-put-clause-quiet
returns-in-Err-put-clause-quiet c =
    write-quiet c.args.store.now c.put.new.self c.args.name.now (record { key = c.in-Ok.key; op = op.Put c.in-Ok.value })
    c.in-Err-put.refusal c.in-Err-put.ensures.writes

pub returns-in-Err-clause-quiet : goal.returns-in-Err-clause-quiet
returns-in-Err-clause-quiet c = due-quiet _ (row-quiet (length c.args.key.now) (length c.args.value.now)) c.in-Err.refusal c.in-Err.ensures.refused

pub returns-in-Ok-put-clause-held : goal.returns-in-Ok-put-clause-held
returns-in-Ok-put-clause-held c =
    write-held c.args.store.now c.put.new.self c.laws.ensures.rests.stands.sound c.put.ensures.follows
    c.args.name.now (record { key = c.in-Ok.key; op = op.Put c.in-Ok.value }) (Ok c.in-Ok-put.number) c.in-Ok-put.ensures.writes

pub returns-in-Err-put-clause-held : goal.returns-in-Err-put-clause-held
returns-in-Err-put-clause-held c =
    write-held c.args.store.now c.put.new.self c.laws.ensures.rests.stands.sound c.put.ensures.follows
    c.args.name.now (record { key = c.in-Ok.key; op = op.Put c.in-Ok.value }) (Err c.in-Err-put.refusal) c.in-Err-put.ensures.writes

pub returns-in-Ok-put-clause-makes : goal.returns-in-Ok-put-clause-makes
returns-in-Ok-put-clause-makes c =
    makes-zero c.args.store.now.books c.put.new.self.books (reply.Put c.in-Ok-put.number) 0 refl refl
    (accepted-grows c.args.store.now c.put.new.self c.args.name.now (record { key = c.in-Ok.key; op = op.Put c.in-Ok.value }) c.in-Ok-put.number c.in-Ok-put.ensures.writes)

pub returns-in-Err-put-clause-makes : goal.returns-in-Err-put-clause-makes
returns-in-Err-put-clause-makes c =
    makes-zero c.args.store.now.books c.put.new.self.books (reply.Refused c.in-Err-put.refusal) 0 refl refl
    (refused-grows c.args.store.now c.put.new.self c.args.name.now (record { key = c.in-Ok.key; op = op.Put c.in-Ok.value }) c.in-Err-put.refusal c.in-Err-put.ensures.writes)

pub returns-in-Err-clause-makes : goal.returns-in-Err-clause-makes
returns-in-Err-clause-makes c = makes-refused c.args.store.now.books c.in-Err.refusal

pub returns-in-Err-clause-answered : goal.returns-in-Err-clause-answered
returns-in-Err-clause-answered c told k all =
    row-replies told c.args.store.now.books k c.args.name.now c.args.key.now c.args.value.now c.in-Err.refusal all c.in-Err.ensures.refused

pub returns-in-Ok-put-clause-others : goal.returns-in-Ok-put-clause-others
returns-in-Ok-put-clause-others c =
    write-others c.args.store.now c.put.new.self
    c.args.name.now (record { key = c.in-Ok.key; op = op.Put c.in-Ok.value }) (Ok c.in-Ok-put.number) c.in-Ok-put.ensures.writes

pub returns-in-Err-put-clause-others : goal.returns-in-Err-put-clause-others
returns-in-Err-put-clause-others c =
    write-others c.args.store.now c.put.new.self
    c.args.name.now (record { key = c.in-Ok.key; op = op.Put c.in-Ok.value }) (Err c.in-Err-put.refusal) c.in-Err-put.ensures.writes

pub returns-in-Err-clause-others : goal.returns-in-Err-clause-others
returns-in-Err-clause-others c = same-others c.args.store.now c.args.store.now refl

pub returns-in-Ok-put-clause-step : goal.returns-in-Ok-put-clause-step
returns-in-Ok-put-clause-step c =
    row-step c.args.store.now c.put.new.self c.args.name.now c.in-Ok.key c.args.key.now (op.Put c.in-Ok.value) (op.Put c.args.value.now) (Ok c.in-Ok-put.number)
    c.in-Ok.ensures.row.0 (ap op.Put c.in-Ok.ensures.row.1) c.in-Ok-put.ensures.writes

pub returns-in-Err-put-clause-step : goal.returns-in-Err-put-clause-step
returns-in-Err-put-clause-step c = c.in-Err-put.ensures.writes.stops

pub returns-in-Err-clause-step : goal.returns-in-Err-clause-step
returns-in-Err-clause-step c = stops-same c.args.store.now c.args.name.now c.in-Err.refusal
