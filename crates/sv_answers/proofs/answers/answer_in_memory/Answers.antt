use Rattle.std.proofs.Common.{List, ℕ, subst, sym}
use Rattle.sv_model.proofs.AfterLaws.{after-itself}
use Rattle.sv_script.specs.declared.commands.Command.{Command}
use Rattle.sv_script.specs.declared.commands.Command.TheVariants as command
use Rattle.sv_state.specs.Follows.{Follows}
use Rattle.sv_store.specs.Seen.{StoreSeen}
use Rattle.sv_replies.specs.Answers.{Answers}
use Rattle.sv_answers.specs.Steps.{StepsAlone}
use Rattle.sv_answers.specs.Answered.{KeepsHeld, alone}
use Rattle.sv_answers.proofs.HeldAnswers.{same-others}
use Rattle.sv_answers.proofs.answers.answer_in_memory.Goals as goal

pub returns-in-Put-clause-answered : goal.returns-in-Put-clause-answered
returns-in-Put-clause-answered c told k all =
    let a = c.args.store.now.books in
    let b = c.put.new.store.books in
    subst (λ (z : Command). Answers (alone told) a b k z c.put.result) (sym c.in-Put.is)
    (subst (λ (y : List ℕ). Answers (alone told) a b k (command.Put c.in-Put.family y c.in-Put.value) c.put.result) c.as_slice.ensures
    (subst (λ (v : List ℕ). Answers (alone told) a b k (command.Put c.in-Put.family c.as_slice.result.now v) c.put.result) c.as_slice-in-Put.ensures
    (c.put.ensures.answered told k all)))

pub returns-in-Delete-clause-answered : goal.returns-in-Delete-clause-answered
returns-in-Delete-clause-answered c told k all =
    let a = c.args.store.now.books in
    let b = c.delete.new.store.books in
    subst (λ (z : Command). Answers (alone told) a b k z c.delete.result) (sym c.in-Delete.is)
    (subst (λ (y : List ℕ). Answers (alone told) a b k (command.Delete c.in-Delete.family y) c.delete.result) c.as_slice-in-Delete.ensures
    (c.delete.ensures.answered told k all))

pub returns-in-Create-clause-answered : goal.returns-in-Create-clause-answered
returns-in-Create-clause-answered c told k all =
    subst (λ (z : Command). Answers (alone told) c.args.store.now.books c.create.new.store.books k z c.create.result) (sym c.in-Create.is) (c.create.ensures.answered told k all)

pub returns-in-Open-clause-answered : goal.returns-in-Open-clause-answered
returns-in-Open-clause-answered c told k all =
    subst (λ (z : Command). Answers (alone told) c.args.store.now.books c.open.new.store.books k z c.open.result) (sym c.in-Open.is) (c.open.ensures.answered told k all)

pub returns-in-Release-clause-answered : goal.returns-in-Release-clause-answered
returns-in-Release-clause-answered c told k all =
    subst (λ (z : Command). Answers (alone told) c.args.store.now.books c.release.new.store.books k z c.release.result) (sym c.in-Release.is) (c.release.ensures.answered told k all)

pub returns-in-Drop-clause-answered : goal.returns-in-Drop-clause-answered
returns-in-Drop-clause-answered c told k all =
    subst (λ (z : Command). Answers (alone told) c.args.store.now.books c.drop_family.new.store.books k z c.drop_family.result) (sym c.in-Drop.is) (c.drop_family.ensures.answered told k all)

pub returns-in-Set-clause-answered : goal.returns-in-Set-clause-answered
returns-in-Set-clause-answered c told k all =
    subst (λ (z : Command). Answers (alone told) c.args.store.now.books c.set.new.store.books k z c.set.result) (sym c.in-Set.is) (c.set.ensures.answered told k all)

pub returns-in-Hold-clause-answered : goal.returns-in-Hold-clause-answered
returns-in-Hold-clause-answered c told k all =
    subst (λ (z : Command). Answers (alone told) c.args.store.now.books c.hold.new.store.books k z c.hold.result) (sym c.in-Hold.is) (c.hold.ensures.answered told k all)

pub returns-in-Unhold-clause-answered : goal.returns-in-Unhold-clause-answered
returns-in-Unhold-clause-answered c told k all =
    subst (λ (z : Command). Answers (alone told) c.args.store.now.books c.unhold.new.store.books k z c.unhold.result) (sym c.in-Unhold.is) (c.unhold.ensures.answered told k all)

pub returns-in-Snap-clause-answered : goal.returns-in-Snap-clause-answered
returns-in-Snap-clause-answered c told k all =
    subst (λ (z : Command). Answers (alone told) c.args.store.now.books c.snap.new.store.books k z c.snap.result) (sym c.in-Snap.is) (c.snap.ensures.answered told k all)

pub returns-in-Unsnap-clause-answered : goal.returns-in-Unsnap-clause-answered
returns-in-Unsnap-clause-answered c told k all =
    subst (λ (z : Command). Answers (alone told) c.args.store.now.books c.unsnap.new.store.books k z c.unsnap.result) (sym c.in-Unsnap.is) (c.unsnap.ensures.answered told k all)

pub returns-in-Live-clause-answered : goal.returns-in-Live-clause-answered
returns-in-Live-clause-answered c told k all =
    subst (λ (z : Command). Answers (alone told) c.args.store.now.books c.live.new.store.books k z c.live.result) (sym c.in-Live.is) (c.live.ensures.answered told k all)

pub returns-in-Live-clause-follows : goal.returns-in-Live-clause-follows
returns-in-Live-clause-follows c =
    let a = c.args.store.now.books in
    subst (λ (z : StoreSeen). Follows a z.books) (sym c.live.ensures.kept) (record { sound = c.laws.ensures.rests.stands.sound; after = after-itself a })

pub returns-in-Live-clause-held : goal.returns-in-Live-clause-held
returns-in-Live-clause-held c =
    let a = c.args.store.now.books in
    subst (λ (z : StoreSeen). KeepsHeld a z.books) (sym c.live.ensures.kept) (λ told held. held)

pub returns-in-Live-clause-others : goal.returns-in-Live-clause-others
returns-in-Live-clause-others c = same-others c.args.store.now c.live.new.store c.live.ensures.kept

pub returns-in-Put-clause-step : goal.returns-in-Put-clause-step
returns-in-Put-clause-step c =
    let a = c.args.store.now in
    let b = c.put.new.store in
    subst (λ (z : Command). StepsAlone a b z c.put.result) (sym c.in-Put.is)
    (subst (λ (y : List ℕ). StepsAlone a b (command.Put c.in-Put.family y c.in-Put.value) c.put.result) c.as_slice.ensures
    (subst (λ (v : List ℕ). StepsAlone a b (command.Put c.in-Put.family c.as_slice.result.now v) c.put.result) c.as_slice-in-Put.ensures
    c.put.ensures.step))

pub returns-in-Delete-clause-step : goal.returns-in-Delete-clause-step
returns-in-Delete-clause-step c =
    let a = c.args.store.now in
    let b = c.delete.new.store in
    subst (λ (z : Command). StepsAlone a b z c.delete.result) (sym c.in-Delete.is)
    (subst (λ (y : List ℕ). StepsAlone a b (command.Delete c.in-Delete.family y) c.delete.result) c.as_slice-in-Delete.ensures
    c.delete.ensures.step)

pub returns-in-Create-clause-step : goal.returns-in-Create-clause-step
returns-in-Create-clause-step c =
    subst (λ (z : Command). StepsAlone c.args.store.now c.create.new.store z c.create.result) (sym c.in-Create.is) c.create.ensures.step

pub returns-in-Open-clause-step : goal.returns-in-Open-clause-step
returns-in-Open-clause-step c =
    subst (λ (z : Command). StepsAlone c.args.store.now c.open.new.store z c.open.result) (sym c.in-Open.is) c.open.ensures.step

pub returns-in-Release-clause-step : goal.returns-in-Release-clause-step
returns-in-Release-clause-step c =
    subst (λ (z : Command). StepsAlone c.args.store.now c.release.new.store z c.release.result) (sym c.in-Release.is) c.release.ensures.step

pub returns-in-Drop-clause-step : goal.returns-in-Drop-clause-step
returns-in-Drop-clause-step c =
    subst (λ (z : Command). StepsAlone c.args.store.now c.drop_family.new.store z c.drop_family.result) (sym c.in-Drop.is) c.drop_family.ensures.step

pub returns-in-Set-clause-step : goal.returns-in-Set-clause-step
returns-in-Set-clause-step c =
    subst (λ (z : Command). StepsAlone c.args.store.now c.set.new.store z c.set.result) (sym c.in-Set.is) c.set.ensures.step

pub returns-in-Hold-clause-step : goal.returns-in-Hold-clause-step
returns-in-Hold-clause-step c =
    subst (λ (z : Command). StepsAlone c.args.store.now c.hold.new.store z c.hold.result) (sym c.in-Hold.is) c.hold.ensures.step

pub returns-in-Unhold-clause-step : goal.returns-in-Unhold-clause-step
returns-in-Unhold-clause-step c =
    subst (λ (z : Command). StepsAlone c.args.store.now c.unhold.new.store z c.unhold.result) (sym c.in-Unhold.is) c.unhold.ensures.step

pub returns-in-Snap-clause-step : goal.returns-in-Snap-clause-step
returns-in-Snap-clause-step c =
    subst (λ (z : Command). StepsAlone c.args.store.now c.snap.new.store z c.snap.result) (sym c.in-Snap.is) c.snap.ensures.step

pub returns-in-Unsnap-clause-step : goal.returns-in-Unsnap-clause-step
returns-in-Unsnap-clause-step c =
    subst (λ (z : Command). StepsAlone c.args.store.now c.unsnap.new.store z c.unsnap.result) (sym c.in-Unsnap.is) c.unsnap.ensures.step

pub returns-in-Live-clause-step : goal.returns-in-Live-clause-step
returns-in-Live-clause-step c =
    subst (λ (z : Command). StepsAlone c.args.store.now c.live.new.store z c.live.result) (sym c.in-Live.is) c.live.ensures.kept
