use Rattle.std.proofs.Common.{is_some, rules, refl, subst, sym}
use Rattle.sv_script.specs.declared.commands.Command.{Command}
use Rattle.sv_script.specs.declared.commands.Command.TheVariants as command
use Rattle.sv_store.specs.Removals.{DirSeen}
use Rattle.sv_replies.specs.Answers.{Answers}
use Rattle.sv_answers.specs.Answered.{alone}
use Rattle.sv_answers.proofs.QuietRefusals.{counts-quiet}
use Rattle.sv_answers.specs.Run.{AsksNone}
use Rattle.sv_answers.specs.Steps.{Steps}
use Rattle.sv_answers.proofs.StepLemmas.{alone-steps}
use Rattle.sv_replies.specs.Makes.{Makes, draws_by}
use Rattle.sv_answers.proofs.MakesAnswers.{makes-up-to}
use Rattle.sv_answers.proofs.HeldAnswers.{read-others}
use Rattle.sv_answers.proofs.answers.answer.Goals as goal

pub returns-in-Scan-clause-answered : goal.returns-in-Scan-clause-answered
returns-in-Scan-clause-answered g c held k all =
    let told = is_some (g.D.Dir.files c.args.dir.now) in
    subst (λ (z : Command). Answers (alone told) c.args.store.now.books c.scan.new.store.books k z c.scan.result) (sym c.in-Scan.is) (c.scan.ensures.answered told k all)

pub returns-in_default : goal.returns-in_default
returns-in_default g c =
    let x = c.answer_in_memory in
    let files = g.D.Dir.files c.args.dir.now in
    let count = g.D.Dir.faults c.args.dir.now in
    let d : DirSeen = record { files = files; later = files; before = count; now = count } in
    let none : AsksNone c.args.command.now = search rules in
    record {
      step = alone-steps c.args.store.now x.new.store d c.args.command.now x.result none x.ensures.step;
      answered = λ held. x.ensures.answered (is_some (g.D.Dir.files c.args.dir.now));
      makes = makes-up-to c.args.store.now.books x.new.store.books x.result (draws_by c.args.command.now x.result) x.ensures.makes;
      faults = counts-quiet x.result (g.D.Dir.faults c.args.dir.now) x.ensures.quiet;
      held = x.ensures.held (g.D.Dir.files c.args.dir.now);
      told = refl;
      others = x.ensures.others (g.D.Dir.files c.args.dir.now);
      follows = x.ensures.follows;
    }

pub returns-in-Flush-clause-answered : goal.returns-in-Flush-clause-answered
returns-in-Flush-clause-answered g c held k all =
    let told = is_some (g.D.Dir.files c.args.dir.now) in
    subst (λ (z : Command). Answers (alone told) c.args.store.now.books c.flush.new.store.books k z c.flush.result) (sym c.in-Flush.is) (c.flush.ensures.answered told k all)

pub returns-in-Purge-clause-answered : goal.returns-in-Purge-clause-answered
returns-in-Purge-clause-answered g c held k all =
    let told = is_some (g.D.Dir.files c.args.dir.now) in
    subst (λ (z : Command). Answers (alone told) c.args.store.now.books c.purge.new.store.books k z c.purge.result) (sym c.in-Purge.is) (c.purge.ensures.answered told k all)

pub returns-in-Compact-clause-answered : goal.returns-in-Compact-clause-answered
returns-in-Compact-clause-answered g c held k all =
    let told = is_some (g.D.Dir.files c.args.dir.now) in
    subst (λ (z : Command). Answers (alone told) c.args.store.now.books c.compact.new.store.books k z c.compact.result) (sym c.in-Compact.is) (c.compact.ensures.answered held k all)

pub returns-in-Scan-clause-makes : goal.returns-in-Scan-clause-makes
returns-in-Scan-clause-makes g c =
    subst (λ (z : Command). Makes c.args.store.now.books c.scan.new.store.books c.scan.result (draws_by z c.scan.result)) (sym c.in-Scan.is) c.scan.ensures.makes

pub returns-in-Flush-clause-makes : goal.returns-in-Flush-clause-makes
returns-in-Flush-clause-makes g c =
    subst (λ (z : Command). Makes c.args.store.now.books c.flush.new.store.books c.flush.result (draws_by z c.flush.result)) (sym c.in-Flush.is) c.flush.ensures.makes

pub returns-in-Purge-clause-makes : goal.returns-in-Purge-clause-makes
returns-in-Purge-clause-makes g c =
    subst (λ (z : Command). Makes c.args.store.now.books c.purge.new.store.books c.purge.result (draws_by z c.purge.result)) (sym c.in-Purge.is) c.purge.ensures.makes

pub returns-in-Compact-clause-makes : goal.returns-in-Compact-clause-makes
returns-in-Compact-clause-makes g c =
    subst (λ (z : Command). Makes c.args.store.now.books c.compact.new.store.books c.compact.result (draws_by z c.compact.result)) (sym c.in-Compact.is) c.compact.ensures.makes

pub returns-in-Get-clause-makes : goal.returns-in-Get-clause-makes
returns-in-Get-clause-makes g c =
    subst (λ (z : Command). Makes c.args.store.now.books c.args.store.now.books c.get.result (draws_by z c.get.result)) (sym c.in-Get.is) c.get.ensures.makes

pub returns-in-Gets-clause-makes : goal.returns-in-Gets-clause-makes
returns-in-Gets-clause-makes g c =
    subst (λ (z : Command). Makes c.args.store.now.books c.args.store.now.books c.gets.result (draws_by z c.gets.result)) (sym c.in-Gets.is) c.gets.ensures.makes

pub returns-in-Get-clause-others : goal.returns-in-Get-clause-others
returns-in-Get-clause-others g c = read-others c.args.store.now.books (g.D.Dir.files c.args.dir.now) (g.D.Dir.files c.get.new.dir) c.get.ensures.same

pub returns-in-Gets-clause-others : goal.returns-in-Gets-clause-others
returns-in-Gets-clause-others g c = read-others c.args.store.now.books (g.D.Dir.files c.args.dir.now) (g.D.Dir.files c.gets.new.dir) c.gets.ensures.same

pub returns-in-Flush-clause-step : goal.returns-in-Flush-clause-step
returns-in-Flush-clause-step g c =
    let d : DirSeen = record { files = g.D.Dir.files c.args.dir.now; later = g.D.Dir.files c.flush.new.dir; before = g.D.Dir.faults c.args.dir.now; now = g.D.Dir.faults c.flush.new.dir } in
    subst (λ (z : Command). Steps c.args.store.now c.flush.new.store d z c.flush.result) (sym c.in-Flush.is) c.flush.ensures.flushed

pub returns-in-Compact-clause-step : goal.returns-in-Compact-clause-step
returns-in-Compact-clause-step g c =
    let d : DirSeen = record { files = g.D.Dir.files c.args.dir.now; later = g.D.Dir.files c.compact.new.dir; before = g.D.Dir.faults c.args.dir.now; now = g.D.Dir.faults c.compact.new.dir } in
    subst (λ (z : Command). Steps c.args.store.now c.compact.new.store d z c.compact.result) (sym c.in-Compact.is) c.compact.ensures.compacted

pub returns-in-Purge-clause-step : goal.returns-in-Purge-clause-step
returns-in-Purge-clause-step g c =
    let d : DirSeen = record { files = g.D.Dir.files c.args.dir.now; later = g.D.Dir.files c.purge.new.dir; before = g.D.Dir.faults c.args.dir.now; now = g.D.Dir.faults c.purge.new.dir } in
    subst (λ (z : Command). Steps c.args.store.now c.purge.new.store d z c.purge.result) (sym c.in-Purge.is) (c.purge.ensures.rest, c.purge.ensures.purged)

pub returns-in-Scan-clause-step : goal.returns-in-Scan-clause-step
returns-in-Scan-clause-step g c =
    let d : DirSeen = record { files = g.D.Dir.files c.args.dir.now; later = g.D.Dir.files c.scan.new.dir; before = g.D.Dir.faults c.args.dir.now; now = g.D.Dir.faults c.scan.new.dir } in
    subst (λ (z : Command). Steps c.args.store.now c.scan.new.store d z c.scan.result) (sym c.in-Scan.is) (c.scan.ensures.rest, c.scan.ensures.scanned)

pub returns-in-Get-clause-step : goal.returns-in-Get-clause-step
returns-in-Get-clause-step g c =
    let d : DirSeen = record { files = g.D.Dir.files c.args.dir.now; later = g.D.Dir.files c.get.new.dir; before = g.D.Dir.faults c.args.dir.now; now = g.D.Dir.faults c.get.new.dir } in
    subst (λ (z : Command). Steps c.args.store.now c.args.store.now d z c.get.result) (sym c.in-Get.is) refl

pub returns-in-Gets-clause-step : goal.returns-in-Gets-clause-step
returns-in-Gets-clause-step g c =
    let d : DirSeen = record { files = g.D.Dir.files c.args.dir.now; later = g.D.Dir.files c.gets.new.dir; before = g.D.Dir.faults c.args.dir.now; now = g.D.Dir.faults c.gets.new.dir } in
    subst (λ (z : Command). Steps c.args.store.now c.args.store.now d z c.gets.result) (sym c.in-Gets.is) refl
