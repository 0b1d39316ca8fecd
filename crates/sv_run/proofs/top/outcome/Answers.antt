-- What the parts of a run ensure is how it comes to its text.
use Rattle.std.proofs.Common.{None, map, rules, refl, sym, subst}
use Rattle.std.specs.Prelude.{string_bytes}
use Rattle.sv_run.specs.declared.outcomes.Ended.{Ended}
use Rattle.sv_run.specs.Ends.{Follows}
use Rattle.sv_run.specs.Handed.{Input, Directory}
use Rattle.sv_run.specs.RunWords.{AreRun}
use Rattle.sv_run.proofs.Running.{ran_opened}
use Rattle.sv_run.proofs.Sending.{follows-comes, follows-closed}
use Rattle.sv_run.proofs.top.outcome.Goals as goal

pub returns-in-Err-clause-follows : goal.returns-in-Err-clause-follows
returns-in-Err-clause-follows g c =
    let words = map string_bytes c.args.words.now in
    let i : Input = record { words = words; left = g.S.Source.left c.args.source.now; before = g.S.Source.faults c.args.source.now; now = g.S.Source.faults c.read_script.new.source } in
    let d : Directory = record { files = g.D.Dir.files c.args.dir.now; later = g.D.Dir.files c.args.dir.now; before = g.D.Dir.faults c.args.dir.now; now = g.D.Dir.faults c.args.dir.now } in
    let are : AreRun words = search rules in
    subst (λ (e : Ended). Follows i d e.done e.status) (sym c.without_done-in-Err.ensures)
    (follows-comes i d None c.in-Err.status are (c.in-Err.ensures.err words d (record { kept = refl; calm = refl })))

pub returns-in-Ok-run_script-clause-follows : goal.returns-in-Ok-run_script-clause-follows
returns-in-Ok-run_script-clause-follows g c =
    let words = map string_bytes c.args.words.now in
    let i : Input = record { words = words; left = g.S.Source.left c.args.source.now; before = g.S.Source.faults c.args.source.now; now = g.S.Source.faults c.read_script.new.source } in
    let files = g.D.Dir.files c.args.dir.now in
    let later = g.D.Dir.files c.run_script.new.dir in
    let before = g.D.Dir.faults c.args.dir.now in
    let now = g.D.Dir.faults c.run_script.new.dir in
    let d : Directory = record { files = files; later = later; before = before; now = now } in
    let done = c.in-Ok-run_script.done in
    let are : AreRun words = search rules in
    let opened = c.in-Ok-first_number.ensures in
    let ran = ran_opened files (g.D.Dir.files c.first_number.new.dir) later before (g.D.Dir.faults c.first_number.new.dir) now c.in-Ok.script done opened.same opened.cause.later c.in-Ok-run_script.ensures.ran in
    subst (λ (e : Ended). Follows i d e.done e.status) (sym c.closed.ensures)
    (follows-closed i d done are (record { script = c.in-Ok.script; read = c.in-Ok.ensures.script; ran = ran }))
