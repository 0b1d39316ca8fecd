-- The lines were answered, and then the store was closed.
use Rattle.std.proofs.Common.{◌≡◌, ◌≤◌, List, [], arith, is_some, sym, subst, ap, ◌∙◌}
use Rattle.sv_model.specs.Books.{Books}
use Rattle.sv_model.specs.Openings.{opening_books}
use Rattle.sv_script.specs.declared.replies.LaneReport.{LaneReport}
use Rattle.sv_script.specs.declared.scripts.Line.{Line}
use Rattle.sv_replies.specs.Told.{AloneTold}
use Rattle.sv_replies.proofs.AloneTold.{alone-none}
use Rattle.sv_store.specs.HeldFiles.{IsHeld}
use Rattle.sv_store.specs.Seen.{StoreSeen}
use Rattle.sv_answers.specs.Answered.{alone}
use Rattle.sv_lane.specs.Played.{Moment, Played}
use Rattle.sv_run.specs.Ends.{LanesRan}
use Rattle.sv_run.proofs.Running.{lanes-ran, none-held}
use Rattle.sv_run.proofs.closing.run_script.Goals as goal

pub returns-clause-ran : goal.returns-clause-ran
returns-clause-ran g c =
    let files = g.D.Dir.files c.args.dir.now in
    let before = g.D.Dir.faults c.args.dir.now in
    let now : Moment = record { books = c.play-replies.new.store.books; files = g.D.Dir.files c.play-replies.new.dir; faults = g.D.Dir.faults c.play-replies.new.dir } in
    let later = g.D.Dir.files c.close-closed.new.dir in
    let faults = g.D.Dir.faults c.close-closed.new.dir in
    let x = c.close-closed.ensures in
    let same : c.first.inside.0 ≡ c.args.first = omega (arith, c.first.view_is) in
    subst (λ (z : List LaneReport). LanesRan (record { files = files; later = later; before = before; now = faults }) c.args.script.now (record { books = c.close-closed.result.books; lanes = z; end = c.close-closed.result.end }))
    (sym c.one_lane.ensures)
    (lanes-ran c.args.script.now c.requires.well_formed c.args.first files c.requires.first before now c.play-replies.result
    (subst (λ (b : Books). Played (record { books = b; files = files; faults = before }) now c.args.script.now.lines c.play-replies.result)
    (ap (λ (z : StoreSeen). z.books) c.in_ok-store.ensures ∙ ap opening_books same)
    (subst (λ (lines : List Line). Played (record { books = c.in_ok-store.store.books; files = files; faults = before }) now lines c.play-replies.result) c.as_slice-lines.ensures c.play-replies.ensures))
    c.close-closed.result.books c.close-closed.result.end later faults
    (record { is = x.closed; closes = x.closes; ends = x.end; held = x.held; others = x.others; more = x.later; follows = x.follows }))

pub play-replies-requires-clause-told : goal.play-replies-requires-clause-told
play-replies-requires-clause-told g c =
    let told = is_some (g.D.Dir.files c.args.dir.now) in
    let same : c.first.inside.0 ≡ c.args.first = omega (arith, c.first.view_is) in
    let books = ap (λ (z : StoreSeen). z.books) c.in_ok-store.ensures ∙ ap opening_books same in
    let most : c.args.first ≤ 18446744073709551615 =
    subst (λ (b : Books). b.files.next ≤ 18446744073709551615) books c.laws.ensures.rests.stands.sound.lawful.numbers.most in
    subst (λ (b : Books). AloneTold (alone told) b []) (sym books) (alone-none (alone told) c.args.first (omega arith) c.requires.some most)

pub play-replies-requires-clause-held : goal.play-replies-requires-clause-held
play-replies-requires-clause-held g c =
    subst (λ (b : Books). IsHeld b (g.D.Dir.files c.args.dir.now)) (sym (ap (λ (z : StoreSeen). z.books) c.in_ok-store.ensures))
    (none-held c.first.inside.0 (g.D.Dir.files c.args.dir.now))
