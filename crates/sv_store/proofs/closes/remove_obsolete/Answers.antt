use Rattle.std.proofs.Common.{sym, subst}
use Rattle.sv_model.specs.declared.reports.End.{End}
use Rattle.sv_model.specs.Summaries.{obsolete_of}
use Rattle.sv_store.specs.Closing.{EndsAs}
use Rattle.sv_model.specs.Numbers.{AreInOrder, IsReady}
use Rattle.sv_store.proofs.LeftNumbers.{none-removed, short-ends, tried-ends, tried-removes}
use Rattle.sv_store.proofs.RemovalSteps.{dir_seen}
use Rattle.sv_store.proofs.closes.remove_obsolete.Goals as goal

pub returns-in-Err-clause-removes : goal.returns-in-Err-clause-removes
returns-in-Err-clause-removes g c = none-removed c.args.state.now.books.files (g.D.Dir.files c.args.dir.now) (g.D.Dir.faults c.args.dir.now)

pub returns-in-Err-clause-end : goal.returns-in-Err-clause-end
returns-in-Err-clause-end g c = short-ends c.args.state.now.books.files c.in-Err.field-0 c.in-Err.ensures.none c.requires.free

pub returns-clause-removes : goal.returns-clause-removes
returns-clause-removes g c =
    let k = c.remove_each-refused in
    let a = c.args.state.now.books in
    let d = dir_seen (g.D.Dir.files c.args.dir.now) (g.D.Dir.files k.new.dir) (g.D.Dir.faults c.args.dir.now) (g.D.Dir.faults k.new.dir) in
    tried-removes a.files k.new.state.books.files d c.as_slice.result.now (subst (AreInOrder (IsReady a.files)) (sym c.as_slice.ensures.value) c.in-Ok.ensures.ready)
    c.requires.still c.laws.ensures.sound.lawful.numbers k.ensures.follows.sound.lawful.numbers.once k.result k.ensures.all k.ensures.some

pub returns-clause-end : goal.returns-clause-end
returns-clause-end g c =
    let k = c.remove_each-refused in
    let a = c.args.state.now.books in
    let d = dir_seen (g.D.Dir.files c.args.dir.now) (g.D.Dir.files k.new.dir) (g.D.Dir.faults c.args.dir.now) (g.D.Dir.faults k.new.dir) in
    let e = tried-ends a.files k.new.state.books.files d c.as_slice.result.now (subst (AreInOrder (IsReady a.files)) (sym c.as_slice.ensures.value) c.in-Ok.ensures.ready)
    c.requires.still c.laws.ensures.sound.lawful.numbers k.ensures.follows.sound.lawful.numbers.once k.result k.ensures.all k.ensures.some in
    subst (λ (z : End). EndsAs z (obsolete_of k.new.state.books.files.numbers) (g.D.Dir.faults c.args.dir.now) (g.D.Dir.faults k.new.dir)) (sym c.end_after.ensures) e
