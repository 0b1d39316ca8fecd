use Rattle.std.proofs.Common.{Option, ap, subst, arith}
use Rattle.std.specs.Prelude.{IfErr, IfOk}
use Rattle.sv_model.specs.Files.{Files}
use Rattle.sv_state.specs.Seen.{StateSeen}
use Rattle.sv_store.specs.HeldFiles.{IsHeld, LeavesOthers}
use Rattle.sv_store.specs.Scanning.{ScanStops, Scans}
use Rattle.sv_store.specs.Seen.{StoreSeen}
use Rattle.sv_store.proofs.FrameLaws.{files-rests}
use Rattle.sv_store.proofs.HeldScans.{scan-held}
use Rattle.sv_store.proofs.LeftScans.{scan-leaves}
use Rattle.sv_store.proofs.RemovalSteps.{dir_seen}
use Rattle.sv_store.proofs.ScanLaws.{free-of, scan-since, scan-still, stop-since}
use Rattle.sv_store.proofs.store.Store.scan.Goals as goal

pub invariant_of-self : goal.invariant_of-self
invariant_of-self g c =
    let k = c.remove_listed in
    let a = c.self.inside.state.books in
    files-rests a k.new.state.books c.self.inside.cells c.self.invariant k.ensures.follows.sound (ap (λ (z : StateSeen). z.books) k.ensures.rest)
    (scan-still a.files k.new.state.books.files
    (dir_seen (g.D.Dir.files c.list_numbers.new.dir) (g.D.Dir.files k.new.dir) (g.D.Dir.faults c.list_numbers.new.dir) (g.D.Dir.faults k.new.dir))
    c.self.invariant.still (λ v. v.items) k.result k.ensures.scanned k.ensures.stops)

pub returns-clause-scanned : goal.returns-clause-scanned
returns-clause-scanned g c =
    let k = c.remove_listed in
    let mid = g.D.Dir.faults c.list_numbers.new.dir in
    let last = g.D.Dir.files k.new.dir in
    let now = g.D.Dir.faults k.new.dir in
    subst (λ (z : StoreSeen). IfOk k.result (λ numbers. Scans z.books.files k.new.state.books.files (dir_seen (g.D.Dir.files c.args.dir.now) last (g.D.Dir.faults c.args.dir.now) now) numbers.items)) c.self.view_is
    (scan-since c.self.inside.state.books.files k.new.state.books.files (g.D.Dir.files c.args.dir.now) last (g.D.Dir.faults c.args.dir.now) mid now c.list_numbers.ensures.faults.later (λ v. v.items) k.result
    (subst (λ (f : Option Files). IfOk k.result (λ numbers. Scans c.self.inside.state.books.files k.new.state.books.files (dir_seen f last mid now) numbers.items)) c.list_numbers.ensures.same k.ensures.scanned))

pub returns-clause-stops : goal.returns-clause-stops
returns-clause-stops g c =
    let k = c.remove_listed in
    let mid = g.D.Dir.faults c.list_numbers.new.dir in
    let last = g.D.Dir.files k.new.dir in
    let now = g.D.Dir.faults k.new.dir in
    subst (λ (z : StoreSeen). IfErr k.result (ScanStops z.books.files k.new.state.books.files (dir_seen (g.D.Dir.files c.args.dir.now) last (g.D.Dir.faults c.args.dir.now) now))) c.self.view_is
    (stop-since c.self.inside.state.books.files k.new.state.books.files (g.D.Dir.files c.args.dir.now) last (g.D.Dir.faults c.args.dir.now) mid now c.list_numbers.ensures.faults.later
    (free-of c.self.inside.state.books.files (omega (arith, c.holds-holds.ensures, c.if-holds-gt0.false))) k.result
    (subst (λ (f : Option Files). IfErr k.result (ScanStops c.self.inside.state.books.files k.new.state.books.files (dir_seen f last mid now))) c.list_numbers.ensures.same k.ensures.stops))

pub returns-clause-held : goal.returns-clause-held
returns-clause-held g c =
    let k = c.remove_listed in
    let a = c.self.inside.state.books in
    let files = g.D.Dir.files c.args.dir.now in
    let last = g.D.Dir.files k.new.dir in
    subst (λ (z : StoreSeen). IsHeld z.books files → IsHeld k.new.state.books last) c.self.view_is
    (subst (λ (f : Option Files). IsHeld a f → IsHeld k.new.state.books last) c.list_numbers.ensures.same
    (scan-held a k.new.state.books c.self.invariant.stands.sound.lawful k.ensures.follows (g.D.Dir.files c.list_numbers.new.dir) last
    (g.D.Dir.faults c.list_numbers.new.dir) (g.D.Dir.faults k.new.dir) (λ v. v.items) k.result k.ensures.scanned k.ensures.stops))

pub returns-clause-others : goal.returns-clause-others
returns-clause-others g c =
    let k = c.remove_listed in
    let a = c.self.inside.state.books in
    let files = g.D.Dir.files c.args.dir.now in
    let last = g.D.Dir.files k.new.dir in
    subst (λ (z : StoreSeen). LeavesOthers z.books k.new.state.books files last) c.self.view_is
    (subst (λ (f : Option Files). LeavesOthers a k.new.state.books f last) c.list_numbers.ensures.same
    (scan-leaves a k.new.state.books (g.D.Dir.files c.list_numbers.new.dir) last
    (g.D.Dir.faults c.list_numbers.new.dir) (g.D.Dir.faults k.new.dir) (λ v. v.items) k.result k.ensures.scanned k.ensures.stops))
