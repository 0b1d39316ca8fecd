use Rattle.std.proofs.Common.{length, ap, ◌∙◌, subst}
use Rattle.sv_state.specs.Follows.{Follows}
use Rattle.sv_state.specs.Seen.{StateSeen}
use Rattle.sv_store.specs.Closing.{Closes, ClosesFiles}
use Rattle.sv_store.specs.HeldFiles.{IsHeld, LeavesOthers}
use Rattle.sv_store.specs.Seen.{StoreSeen}
use Rattle.sv_store.proofs.ClosedStore.{can-close, can-remove, closed-books, closes-books, closes-files, rested}
use Rattle.sv_store.proofs.HeldCloses.{close-held, close-leaves}
use Rattle.sv_store.proofs.RemovalSteps.{dir_seen}
use Rattle.sv_store.proofs.RemovedFiles.{go-told}
use Rattle.sv_store.proofs.StandLaws.{follows-through}
use Rattle.sv_store.proofs.store.Store.close.Goals as goal

pub end_currents-requires : goal.end_currents-requires
end_currents-requires g c =
    let a = c.self.inside.state.books in
    let b = c.end_snapshots.new.state.books in
    let rest = rested a c.end_holds.new.self.books b (ap (λ (z : StateSeen). z.books) c.end_holds.ensures.rest) c.end_holds.ensures.ended c.end_snapshots.ensures.ended in
    can-close a b c.self.inside.cells c.self.invariant rest

pub remove_obsolete-end-requires : goal.remove_obsolete-end-requires
remove_obsolete-end-requires g c =
    let a = c.self.inside.state.books in
    let b = c.end_snapshots.new.state.books in
    let rest = rested a c.end_holds.new.self.books b (ap (λ (z : StateSeen). z.books) c.end_holds.ensures.rest) c.end_holds.ensures.ended c.end_snapshots.ensures.ended in
    can-remove a b c.self.inside.cells c.self.invariant rest c.end_currents.new.state.books c.end_currents.ensures.ends

pub returns-clause-closed : goal.returns-clause-closed
returns-clause-closed g c =
    let a = c.self.inside.state.books in
    let b = c.end_snapshots.new.state.books in
    let rest = rested a c.end_holds.new.self.books b (ap (λ (z : StateSeen). z.books) c.end_holds.ensures.rest) c.end_holds.ensures.ended c.end_snapshots.ensures.ended in
    let m = c.end_currents.new.state.books in
    let k = c.end_currents.ensures in
    let n = c.remove_obsolete-end.new.state.books in
    let o = c.remove_obsolete-end.ensures in
    let d = dir_seen (g.D.Dir.files c.args.dir.now) (g.D.Dir.files c.remove_obsolete-end.new.dir) (g.D.Dir.faults c.args.dir.now) (g.D.Dir.faults c.remove_obsolete-end.new.dir) in
    closed-books a b c.self.inside.cells c.self.invariant rest m k.ends k.follows.sound k.follows k.alone c.end_snapshots.ensures.none
    n d (ap (λ (z : StateSeen). z.books) o.rest) o.follows.sound o.removes

pub returns-clause-closes : goal.returns-clause-closes
returns-clause-closes g c =
    let a = c.self.inside.state.books in
    let b = c.end_snapshots.new.state.books in
    let rest = rested a c.end_holds.new.self.books b (ap (λ (z : StateSeen). z.books) c.end_holds.ensures.rest) c.end_holds.ensures.ended c.end_snapshots.ensures.ended in
    let m = c.end_currents.new.state.books in
    let k = c.end_currents.ensures in
    let n = c.remove_obsolete-end.new.state.books in
    let o = c.remove_obsolete-end.ensures in
    let d = dir_seen (g.D.Dir.files c.args.dir.now) (g.D.Dir.files c.remove_obsolete-end.new.dir) (g.D.Dir.faults c.args.dir.now) (g.D.Dir.faults c.remove_obsolete-end.new.dir) in
    let taken = c.end_snapshots.ensures.ended.taken ∙ ap (λ (z : StateSeen). length z.books.snapshots) c.end_holds.ensures.rest in
    subst (λ (z : StoreSeen). Closes z.books n) c.self.view_is
    (closes-books a b c.self.inside.cells c.self.invariant rest m k.ends k.follows.sound k.follows k.alone c.end_snapshots.ensures.none
    n d (ap (λ (z : StateSeen). z.books) o.rest) o.follows.sound o.removes taken)

pub returns-clause-files : goal.returns-clause-files
returns-clause-files g c =
    let a = c.self.inside.state.books in
    let b = c.end_snapshots.new.state.books in
    let rest = rested a c.end_holds.new.self.books b (ap (λ (z : StateSeen). z.books) c.end_holds.ensures.rest) c.end_holds.ensures.ended c.end_snapshots.ensures.ended in
    let m = c.end_currents.new.state.books in
    let k = c.end_currents.ensures in
    let n = c.remove_obsolete-end.new.state.books in
    let o = c.remove_obsolete-end.ensures in
    let d = dir_seen (g.D.Dir.files c.args.dir.now) (g.D.Dir.files c.remove_obsolete-end.new.dir) (g.D.Dir.faults c.args.dir.now) (g.D.Dir.faults c.remove_obsolete-end.new.dir) in
    subst (λ (z : StoreSeen). ClosesFiles z.books.files n.files d) c.self.view_is
    (closes-files a b c.self.inside.cells c.self.invariant rest m k.ends k.follows.sound k.follows k.alone c.end_snapshots.ensures.none
    n d (ap (λ (z : StateSeen). z.books) o.rest) o.follows.sound o.removes)

pub returns-clause-held : goal.returns-clause-held
returns-clause-held g c =
    let a = c.self.inside.state.books in
    let x = c.end_holds.new.self.books in
    let b = c.end_snapshots.new.state.books in
    let rest = rested a x b (ap (λ (z : StateSeen). z.books) c.end_holds.ensures.rest) c.end_holds.ensures.ended c.end_snapshots.ensures.ended in
    let m = c.end_currents.new.state.books in
    let k = c.end_currents.ensures in
    let n = c.remove_obsolete-end.new.state.books in
    let o = c.remove_obsolete-end.ensures in
    let F = g.D.Dir.files c.args.dir.now in
    let G = g.D.Dir.files c.remove_obsolete-end.new.dir in
    let first = follows-through a x m c.end_holds.ensures.follows (follows-through x b m c.end_snapshots.ensures.follows k.follows) in
    subst (λ (z : StoreSeen). IsHeld z.books F → IsHeld n G) c.self.view_is
    (close-held a b rest m k.ends c.self.invariant.stands.sound first n o.follows F G
    (g.D.Dir.faults c.args.dir.now) (g.D.Dir.faults c.remove_obsolete-end.new.dir) o.removes)

pub returns-clause-others : goal.returns-clause-others
returns-clause-others g c =
    let a = c.self.inside.state.books in
    let x = c.end_holds.new.self.books in
    let b = c.end_snapshots.new.state.books in
    let rest = rested a x b (ap (λ (z : StateSeen). z.books) c.end_holds.ensures.rest) c.end_holds.ensures.ended c.end_snapshots.ensures.ended in
    let m = c.end_currents.new.state.books in
    let k = c.end_currents.ensures in
    let n = c.remove_obsolete-end.new.state.books in
    let o = c.remove_obsolete-end.ensures in
    let F = g.D.Dir.files c.args.dir.now in
    let G = g.D.Dir.files c.remove_obsolete-end.new.dir in
    let first = follows-through a x m c.end_holds.ensures.follows (follows-through x b m c.end_snapshots.ensures.follows k.follows) in
    subst (λ (z : StoreSeen). LeavesOthers z.books n F G) c.self.view_is
    (close-leaves a b rest m k.ends c.self.invariant.stands.sound first n o.follows F G
    (g.D.Dir.faults c.args.dir.now) (g.D.Dir.faults c.remove_obsolete-end.new.dir) o.removes)

pub returns-clause-told : goal.returns-clause-told
returns-clause-told g c =
    go-told _ _ (g.D.Dir.files c.args.dir.now) (g.D.Dir.files c.remove_obsolete-end.new.dir) c.remove_obsolete-end.ensures.removes.files

pub returns-clause-follows : goal.returns-clause-follows
returns-clause-follows g c =
    let a = c.self.inside.state.books in
    let x = c.end_holds.new.self.books in
    let b = c.end_snapshots.new.state.books in
    let m = c.end_currents.new.state.books in
    let n = c.remove_obsolete-end.new.state.books in
    subst (λ (z : StoreSeen). Follows z.books n) c.self.view_is
    (follows-through a x n c.end_holds.ensures.follows
    (follows-through x b n c.end_snapshots.ensures.follows
    (follows-through b m n c.end_currents.ensures.follows c.remove_obsolete-end.ensures.follows)))
