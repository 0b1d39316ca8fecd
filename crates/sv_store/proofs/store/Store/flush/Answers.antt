-- The plan is refused, or the family of the plan is flushed.
use Rattle.std.proofs.Common.{◌⊎◌, inl, refl, subst}
use Rattle.std.specs.Prelude.{IfErr, IfOk}
use Rattle.sv_state.specs.Planning.{IsFlushPlan, flush_refusal}
use Rattle.sv_store.specs.Flushing.{FlushRefused, Flushes, FlushesFamily, StopsAfter, StopsBefore}
use Rattle.sv_store.specs.HeldFiles.{IsHeld, LeavesOthers}
use Rattle.sv_store.specs.Seen.{StoreSeen}
use Rattle.sv_store.proofs.AbsentFiles.{same-leaves}
use Rattle.sv_store.proofs.FlushCalls.{flushed-as, stopped-as}
use Rattle.sv_store.proofs.FlushLaws.{planned-empties}
use Rattle.sv_store.proofs.FrameLaws.{own-currents}
use Rattle.sv_store.proofs.HeldFlushes.{flush-held}
use Rattle.sv_store.proofs.LeftFlushes.{flush-leaves}
use Rattle.sv_store.proofs.PlanFaults.{counts-none, flush-told}
use Rattle.sv_store.proofs.PlanLaws.{plan-made, plan-refused}
use Rattle.sv_store.proofs.WriteLaws.{seen_as}
use Rattle.sv_store.proofs.store.Store.flush.Goals as goal

pub flush_plan-requires-clause-current : goal.flush_plan-requires-clause-current
flush_plan-requires-clause-current g c = own-currents c.self.inside.state.books c.self.inside.cells c.self.invariant.stands 0 c.args.name.now

pub returns-in-Err-clause-refused : goal.returns-in-Err-clause-refused
returns-in-Err-clause-refused g c =
    let B = c.self.inside.state.books in
    let F = g.D.Dir.files c.args.dir.now in
    let e = c.in-Err.refusal in
    subst (λ (z : StoreSeen). FlushRefused z z F F c.args.name.now e) c.self.view_is
    (inl (record { due = plan-refused B c.args.name.now (flush_refusal B) (IsFlushPlan B) c.flush_plan.result c.flush_plan.ensures.planned e c.in-Err.is; same = refl; files = refl }))

pub returns-in-Err-clause-faults : goal.returns-in-Err-clause-faults
returns-in-Err-clause-faults g c =
    let B = c.self.inside.state.books in
    let n = g.D.Dir.faults c.args.dir.now in
    let e = c.in-Err.refusal in
    counts-none e n
    (flush-told B c.args.name.now e (plan-refused B c.args.name.now (flush_refusal B) (IsFlushPlan B) c.flush_plan.result c.flush_plan.ensures.planned e c.in-Err.is))

pub returns-in-Err-clause-held : goal.returns-in-Err-clause-held
returns-in-Err-clause-held g c =
    let F = g.D.Dir.files c.args.dir.now in
    subst (λ (z : StoreSeen). IsHeld z.books F → IsHeld z.books F) c.self.view_is (λ held. held)

pub returns-in-Err-clause-others : goal.returns-in-Err-clause-others
returns-in-Err-clause-others g c =
    let F = g.D.Dir.files c.args.dir.now in
    subst (λ (z : StoreSeen). LeavesOthers z.books z.books F F) c.self.view_is
    (same-leaves c.self.inside.state.books c.self.inside.state.books (λ n has. has) F)

pub flush_family-requires : goal.flush_family-requires
flush_family-requires g c =
    let B = c.self.inside.state.books in
    let p = plan-made B c.args.name.now (flush_refusal B) (IsFlushPlan B) c.flush_plan.result c.flush_plan.ensures.planned c.in-Ok.plan c.in-Ok.is in
    record {
      can = planned-empties B c.self.inside.cells c.self.invariant c.args.name.now p.0 p.1 c.in-Ok.plan p.2;
      still = c.self.invariant.still;
    }

pub returns-clause-flushed : goal.returns-clause-flushed
returns-clause-flushed g c =
    let s = c.self.inside.state in
    let t = c.flush_family.new.state in
    let F = g.D.Dir.files c.args.dir.now in
    let G = g.D.Dir.files c.flush_family.new.dir in
    let r = c.flush_family.result in
    let p = plan-made s.books c.args.name.now (flush_refusal s.books) (IsFlushPlan s.books) c.flush_plan.result c.flush_plan.ensures.planned c.in-Ok.plan c.in-Ok.is in
    subst (λ (z : StoreSeen). IfOk r (Flushes z.books t.books F G c.args.name.now)) c.self.view_is
    (flushed-as s t c.self.inside.cells c.flush_family.new.cells F G c.args.name.now p.0 p.1 r
    (subst (λ n. IfOk r (FlushesFamily s.books t.books F G n)) p.2.family_is c.flush_family.ensures.flushed))

pub returns-clause-refused : goal.returns-clause-refused
returns-clause-refused g c =
    let s = c.self.inside.state in
    let t = c.flush_family.new.state in
    let C = c.self.inside.cells in
    let D = c.flush_family.new.cells in
    let F = g.D.Dir.files c.args.dir.now in
    let G = g.D.Dir.files c.flush_family.new.dir in
    let r = c.flush_family.result in
    let p = plan-made s.books c.args.name.now (flush_refusal s.books) (IsFlushPlan s.books) c.flush_plan.result c.flush_plan.ensures.planned c.in-Ok.plan c.in-Ok.is in
    subst (λ (z : StoreSeen). IfErr r (FlushRefused z (seen_as t.books D) F G c.args.name.now)) c.self.view_is
    (stopped-as s t C D F G c.args.name.now p.0 p.1 r
    (subst (λ n. IfErr r (λ e. StopsBefore s t C D F G e ⊎ StopsAfter s.books t.books F G n e)) p.2.family_is c.flush_family.ensures.stopped))

pub returns-clause-held : goal.returns-clause-held
returns-clause-held g c =
    let s = c.self.inside.state in
    let t = c.flush_family.new.state in
    let F = g.D.Dir.files c.args.dir.now in
    let G = g.D.Dir.files c.flush_family.new.dir in
    subst (λ (z : StoreSeen). IsHeld z.books F → IsHeld t.books G) c.self.view_is
    (flush-held s t c.self.inside.cells c.flush_family.new.cells c.self.invariant.stands.sound F G c.in-Ok.plan.family
    c.flush_family.result c.flush_family.ensures.flushed c.flush_family.ensures.stopped)

pub returns-clause-others : goal.returns-clause-others
returns-clause-others g c =
    let s = c.self.inside.state in
    let t = c.flush_family.new.state in
    let F = g.D.Dir.files c.args.dir.now in
    let G = g.D.Dir.files c.flush_family.new.dir in
    subst (λ (z : StoreSeen). LeavesOthers z.books t.books F G) c.self.view_is
    (flush-leaves s t c.self.inside.cells c.flush_family.new.cells c.self.invariant.stands.sound F G c.in-Ok.plan.family
    c.flush_family.result c.flush_family.ensures.flushed c.flush_family.ensures.stopped)
