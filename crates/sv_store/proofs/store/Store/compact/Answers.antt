-- The plan is refused, or the files of the family of the plan are merged.
use Rattle.std.proofs.Common.{inl, refl, sym, subst}
use Rattle.std.specs.Prelude.{IfErr, IfOk}
use Rattle.sv_laws.specs.Captures.{IsMergePlanned}
use Rattle.sv_state.specs.Follows.{Follows}
use Rattle.sv_state.specs.Planning.{compact_refusal}
use Rattle.sv_state.specs.Seen.{StateSeen}
use Rattle.sv_store.specs.Compacting.{CanMerge, CompactRefused, Compacts}
use Rattle.sv_store.specs.HeldFiles.{IsHeld, LeavesOthers}
use Rattle.sv_store.specs.Seen.{StoreSeen}
use Rattle.sv_store.proofs.AbsentFiles.{same-leaves}
use Rattle.sv_store.proofs.CompactionCalls.{compacted-as, stopped-as}
use Rattle.sv_store.proofs.FrameLaws.{own-currents}
use Rattle.sv_store.proofs.HeldCompactions.{compaction-held}
use Rattle.sv_store.proofs.LeftCompactions.{compaction-leaves}
use Rattle.sv_store.proofs.PlanFaults.{compact-told, counts-none}
use Rattle.sv_store.proofs.PlanLaws.{plan-made, plan-refused}
use Rattle.sv_store.proofs.StandLaws.{follows-through}
use Rattle.sv_store.proofs.WriteLaws.{seen_as}
use Rattle.sv_store.proofs.store.Store.compact.Goals as goal

pub compact_plan-requires-clause-current : goal.compact_plan-requires-clause-current
compact_plan-requires-clause-current g c = own-currents c.self.inside.state.books c.self.inside.cells c.self.invariant.stands 0 c.args.name.now

-- ---- the plan is refused

pub returns-in-Err-clause-refused : goal.returns-in-Err-clause-refused
returns-in-Err-clause-refused g c =
    let B = c.self.inside.state.books in
    let C = c.self.inside.cells in
    let M = c.compact_plan.new.self.books in
    let F = g.D.Dir.files c.args.dir.now in
    let name = c.args.name.now in
    let e = c.in-Err.refusal in
    subst (λ (z : StoreSeen). CompactRefused z (seen_as M C) F F name e) c.self.view_is
    (inl (record {
      due = plan-refused B name (compact_refusal B) (λ m file. IsMergePlanned B M m.family file) c.compact_plan.result c.compact_plan.ensures.planned e c.in-Err.is;
      same = λ i. seen_as (c.in-Err.ensures.kept i).books C;
      files = refl;
    }))

pub returns-in-Err-clause-faults : goal.returns-in-Err-clause-faults
returns-in-Err-clause-faults g c =
    let B = c.self.inside.state.books in
    let M = c.compact_plan.new.self.books in
    let name = c.args.name.now in
    let e = c.in-Err.refusal in
    counts-none e (g.D.Dir.faults c.args.dir.now)
    (compact-told B name e (plan-refused B name (compact_refusal B) (λ m file. IsMergePlanned B M m.family file) c.compact_plan.result c.compact_plan.ensures.planned e c.in-Err.is))

pub returns-in-Err-clause-held : goal.returns-in-Err-clause-held
returns-in-Err-clause-held g c =
    let F = g.D.Dir.files c.args.dir.now in
    subst (λ (z : StoreSeen). IsHeld z.books F → IsHeld c.compact_plan.new.self.books F) c.self.view_is
    (subst (λ (z : StateSeen). IsHeld c.self.inside.state.books F → IsHeld z.books F) (sym c.in-Err.ensures.kept) (λ held. held))

pub returns-in-Err-clause-others : goal.returns-in-Err-clause-others
returns-in-Err-clause-others g c =
    let B = c.self.inside.state.books in
    let F = g.D.Dir.files c.args.dir.now in
    subst (λ (z : StoreSeen). LeavesOthers z.books c.compact_plan.new.self.books F F) c.self.view_is
    (subst (λ (z : StateSeen). LeavesOthers B z.books F F) (sym c.in-Err.ensures.kept) (same-leaves B B (λ n has. has) F))

-- ---- the plan is made

pub merge_family-requires : goal.merge_family-requires
merge_family-requires g c =
    let B = c.self.inside.state.books in
    let M = c.compact_plan.new.self.books in
    let p = plan-made B c.args.name.now (compact_refusal B) (λ m file. IsMergePlanned B M m.family file) c.compact_plan.result c.compact_plan.ensures.planned c.in-Ok.file c.in-Ok.is in
    (B, p.0.family, record { rests = c.self.invariant; sound = c.compact_plan.ensures.follows.sound; planned = p.2 })

pub returns-clause-compacted : goal.returns-clause-compacted
returns-clause-compacted g c =
    let B = c.self.inside.state.books in
    let C = c.self.inside.cells in
    let M = c.compact_plan.new.self.books in
    let F = g.D.Dir.files c.args.dir.now in
    let G = g.D.Dir.files c.merge_family.new.dir in
    let name = c.args.name.now in
    let file = c.in-Ok.file in
    let r = c.merge_family.result in
    let p = plan-made B name (compact_refusal B) (λ m file. IsMergePlanned B M m.family file) c.compact_plan.result c.compact_plan.ensures.planned file c.in-Ok.is in
    let can : CanMerge B M C p.0.family file = record { rests = c.self.invariant; sound = c.compact_plan.ensures.follows.sound; planned = p.2 } in
    let t = c.merge_family.new.state.books in
    subst (λ (z : StoreSeen). IfOk r (Compacts z.books t F G name)) c.self.view_is
    (compacted-as (seen_as B C) (seen_as t c.merge_family.new.cells) F G name p.0 p.1 r (c.merge_family.ensures.merged B p.0.family can))

pub returns-clause-refused : goal.returns-clause-refused
returns-clause-refused g c =
    let B = c.self.inside.state.books in
    let C = c.self.inside.cells in
    let M = c.compact_plan.new.self.books in
    let F = g.D.Dir.files c.args.dir.now in
    let G = g.D.Dir.files c.merge_family.new.dir in
    let name = c.args.name.now in
    let file = c.in-Ok.file in
    let r = c.merge_family.result in
    let p = plan-made B name (compact_refusal B) (λ m file. IsMergePlanned B M m.family file) c.compact_plan.result c.compact_plan.ensures.planned file c.in-Ok.is in
    let can : CanMerge B M C p.0.family file = record { rests = c.self.invariant; sound = c.compact_plan.ensures.follows.sound; planned = p.2 } in
    let new = seen_as c.merge_family.new.state.books c.merge_family.new.cells in
    subst (λ (z : StoreSeen). IfErr r (CompactRefused z new F G name)) c.self.view_is
    (stopped-as (seen_as B C) new F G name p.0 p.1 r (c.merge_family.ensures.stopped B p.0.family can))

pub returns-clause-held : goal.returns-clause-held
returns-clause-held g c =
    let B = c.self.inside.state.books in
    let M = c.compact_plan.new.self.books in
    let F = g.D.Dir.files c.args.dir.now in
    let G = g.D.Dir.files c.merge_family.new.dir in
    let file = c.in-Ok.file in
    let p = plan-made B c.args.name.now (compact_refusal B) (λ m file. IsMergePlanned B M m.family file) c.compact_plan.result c.compact_plan.ensures.planned file c.in-Ok.is in
    let can : CanMerge B M c.self.inside.cells p.0.family file = record { rests = c.self.invariant; sound = c.compact_plan.ensures.follows.sound; planned = p.2 } in
    let t = c.merge_family.new.state.books in
    subst (λ (z : StoreSeen). IsHeld z.books F → IsHeld t G) c.self.view_is
    (compaction-held B t c.self.invariant.stands.sound F G p.0.family c.merge_family.result
    (c.merge_family.ensures.merged B p.0.family can) (c.merge_family.ensures.stopped B p.0.family can))

pub returns-clause-others : goal.returns-clause-others
returns-clause-others g c =
    let B = c.self.inside.state.books in
    let M = c.compact_plan.new.self.books in
    let F = g.D.Dir.files c.args.dir.now in
    let G = g.D.Dir.files c.merge_family.new.dir in
    let file = c.in-Ok.file in
    let p = plan-made B c.args.name.now (compact_refusal B) (λ m file. IsMergePlanned B M m.family file) c.compact_plan.result c.compact_plan.ensures.planned file c.in-Ok.is in
    let can : CanMerge B M c.self.inside.cells p.0.family file = record { rests = c.self.invariant; sound = c.compact_plan.ensures.follows.sound; planned = p.2 } in
    let t = c.merge_family.new.state.books in
    subst (λ (z : StoreSeen). LeavesOthers z.books t F G) c.self.view_is
    (compaction-leaves B t c.self.invariant.stands.sound F G p.0.family c.merge_family.result
    (c.merge_family.ensures.merged B p.0.family can) (c.merge_family.ensures.stopped B p.0.family can))

pub returns-clause-follows : goal.returns-clause-follows
returns-clause-follows g c =
    let t = c.merge_family.new.state.books in
    subst (λ (z : StoreSeen). Follows z.books t) c.self.view_is
    (follows-through c.self.inside.state.books c.compact_plan.new.self.books t c.compact_plan.ensures.follows c.merge_family.ensures.follows)
