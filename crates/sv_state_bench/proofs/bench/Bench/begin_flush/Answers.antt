use Rattle.std.proofs.Common.{◌≡◌, ℕ, Some, None, sym, subst}
use Rattle.std.specs.Prelude.{slice_get}
use Rattle.sv_laws.specs.NewCurrents.{IsSwitched}
use Rattle.sv_state.specs.Planning.{IsFlushPlan, flush_refusal}
use Rattle.sv_state.specs.Seen.{StateSeen}
use Rattle.sv_state_bench.proofs.Standings.{own-currents}
use Rattle.sv_state_bench.proofs.Writings.{clear, idle, may-begin-next}
use Rattle.sv_state_bench.proofs.bench.Bench.begin_flush.Goals as goal

pub flush_plan-requires-clause-current : goal.flush_plan-requires-clause-current
flush_plan-requires-clause-current c =
    let i = c.self.inside in
    own-currents i.state.books i.actives.items i.outputs.items i.waiting.items c.self.invariant c.args.lane c.args.name.now

pub capture-file-requires : goal.capture-file-requires
capture-file-requires c =
    let a = c.self.inside.state.books in
    let k = c.in_ok-plan in
    let s = c.self.invariant.sound in
    let p = clear a c.args.lane c.args.name.now (flush_refusal a) (IsFlushPlan a) k.plan k.ensures.planned in
    let free = subst (λ (f : ℕ). slice_get a.files.captured f ≡ Some None) (sym p.is.family_is) (idle a s c.args.lane c.args.name.now k.plan p) in
    let b = c.switch.new.self.books in
    let w = subst (λ (z : StateSeen). IsSwitched z.books b k.plan.family) (sym c.self.view_is) c.in_ok-switch.ensures.switched in
    may-begin-next a b s k.plan.family w free
