use Rattle.std.proofs.Common.{arith, rules}
use Rattle.sv_slots.proofs.Turns.{turned_once}
use Rattle.sv_slots.proofs.table.LaneSeat.bring.Goals as goal

pub loop-self-smaller : goal.loop-self-smaller
loop-self-smaller g c =
    let t = turned_once c.args.slot c.loop-self.self.out.items c.turn.new.self.out.items c.deref.result.now
    c.deref.ensures.0 c.turn.ensures.out c.loop-self.invariant.4 c.loop-self-test.true in omega arith

pub loop-self-preserved : goal.loop-self-preserved
loop-self-preserved g c =
    let t = turned_once c.args.slot c.loop-self.self.out.items c.turn.new.self.out.items c.deref.result.now
    c.deref.ensures.0 c.turn.ensures.out c.loop-self.invariant.4 c.loop-self-test.true in
    (search rules, search rules, search rules, search rules, omega arith)
