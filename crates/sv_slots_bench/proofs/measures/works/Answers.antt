use Rattle.std.proofs.Common.{arith}
use Rattle.sv_slots.proofs.Rows.{every-before, every-last}
use Rattle.sv_slots.specs.Known.{table_of}
use Rattle.sv_slots_bench.proofs.Works.{fewer, ready_push}
use Rattle.sv_slots_tests.specs.Unused.{IsUnused}
use Rattle.sv_slots_bench.proofs.measures.works.Goals as goal

pub loop-seat-preserved : goal.loop-seat-preserved
loop-seat-preserved c =
    let inv = c.loop-seat.invariant in let l = c.pop.new.self.items in let all = c.loop-seat.seats.items in
    let x = c.in-Some.seat in let e = c.in-Some.ensures.items in let t = table_of c.args._core.now in
    let few = fewer l all x e inv.1 in (
      every-before (IsUnused t) l all x e inv.0,
      omega (arith, few),
      ready_push t c.loop-seat.works.items _ _ inv.2
          (record { unused = every-last (IsUnused t) l all x e inv.0; family = c.family_of-family.ensures })
          c.in_ok-push.ensures.items,
    )
