use Rattle.std.proofs.Common.{ap, arith, sym, ◌∙◌}
use lib.ListN.{get_elem?}
use Rattle.sv_slots.proofs.Ends.{finds_dir, finds_end, finds_state}
use Rattle.sv_slots.proofs.table.Core.end.Goals as goal

pub take_next-requires : goal.take_next-requires
take_next-requires g c =
    let k = c.close_with-closed.ensures in
    record {
      first = (
        omega (arith, k.counts.1, c.args.self.sized.slots),
        record { there = k.values.1; taken = λ i l. absurd (omega (arith, l)) },
      );
    }

pub unreachable-requires : goal.unreachable-requires
unreachable-requires g c =
    let t = finds_state g.P.Parts.books g.P.Parts.disk g.P.Parts.cell g.P.Parts.body _ c.args.seat.seat.me.0 _ _
    c.close_with-closed.ensures.values.2 c.requires.last.0 c.take_next.result c.take_next.ensures.value in
    c.in_default.not-State t.0 t.1

pub unreachable-requires-in_default-take_next : goal.unreachable-requires-in_default-take_next
unreachable-requires-in_default-take_next g c =
    let at = ap (λ z. get_elem? z 1) (sym c.take_next.ensures.same.0) ∙ c.take_next-2.ensures.value in
    let t = finds_dir g.P.Parts.books g.P.Parts.disk g.P.Parts.cell g.P.Parts.body _ c.args.seat.seat.me.0 _ _
    c.close_with-closed.ensures.values.2 c.requires.last.0 c.take_next-2.result at in
    c.in_default-take_next.not-Dir t.0 t.1

pub returns : goal.returns
returns g c =
    let at = ap (λ z. get_elem? z 1) (sym c.take_next.ensures.same.0) ∙ c.take_next-2.ensures.value in
    finds_end g.P.Parts.books g.P.Parts.disk g.P.Parts.cell g.P.Parts.body _ c.args.seat.seat.me.0 _ _
    c.close_with-closed.ensures.values.2 c.requires.last.0 c.requires.last.1 c.take_next.result c.take_next-2.result
    c.in-State.state c.in-Dir.dir c.take_next.ensures.value at c.in-State.is c.in-Dir.is
