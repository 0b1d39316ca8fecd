use Rattle.std.proofs.Common.{◌∷◌, ◌++◌, [], length, slice_set, sym, ap, ◌∙◌, subst, arith}
use Rattle.std.proofs.lemmas.List.{length-map}
use Rattle.sv_model.specs.Cells.{Cell}
use Rattle.sv_model.specs.Journal.{borne_by, row_of}
use Rattle.sv_state.specs.Seen.{StateSeen}
use Rattle.sv_state.specs.Writing.{CanWrite, write_of}
use Rattle.sv_state_bench.specs.Standing.{cell_of}
use Rattle.sv_state_bench.proofs.Standings.{indexed, written-stands}
use Rattle.sv_state_bench.proofs.bench.Bench.append.Goals as goal

pub add-requires : goal.add-requires
add-requires c =
    let i = c.self.inside in
    let can = subst (λ (s : StateSeen). CanWrite s c.args.lane c.args.family) (sym c.self.view_is) c.requires in
    let m = can.it.descriptor.active in
    let at = c.self.invariant.actives_are c.args.family can.serial can.it can.is_open.current in
    let cell = indexed i.actives.items c.family.inside.0 c.args.family (cell_of i.state.books.journal m) c.index_mut-active.result.now c.family.view_is at c.index_mut-active.ensures.value in
    omega (arith, ap (λ (z : Cell). length z.rows) cell, length-map (borne_by m i.state.books.journal) row_of, can.few_rows)

pub invariant_of-self-2 : goal.invariant_of-self-2
invariant_of-self-2 c =
    let i = c.self.inside in
    let a = i.state.books in
    let can = subst (λ (s : StateSeen). CanWrite s c.args.lane c.args.family) (sym c.self.view_is) c.requires in
    let m = can.it.descriptor.active in
    let at = c.self.invariant.actives_are c.args.family can.serial can.it can.is_open.current in
    let cell = indexed i.actives.items c.family.inside.0 c.args.family (cell_of a.journal m) c.index_mut-active.result.now c.family.view_is at c.index_mut-active.ensures.value in
    let new = c.in_ok-add.ensures.ok ∙ ap (λ (z : Cell). record { id = z.id; rows = z.rows ++ record { key = c.args.row.key; op = c.args.row.op } ∷ [] }) cell in
    written-stands a c.write_done.new.self.books i.actives.items i.outputs.items i.waiting.items c.self.invariant c.write_done.ensures.follows.sound c.args.family
    (write_of c.args.lane c.args.family m c.args.row) (c.write_done.ensures.written can) _ (λ j. slice_set i.actives.items (c.family.view_is j) (new j))
