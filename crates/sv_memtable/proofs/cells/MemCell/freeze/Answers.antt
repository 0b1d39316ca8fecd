-- The copies are the frozen rows of the cell, so their numbers give its rows back.
use Rattle.std.proofs.Common.{List, sym, ap, subst, ◌∙◌}
use Rattle.sv_model.specs.declared.writes.Row.{Row}
use Rattle.sv_model.specs.Cells.{Cell}
use Rattle.sv_memtable.specs.Freezing.{IsFrozenOf}
use Rattle.sv_memtable.proofs.FrozenRows.{added_again}
use Rattle.sv_memtable.proofs.cells.MemCell.freeze.Goals as goal

pub of-requires : goal.of-requires
of-requires c =
    let copies = c.in_ok-rows.rows.items in
    let frozen : IsFrozenOf c.self.inside.rows.items copies = subst (λ (l : List Row). IsFrozenOf l copies) c.as_slice.ensures.value c.in_ok-rows.ensures in
    subst (λ (l : List Row). IsFrozenOf l copies) (sym (added_again c.self.inside.rows.items copies frozen)) frozen

pub returns : goal.returns
returns c =
    let copies = c.in_ok-rows.rows.items in
    let frozen : IsFrozenOf c.self.inside.rows.items copies = subst (λ (l : List Row). IsFrozenOf l copies) c.as_slice.ensures.value c.in_ok-rows.ensures in
    let cell : List Row → Cell = λ rows. record { id = c.self.inside.id; rows = rows } in
    c.of.ensures ∙ ap cell (added_again c.self.inside.rows.items copies frozen) ∙ c.self.view_is
