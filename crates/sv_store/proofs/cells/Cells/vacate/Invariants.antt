use Rattle.std.proofs.Common.{take}
use Rattle.sv_store.specs.Cells.{Vacated}
use Rattle.sv_store.proofs.cells.Cells.vacate.Given as goal

abbrev pub invariant-loop-cell : goal.invariant-loop-cell
invariant-loop-cell l = Vacated (take l.cell-index l.gone) l.fn.self l.self
