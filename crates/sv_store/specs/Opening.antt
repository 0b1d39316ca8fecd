-- The cells of the store that opens.
use Rattle.std.specs.Prelude.{List, Option, None, Some, replicate}
use Rattle.sv_model.specs.Cells.{Cell}
use Rattle.sv_store.specs.Cells.{filled}

-- the first memtable is in the first cell
abbrev pub opening_cells : List (Option Cell)
opening_cells = filled (replicate 64 None) (Some (0, 1))
