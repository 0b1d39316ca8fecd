use Rattle.std.proofs.Common.{◌≡◌, ◌++◌}
use Rattle.std.specs.BTreeMap.{values}
use Rattle.std.specs.List.{All, AllByRecursion}
use Rattle.sv_memtable.proofs.IndexLaws.{IsOfRow}
use Rattle.sv_memtable.proofs.CopiedRows.{copies_of}
use Rattle.sv_memtable.proofs.cells.numbered_rows.Given as goal

abbrev pub invariant-loop-numbers : goal.invariant-loop-numbers
invariant-loop-numbers l = record {
  so_far : l.copies.items ++ copies_of l.rows l.numbers-iterator ≡ copies_of l.rows (values l.index);
  of_rows : AllByRecursion (All (IsOfRow l.rows)) l.numbers-iterator;
}
