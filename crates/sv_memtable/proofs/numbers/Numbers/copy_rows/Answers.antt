use Rattle.sv_memtable.proofs.CopiedRows.{yields}
use Rattle.sv_memtable.proofs.numbers.Numbers.copy_rows.Goals as goal

pub loop-number-preserved : goal.loop-number-preserved
loop-number-preserved c = yields c.args.rows.now c.copy_row.new.copies.items c.loop-number.copies.items c.copy_row-in-loop-number.new.copies.items c.loop-number.yielded c.in-Some.number c.in_ok-copy_row-2.ensures c.loop-number.invariant
