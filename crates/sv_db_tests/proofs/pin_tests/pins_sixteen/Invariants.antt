use Rattle.sv_db.specs.Locals.{IsLocal}
use Rattle.sv_slots.specs.Known.{table_of}
use Rattle.sv_db_tests.proofs.pin_tests.pins_sixteen.Given as goal

abbrev pub invariant-loop-number : goal.invariant-loop-number
invariant-loop-number g l = IsLocal (table_of l.db.core) l.db.lanes l.first.lane l.first.handles l.first.pins l.first.seat
