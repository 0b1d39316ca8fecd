use Rattle.std.proofs.Common.{length, ◌<◌}
use Rattle.sv_borrows.proofs.Vacating.{IsVacating}
use Rattle.sv_model.specs.Lists.{Every}
use Rattle.sv_rule.specs.Held.{Free}
use Rattle.sv_slots.specs.Known.{IsSameSeat, view_of}
use Rattle.sv_borrows.proofs.cleanups.vacate_all.Given as goal

abbrev pub invariant-loop-number : goal.invariant-loop-number
invariant-loop-number g l =
    IsSameSeat l.initial.seat l.seat
    × Every (λ c. (c < 64) × Free l.held.books.memtables c) l.cells.items
    × IsVacating l.held.books (view_of l.initial.seat) l.cells.items (view_of l.seat)

abbrev pub decreases-loop-number : goal.decreases-loop-number
decreases-loop-number g l = length l.cells.items
