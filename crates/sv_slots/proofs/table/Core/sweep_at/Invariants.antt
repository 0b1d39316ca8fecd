use Rattle.sv_rule.specs.Blanks.{desk_of, old_in, taken_in}
use Rattle.sv_slots.proofs.table.Core.sweep_at.Given as goal

abbrev pub ghosts-sweep_step : goal.ghosts-sweep_step
ghosts-sweep_step g a =
    let d = desk_of a.seat.now.me.0 in
    record { desk = d; family = a.family; old = old_in d.work; lane = a.lane; taken = taken_in d.work }

abbrev pub ghosts-pass_step : goal.ghosts-pass_step
ghosts-pass_step g a =
    let d = desk_of a.seat.now.me.0 in
    record { desk = d; family = a.family; old = old_in d.work; lane = a.lane; taken = taken_in d.work }
