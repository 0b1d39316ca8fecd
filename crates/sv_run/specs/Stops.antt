-- Why a source was not read to its end.
use Rattle.std.specs.Prelude.{ℕ, List, Option}
use Rattle.sv_model.specs.Faults.{Rose}
use Rattle.sv_run.specs.Transfers.{IsLong}
use Rattle.sv_run.specs.declared.stops.ReadStop.{ReadStop}
use Rattle.sv_run.specs.declared.stops.ReadStop.TheVariants as stop

abbrev pub Stops : Option (List ℕ) → ℕ → ℕ → ReadStop → Type 0
Stops left before now stop.TooLong = IsLong left
Stops left before now stop.Fault = Rose before now
Stops left before now stop.OutOfMemory = Unit {0}
