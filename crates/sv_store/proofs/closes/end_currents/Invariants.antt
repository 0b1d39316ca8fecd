use Rattle.sv_state.specs.Follows.{Follows}
use Rattle.sv_store.specs.Ending.{EndsCurrents}
use Rattle.sv_store.specs.Standing.{IsAlone}
use Rattle.sv_store.proofs.closes.end_currents.Given as goal

abbrev pub invariant-loop-index : goal.invariant-loop-index
invariant-loop-index l = IsAlone l.state.books × EndsCurrents l.fn.state.books l.state.books l.index × Follows l.fn.state.books l.state.books
