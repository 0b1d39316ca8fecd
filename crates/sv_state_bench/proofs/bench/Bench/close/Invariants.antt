use Rattle.std.proofs.Common.{◌≡◌}
use Rattle.sv_state_bench.proofs.bench.Bench.close.Given as goal

-- no job is under way
abbrev pub invariant-loop-id : goal.invariant-loop-id
invariant-loop-id l = l.state.books.files.jobs ≡ 0

abbrev pub invariant-loop-number : goal.invariant-loop-number
invariant-loop-number l = l.state.books.files.jobs ≡ 0
