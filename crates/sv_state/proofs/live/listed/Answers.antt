use Rattle.std.specs.BTreeSet.{keys}
use Rattle.std.proofs.lemmas.Map.Keys.{IsStrictlyIncreasing-from_sorted}
use Rattle.sv_state.proofs.live.listed.Goals as goal

pub returns-in_err-files-clause-rising : goal.returns-in_err-files-clause-rising
returns-in_err-files-clause-rising c = IsStrictlyIncreasing-from_sorted (keys c.args.numbers.now) c.iter.ensures.ordered

pub returns-clause-rising : goal.returns-clause-rising
returns-clause-rising c = IsStrictlyIncreasing-from_sorted (keys c.args.numbers.now) c.iter.ensures.ordered
