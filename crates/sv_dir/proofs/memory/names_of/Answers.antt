use Rattle.std.proofs.Common.{◌≡◌, map, ◌∙◌, rules}
use Rattle.std.specs.BTreeMap.{keys}
use Rattle.std.specs.Map.Iter.{deref}
use Rattle.std.proofs.lemmas.Map.Iter.{iter_end}
use Rattle.sv_dir.proofs.Held.{names_through}
use Rattle.sv_dir.proofs.memory.names_of.Goals as goal

pub returns-clause-names : goal.returns-clause-names
returns-clause-names c =
    let all : map deref c.loop-name.yielded ≡ keys c.args.files.now = search (rules, iter_end) in
    c.loop-name.invariant ∙ names_through c.loop-name.yielded (keys c.args.files.now) all
