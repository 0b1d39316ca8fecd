use Rattle.std.proofs.Common.{◌≡◌, drop, map}
use Rattle.sv_script.specs.Commands.{named_by}
use Rattle.sv_script.proofs.parsing.verbs.named_by.Given as goal

abbrev pub invariant-loop-named : goal.invariant-loop-named
invariant-loop-named l =
    named_by (map (λ named. (named.0.now, named.1)) (drop l.named-index l.table)) l.word
    ≡ named_by (map (λ named. (named.0.now, named.1)) l.table) l.word
