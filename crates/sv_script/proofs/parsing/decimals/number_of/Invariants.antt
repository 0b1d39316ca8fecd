use Rattle.std.proofs.Common.{◌≡◌, drop}
use Rattle.sv_script.proofs.NumberLemmas.{number_from}
use Rattle.sv_script.proofs.parsing.decimals.number_of.Given as goal

abbrev pub invariant-loop-byte : goal.invariant-loop-byte
invariant-loop-byte l = number_from l.value (drop l.byte-index l.word) ≡ number_from 0 l.word
