use Rattle.std.proofs.Common.{◌≡◌, ◌+◌, drop, length, map}
use Rattle.sv_script.specs.Progress.{finish}
use Rattle.sv_script.specs.Script.{script_of}
use Rattle.sv_script.proofs.ProgressLemmas.{line_words, pieces}
use Rattle.sv_script.proofs.parsing.reading.script_from.Given as goal

abbrev pub invariant-loop-line : goal.invariant-loop-line
invariant-loop-line l = record {
  numbered : l.read.number ≡ length l.yielded + 1;
  left : finish l.read (map line_words (drop (length l.yielded) (pieces l.bytes))) ≡ script_of l.bytes;
}
