-- What the loop has appended so far.
use Rattle.std.proofs.Common.{◌≡◌, ◌++◌, take, codes, flat_map}
use Rattle.sv_script.specs.Texts.{numbered}
use Rattle.sv_script.proofs.texts.pieces.push_files.Given as goal

abbrev pub invariant-loop-number : goal.invariant-loop-number
invariant-loop-number l =
    l.out.items ≡ l.initial.out.items ++ flat_map (numbered (codes " ")) (take l.number-index l.numbers)
