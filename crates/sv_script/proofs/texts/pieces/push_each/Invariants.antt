-- What the loop has appended so far.
use Rattle.std.proofs.Common.{◌≡◌, ◌++◌, take, flat_map}
use Rattle.sv_script.specs.Items.{byte_text}
use Rattle.sv_script.proofs.texts.pieces.push_each.Given as goal

abbrev pub invariant-loop-byte : goal.invariant-loop-byte
invariant-loop-byte l = l.out.items ≡ l.initial.out.items ++ flat_map byte_text (take l.byte-index l.bytes)
