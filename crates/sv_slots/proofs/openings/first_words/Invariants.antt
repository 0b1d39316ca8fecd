use Rattle.std.proofs.Common.{length, ◌≡◌}
use Rattle.sv_slots.proofs.Rows.{IsRow}
use Rattle.sv_slots.specs.Openings.{IsFirstWord}
use Rattle.sv_slots.proofs.openings.first_words.Given as goal

abbrev pub invariant-loop-index : goal.invariant-loop-index
invariant-loop-index l = (length l.words.items ≡ l.index) × IsRow (IsFirstWord l.families) l.words.items
