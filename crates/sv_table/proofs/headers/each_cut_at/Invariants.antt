use Rattle.std.proofs.Common.{◌≡◌, ◌-◌, length}
use Rattle.sv_table.specs.Reading.{each_cut_at}
use Rattle.sv_table.proofs.ItemLoops.{with_front}
use Rattle.sv_table.proofs.headers.each_cut_at.Given as goal

abbrev pub invariant-loop : goal.invariant-loop
invariant-loop l = record {
  counted : length l.cuts ≡ l.counter;
  read : with_front l.cuts (each_cut_at (l.count - l.counter) l.low l.to l.rest) ≡ each_cut_at l.count l.from l.to l.bytes;
}
