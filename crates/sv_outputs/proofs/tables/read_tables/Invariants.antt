-- The files so far were read, and the directory has the same files.
use Rattle.std.proofs.Common.{◌≡◌, ◌≤◌, take}
use Rattle.sv_outputs.specs.Reading.{AreRead}
use Rattle.sv_outputs.proofs.tables.read_tables.Given as goal

abbrev pub invariant-loop-file : goal.invariant-loop-file
invariant-loop-file g l = record {
  same : g.D.Dir.files l.dir ≡ g.D.Dir.files l.initial.dir;
  later : g.D.Dir.faults l.initial.dir ≤ g.D.Dir.faults l.dir;
  read : AreRead (g.D.Dir.files l.initial.dir) (take l.file-index l.files) l.tables.items;
}
