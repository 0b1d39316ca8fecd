-- No file after those that are left has a row of the key at or below the cut.
use Rattle.std.proofs.Common.{◌≡◌, ◌≤◌, ◌++◌, List, None, length}
use Rattle.sv_model.specs.declared.records.FileMeta.{FileMeta}
use Rattle.sv_model.specs.Lists.{Every}
use Rattle.sv_reads.specs.OneFile.{FileTells}
use Rattle.sv_reads.proofs.files.find_back.Given as goal

abbrev pub invariant-loop-left : goal.invariant-loop-left
invariant-loop-left g l = record {
  newer : List FileMeta;
  stands : l.files ≡ l.left ++ newer;
  passed : Every (FileTells (g.D.Dir.files l.initial.dir) l.key l.cut None) newer;
  same : g.D.Dir.files l.dir ≡ g.D.Dir.files l.initial.dir;
  later : g.D.Dir.faults l.initial.dir ≤ g.D.Dir.faults l.dir;
}

abbrev pub decreases-loop-left : goal.decreases-loop-left
decreases-loop-left g l = length l.left
