use Rattle.std.proofs.Common.{◌+◌, ◌≤◌, ◌++◌, ℕ, List, drop}
use Rattle.arrayvec.specs.ArrayVec.{array_vec_len}
use Rattle.sv_model.specs.declared.records.Memtable.{Memtable}
use Rattle.sv_model.specs.Lists.{bit, total}
use Rattle.sv_model.specs.Named.{NamedMemtable}
use Rattle.sv_laws.specs.Midst.{Midst}
use Rattle.sv_objects.specs.Cleanups.{AreApart}
use Rattle.sv_objects.proofs.cleanup.sweep.Given as goal

abbrev pub invariant-loop-mem : goal.invariant-loop-mem
invariant-loop-mem l = record {
  midst : (all : List Memtable) (left : List ℕ) → AreApart all → Midst (NamedMemtable l.supers l.lists) all l.fn.memtables (l.mems ++ left) l.fn.cells.items → Midst (NamedMemtable l.supers l.lists) all l.memtables (drop l.mem-index l.mems ++ left) l.cells.items;
  room : array_vec_len l.cells + total (λ m. bit m.live) l.memtables ≤ 64;
}
