-- How many holders name an object.
use Rattle.std.specs.Prelude.{ℕ}
use Rattle.std.specs.Ordering.{nat_cmp}
use Rattle.std.specs.Option.{unwrap_or}
use Rattle.std.specs.BTreeMap as tree
use Rattle.sv_model.specs.declared.counts.Counts.{Counts}

abbrev pub count_of : Counts → ℕ → ℕ
count_of c n = unwrap_or (tree.get nat_cmp c.counts n) 0
