use Rattle.std.proofs.Common.{◌≡◌, ◌++◌, length, take}
use Rattle.std.specs.List.{flat_map, All}
use Rattle.sv_model.specs.TableText.{header_text, kept_text, IsStored}
use Rattle.sv_table.specs.Views.{format_is}
use Rattle.sv_table.proofs.encoding.encode.Given as goal

abbrev pub invariant-loop-kept : goal.invariant-loop-kept
invariant-loop-kept l = record {
  written : l.out.items ≡ header_text (format_is l.format) l.table.from l.table.to l.table.bottom (length l.table.rows) ++ flat_map (kept_text (format_is l.format) l.cuts) (take l.kept-index l.table.rows);
  stored : All (λ r. IsStored r.row) (take l.kept-index l.table.rows);
}
