use Rattle.std.proofs.Common.{◌≡◌}
use Rattle.sv_model.specs.TableTextFields.{Seen}
use Rattle.sv_table.specs.Lookups.{found_in}
use Rattle.sv_table.specs.Reading.{entries_in}
use Rattle.sv_table.specs.Views.{header_is, shape_is}
use Rattle.sv_table.proofs.OneField.{IsBytes}
use Rattle.sv_table.proofs.ItemLoops.{Succeeds, rest_at}
use Rattle.sv_table.proofs.lookups.find_row.Given as goal

abbrev pub invariant-loop-i : goal.invariant-loop-i
invariant-loop-i l =
    let seen : Seen = record { first = l.seen.0.now; key = l.seen.1.0.now; number = l.seen.1.1.0; deleted = l.seen.1.1.1.0 } in
    let rest = rest_at (shape_is l.shape) l.count l.i seen l.rest in
    record {
      stands : Succeeds rest;
      fits : IsBytes l.rest;
      found : found_in (header_is l.header) l.key l.cut rest ≡ found_in (header_is l.header) l.key l.cut (entries_in (header_is l.header) l.bytes);
    }
