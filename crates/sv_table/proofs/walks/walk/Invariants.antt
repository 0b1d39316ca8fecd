use Rattle.std.proofs.Common.{◌≡◌}
use Rattle.sv_model.specs.TableTextFields.{Seen, start}
use Rattle.sv_table.specs.Lookups.{hit_op, found_in, found_then}
use Rattle.sv_table.specs.Reading.{walked, entries_in}
use Rattle.sv_table.specs.Views.{header_is, shape_is}
use Rattle.sv_table.proofs.OneField.{IsBytes}
use Rattle.sv_table.proofs.ItemLoops.{Succeeds, rest_at}
use Rattle.sv_table.proofs.walks.walk.Given as goal

abbrev pub invariant-loop-i : goal.invariant-loop-i
invariant-loop-i l =
    let seen : Seen = record { first = l.seen.0.now; key = l.seen.1.0.now; number = l.seen.1.1.0; deleted = l.seen.1.1.1.0 } in
    let h = header_is l.header in
    let rest = rest_at (shape_is l.shape) l.count l.i seen l.rest in
    let all = entries_in h l.bytes in
    record {
      fits : IsBytes l.rest;
      walks : walked seen rest ≡ walked start all;
      first : Succeeds rest → found_then (hit_op l.found) (found_in h l.key l.cut rest) ≡ found_in h l.key l.cut all;
    }
