use Rattle.std.proofs.Common.{◌+◌, ◌-◌, ◌/◌, ◌<◌, ◌≤◌, length, sym, ◌∙◌, arith}
use Rattle.sv_table.specs.Reading.{kept_of}
use Rattle.sv_table.specs.Views.{header_is, entry_is}
use Rattle.sv_table.proofs.PlaceText.{row_at, at_first, goes_up, goes_down}
use Rattle.sv_table.proofs.places.ahead_of.Goals as goal

pub loop-low-init : goal.loop-low-init
loop-low-init c = at_first (header_is c.args.header.now) c.args.bytes.now c.args.places.now c.args.key.now c.args.cut

pub row_of-row-requires : goal.row_of-row-requires
row_of-row-requires c =
    let middle = c.loop-low.low + (c.loop-low.high - c.loop-low.low) / 2 in
    let lt : middle < length c.args.places.now = omega (arith, c.loop-low.invariant.within, c.loop-low-test.true) in
    row_at (header_is c.args.header.now) c.args.bytes.now c.args.places.now middle c.requires lt

pub loop-low-preserved-then-is_ahead : goal.loop-low-preserved-then-is_ahead
loop-low-preserved-then-is_ahead c =
    let h = header_is c.args.header.now in
    let low = c.loop-low.low in
    let high = c.loop-low.high in
    let middle = low + (high - low) / 2 in
    let le : low ≤ middle = omega arith in
    let lt : middle < high = omega (arith, c.loop-low-test.true) in
    goes_up h c.args.bytes.now c.args.places.now c.args.key.now c.args.cut low high middle le lt c.loop-low.invariant (kept_of h (entry_is c.row_of-row.result)) c.row_of-row.ensures.row (sym c.is_ahead.ensures ∙ c.if-is_ahead.true)

pub loop-low-preserved : goal.loop-low-preserved
loop-low-preserved c =
    let h = header_is c.args.header.now in
    let low = c.loop-low.low in
    let high = c.loop-low.high in
    let middle = low + (high - low) / 2 in
    let le : low ≤ middle = omega arith in
    let lt : middle < high = omega (arith, c.loop-low-test.true) in
    goes_down h c.args.bytes.now c.args.places.now c.args.key.now c.args.cut low high middle le lt c.loop-low.invariant (kept_of h (entry_is c.row_of-row.result)) c.row_of-row.ensures.row (sym c.is_ahead.ensures ∙ c.if-is_ahead.false)
