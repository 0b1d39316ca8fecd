use Rattle.std.proofs.Common.{◌<◌, length, sym, ap, ◌∙◌, arith}
use Rattle.std.specs.Ordering.{is_eq}
use Rattle.sv_table.specs.Reading.{kept_of}
use Rattle.sv_table.specs.Views.{header_is, entry_is}
use Rattle.sv_table.proofs.PlaceText.{row_at, past_all, found_row, missed_row}
use Rattle.sv_table.proofs.places.find_row.Goals as goal

pub returns-then-at-places : goal.returns-then-at-places
returns-then-at-places c = λ rows a o. past_all (header_is c.args.header.now) c.args.bytes.now c.args.places.now c.args.key.now c.args.cut c.ahead_of-at.result c.if-at-places.true rows a (c.ahead_of-at.ensures.parted rows a o)

pub row_of-row-requires : goal.row_of-row-requires
row_of-row-requires c = row_at (header_is c.args.header.now) c.args.bytes.now c.args.places.now c.ahead_of-at.result c.requires (omega (arith, c.ahead_of-at.ensures.bound, c.if-at-places.false))

pub returns-then-is_eq : goal.returns-then-is_eq
returns-then-is_eq c =
    let h = header_is c.args.header.now in
    let lt : c.ahead_of-at.result < length c.args.places.now = omega (arith, c.ahead_of-at.ensures.bound, c.if-at-places.false) in
    λ rows a o. found_row h c.args.bytes.now c.args.places.now c.args.key.now c.args.cut c.ahead_of-at.result lt (kept_of h (entry_is c.row_of-row.result)) c.row_of-row.ensures.row (ap is_eq (sym c.order_bytes.ensures) ∙ sym c.is_eq.ensures ∙ c.if-is_eq.true) rows a (c.ahead_of-at.ensures.parted rows a o)

pub returns-else-is_eq : goal.returns-else-is_eq
returns-else-is_eq c =
    let h = header_is c.args.header.now in
    let lt : c.ahead_of-at.result < length c.args.places.now = omega (arith, c.ahead_of-at.ensures.bound, c.if-at-places.false) in
    λ rows a o. missed_row h c.args.bytes.now c.args.places.now c.args.key.now c.args.cut c.ahead_of-at.result lt (kept_of h (entry_is c.row_of-row.result)) c.row_of-row.ensures.row (ap is_eq (sym c.order_bytes.ensures) ∙ sym c.is_eq.ensures ∙ c.if-is_eq.false) rows a o (c.ahead_of-at.ensures.parted rows a o)
