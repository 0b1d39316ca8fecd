use Rattle.std.proofs.Common.{◌∙◌, ◌<◌, ℕ, get_or, arith}
use Rattle.sv_table.proofs.OneField.{IsBytes}
use Rattle.sv_table.proofs.WordOrder.{first_decides, second_decides, lengths_decide}
use Rattle.sv_table.proofs.key_order.order_halves.Goals as goal

pub returns-then-x-y : goal.returns-then-x-y
returns-then-x-y c =
    let a = c.args.a.now in
    let b = c.args.b.now in
    let fits_a : IsBytes a = λ i. omega (arith, c.type_inv.a i) in
    let fits_b : IsBytes b = λ i. omega (arith, c.type_inv.b i) in
    c.cmp.ensures
    ∙ first_decides 4 c.args.both a b fits_a fits_b c.requires.least (omega (arith, c.requires.greatest)) (omega (arith, c.requires.shorter)) (omega (arith, c.requires.shorter))
    c.half_at-x.result c.half_at-y.result c.half_at-x.ensures c.half_at-y.ensures c.if-x-y.true

pub returns-then-z-w : goal.returns-then-z-w
returns-then-z-w c =
    let a = c.args.a.now in
    let b = c.args.b.now in
    let fits_a : IsBytes a = λ i. omega (arith, c.type_inv.a i) in
    let fits_b : IsBytes b = λ i. omega (arith, c.type_inv.b i) in
    c.cmp-then-z-w.ensures
    ∙ second_decides 4 c.args.both a b fits_a fits_b c.requires.least (omega (arith, c.requires.greatest)) (omega (arith, c.requires.shorter)) (omega (arith, c.requires.shorter))
    c.half_at-x.result c.half_at-y.result c.half_at-x.ensures c.half_at-y.ensures c.if-x-y.false c.half_at-z.result c.half_at-w.result c.half_at-z.ensures c.half_at-w.ensures c.if-z-w.true

pub returns : goal.returns
returns c =
    let a = c.args.a.now in
    let b = c.args.b.now in
    let fits_a : IsBytes a = λ i. omega (arith, c.type_inv.a i) in
    let fits_b : IsBytes b = λ i. omega (arith, c.type_inv.b i) in
    c.cmp-2.ensures
    ∙ lengths_decide 4 c.args.both a b fits_a fits_b c.requires.least (omega (arith, c.requires.greatest)) (omega (arith, c.requires.shorter)) (omega (arith, c.requires.shorter))
    c.half_at-x.result c.half_at-y.result c.half_at-x.ensures c.half_at-y.ensures c.if-x-y.false c.half_at-z.result c.half_at-w.result c.half_at-z.ensures c.half_at-w.ensures c.requires.shorter c.if-z-w.false
