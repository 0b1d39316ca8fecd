-- The rows of one more memtable, numbered on.
use Rattle.std.proofs.Common.{◌≡◌, ◌+◌, ◌<◌, ◌^◌, ◌++◌, ℕ, List, length, map, take, sym, ap, subst, arith}
use Rattle.std.specs.Arc.{arc_value}
use Rattle.std.specs.List.Sorted.{IsPermutation}
use Rattle.sv_model.specs.declared.writes.Numbered.{Numbered}
use Rattle.sv_model.specs.Cells.{Cell}
use Rattle.sv_model.specs.Flat.{numbered_after}
use Rattle.sv_outputs.specs.Flushing.{moved_on, rows_in}
use Rattle.sv_outputs.proofs.NumberedRows.{frozen_fits, next_fits, next_rows, so_far_fits}
use Rattle.sv_outputs.proofs.numbering.all_rows.Goals as goal

pub overflow_add-before : goal.overflow_add-before
overflow_add-before c =
    let l = c.loop-member in
    let count : c.len.result ≡ length l.rows.items = omega (arith, c.len.ensures, l.rows.ok.0) in
    let fits = so_far_fits c.args.frozen.now c.args.from l.member-index l.rows.items c.requires l.invariant in
    omega arith

pub append_rows-requires : goal.append_rows-requires
append_rows-requires c =
    let l = c.loop-member in
    let f = c.member-item.result in
    let count : c.len.result ≡ length l.rows.items = omega (arith, c.len.ensures, l.rows.ok.0) in
    let rows : length c.deref.result.now.rows ≡ length (arc_value f.1).rows = ap (λ (x : Cell). length x.rows) c.deref.ensures in
    let fits = next_fits c.args.frozen.now c.args.from l.member-index f l.rows.items c.requires c.loop-member-test.true c.member-item.is l.invariant in
    let few : (c.args.from + c.len.result) + length c.deref.result.now.rows < 2 ^ 64 = omega arith in
    frozen_fits (c.args.from + c.len.result) c.deref.result.now.rows c.rows.result.now few c.rows.ensures.all

pub loop-member-preserved : goal.loop-member-preserved
loop-member-preserved c =
    let l = c.loop-member in
    let f = c.member-item.result in
    let fs = c.args.frozen.now in
    let from = c.args.from in
    let frozen = c.rows.result.now in
    let count : c.len.result ≡ length l.rows.items = omega (arith, c.len.ensures, l.rows.ok.0) in
    let all : IsPermutation (numbered_after 0 (arc_value f.1).rows) frozen = subst (λ (x : Cell). IsPermutation (numbered_after 0 x.rows) frozen) c.deref.ensures c.rows.ensures.all in
    let next = next_rows fs from l.member-index f l.rows.items frozen c.loop-member-test.true c.member-item.is l.invariant all in
    let here = subst (λ (n : ℕ). IsPermutation (numbered_after from (rows_in (take (l.member-index + 1) fs))) (l.rows.items ++ map (moved_on (from + n)) frozen)) (sym count) next in
    subst (λ (x : List Numbered). IsPermutation (numbered_after from (rows_in (take (l.member-index + 1) fs))) x) (sym c.in_ok-append_rows.ensures) here
