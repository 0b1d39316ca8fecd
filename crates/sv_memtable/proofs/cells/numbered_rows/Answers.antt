-- Each turn copies the rows of one key, so at the end there is a copy of each row.
use Rattle.std.proofs.Common.{◌≡◌, ◌++◌, List, ℕ, sym, ap, subst, ◌∙◌}
use Rattle.std.specs.BTreeMap.{values}
use Rattle.std.specs.List.{All, AllByRecursion}
use Rattle.std.specs.Map.Iter.{deref}
use Rattle.std.proofs.lemmas.Map.Iter.{rest_more, rest_all}
use Rattle.sv_memtable.proofs.IndexLaws.{IsOfRow}
use Rattle.sv_memtable.proofs.CopiedRows.{copies_of, takes, ends, all_of_rows, copies_are_frozen}
use Rattle.sv_memtable.proofs.cells.numbered_rows.Goals as goal

pub loop-numbers-init : goal.loop-numbers-init
loop-numbers-init c =
    let rows = c.args.rows.now in
    let all : c.into_iter-numbers-iterator.result ≡ values c.args.index.now = c.into_iter-numbers-iterator.ensures.into_iter_gives ∙ c.values-numbers-items.ensures.rest in
    record {
      so_far = ap (λ l. l ++ copies_of rows c.into_iter-numbers-iterator.result) c.in_ok-copies.ensures.items ∙ ap (copies_of rows) all;
      of_rows = subst (AllByRecursion (All (IsOfRow rows))) (sym all) (all_of_rows rows c.args.index.now c.requires c.values-numbers-items.ensures.ordered);
    }

pub copy_rows-requires : goal.copy_rows-requires
copy_rows-requires c =
    let next = rest_more (deref {X = List ℕ}) c.loop-numbers.numbers-iterator c.next.new.self c.next.result c.in-Some.numbers c.in-Some.is c.next.ensures.steps in
    let all = subst (AllByRecursion (All (IsOfRow c.args.rows.now))) next c.loop-numbers.invariant.of_rows in
    all.0

pub loop-numbers-preserved : goal.loop-numbers-preserved
loop-numbers-preserved c =
    let next = rest_more (deref {X = List ℕ}) c.loop-numbers.numbers-iterator c.next.new.self c.next.result c.in-Some.numbers c.in-Some.is c.next.ensures.steps in
    let all = subst (AllByRecursion (All (IsOfRow c.args.rows.now))) next c.loop-numbers.invariant.of_rows in
    record {
      so_far = takes c.loop-numbers.copies.items c.copy_rows.new.copies.items c.args.rows.now (copies_of c.args.rows.now (values c.args.index.now)) c.loop-numbers.numbers-iterator c.next.new.self c.in-Some.numbers.now next c.in_ok-copy_rows.ensures c.loop-numbers.invariant.so_far;
      of_rows = all.1;
    }

pub returns : goal.returns
returns c =
    let rows = c.args.rows.now in
    let over = rest_all (deref {X = List ℕ}) c.loop-numbers.numbers-iterator c.next.new.self c.next.result c.in-None.is c.next.ensures.steps in
    copies_are_frozen rows c.args.index.now c.requires c.values-numbers-items.ensures.ordered c.loop-numbers.copies.items
    (ends c.loop-numbers.copies.items rows (copies_of rows (values c.args.index.now)) c.loop-numbers.numbers-iterator over c.loop-numbers.invariant.so_far)
