-- The last number of the key that is at most the cut is that of its newest row among so many.
use Rattle.std.proofs.Common.{◌≡◌, List, ℕ, length, take, nat_le, Some, None, sym, ap, subst, ◌∙◌, arith}
use Rattle.std.specs.Prelude.{find, reverse, option_map, option_and_then, IfSome}
use Rattle.std.specs.List.Sorted.{IsNonDecreasing}
use Rattle.sv_model.specs.declared.writes.Row.{Row}
use Rattle.sv_model.specs.Journal.{newest_op, newest_row}
use Rattle.sv_model.specs.Registers.{entry}
use Rattle.sv_memtable.specs.Index.{numbers_of_key}
use Rattle.sv_memtable.proofs.IndexLaws.{IsOfRow, led, led_nowhere, numbers_rise, found_within, found_upto, none_upto}
use Rattle.sv_memtable.proofs.cells.MemCell.find_at.Goals as goal

pub newest_upto-requires : goal.newest_upto-requires
newest_upto-requires c =
    let rows = c.self.inside.rows.items in
    let numbers = led rows c.self.inside.index c.args.key.now c.in-Some.numbers.now c.self.invariant (sym c.in-Some.ensures.value) in
    subst IsNonDecreasing numbers (numbers_rise c.args.key.now rows)

-- the number that was found is that of a row
is_of_row : (c : goal.After-as_slice) → IsOfRow c.self.inside.rows.items c.in-Some-newest_upto.number
is_of_row c =
    let rows = c.self.inside.rows.items in
    let numbers = led rows c.self.inside.index c.args.key.now c.in-Some.numbers.now c.self.invariant (sym c.in-Some.ensures.value) in
    let test = λ (n : ℕ). nat_le n c.args.upto in
    let found : find test (reverse (numbers_of_key c.args.key.now rows)) ≡ Some c.in-Some-newest_upto.number = ap (λ l. find test (reverse l)) numbers ∙ sym c.in-Some-newest_upto.ensures in
    subst (λ o. IfSome o (IsOfRow rows)) found (found_within rows c.args.key.now test)

pub op_of-requires-clause-from : goal.op_of-requires-clause-from
op_of-requires-clause-from c = (is_of_row c).0

pub op_of-requires-clause-to : goal.op_of-requires-clause-to
op_of-requires-clause-to c = omega (arith, (is_of_row c).1, ap length c.as_slice.ensures.value)

pub returns-in-None : goal.returns-in-None
returns-in-None c =
    let rows = c.self.inside.rows.items in
    let none = none_upto rows c.args.key.now c.args.upto (led_nowhere rows c.self.inside.index c.args.key.now c.self.invariant (sym c.in-None.ensures.value)) in
    let found : newest_op c.args.key.now (take c.args.upto rows) ≡ None = ap (option_map (λ (r : Row). r.op)) none in
    sym (subst (λ (l : List Row). newest_op c.args.key.now (take c.args.upto l) ≡ None) (ap (λ v. v.rows) c.self.view_is) found)

pub returns-in-None-newest_upto : goal.returns-in-None-newest_upto
returns-in-None-newest_upto c =
    let rows = c.self.inside.rows.items in
    let key = c.args.key.now in
    let numbers = led rows c.self.inside.index key c.in-Some.numbers.now c.self.invariant (sym c.in-Some.ensures.value) in
    let none : find (λ n. nat_le n c.args.upto) (reverse (numbers_of_key key rows)) ≡ None = ap (λ l. find (λ n. nat_le n c.args.upto) (reverse l)) numbers ∙ sym c.in-None-newest_upto.ensures in
    let row : newest_row key (take c.args.upto rows) ≡ None = sym (found_upto rows key c.args.upto) ∙ ap (option_and_then (entry rows)) none in
    let found : newest_op key (take c.args.upto rows) ≡ None = ap (option_map (λ (r : Row). r.op)) row in
    sym (subst (λ (l : List Row). newest_op key (take c.args.upto l) ≡ None) (ap (λ v. v.rows) c.self.view_is) found)

pub returns-in-Some-newest_upto : goal.returns-in-Some-newest_upto
returns-in-Some-newest_upto c =
    let rows = c.self.inside.rows.items in
    let key = c.args.key.now in
    let number = c.in-Some-newest_upto.number in
    let numbers = led rows c.self.inside.index key c.in-Some.numbers.now c.self.invariant (sym c.in-Some.ensures.value) in
    let at : find (λ n. nat_le n c.args.upto) (reverse (numbers_of_key key rows)) ≡ Some number = ap (λ l. find (λ n. nat_le n c.args.upto) (reverse l)) numbers ∙ sym c.in-Some-newest_upto.ensures in
    let row : entry rows number ≡ newest_row key (take c.args.upto rows) = sym (ap (option_and_then (entry rows)) at) ∙ found_upto rows key c.args.upto in
    let found : Some c.op_of.result.now ≡ newest_op key (take c.args.upto rows) =
    sym c.op_of.ensures ∙ ap (λ l. option_map (λ (r : Row). r.op) (entry l number)) c.as_slice.ensures.value ∙ ap (option_map (λ (r : Row). r.op)) row
    in
    subst (λ (l : List Row). Some c.op_of.result.now ≡ newest_op key (take c.args.upto l)) (ap (λ v. v.rows) c.self.view_is) found
