-- The last number of the key is that of its newest row.
use Rattle.std.proofs.Common.{◌≡◌, ◌++◌, ◌∷◌, [], List, length, Some, None, sym, ap, subst, ◌∙◌, arith}
use Rattle.std.specs.Prelude.{option_map}
use Rattle.sv_model.specs.declared.writes.Row.{Row}
use Rattle.sv_model.specs.Journal.{newest_op, newest_row}
use Rattle.sv_model.specs.Registers.{entry}
use Rattle.sv_memtable.specs.Index.{numbers_of_key}
use Rattle.sv_memtable.proofs.IndexLaws.{led, led_nowhere, found_last, last_within, none_at_all}
use Rattle.sv_memtable.proofs.cells.MemCell.find.Goals as goal

numbers : (c : goal.After-newest) → numbers_of_key c.args.key.now c.self.inside.rows.items ≡ c.newest.ensures.0 ++ c.newest.result ∷ []
numbers c =
    led c.self.inside.rows.items c.self.inside.index c.args.key.now c.in-Some.numbers.now c.self.invariant (sym c.in-Some.ensures.value)
    ∙ c.newest.ensures.1

pub op_of-requires-clause-from : goal.op_of-requires-clause-from
op_of-requires-clause-from c = (last_within c.self.inside.rows.items c.args.key.now c.newest.ensures.0 c.newest.result (numbers c)).0

pub op_of-requires-clause-to : goal.op_of-requires-clause-to
op_of-requires-clause-to c =
    let is = last_within c.self.inside.rows.items c.args.key.now c.newest.ensures.0 c.newest.result (numbers c) in
    omega (arith, is.1, ap length c.as_slice.ensures.value)

pub returns-in-None : goal.returns-in-None
returns-in-None c =
    let rows = c.self.inside.rows.items in
    let none : newest_row c.args.key.now rows ≡ None = none_at_all rows c.args.key.now (led_nowhere rows c.self.inside.index c.args.key.now c.self.invariant (sym c.in-None.ensures.value)) in
    let found : newest_op c.args.key.now rows ≡ None = ap (option_map (λ (r : Row). r.op)) none in
    sym (subst (λ (l : List Row). newest_op c.args.key.now l ≡ None) (ap (λ v. v.rows) c.self.view_is) found)

pub returns-in-Some : goal.returns-in-Some
returns-in-Some c =
    let rows = c.self.inside.rows.items in
    let numbers : numbers_of_key c.args.key.now rows ≡ c.newest.ensures.0 ++ c.newest.result ∷ [] =
    led rows c.self.inside.index c.args.key.now c.in-Some.numbers.now c.self.invariant (sym c.in-Some.ensures.value) ∙ c.newest.ensures.1 in
    let row : entry c.as_slice.result.now c.newest.result ≡ newest_row c.args.key.now rows =
    ap (λ l. entry l c.newest.result) c.as_slice.ensures.value ∙ found_last rows c.args.key.now c.newest.ensures.0 c.newest.result numbers in
    let found : Some c.op_of.result.now ≡ newest_op c.args.key.now rows = sym c.op_of.ensures ∙ ap (option_map (λ (r : Row). r.op)) row in
    subst (λ (l : List Row). Some c.op_of.result.now ≡ newest_op c.args.key.now l) (ap (λ v. v.rows) c.self.view_is) found
