-- No row has a number above their count, so the first row of the key is its newest.
use Rattle.std.proofs.Common.{◌≡◌, List, length, Some, None, sym, ap, subst, ◌∙◌}
use Rattle.std.proofs.Math.Seq.{take-length}
use Rattle.sv_model.specs.declared.writes.Row.{Row}
use Rattle.sv_model.specs.Journal.{newest_op}
use Rattle.sv_memtable.specs.Freezing.{added_of}
use Rattle.sv_memtable.proofs.FrozenRows.{op_upto, as_many}
use Rattle.sv_memtable.proofs.frozen.Frozen.find.Goals as goal

pub returns-in-None : goal.returns-in-None
returns-in-None c =
    let rows = c.self.inside.rows.items in
    let added = added_of rows in
    let count : c.len.result ≡ length added = c.len.ensures ∙ sym c.as_slice.ensures.len ∙ ap length c.as_slice.ensures.value ∙ as_many added rows c.self.invariant in
    let found = op_upto added rows c.self.invariant c.args.key.now (length added) c.len.result c.as_slice.result.now None c.as_slice.ensures.value count c.in-None.ensures in
    let all = found ∙ ap (newest_op c.args.key.now) (take-length added) in
    subst (λ (l : List Row). None ≡ newest_op c.args.key.now l) (ap (λ v. v.rows) c.self.view_is) all

pub returns-in-Some : goal.returns-in-Some
returns-in-Some c =
    let rows = c.self.inside.rows.items in
    let added = added_of rows in
    let count : c.len.result ≡ length added = c.len.ensures ∙ sym c.as_slice.ensures.len ∙ ap length c.as_slice.ensures.value ∙ as_many added rows c.self.invariant in
    let found = op_upto added rows c.self.invariant c.args.key.now (length added) c.len.result c.as_slice.result.now (Some c.in-Some.numbered.now) c.as_slice.ensures.value count c.in-Some.ensures in
    let all = found ∙ ap (newest_op c.args.key.now) (take-length added) in
    subst (λ (l : List Row). Some c.in-Some.numbered.now.row.op ≡ newest_op c.args.key.now l) (ap (λ v. v.rows) c.self.view_is) all
