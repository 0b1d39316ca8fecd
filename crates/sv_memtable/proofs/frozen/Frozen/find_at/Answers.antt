-- The first row of the key whose number is at most the cut is the newest among so many.
use Rattle.std.proofs.Common.{◌≡◌, List, take, Some, None, ap, subst}
use Rattle.sv_model.specs.declared.writes.Row.{Row}
use Rattle.sv_model.specs.Journal.{newest_op}
use Rattle.sv_memtable.specs.Freezing.{added_of}
use Rattle.sv_memtable.proofs.FrozenRows.{op_upto}
use Rattle.sv_memtable.proofs.frozen.Frozen.find_at.Goals as goal

pub returns-in-None : goal.returns-in-None
returns-in-None c =
    let rows = c.self.inside.rows.items in
    let found = op_upto (added_of rows) rows c.self.invariant c.args.key.now c.args.upto c.from.result c.as_slice.result.now None c.as_slice.ensures.value c.from.ensures c.in-None.ensures in
    subst (λ (l : List Row). None ≡ newest_op c.args.key.now (take c.args.upto l)) (ap (λ v. v.rows) c.self.view_is) found

pub returns-in-Some : goal.returns-in-Some
returns-in-Some c =
    let rows = c.self.inside.rows.items in
    let found = op_upto (added_of rows) rows c.self.invariant c.args.key.now c.args.upto c.from.result c.as_slice.result.now (Some c.in-Some.numbered.now) c.as_slice.ensures.value c.from.ensures c.in-Some.ensures in
    subst (λ (l : List Row). Some c.in-Some.numbered.now.row.op ≡ newest_op c.args.key.now (take c.args.upto l)) (ap (λ v. v.rows) c.self.view_is) found
