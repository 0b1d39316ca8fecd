-- A row is added, and its number noted.
use Rattle.std.proofs.Common.{◌≡◌, ◌<◌, ◌++◌, ◌∷◌, [], List, length, sym, ap, subst, arith}
use Rattle.sv_model.specs.declared.writes.Row.{Row}
use Rattle.sv_model.specs.declared.limits.TheConstants.{MAX_ROWS}
use Rattle.sv_memtable.specs.Index.{IsIndexed}
use Rattle.sv_memtable.proofs.IndexLaws.{indexed-push, indexed-same}
use Rattle.sv_memtable.proofs.cells.MemCell.add.Goals as goal

pub invariant_of-self-in_err-note : goal.invariant_of-self-in_err-note
invariant_of-self-in_err-note c =
    let rows : c.reserve.new.self.items ≡ c.self.inside.rows.items = c.in_ok-reserve.ensures.items in
    subst (λ (l : List Row). IsIndexed l c.note.new.index) (sym rows) (indexed-same c.self.inside.rows.items c.self.inside.index c.note.new.index c.self.invariant c.in_err-note.ensures.err)

pub invariant_of-self-2 : goal.invariant_of-self-2
invariant_of-self-2 c =
    let row : Row = record { key = c.args.key.now; op = c.args.op.now } in
    let rows = c.self.inside.rows.items in
    let items : c.push_reserved.new.self.items ≡ rows ++ row ∷ [] = cc (c.push_reserved.ensures.items, c.in_ok-reserve.ensures.items, c.in_ok-clone.ensures.cases, c.in_ok-clone-2.ensures.cases) in
    let few : length rows < MAX_ROWS = subst (λ v. length v.rows < MAX_ROWS) (sym c.self.view_is) c.requires in
    subst (λ (l : List Row). IsIndexed l c.note.new.index) (sym items)
    (indexed-push rows row _ c.self.inside.index c.note.new.index c.self.invariant few (omega (arith, ap length c.in_ok-reserve.ensures.items)) c.in_ok-note.ensures.ok)
