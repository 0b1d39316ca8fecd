use Rattle.std.proofs.Common.{◌≡◌, ◌≤◌, ◌+◌, length, sym, ap, ◌∙◌, subst, arith}
use Rattle.std.specs.Prelude.{slice_get}
use Rattle.sv_model.specs.Cells.{Cell}
use Rattle.sv_model.specs.Journal.{of_family}
use Rattle.sv_objects.specs.declared.bodies.Body.{Body}
use Rattle.sv_state.specs.Currents.{HasCurrentAt}
use Rattle.sv_store.specs.Seen.{StoreSeen}
use Rattle.sv_store.proofs.CellLaws.{cell_now}
use Rattle.sv_store.proofs.ReadParts.{few-writes-of, held-cell, held-ends}
use Rattle.sv_store.proofs.store.Store.end.Goals as goal

pub memtable-active-requires : goal.memtable-active-requires
memtable-active-requires c =
    let b = c.self.inside.state.books in
    let C = c.self.inside.cells in
    let body = c.current.result.now.body.value in
    let at = subst (λ (z : StoreSeen). HasCurrentAt z.books c.args.family) (sym c.self.view_is) c.requires in
    let r = c.current.ensures at in
    (cell_now b.journal r.it.descriptor.active, ap (λ (z : Body). slice_get C z.cell) c.deref.ensures ∙ held-cell b C c.self.invariant.stands c.args.family at c.current.result.now.pack body r)

pub overflow_add-result : goal.overflow_add-result
overflow_add-result c =
    let b = c.self.inside.state.books in
    let C = c.self.inside.cells in
    let body = c.current.result.now.body.value in
    let pack = c.current.result.now.pack in
    let at = subst (λ (z : StoreSeen). HasCurrentAt z.books c.args.family) (sym c.self.view_is) c.requires in
    let r = c.current.ensures at in
    let x = cell_now b.journal r.it.descriptor.active in
    let cell = c.memtable-active.ensures x (ap (λ (z : Body). slice_get C z.cell) c.deref.ensures ∙ held-cell b C c.self.invariant.stands c.args.family at pack body r) in
    let rows : c.from.result ≡ length x.rows = c.from.ensures ∙ c.len.ensures.rows ∙ ap (λ (z : Cell). length z.rows) cell in
    let base : c.deref-2.result.now.descriptor.base ≡ body.descriptor.base = ap (λ (z : Body). z.descriptor.base) c.deref-2.ensures in
    let ends : body.descriptor.base + length x.rows ≡ length (of_family c.args.family b.journal) = held-ends b C c.self.invariant.stands c.args.family at pack body r in
    let few : length (of_family c.args.family b.journal) ≤ 262144 = few-writes-of b c.self.invariant.stands.sound.lawful c.args.family in
    let sum : c.deref-2.result.now.descriptor.base + c.from.result ≤ 262144 = omega (arith, rows, base, ends, few) in
    omega (arith, sum)

pub returns : goal.returns
returns c =
    let b = c.self.inside.state.books in
    let C = c.self.inside.cells in
    let body = c.current.result.now.body.value in
    let pack = c.current.result.now.pack in
    let at = subst (λ (z : StoreSeen). HasCurrentAt z.books c.args.family) (sym c.self.view_is) c.requires in
    let r = c.current.ensures at in
    let x = cell_now b.journal r.it.descriptor.active in
    let cell = c.memtable-active.ensures x (ap (λ (z : Body). slice_get C z.cell) c.deref.ensures ∙ held-cell b C c.self.invariant.stands c.args.family at pack body r) in
    let rows : c.from.result ≡ length x.rows = c.from.ensures ∙ c.len.ensures.rows ∙ ap (λ (z : Cell). length z.rows) cell in
    let base : c.deref-2.result.now.descriptor.base ≡ body.descriptor.base = ap (λ (z : Body). z.descriptor.base) c.deref-2.ensures in
    (λ i. base i + rows i)
    ∙ held-ends b C c.self.invariant.stands c.args.family at pack body r
    ∙ ap (λ (z : StoreSeen). length (of_family c.args.family z.books.journal)) c.self.view_is
