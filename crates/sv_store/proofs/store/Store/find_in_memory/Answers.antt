use Rattle.std.specs.Option.{option_copied}
use Rattle.std.proofs.Common.{◌≡◌, ◌≤◌, ℕ, List, length, Option, Some, None, sym, ap, ◌∙◌, subst}
use Rattle.std.specs.Prelude.{slice_get}
use Rattle.sv_model.specs.declared.records.Descriptor.{Descriptor}
use Rattle.sv_model.specs.declared.records.Version.{Version}
use Rattle.sv_model.specs.declared.writes.Op.{Op}
use Rattle.sv_model.specs.declared.writes.Row.{Row}
use Rattle.sv_model.specs.Cells.{Cell}
use Rattle.sv_model.specs.Journal.{of_family}
use Rattle.sv_objects.specs.declared.bodies.Body.{Body}
use Rattle.sv_objects.specs.Shown.{shown}
use Rattle.sv_reads.specs.Parts.{FindsAfter, FindsBefore}
use Rattle.sv_state.specs.Currents.{HasCurrentAt}
use Rattle.sv_store.specs.Reading.{IsThrough, newest_unfiled}
use Rattle.sv_store.specs.Seen.{StoreSeen}
use Rattle.sv_store.proofs.CellLaws.{cell_now}
use Rattle.sv_store.proofs.ReadParts.{active-cell, at-through, body-through, held-cell, unfiled, unfiled-active}
use Rattle.sv_store.proofs.store.Store.find_in_memory.Goals as goal

pub memtable-active-requires : goal.memtable-active-requires
memtable-active-requires c =
    let b = c.self.inside.state.books in
    let C = c.self.inside.cells in
    let body = c.current.result.now.body.value in
    let at = subst (λ (z : StoreSeen). HasCurrentAt z.books c.args.family) (sym c.self.view_is) c.requires.current in
    let r = c.current.ensures at in
    (cell_now b.journal r.it.descriptor.active, ap (λ (z : Body). slice_get C z.cell) c.deref.ensures ∙ held-cell b C c.self.invariant.stands c.args.family at c.current.result.now.pack body r)

pub returns-in-Some : goal.returns-in-Some
returns-in-Some c =
    let b = c.self.inside.state.books in
    let C = c.self.inside.cells in
    let f = c.args.family in
    let key = c.args.key.now in
    let cut = c.args.cut in
    let op = c.in-Some.op.now in
    let body = c.current.result.now.body.value in
    let within = subst (λ (z : StoreSeen). cut ≤ length (of_family f z.books.journal)) (sym c.self.view_is) c.requires.within in
    subst (λ (z : StoreSeen). (serial : ℕ) (version : Version) → IsThrough z.books f serial version → ◌≡◌ {A = Option Op} (Some op) (newest_unfiled z.books f version key cut)) c.self.view_is
    (λ serial version t.
    let is = body-through b f serial version t c.current.result.now.pack body (c.current.ensures (at-through b f serial version t)) in
    let e = ap (λ (z : Body). slice_get C z.cell) c.deref.ensures ∙ active-cell b C c.self.invariant.stands f serial t.super t.current body.cell is.cell in
    let base = ap (λ (z : Body). z.descriptor.base) c.deref-2.ensures ∙ ap (λ (d : Descriptor). d.base) is.descriptor_is in
    let rows = ap (λ (z : Cell). z.rows) (c.memtable-active.ensures (cell_now b.journal t.super.descriptor.active) e) in
    let active = subst (λ (z : ℕ × List Row). FindsAfter z.0 z.1 key cut (Some op)) (λ i. (base i, rows i)) c.in-Some.ensures in
    sym (unfiled-active b c.self.invariant.stands.sound.lawful f serial t.super t.current version t.version_at body is key cut within op active))

pub returns-in-None : goal.returns-in-None
returns-in-None c =
    let b = c.self.inside.state.books in
    let C = c.self.inside.cells in
    let f = c.args.family in
    let key = c.args.key.now in
    let cut = c.args.cut in
    let newer : Option Op = option_copied c.find_frozen.result in
    let body = c.current.result.now.body.value in
    let within = subst (λ (z : StoreSeen). cut ≤ length (of_family f z.books.journal)) (sym c.self.view_is) c.requires.within in
    subst (λ (z : StoreSeen). (serial : ℕ) (version : Version) → IsThrough z.books f serial version → ◌≡◌ {A = Option Op} newer (newest_unfiled z.books f version key cut)) c.self.view_is
    (λ serial version t.
    let is = body-through b f serial version t c.current.result.now.pack body (c.current.ensures (at-through b f serial version t)) in
    let e = ap (λ (z : Body). slice_get C z.cell) c.deref.ensures ∙ active-cell b C c.self.invariant.stands f serial t.super t.current body.cell is.cell in
    let base = ap (λ (z : Body). z.descriptor.base) c.deref-2.ensures ∙ ap (λ (d : Descriptor). d.base) is.descriptor_is in
    let rows = ap (λ (z : Cell). z.rows) (c.memtable-active.ensures (cell_now b.journal t.super.descriptor.active) e) in
    let active = subst (λ (z : ℕ × List Row). FindsAfter z.0 z.1 key cut None) (λ i. (base i, rows i)) c.in-None.ensures in
    let end = ap (λ (z : Body). z.descriptor.base) c.deref-in-None.ensures ∙ ap (λ (d : Descriptor). d.base) is.descriptor_is in
    let older = subst (λ (z : ℕ × List (ℕ × Cell)). FindsBefore z.0 z.1 key cut newer) (λ i. (end i, shown (c.deref-in-None.ensures i).frozen)) c.find_frozen.ensures in
    sym (unfiled b c.self.invariant.stands.sound.lawful f serial t.super t.current version t.version_at body is key cut within None newer active older))
