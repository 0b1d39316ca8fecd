use Rattle.std.proofs.Common.{◌≡◌, ℕ, List, Option, sym, ap, ◌∙◌, subst}
use Rattle.sv_model.specs.declared.records.FileMeta.{FileMeta}
use Rattle.sv_model.specs.declared.records.Version.{Version}
use Rattle.sv_model.specs.Lawful.{Lawful}
use Rattle.sv_model.proofs.Entries.{some}
use Rattle.sv_objects.specs.declared.bodies.Body.{Body}
use Rattle.sv_reads.specs.Files.{FilesAnswer, LooksServed}
use Rattle.sv_state.specs.Currents.{HasCurrentAt}
use Rattle.sv_state.specs.Refs.{IsRefOf}
use Rattle.sv_store.specs.Reading.{Finds}
use Rattle.sv_store.specs.Seen.{StoreSeen}
use Rattle.sv_store.proofs.ReadLaws.{files-find, files-stop, memory-finds}
use Rattle.sv_store.proofs.ReadParts.{body-through, now-through}
use Rattle.sv_store.proofs.store.Store.look_up.Goals as goal

pub returns-in-Some-clause-found : goal.returns-in-Some-clause-found
returns-in-Some-clause-found g c = λ at.
    let b = c.args.self.now.books in
    let told = g.D.Dir.files c.args.dir.now in
    let law = subst (λ (z : StoreSeen). Lawful z.books) c.self.view_is c.self.invariant.stands.sound.lawful in
    let t = now-through b law c.args.family at in
    subst (λ (v : Option (List ℕ)). Finds b told c.args.family c.args.key.now c.args.cut v at.serial) (sym c.in_ok-value_left.ensures)
    (memory-finds b law told c.args.family c.args.key.now c.args.cut at.serial t.0 t.1 c.in-Some.op.now (sym (c.in-Some.ensures at.serial t.0 t.1)))

pub returns-in-Ok-clause-found : goal.returns-in-Ok-clause-found
returns-in-Ok-clause-found g c = λ at.
    let b = c.args.self.now.books in
    let told = g.D.Dir.files c.args.dir.now in
    let key = c.args.key.now in
    let body = c.current.result.now.body.value in
    let law = subst (λ (z : StoreSeen). Lawful z.books) c.self.view_is c.self.invariant.stands.sound.lawful in
    let refs = subst (λ (z : StoreSeen). (at : HasCurrentAt z.books c.args.family) → IsRefOf z.books at.serial c.current.result.now.pack body) c.self.view_is c.current.ensures in
    let t = now-through b law c.args.family at in
    let is = body-through b c.args.family at.serial t.0 t.1 c.current.result.now.pack body (refs at) in
    let files : c.deref.result.now.files ≡ t.0.files = ap (λ (z : Body). z.files) c.deref.ensures ∙ is.files_are ∙ ap (λ (v : Version). v.files) (some (sym is.version_at ∙ t.1.version_at)) in
    let answer = subst (λ (l : List FileMeta). FilesAnswer told l key c.args.cut c.find_in_files.result) files c.find_in_files.ensures.answer in
    let looks = subst (λ (l : List FileMeta). LooksServed told l key c.args.cut c.find_in_files.result) files c.find_in_files.ensures.looks in
    subst (λ (v : Option (List ℕ)). Finds b told c.args.family key c.args.cut v at.serial) (sym c.into_value.ensures)
    (files-find b law told c.args.family key c.args.cut at.serial t.0 t.1 (sym (c.in_default.ensures at.serial t.0 t.1)) c.requires c.find_in_files.result answer looks c.in-Ok.found c.in-Ok.is)

pub returns-in-Err-clause-stops : goal.returns-in-Err-clause-stops
returns-in-Err-clause-stops g c =
    let b = c.args.self.now.books in
    let told = g.D.Dir.files c.args.dir.now in
    let key = c.args.key.now in
    let body = c.current.result.now.body.value in
    let at = c.requires.current in
    let law = subst (λ (z : StoreSeen). Lawful z.books) c.self.view_is c.self.invariant.stands.sound.lawful in
    let refs = subst (λ (z : StoreSeen). (at : HasCurrentAt z.books c.args.family) → IsRefOf z.books at.serial c.current.result.now.pack body) c.self.view_is c.current.ensures in
    let t = now-through b law c.args.family at in
    let is = body-through b c.args.family at.serial t.0 t.1 c.current.result.now.pack body (refs at) in
    let files : c.deref.result.now.files ≡ t.0.files = ap (λ (z : Body). z.files) c.deref.ensures ∙ is.files_are ∙ ap (λ (v : Version). v.files) (some (sym is.version_at ∙ t.1.version_at)) in
    let answer = subst (λ (l : List FileMeta). FilesAnswer told l key c.args.cut c.find_in_files.result) files c.find_in_files.ensures.answer in
    let looks = subst (λ (l : List FileMeta). LooksServed told l key c.args.cut c.find_in_files.result) files c.find_in_files.ensures.looks in
    files-stop b law told c.args.family key c.args.cut at.serial t.0 t.1 (sym (c.in_default.ensures at.serial t.0 t.1)) c.requires c.find_in_files.result answer looks c.in-Err.refusal c.in-Err.is
