use Rattle.std.proofs.Common.{◌≡◌, inr, false, Some, refl, sym, ap, ◌∙◌}
use Rattle.std.specs.Prelude.{slice_get}
use Rattle.sv_model.specs.declared.records.Family.{Family}
use Rattle.sv_model.specs.Books.{Books, files_of}
use Rattle.sv_model.specs.Families.{is_retired}
use Rattle.sv_model.specs.Named.{IsLiveVersion}
use Rattle.sv_model.specs.Registers.{entry}
use Rattle.sv_laws.proofs.StillFits.{files-at}
use Rattle.sv_state.specs.Seen.{StateSeen}
use Rattle.sv_state.specs.Views.{books_of}
use Rattle.sv_state.proofs.state.State.last_files.Goals as goal

kept-so : (f : Family) → f.dropped ≡ false → is_retired f ≡ false
kept-so f h = cc

pub returns : goal.returns
returns c at =
    let i = c.self.inside in
    let a : Books = books_of i in
    let k = c.self.invariant.sound in
    let f = c.args.family in
    let v = at.top.last in
    let on : slice_get a.tops f ≡ Some at.top = ap (λ (z : StateSeen). slice_get z.books.tops f) c.self.view_is ∙ at.on in
    let here : slice_get a.families f ≡ Some at.it = ap (λ (z : StateSeen). slice_get z.books.families f) c.self.view_is ∙ at.at in
    let live : IsLiveVersion a.versions v = (k.lawful.versions v).1 (inr (record { id = f; family = at.it; top = at.top; at = here; on = on; stands = kept-so at.it at.stands; is = refl })) in
    let last : c.last_of-last.result ≡ v = c.last_of-last.ensures at.top (ap (λ l. slice_get l f) c.as_slice.ensures.value ∙ on) in
    c.files.ensures.value live.it (ap (entry a.versions) last ∙ live.at)
    ∙ sym (files-at a.versions v live.it live.at)
    ∙ ap (λ (z : StateSeen). files_of z.books.versions v) c.self.view_is
