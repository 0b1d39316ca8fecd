use Rattle.std.proofs.Common.{◌≡◌, ◌<◌, length, Some, sym, ap, ◌∙◌, arith}
use Rattle.std.specs.Prelude.{slice_get}
use Rattle.sv_model.specs.Books.{Books}
use Rattle.sv_model.specs.Summaries.{family_lines}
use Rattle.sv_model.proofs.Registers.{get-some}
use Rattle.sv_state.specs.Seen.{StateSeen}
use Rattle.sv_state.specs.Views.{books_of}
use Rattle.sv_state.proofs.ReportLines.{lines-more}
use Rattle.sv_state.proofs.state.State.family_lines.Goals as goal

pub loop-index-preserved : goal.loop-index-preserved
loop-index-preserved c =
    let a : Books = books_of c.self.inside in
    let b : Books = c.args.self.now.books in
    let i = c.loop-index.index in
    let within : i < length a.families = omega (arith, c.loop-index-test.true, c.len-index-end.ensures.len) in
    let x = get-some a.families i within in
    let t = get-some a.tops i (omega (arith, within, c.self.invariant.sound.lawful.paired)) in
    let at : slice_get b.families i ≡ Some x.0 = ap (λ (z : StateSeen). slice_get z.books.families i) (sym c.self.view_is) ∙ x.1 in
    let on : slice_get b.tops i ≡ Some t.0 = ap (λ (z : StateSeen). slice_get z.books.tops i) (sym c.self.view_is) ∙ t.1 in
    lines-more b.journal b.versions b.families b.tops x.0 t.0 i c.loop-index.lines.items c.push.new.self.items c.in_ok-line.line
    (family_lines b.journal b.versions 0 b.families b.tops) at on (c.in_ok-line.ensures x.0 t.0 at on) c.in_ok-push.ensures.items c.loop-index.invariant
