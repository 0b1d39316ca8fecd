use Rattle.std.proofs.Common.{◌≡◌, [], Some, ap, ◌∙◌, subst}
use Rattle.std.specs.Prelude.{cond, slice_get}
use Rattle.sv_model.specs.declared.records.Family.{Family}
use Rattle.sv_model.specs.declared.records.Top.{Top}
use Rattle.sv_model.specs.Books.{Books, files_of}
use Rattle.sv_model.specs.Named.{numbers_of}
use Rattle.sv_state.specs.Currents.{StandsAt}
use Rattle.sv_state.specs.Seen.{StateSeen}
use Rattle.sv_state.specs.Views.{books_of}
use Rattle.sv_state.proofs.LiveNumbers.{stands-at}
use Rattle.sv_state.proofs.Answered.{ok-so}
use Rattle.sv_state.proofs.ReportLines.{shown-files}
use Rattle.sv_state.proofs.state.State.shown_files.Goals as goal

pub last_files-requires : goal.last_files-requires
last_files-requires c =
    let a : Books = books_of c.self.inside in
    subst (λ (z : StateSeen). StandsAt z.books c.args.family) c.self.view_is (stands-at a c.self.invariant.sound c.args.family (c.is_dropped.ensures ∙ ap Some c.if-is_dropped.false))

pub returns : goal.returns
returns c =
    let a : Books = books_of c.self.inside in
    let b : Books = c.args.self.now.books in
    let f = c.args.family in
    let st : StandsAt b f = subst (λ (z : StateSeen). StandsAt z.books f) c.self.view_is (stands-at a c.self.invariant.sound f (c.is_dropped.ensures ∙ ap Some c.if-is_dropped.false)) in
    ok-so c.file_numbers.result (λ numbers. numbers ≡ numbers_of c.last_files.result.now)
    (λ numbers. (it : Family) (top : Top) → slice_get b.families f ≡ Some it → slice_get b.tops f ≡ Some top → numbers ≡ cond it.dropped [] (numbers_of (files_of b.versions top.last)))
    (λ numbers e. shown-files b f st numbers c.last_files.result.now e (c.last_files.ensures st))
    c.file_numbers.ensures
