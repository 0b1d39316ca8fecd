use Rattle.std.proofs.Common.{sym, ap, ◌∙◌}
use Rattle.std.specs.Prelude.{slice_get}
use Rattle.sv_model.specs.Books.{Books}
use Rattle.sv_state_bench.proofs.CurrentRefs.{ended-free}
use Rattle.sv_state_bench.proofs.closings.end_family.Goals as goal

pub cleanup-requires : goal.cleanup-requires
cleanup-requires c =
    let a = c.args.state.now.books in
    let e = c.end_current-install in
    ended-free a e.new.self.books c.laws.ensures.sound c.args.family e.ensures.ended e.result.old c.in-Some-pack_of.pack (sym c.pack_of.ensures ∙ c.in-Some-pack_of.is)
    (λ t at. e.ensures.tells.old t (ap (slice_get a.tops) e.ensures.family ∙ at))

pub returns : goal.returns
returns c =
    let a = c.args.state.now.books in
    let e = c.end_current-install in
    let free = ended-free a e.new.self.books c.laws.ensures.sound c.args.family e.ensures.ended e.result.old c.in-Some-pack_of.pack (sym c.pack_of.ensures ∙ c.in-Some-pack_of.is)
    (λ t at. e.ensures.tells.old t (ap (slice_get a.tops) e.ensures.family ∙ at)) in
    ap (λ (z : Books). z.files.jobs) (c.cleanup.ensures.gone free).cleaned.is ∙ ap (λ (z : Books). z.files.jobs) e.ensures.ended.is
