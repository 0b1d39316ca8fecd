use Rattle.std.proofs.Common.{List, ℕ, ◌<◌, sym, ap, ◌∙◌, subst}
use Rattle.std.specs.Prelude.{slice_get}
use Rattle.sv_store.specs.Cells.{Vacated}
use Rattle.sv_store.proofs.StandLaws.{cleaned-stands}
use Rattle.sv_store.proofs.cleanups.clean.Goals as goal

pub vacate-requires : goal.vacate-requires
vacate-requires c = λ i x e.
    let g = c.cleanup-gone.ensures.gone c.requires.goes in
    let went = (g.cells_are.exact x).0 (record { at = i; is = ap (λ (l : List ℕ). slice_get l i) (sym c.as_slice.ensures.value) ∙ e }) in
    subst (λ n. n < 64) went.is (c.requires.sound.lawful.cells went.id went.it went.at went.was_live).0

pub returns-clause-stands : goal.returns-clause-stands
returns-clause-stands c =
    let h = c.requires in
    let free = h.goes in
    let k = c.cleanup-gone in
    let g = k.ensures.gone free in
    cleaned-stands c.args.state.now.books k.new.self.books c.args.cells.now c.vacate.new.self c.args.pack h k.ensures.follows.sound free.serial free.it free.pack_is
    g.cleaned k.result.items g.cells_are (subst (λ (l : List ℕ). Vacated l c.args.cells.now c.vacate.new.self) c.as_slice.ensures.value c.vacate.ensures)

pub returns-clause-goes : goal.returns-clause-goes
returns-clause-goes c =
    let free = c.requires.goes in
    record { s = free.serial; x = free.it; pack_is = free.pack_is; cleaned = (c.cleanup-gone.ensures.gone free).cleaned }
