use Rattle.std.proofs.Common.{subst, ◌∙◌}
use Rattle.std.specs.Prelude.{IfOk, IsSomeAnd, slice_get}
use Rattle.sv_family.specs.Refused.{drop_refusal}
use Rattle.sv_handles.proofs.Giving.{drops, gives-dropped, on-err}
use Rattle.sv_laws.specs.Families.{IsDropped}
use Rattle.sv_model.specs.Families.{IsOwn}
use Rattle.sv_model.specs.Refusals.{RefusesExactly}
use Rattle.sv_state.specs.Follows.{Follows}
use Rattle.sv_state.specs.Seen.{StateSeen}
use Rattle.sv_handles.proofs.families.drop_family.Goals as goal

pub give_state-requires-clause-lock : goal.give_state-requires-clause-lock
give_state-requires-clause-lock g c =
    let t = c.take_state-held in let d = c.drop_family-answer in let b = d.new.self.books in
    let same = c.deref_mut.ensures.value ∙ c.held.view_is in
    gives-dropped c.args.seat.now.seat.me.0 c.requires.free t.result.books t.new.seat.seat.me.0 t.ensures.took
    t.ensures.told c.args.lane c.requires.lane.1 c.args.name.now b
    (subst (λ (z : StateSeen). Follows z.books b) same d.ensures.follows)
    d.result
    (subst (λ (z : StateSeen). IfOk d.result (λ f. IsDropped z.books b f c.args.lane)) same d.ensures.dropped)
    (on-err d.new.self c.deref_mut.result.now t.result same d.result d.ensures.kept)

pub returns-clause-drops : goal.returns-clause-drops
returns-clause-drops g c =
    let t = c.take_state-held in let d = c.drop_family-answer in let b = d.new.self.books in
    let l = c.args.lane in let name = c.args.name.now in
    let same = c.deref_mut.ensures.value ∙ c.held.view_is in
    drops c.args.seat.now.seat.me.0 c.requires.free t.result.books t.new.seat.seat.me.0 t.ensures.took
    t.ensures.told l c.requires.lane.1 name b
    (subst (λ (z : StateSeen). Follows z.books b) same d.ensures.follows)
    d.result
    (subst (λ (z : StateSeen). IfOk d.result (λ f. IsDropped z.books b f l)) same d.ensures.dropped)
    (subst (λ (z : StateSeen). IfOk d.result (λ f. IsSomeAnd (slice_get z.books.families f) (IsOwn l name))) same d.ensures.own)
    (on-err d.new.self c.deref_mut.result.now t.result same d.result d.ensures.kept)
    (subst (λ (z : StateSeen). RefusesExactly (drop_refusal z.books.families l name) d.result) same d.ensures.refused)
    c.give_state.new.seat.seat.me.0 c.give_state.ensures.gave
