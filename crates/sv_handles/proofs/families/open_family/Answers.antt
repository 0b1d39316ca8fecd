use Rattle.std.proofs.Common.{None, Some, ap, subst, ◌∙◌, ◌≡◌}
use Rattle.std.specs.Prelude.{IsSomeAnd, slice_get}
use Rattle.sv_family.specs.Calls.{IsFreshTo}
use Rattle.sv_family.specs.Refused.{open_refusal}
use Rattle.sv_handles.proofs.Giving.{gives-kept, gives-opened, opens, opens-refused}
use Rattle.sv_laws.specs.Families.{IsOpened}
use Rattle.sv_model.specs.Families.{IsStanding}
use Rattle.sv_state.specs.Follows.{Follows}
use Rattle.sv_state.specs.Seen.{StateSeen}
use Rattle.sv_handles.proofs.families.open_family.Goals as goal

pub give_opened-requires-clause-lock : goal.give_opened-requires-clause-lock
give_opened-requires-clause-lock g c =
    let t = c.take_state-held in let b = c.open_family.new.self.books in let f = c.in-Ok.family in
    let l = c.args.lane in
    let same = c.deref_mut.ensures.value ∙ c.held.view_is in
    gives-opened c.args.seat.now.seat.me.0 c.requires.free t.result.books t.new.seat.seat.me.0 t.ensures.took
    t.ensures.told l c.requires.lane.1 c.args.name.now b
    (subst (λ (z : StateSeen). Follows z.books b) same c.in-Ok.ensures.follows)
    f
    (subst (λ (z : StateSeen). IsOpened z.books b f l) same c.in-Ok.ensures.opened)
    (subst (λ (z : StateSeen). IsFreshTo l z.books.families f) same c.in-Ok.ensures.fresh)

pub give_state-requires-clause-lock : goal.give_state-requires-clause-lock
give_state-requires-clause-lock g c =
    let t = c.take_state-held in
    gives-kept c.args.seat.now.seat.me.0 c.requires.free t.result.books t.new.seat.seat.me.0 t.ensures.took
    t.ensures.told c.open_family.new.self.books
    (ap (λ (z : StateSeen). z.books) (c.in-Err.ensures.kept ∙ c.deref_mut.ensures.value ∙ c.held.view_is))

pub returns-in-Ok-clause-opens : goal.returns-in-Ok-clause-opens
returns-in-Ok-clause-opens g c =
    let t = c.take_state-held in let b = c.open_family.new.self.books in let f = c.in-Ok.family in
    let l = c.args.lane in let name = c.args.name.now in
    let same = c.deref_mut.ensures.value ∙ c.held.view_is in
    opens c.args.seat.now.seat.me.0 c.requires.free t.result.books t.new.seat.seat.me.0 t.ensures.took
    t.ensures.told l c.requires.lane.1 name b
    (subst (λ (z : StateSeen). Follows z.books b) same c.in-Ok.ensures.follows)
    f
    (subst (λ (z : StateSeen). IsOpened z.books b f l) same c.in-Ok.ensures.opened)
    (subst (λ (z : StateSeen). IsFreshTo l z.books.families f) same c.in-Ok.ensures.fresh)
    (subst (λ (z : StateSeen). IsSomeAnd (slice_get z.books.families f) (IsStanding name)) same c.in-Ok.ensures.standing)
    (subst (λ (z : StateSeen). open_refusal z.books.families l name ≡ None) same c.in-Ok.ensures.refused)
    c.give_opened.new.seat.seat.me.0 c.give_opened.ensures.gave

pub returns-in-Err-clause-opens : goal.returns-in-Err-clause-opens
returns-in-Err-clause-opens g c =
    let t = c.take_state-held in let l = c.args.lane in let name = c.args.name.now in
    let same = c.deref_mut.ensures.value ∙ c.held.view_is in
    opens-refused c.args.seat.now.seat.me.0 c.requires.free t.result.books t.new.seat.seat.me.0 t.ensures.took
    t.ensures.told l c.requires.lane.1 name c.open_family.new.self.books
    (ap (λ (z : StateSeen). z.books) (c.in-Err.ensures.kept ∙ same)) c.in-Err.refusal
    (subst (λ (z : StateSeen). open_refusal z.books.families l name ≡ Some c.in-Err.refusal) same c.in-Err.ensures.refused)
    c.give_state.new.seat.seat.me.0 c.give_state.ensures.gave
