use Rattle.std.proofs.Common.{Some, ap, subst, sym, ◌∙◌}
use Rattle.sv_installs.proofs.Filling.{begins-filled, fills, installs-filled, opens-filled}
use Rattle.sv_installs.proofs.Renewing.{new-current}
use Rattle.sv_model.specs.Books.{Books}
use Rattle.sv_model.specs.Cells.{Cell}
use Rattle.sv_state.specs.Currents.{HasCurrentAt}
use Rattle.sv_state.specs.Seen.{StateSeen}
use Rattle.sv_installs.proofs.fills.install_filled.Goals as goal

pub current-requires : goal.current-requires
current-requires g c =
    subst (λ (z : Books). HasCurrentAt z c.args.family) (sym (ap (λ (z : StateSeen). z.books) (c.deref.ensures ∙ c.held.view_is)))
    (new-current c.args.held.now.books c.args.family c.args.old.pack (Some c.args.number) c.args.seat.now.seat.me.0
    c.requires.may.1)

pub make_current-requires-clause-may : goal.make_current-requires-clause-may
make_current-requires-clause-may g c =
    let t = c.take_cell-slot in
    opens-filled c.args.held.now.books c.args.family c.args.old.pack c.args.number c.args.seat.now.seat.me.0
    c.requires.may.1 t.result c.deref.result.now.books
    (ap (λ (z : StateSeen). z.books) (c.deref.ensures ∙ c.held.view_is)) c.current.result.now.pack
    c.current.result.now.body.value c.current.ensures t.new.seat.seat.me.0 t.ensures.took

pub give_filled-requires-clause-may : goal.give_filled-requires-clause-may
give_filled-requires-clause-may g c =
    let t = c.take_cell-slot in
    fills c.args.held.now.books c.args.family c.args.old.pack c.args.number c.args.seat.now.seat.me.0
    c.requires.may.1 t.result c.deref.result.now.books
    (ap (λ (z : StateSeen). z.books) (c.deref.ensures ∙ c.held.view_is)) c.current.result.now.pack
    c.current.result.now.body.value c.current.ensures t.new.seat.seat.me.0 t.ensures.took
    c.make_current.new.seat.seat.me.0 c.make_current.ensures.installed (Some c.args.memtable.value)
    (ap (λ (z : Cell). Some z) c.requires.memtable)

pub retire-requires-clause-begins : goal.retire-requires-clause-begins
retire-requires-clause-begins g c =
    let t = c.take_cell-slot in
    begins-filled c.args.held.now.books c.args.family c.args.old.pack c.args.number c.args.seat.now.seat.me.0
    c.requires.may.1 t.result c.deref.result.now.books
    (ap (λ (z : StateSeen). z.books) (c.deref.ensures ∙ c.held.view_is)) c.current.result.now.pack
    c.current.result.now.body.value c.current.ensures t.new.seat.seat.me.0 t.ensures.took
    c.make_current.new.seat.seat.me.0 c.make_current.ensures.installed c.give_filled.new.seat.seat.me.0
    c.give_filled.ensures.wrote

pub returns-clause-installs : goal.returns-clause-installs
returns-clause-installs g c =
    let t = c.take_cell-slot in
    installs-filled c.args.held.now.books c.args.family c.args.old.pack c.args.number c.args.seat.now.seat.me.0
    c.requires.may.1 t.result c.deref.result.now.books
    (ap (λ (z : StateSeen). z.books) (c.deref.ensures ∙ c.held.view_is)) c.current.result.now.pack
    c.current.result.now.body.value c.current.ensures t.new.seat.seat.me.0 t.ensures.took
    c.make_current.new.seat.seat.me.0 c.make_current.ensures.installed c.give_filled.new.seat.seat.me.0
    c.give_filled.ensures.wrote c.retire.new.held.books c.retire.new.seat.seat.me.0 c.retire.ensures.reclaimed
