use Rattle.std.proofs.Common.{ap, ◌∙◌}
use Rattle.sv_borrows.specs.Desks.{owed_of}
use Rattle.sv_borrows.proofs.Cleaning.{nothing-cleaned, owed-cleaned, owed-desk, owed-due, owed-free, owed-settles}
use Rattle.sv_state.specs.Seen.{StateSeen}
use Rattle.sv_borrows.proofs.cleanups.clean.Goals as goal

pub returns-in_default-clause-cleaned : goal.returns-in_default-clause-cleaned
returns-in_default-clause-cleaned g c =
    nothing-cleaned c.args.held.now.books c.args.seat.now.seat.me.0 c.requires.desk
    (c.requires.owed.0 ∙ ap owed_of c.in_default.is)

pub settle_word-requires-clause-may : goal.settle_word-requires-clause-may
settle_word-requires-clause-may g c =
    let x = c.cleanup-cells in
    owed-settles c.args.held.now.books c.deref_mut.result.now.books x.new.self.books
    (ap (λ (z : StateSeen). z.books) (c.deref_mut.ensures.value ∙ c.held.view_is)) c.args.seat.now.seat.me.0
    c.requires.desk c.args.left c.in-Last.owed c.in-Last.is c.requires.owed c.pack.result c.pack.ensures x.result.items
    x.ensures.gone x.ensures.follows

pub vacate_all-requires-clause-desk : goal.vacate_all-requires-clause-desk
vacate_all-requires-clause-desk g c =
    let x = c.cleanup-cells in
    owed-desk c.args.held.now.books c.deref_mut.result.now.books x.new.self.books
    (ap (λ (z : StateSeen). z.books) (c.deref_mut.ensures.value ∙ c.held.view_is)) c.args.seat.now.seat.me.0
    c.requires.desk c.args.left c.in-Last.owed c.in-Last.is c.requires.owed c.pack.result c.pack.ensures x.result.items
    x.ensures.gone x.ensures.follows c.settle_word.new.seat.seat.me.0 c.settle_word.ensures.settled

pub vacate_all-requires-clause-free : goal.vacate_all-requires-clause-free
vacate_all-requires-clause-free g c =
    let x = c.cleanup-cells in
    owed-free c.args.held.now.books c.deref_mut.result.now.books x.new.self.books
    (ap (λ (z : StateSeen). z.books) (c.deref_mut.ensures.value ∙ c.held.view_is)) c.args.seat.now.seat.me.0
    c.requires.desk c.args.left c.in-Last.owed c.in-Last.is c.requires.owed c.pack.result c.pack.ensures x.result.items
    x.ensures.gone x.ensures.follows

pub vacate_all-requires-clause-due : goal.vacate_all-requires-clause-due
vacate_all-requires-clause-due g c =
    let x = c.cleanup-cells in
    owed-due c.args.held.now.books c.deref_mut.result.now.books x.new.self.books
    (ap (λ (z : StateSeen). z.books) (c.deref_mut.ensures.value ∙ c.held.view_is)) c.args.seat.now.seat.me.0
    c.requires.desk c.args.left c.in-Last.owed c.in-Last.is c.requires.owed c.pack.result c.pack.ensures x.result.items
    x.ensures.gone x.ensures.follows c.settle_word.new.seat.seat.me.0 c.settle_word.ensures.settled

pub returns-clause-cleaned : goal.returns-clause-cleaned
returns-clause-cleaned g c =
    let x = c.cleanup-cells in
    owed-cleaned c.args.held.now.books c.deref_mut.result.now.books x.new.self.books
    (ap (λ (z : StateSeen). z.books) (c.deref_mut.ensures.value ∙ c.held.view_is)) c.args.seat.now.seat.me.0
    c.requires.desk c.args.left c.in-Last.owed c.in-Last.is c.requires.owed c.pack.result c.pack.ensures x.result.items
    x.ensures.gone x.ensures.follows c.settle_word.new.seat.seat.me.0 c.settle_word.ensures.settled
    c.vacate_all.new.seat.seat.me.0 c.vacate_all.ensures.vacated
