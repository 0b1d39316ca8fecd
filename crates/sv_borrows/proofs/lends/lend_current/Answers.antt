use Rattle.std.proofs.Common.{ap, arith, subst, sym, ◌∙◌, ◌<◌, ◌≡◌, ℕ}
use Rattle.sv_borrows.specs.Parts.{body_of}
use Rattle.sv_borrows.proofs.CurrentRefs.{lend-held, lend-lock, lend-shown}
use Rattle.sv_model.specs.Lists.{same, total}
use Rattle.sv_model.specs.Supers.{current_of}
use Rattle.sv_rule.specs.ReferencePlays.{added}
use Rattle.sv_rule.specs.SlotPlays.{IsShown}
use Rattle.sv_rule.specs.Views.{Bodied, LaneView, idle}
use Rattle.sv_rule.proofs.Sums.{same-self}
use Rattle.sv_slots.specs.Borrows.{borrowed}
use Rattle.sv_slots.specs.Seats.{HasDesk, bodied}
use Rattle.sv_state.specs.Seen.{StateSeen}
use Rattle.sv_borrows.proofs.lends.lend_current.Goals as goal

pub add_ref-requires-clause-held : goal.add_ref-requires-clause-held
add_ref-requires-clause-held g c =
    lend-held c.args.held.now.books c.deref.result.now.books (ap (λ (z : StateSeen). z.books) (c.deref.ensures ∙ c.held.view_is))
    c.args.seat.now.seat.me.0 c.requires.desk c.args.family c.requires.current.0 c.requires.current.1
    c.current.result.now.pack c.current.result.now.body.value c.current.ensures

pub borrow_locked-requires-clause-lock : goal.borrow_locked-requires-clause-lock
borrow_locked-requires-clause-lock g c =
    let ok = c.in_ok-fresh.ensures.ok in
    subst (λ (p : ℕ). HasDesk c.add_ref.new.seat.seat.me.0 (λ d. (d.work ≡ idle) × (p ≡ current_of d.books c.args.family)))
    (sym (ap (λ (z : Bodied). z.pack) ok.0))
    (lend-lock c.args.held.now.books c.deref.result.now.books (ap (λ (z : StateSeen). z.books) (c.deref.ensures ∙ c.held.view_is))
    c.args.seat.now.seat.me.0 c.requires.desk c.args.family c.requires.current.0 c.requires.current.1
    c.current.result.now.pack c.current.result.now.body.value c.current.ensures c.add_ref.new.seat.seat.me.0
    (ap (λ (z : LaneView). z.locks) ok.1))

pub borrow_locked-requires-clause-fresh : goal.borrow_locked-requires-clause-fresh
borrow_locked-requires-clause-fresh g c =
    let ok = c.in_ok-fresh.ensures.ok in
    let pack = ap (λ (z : Bodied). z.pack) ok.0 in
    let big = (lend-held c.args.held.now.books c.deref.result.now.books (ap (λ (z : StateSeen). z.books) (c.deref.ensures ∙ c.held.view_is))
    c.args.seat.now.seat.me.0 c.requires.desk c.args.family c.requires.current.0 c.requires.current.1
    c.current.result.now.pack c.current.result.now.body.value c.current.ensures).0 in (
      omega (arith, pack, big),
      subst (λ (z : ℕ × LaneView). 0 < total (same z.0) z.1.hand) (λ i. (sym pack i, sym ok.1 i))
          (omega (arith, same-self c.current.result.now.pack)),
    )

pub returns-clause-ok : goal.returns-clause-ok
returns-clause-ok g c =
    let ok = c.in_ok-fresh.ensures.ok in
    let x = bodied body_of c.current.result.now in
    let sv = c.borrow_locked.ensures.borrow.1 in
    let same_x : bodied body_of c.borrow_locked.result.sv ≡ x = ap (bodied body_of) sv ∙ ok.0 in (
      c.borrow_locked.ensures.borrow.0,
      subst (IsShown c.args.family) (sym same_x)
          (lend-shown c.args.held.now.books c.deref.result.now.books (ap (λ (z : StateSeen). z.books) (c.deref.ensures ∙ c.held.view_is))
          c.args.seat.now.seat.me.0 c.requires.desk c.args.family c.requires.current.0 c.requires.current.1
          c.current.result.now.pack c.current.result.now.body.value c.current.ensures),
      c.borrow_locked.ensures.view
          ∙ (λ i. borrowed c.args.family ((ap (λ (z : Bodied). z.pack) ok.0 ∙ ap (λ (z : Bodied). z.pack) (sym same_x)) i)
          ((ok.1 ∙ ap (λ (z : Bodied). added z c.args.seat.now.seat.me.0) (sym same_x)) i)),
    )
