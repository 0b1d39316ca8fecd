use Rattle.std.proofs.Common.{ap, arith, subst, sym, ℕ, ◌*◌, ◌+◌, ◌∙◌, ◌≡◌}
use Rattle.sv_model.specs.declared.sv_refs.SvRef.{SvRef}
use Rattle.sv_rule.specs.ReferencePlays.{added}
use Rattle.sv_rule.specs.Views.{LaneView}
use Rattle.sv_slots.specs.Borrows.{borrowed, given_back}
use Rattle.sv_slots.specs.Seats.{Lends, bodied}
use Rattle.sv_model.specs.Turns.{IsAccounted}
use Rattle.sv_rule.specs.LockPlays.{gave_db, took_db}
use Rattle.sv_slots_tests.specs.Stages.{books_at}
use Rattle.sv_slots_tests.specs.declared.stages.Stage.{Stage}
use Rattle.sv_slots_tests.proofs.CachingLane.{bodied_at, can_add, can_borrow, is_known, is_lent, free_any, free_kept, free_swept, may_give_any, may_give_found, may_give_lent, pack_of}
use Rattle.sv_slots_tests.specs.World.{body_of, world_books}
use Rattle.sv_slots_tests.specs.declared.world.Shared.{Shared}
use Rattle.sv_slots_tests.proofs.fills.fill.Goals as goal

pub add_ref-requires-clause-held : goal.add_ref-requires-clause-held
add_ref-requires-clause-held g c =
    let f = c.args.family in let v = c.args.seat.now.seat.me.0 in
    let e : (c.from.result + 1) * 256 + f ≡ pack_of f = omega (arith, c.from.ensures) in
    let is = bodied_at f ((c.from.result + 1) * 256 + f) c.in_ok-new.field-0.value.family e
    (ap (λ (s : Shared). s.family) c.in_ok-new.ensures.ok) in (
      omega (arith, e),
      can_add f c.requires.family v c.requires.unused c.take_state-state.new.seat.seat.me.0
          (c.take_state-state.ensures.took ∙ ap (λ (s : Stage). took_db (books_at s) v) c.in-Opened.is) _ is,
    )

pub give_state-requires-clause-lock : goal.give_state-requires-clause-lock
give_state-requires-clause-lock g c =
    may_give_any c.args.family c.requires.family c.args.seat.now.seat.me.0 c.requires.unused
    (books_at c.take_state-state.result) c.take_state-state.new.seat.seat.me.0 c.take_state-state.ensures.took
    c.take_state-state.ensures.told.accounted

pub give_state-requires-in_default-add_ref-clause-lock : goal.give_state-requires-in_default-add_ref-clause-lock
give_state-requires-in_default-add_ref-clause-lock g c =
    let v = c.args.seat.now.seat.me.0 in
    may_give_found c.args.family c.requires.family v c.requires.unused c.add_ref.new.seat.seat.me.0
    (c.in_default-add_ref.ensures.err ∙ (c.take_state-state.ensures.took ∙ ap (λ (s : Stage). took_db (books_at s) v) c.in-Opened.is))
    (subst (λ (s : Stage). IsAccounted v.known.lane (books_at s) v.known.task) c.in-Opened.is c.take_state-state.ensures.told.accounted)

pub give_state-requires-2-clause-lock : goal.give_state-requires-2-clause-lock
give_state-requires-2-clause-lock g c =
    let f = c.args.family in let v = c.args.seat.now.seat.me.0 in
    let e : (c.from.result + 1) * 256 + f ≡ pack_of f = omega (arith, c.from.ensures) in
    let is = bodied_at f ((c.from.result + 1) * 256 + f) c.in_ok-new.field-0.value.family e
    (ap (λ (s : Shared). s.family) c.in_ok-new.ensures.ok) in
    let counted = c.in-Ok.ensures.ok.1 ∙ (λ i. added (is i) ((c.take_state-state.ensures.took ∙ ap (λ (s : Stage). took_db (books_at s) v) c.in-Opened.is) i)) in
    let pack = ap (λ x. x.pack) (c.in-Ok.ensures.ok.0 ∙ is) in
    may_give_lent f c.requires.family v c.requires.unused c.borrow_locked-borrow.new.seat.seat.me.0
    (c.borrow_locked-borrow.ensures.view ∙ (λ i. borrowed f (pack i) (counted i)))
    (subst (λ (s : Stage). IsAccounted v.known.lane (books_at s) v.known.task) c.in-Opened.is c.take_state-state.ensures.told.accounted)

pub give_back-requires-clause-lent : goal.give_back-requires-clause-lent
give_back-requires-clause-lent g c =
    let f = c.args.family in let v = c.args.seat.now.seat.me.0 in
    let e : (c.from.result + 1) * 256 + f ≡ pack_of f = omega (arith, c.from.ensures) in
    let is = bodied_at f ((c.from.result + 1) * 256 + f) c.in_ok-new.field-0.value.family e
    (ap (λ (s : Shared). s.family) c.in_ok-new.ensures.ok) in
    let counted = c.in-Ok.ensures.ok.1 ∙ (λ i. added (is i) ((c.take_state-state.ensures.took ∙ ap (λ (s : Stage). took_db (books_at s) v) c.in-Opened.is) i)) in
    let pack = ap (λ x. x.pack) (c.in-Ok.ensures.ok.0 ∙ is) in
    let lent = c.borrow_locked-borrow.ensures.view ∙ (λ i. borrowed f (pack i) (counted i)) in
    let b = c.borrow_locked-borrow in let w = c.give_state-2.new.seat.seat.me.0 in
    subst (λ (z : ℕ). Lends w z b.result.sv.pack) (sym b.ensures.borrow.0)
    (is_lent f c.requires.family v c.requires.unused w
    (c.give_state-2.ensures.gave ∙ ap (λ (z : LaneView). gave_db world_books z.known.task z) lent) b.result.sv.pack
    (ap (λ (r : SvRef Shared). r.pack) b.ensures.borrow.1 ∙ pack))

pub give_back-requires-clause-known : goal.give_back-requires-clause-known
give_back-requires-clause-known g c =
    let f = c.args.family in let v = c.args.seat.now.seat.me.0 in
    let e : (c.from.result + 1) * 256 + f ≡ pack_of f = omega (arith, c.from.ensures) in
    let is = bodied_at f ((c.from.result + 1) * 256 + f) c.in_ok-new.field-0.value.family e
    (ap (λ (s : Shared). s.family) c.in_ok-new.ensures.ok) in
    let counted = c.in-Ok.ensures.ok.1 ∙ (λ i. added (is i) ((c.take_state-state.ensures.took ∙ ap (λ (s : Stage). took_db (books_at s) v) c.in-Opened.is) i)) in
    let pack = ap (λ x. x.pack) (c.in-Ok.ensures.ok.0 ∙ is) in
    let lent = c.borrow_locked-borrow.ensures.view ∙ (λ i. borrowed f (pack i) (counted i)) in
    let b = c.borrow_locked-borrow in let w = c.give_state-2.new.seat.seat.me.0 in
    is_known f c.requires.family v c.requires.unused w
    (c.give_state-2.ensures.gave ∙ ap (λ (z : LaneView). gave_db world_books z.known.task z) lent) _
    (ap (λ (r : SvRef Shared). bodied (λ (s : Shared). body_of s.family) r) b.ensures.borrow.1 ∙ (c.in-Ok.ensures.ok.0 ∙ is))

pub returns-in-Kept-clause-ok : goal.returns-in-Kept-clause-ok
returns-in-Kept-clause-ok g c =
    let f = c.args.family in let v = c.args.seat.now.seat.me.0 in
    let e : (c.from.result + 1) * 256 + f ≡ pack_of f = omega (arith, c.from.ensures) in
    let is = bodied_at f ((c.from.result + 1) * 256 + f) c.in_ok-new.field-0.value.family e
    (ap (λ (s : Shared). s.family) c.in_ok-new.ensures.ok) in
    let counted = c.in-Ok.ensures.ok.1 ∙ (λ i. added (is i) ((c.take_state-state.ensures.took ∙ ap (λ (s : Stage). took_db (books_at s) v) c.in-Opened.is) i)) in
    let pack = ap (λ x. x.pack) (c.in-Ok.ensures.ok.0 ∙ is) in
    let lent = c.borrow_locked-borrow.ensures.view ∙ (λ i. borrowed f (pack i) (counted i)) in
    let b = c.borrow_locked-borrow in let w = c.give_state-2.new.seat.seat.me.0 in
    can_borrow f c.requires.family v c.requires.unused w c.give_back.new.seat.seat.me.0 b.result.sv.pack
    (c.give_state-2.ensures.gave ∙ ap (λ (z : LaneView). gave_db world_books z.known.task z) lent)
    (c.in-Kept.ensures.given ∙ ap (λ (z : ℕ). given_back z b.result.sv.pack w) b.ensures.borrow.0)

pub returns-in-Kept-clause-free : goal.returns-in-Kept-clause-free
returns-in-Kept-clause-free g c =
    let f = c.args.family in let v = c.args.seat.now.seat.me.0 in
    let e : (c.from.result + 1) * 256 + f ≡ pack_of f = omega (arith, c.from.ensures) in
    let is = bodied_at f ((c.from.result + 1) * 256 + f) c.in_ok-new.field-0.value.family e
    (ap (λ (s : Shared). s.family) c.in_ok-new.ensures.ok) in
    let counted = c.in-Ok.ensures.ok.1 ∙ (λ i. added (is i) ((c.take_state-state.ensures.took ∙ ap (λ (s : Stage). took_db (books_at s) v) c.in-Opened.is) i)) in
    let pack = ap (λ x. x.pack) (c.in-Ok.ensures.ok.0 ∙ is) in
    let lent = c.borrow_locked-borrow.ensures.view ∙ (λ i. borrowed f (pack i) (counted i)) in
    let b = c.borrow_locked-borrow in let w = c.give_state-2.new.seat.seat.me.0 in
    free_kept f c.requires.family v c.requires.unused b.result.family b.result.sv.pack w c.give_back.new.seat.seat.me.0
    (c.give_state-2.ensures.gave ∙ ap (λ (z : LaneView). gave_db world_books z.known.task z) lent)
    c.in-Kept.ensures.given

pub returns-clause-free : goal.returns-clause-free
returns-clause-free g c =
    let f = c.args.family in let v = c.args.seat.now.seat.me.0 in
    let e : (c.from.result + 1) * 256 + f ≡ pack_of f = omega (arith, c.from.ensures) in
    let is = bodied_at f ((c.from.result + 1) * 256 + f) c.in_ok-new.field-0.value.family e
    (ap (λ (s : Shared). s.family) c.in_ok-new.ensures.ok) in
    let counted = c.in-Ok.ensures.ok.1 ∙ (λ i. added (is i) ((c.take_state-state.ensures.took ∙ ap (λ (s : Stage). took_db (books_at s) v) c.in-Opened.is) i)) in
    let pack = ap (λ x. x.pack) (c.in-Ok.ensures.ok.0 ∙ is) in
    let lent = c.borrow_locked-borrow.ensures.view ∙ (λ i. borrowed f (pack i) (counted i)) in
    let b = c.borrow_locked-borrow in let w = c.give_state-2.new.seat.seat.me.0 in
    free_swept f c.requires.family v c.requires.unused b.result.family b.result.sv.pack w c.give_back.new.seat.seat.me.0
    (c.give_state-2.ensures.gave ∙ ap (λ (z : LaneView). gave_db world_books z.known.task z) lent)
    c.in-Swept.ensures.given.1

pub returns-in_default-add_ref-clause-free : goal.returns-in_default-add_ref-clause-free
returns-in_default-add_ref-clause-free g c =
    let v = c.args.seat.now.seat.me.0 in
    free_any c.args.family c.requires.family v c.requires.unused world_books c.add_ref.new.seat.seat.me.0
    c.give_state-in_default-add_ref.new.seat.seat.me.0
    (c.in_default-add_ref.ensures.err ∙ (c.take_state-state.ensures.took ∙ ap (λ (s : Stage). took_db (books_at s) v) c.in-Opened.is))
    c.give_state-in_default-add_ref.ensures.gave

pub returns-in_default-clause-free : goal.returns-in_default-clause-free
returns-in_default-clause-free g c =
    free_any c.args.family c.requires.family c.args.seat.now.seat.me.0 c.requires.unused
    (books_at c.take_state-state.result) c.take_state-state.new.seat.seat.me.0 c.give_state.new.seat.seat.me.0
    c.take_state-state.ensures.took c.give_state.ensures.gave

pub returns-in_err-new-clause-free : goal.returns-in_err-new-clause-free
returns-in_err-new-clause-free g c = record {
  alive = c.requires.unused.alive;
  db = c.requires.unused.db;
  cell = c.requires.unused.cell;
}
