-- A lane that has nothing makes its slot of a family cache the current SuperVersion.
use Rattle.std.proofs.Common.{[], ap, arith, inr, length, refl, subst, suc, sym, ℕ, ◌*◌, ◌+◌, ◌<◌, ◌∙◌, ◌∷◌, ◌≡◌, ◌≤◌}
use Rattle.sv_model.specs.Lists.{In, at, same, total}
use Rattle.sv_model.specs.Supers.{current_of}
use Rattle.sv_model.specs.Turns.{IsAccounted}
use Rattle.sv_rule.proofs.Sums.{at-put_same, length-without, same-self}
use Rattle.sv_rule.specs.LockPlays.{MayGiveDb, gave_db, took_db}
use Rattle.sv_rule.specs.ReferencePlays.{CanAdd, added}
use Rattle.sv_rule.specs.SeatPlays.{IsIdle}
use Rattle.sv_rule.specs.Table.{slot_of}
use Rattle.sv_rule.specs.Views.{Bodied, Desk, LaneView, away, borrow, idle}
use Rattle.sv_slots.proofs.Lent.{in-last}
use Rattle.sv_slots.proofs.Unchanged.{gives_found}
use Rattle.sv_model.specs.Books.{Books}
use Rattle.sv_slots.specs.Borrows.{borrowed, given_back, swept_back}
use Rattle.sv_slots.specs.Seats.{HasDesk, Lends}
use Rattle.sv_slots_tests.proofs.Bodies.{bodied_of, bodies-fit, currents}
use Rattle.sv_slots_tests.specs.Sweeping.{IsFree}
use Rattle.sv_slots_tests.specs.Unused.{CanBorrow}
use Rattle.sv_slots_tests.specs.World.{body_of, world_books}

abbrev pub pack_of : ℕ → ℕ
pack_of f = (suc f) * 256 + f

abbrev pub desk : Desk
desk = record { books = world_books; work = idle; due = [] }

-- the view that found the books
abbrev pub found : LaneView → LaneView
found v = took_db world_books v

-- with a reference, with a borrow, and with the lock given
abbrev pub counted_in : ℕ → LaneView → LaneView
counted_in f v = added (bodied_of f) (found v)

abbrev pub lent_to : ℕ → LaneView → LaneView
lent_to f v = borrowed f (pack_of f) (counted_in f v)

abbrev pub left_by : ℕ → LaneView → LaneView
left_by f v = gave_db world_books v.known.task (lent_to f v)

pub bodied_at : (f p g : ℕ) → p ≡ pack_of f → g ≡ f
    → ◌≡◌ {A = Bodied} (record { pack = p; body = body_of g }) (bodied_of f)
bodied_at f p g e s = λ i. record { pack = e i; body = body_of (s i) }

module _ (f : ℕ) (near : f < 4) (v : LaneView) (bare : IsIdle v) where
  pub can_add : (w : LaneView) → w ≡ found v → (x : Bodied) → x ≡ bodied_of f → CanAdd x w
  can_add w e x is = subst (λ (z : LaneView). CanAdd x z) (sym e) (subst (λ (y : Bodied). CanAdd y (found v)) (sym is)
      (inr (desk, f, refl, refl, omega (arith, near), sym (currents f near), bodies-fit f near)))

  pub room_found : (w : LaneView) → w ≡ found v → length w.hand < 65600
  room_found w e = omega (arith, ap (λ (z : LaneView). length z.hand) e, ap (λ l. length l) bare.hand)

  pub may_give_found : (w : LaneView) → w ≡ found v → IsAccounted v.known.lane world_books v.known.task
      → MayGiveDb w world_books w.known.task
  may_give_found w e is = subst (λ (z : LaneView). MayGiveDb z world_books z.known.task) (sym e)
      (gives_found (found v) desk bare.alive refl refl refl bare.cell is)

  pub is_free : (w : LaneView) → w ≡ counted_in f v → (slot_of w f ≡ away) × (at 0 w.slots.cached f ≡ 0)
  is_free w e = (ap (λ (z : LaneView). slot_of z f) e ∙ bare.slots f, ap (λ (z : LaneView). at 0 z.slots.cached f) e ∙ bare.cached f)

  pub is_locked : (w : LaneView) → w ≡ counted_in f v → (p : ℕ) → p ≡ pack_of f
      → HasDesk w (λ d. (d.work ≡ idle) × (p ≡ current_of d.books f))
  is_locked w e p is = (desk, ap (λ (z : LaneView). z.locks.db) e, (refl, is ∙ sym (currents f near)))

  pub is_fresh : (w : LaneView) → w ≡ counted_in f v → (p : ℕ) → p ≡ pack_of f
      → (256 ≤ p) × (0 < total (same p) w.hand)
  is_fresh w e p is = (
    omega (arith, is),
    omega (
      arith,
      ap (λ (z : LaneView). total (same p) z.hand) e,
      ap (λ q. same p q) (sym is),
      same-self p,
    ),
  )

  pub may_give_lent : (w : LaneView) → w ≡ lent_to f v → IsAccounted v.known.lane world_books v.known.task
      → MayGiveDb w world_books w.known.task
  may_give_lent w e is = subst (λ (z : LaneView). MayGiveDb z world_books z.known.task) (sym e)
      (gives_found (lent_to f v) desk bare.alive refl refl refl bare.cell is)

  pub is_lent : (w : LaneView) → w ≡ left_by f v → (p : ℕ) → p ≡ pack_of f → Lends w f p
  is_lent w e p is = (
    at 0 v.known.seen f,
    ap (λ (z : LaneView). slot_of z f) e
        ∙ (at-put_same away v.slots.slot f (borrow (pack_of f) (at 0 v.known.seen f))
        ∙ ap (λ q. borrow q (at 0 v.known.seen f)) (sym is)),
  )

  pub is_known : (w : LaneView) → w ≡ left_by f v → (x : Bodied) → x ≡ bodied_of f → In x w.known.bodies
  is_known w e x is = subst (λ (z : LaneView). In x z.known.bodies) (sym e) (subst (λ (y : Bodied). In y (left_by f v).known.bodies) (sym is)
      (in-last v.known.bodies (bodied_of f)))

  few : length (lent_to f v).hand ≤ 1
  few = omega (arith, length-without (pack_of f) (pack_of f ∷ v.hand), ap (λ l. length l) bare.hand)

  pub room_left : (w : LaneView) → w ≡ left_by f v → length w.hand < 65600
  room_left w e = omega (arith, ap (λ (z : LaneView). length z.hand) e, few)

  pub can_borrow : (w x : LaneView) (p : ℕ) → w ≡ left_by f v → x ≡ given_back f p w → CanBorrow f x
  can_borrow w x p e is = record {
    free = ap (λ (z : LaneView). slot_of z f) is ∙ at-put_same away w.slots.slot f away;
    room = omega (arith, ap (λ (z : LaneView). length z.hand) is, room_left w e);
  }

  -- books that are not those of the opening are given back as they were found
  pub may_give_any : (b : Books) (w : LaneView) → w ≡ took_db b v → IsAccounted v.known.lane b v.known.task
      → MayGiveDb w b w.known.task
  may_give_any b w e is = subst (λ (z : LaneView). MayGiveDb z b z.known.task) (sym e)
      (gives_found (took_db b v) (record { books = b; work = idle; due = [] }) bare.alive refl refl refl bare.cell is)

  pub free_any : (b : Books) (w u : LaneView) → w ≡ took_db b v → u ≡ gave_db b w.known.task w → IsFree u
  free_any b w u e is =
      let same : u ≡ gave_db b v.known.task (took_db b v) = is ∙ (λ i. gave_db b (e i).known.task (e i)) in record {
        alive = ap (λ (z : LaneView). z.seat.spent) same ∙ bare.alive;
        db = ap (λ (z : LaneView). z.locks.db) same;
        cell = ap (λ (z : LaneView). z.locks.cell) same ∙ bare.cell;
      }

  pub free_kept : (g p : ℕ) (w u : LaneView) → w ≡ left_by f v → u ≡ given_back g p w → IsFree u
  free_kept g p w u e is = let same = is ∙ ap (given_back g p) e in record {
    alive = ap (λ (z : LaneView). z.seat.spent) same ∙ bare.alive;
    db = ap (λ (z : LaneView). z.locks.db) same;
    cell = ap (λ (z : LaneView). z.locks.cell) same ∙ bare.cell;
  }

  pub free_swept : (g p : ℕ) (w u : LaneView) → w ≡ left_by f v → u ≡ swept_back g p w → IsFree u
  free_swept g p w u e is = let same = is ∙ ap (swept_back g p) e in record {
    alive = ap (λ (z : LaneView). z.seat.spent) same ∙ bare.alive;
    db = ap (λ (z : LaneView). z.locks.db) same;
    cell = ap (λ (z : LaneView). z.locks.cell) same ∙ bare.cell;
  }
