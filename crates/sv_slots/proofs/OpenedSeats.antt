-- Seats that were just made have nothing in hand, so the table may be closed.
use Rattle.std.proofs.Common.{List, Some, [], ap, arith, length, refl, slice_get, subst, suc, sym, zero, ℕ, ◌<◌, ◌∙◌, ◌∷◌, ◌≡◌}
use Rattle.atomic_table.specs.Seated.{TableId}
use Rattle.sv_model.specs.Lists.{total}
use Rattle.sv_rule.proofs.Basics.{get_none, some_is}
use Rattle.sv_rule.specs.Blanks.{new_view}
use Rattle.sv_rule.specs.SeatPlays.{IsIdle}
use Rattle.sv_rule.specs.Tasks.{joined_count}
use Rattle.sv_rule.specs.Views.{LaneView, Start}
use Rattle.sv_rule.specs.declared.parts.Parts.{Ghosts}
use Rattle.sv_slots.specs.Closings.{AreAll, CanClose, views_of}
use Rattle.sv_slots.specs.Openings.{AreOpened, IsSeat, opened_view}
use Rattle.sv_slots.specs.declared.table.LaneSeat.{LaneSeat}

new-idle : (lane lanes made : ℕ) (start : Start) → IsIdle (new_view lane lanes made start)
new-idle lane lanes made start = record {
  alive = refl;
  db = refl;
  cell = refl;
  dir = refl;
  slots = λ f. refl;
  cached = λ f. refl;
  hand = refl;
  owes = refl;
  holds = refl;
  handles = refl;
  output = refl;
  job = refl;
}

pub opened-idle : (lanes : ℕ) (start : Start) (lane : ℕ) → IsIdle (opened_view lanes start lane)
opened-idle lanes start zero = new-idle 0 lanes lanes start
opened-idle lanes start (suc lane) = new-idle (suc lane) lanes 0 start

opened-joined : (lanes : ℕ) (start : Start) (lane : ℕ) → (opened_view lanes start lane).joined ≡ []
opened-joined lanes start zero = refl
opened-joined lanes start (suc lane) = refl

module _ {P S D C B : Type 0} {g : Ghosts P S D C B} where
  seat-at : (seats : List (LaneSeat P S D C B g)) (i : ℕ) (v : LaneView) → slice_get (views_of seats) i ≡ Some v
      → (s : LaneSeat P S D C B g) × (slice_get seats i ≡ Some s) × (v ≡ s.seat.me.0)
  seat-at [] i v e = absurd (get_none i v e)
  seat-at (s ∷ seats) zero v e = (s, refl, sym (some_is e))
  seat-at (s ∷ seats) (suc i) v e = seat-at seats i v e

  none-joined : (seats : List (LaneSeat P S D C B g))
      → ((i : ℕ) (s : LaneSeat P S D C B g) → slice_get seats i ≡ Some s → s.seat.me.0.joined ≡ [])
      → total joined_count (views_of seats) ≡ 0
  none-joined [] h = refl
  none-joined (s ∷ seats) h = omega (
    arith,
    ap (λ l. length l) (h 0 s refl),
    none-joined seats (λ i x e. h (suc i) x e),
  )

  views-long : (seats : List (LaneSeat P S D C B g)) → length (views_of seats) ≡ length seats
  views-long [] = refl
  views-long (s ∷ seats) = ap suc (views-long seats)

  pub opened_closes : (t : TableId) (lanes : ℕ) (start : Start) (seats : List (LaneSeat P S D C B g)) → 0 < lanes
      → AreOpened t lanes start seats → CanClose t seats
  opened_closes t lanes start seats some opened = record {
    table = λ i s e. (opened.each i s e).table;
    idle = λ i v e. let s = seat-at seats i v e in
        subst IsIdle (sym (s.2 ∙ (opened.each i s.0 s.1).view_is)) (opened-idle lanes start i);
    all = all seats opened.count opened.each;
  }
    where
      all : (seats : List (LaneSeat P S D C B g)) → length seats ≡ lanes
          → ((i : ℕ) (s : LaneSeat P S D C B g) → slice_get seats i ≡ Some s
          → IsSeat t i (opened_view lanes start i) s) → AreAll (views_of seats)
      all [] count each = absurd (omega (arith, some, count))
      all (s ∷ seats) count each =
          let first = (each 0 s refl).view_is in
          let made : s.seat.me.0.seat.made ≡ lanes = ap (λ (v : LaneView). v.seat.made) first in (
            omega (arith, some, made),
            omega (
              arith,
              made,
              count,
              views-long seats,
              none-joined (s ∷ seats)
                  (λ i x e. ap (λ (v : LaneView). v.joined) (each i x e).view_is ∙ opened-joined lanes start i),
            ),
          )
