-- The lanes of a new table have nothing, and each has its seat in the list.
use Rattle.std.proofs.Common.{List, [], length, refl, subst, suc, sym, zero, ℕ, ◌<◌, ◌≡◌}
use Rattle.std.specs.List.{remove}
use Rattle.std.specs.Prelude.{slice_index_or}
use Rattle.atomic_table.specs.Seated.{TableId}
use Rattle.sv_rule.specs.SeatPlays.{IsIdle}
use Rattle.sv_model.specs.Lists.{Every}
use Rattle.sv_rule.specs.Views.{LaneView, Start}
use Rattle.sv_rule.specs.declared.parts.Parts.{Ghosts}
use Rattle.sv_slots.proofs.OpenedSeats.{opened-idle}
use Rattle.sv_slots.proofs.Rows.{first-rest}
use Rattle.sv_slots.specs.Openings.{AreOpened, opened_view}
use Rattle.sv_slots.specs.declared.table.LaneSeat.{LaneSeat}
use Rattle.sv_slots_tests.specs.Unused.{AreAlone, AreUnused}

pub opened_unused : {P S D C B : Type 0} {g : Ghosts P S D C B} (t : TableId) (lanes : ℕ) (start : Start)
    (seats : List (LaneSeat P S D C B g)) → AreOpened t lanes start seats → AreUnused t seats
opened_unused t lanes start seats opened = λ i s e.
    let it = opened.each i s e in (it.table, subst IsIdle (sym it.view_is) (opened-idle lanes start i))

opened-alone : (lanes : ℕ) (start : Start) (lane : ℕ)
    → ((opened_view lanes start lane).seat.lanes ≡ lanes) × ((opened_view lanes start lane).joined ≡ [])
opened-alone lanes start zero = (refl, refl)
opened-alone lanes start (suc lane) = (refl, refl)

pub opened_alone : {P S D C B : Type 0} {g : Ghosts P S D C B} (t : TableId) (lanes : ℕ) (start : Start)
    (seats : List (LaneSeat P S D C B g)) → AreOpened t lanes start seats → AreAlone lanes seats
opened_alone t lanes start seats opened = λ i s e.
    let it = opened.each i s e in
    subst (λ (v : LaneView). (v.seat.lanes ≡ lanes) × (v.joined ≡ [])) (sym it.view_is) (opened-alone lanes start i)

-- what holds of each holds of the first, and of each of the others
pub of-first : {A : Type 0} (P : A → Type 0) (l : List A) (x : A) → 0 < length l → x ≡ slice_index_or l 0 x
    → Every P l → P x
of-first P l x some e h = subst (Every P) (first-rest l x some e) h 0 x refl

pub of-rest : {A : Type 0} (P : A → Type 0) (l more : List A) (x : A) → 0 < length l → x ≡ slice_index_or l 0 x
    → more ≡ remove l 0 → Every P l → Every P more
of-rest P l more x some e is h = subst (Every P) (sym is) (λ i y at. subst (Every P) (first-rest l x some e) h (suc i) y at)
