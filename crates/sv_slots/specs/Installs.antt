-- What the calls of an install, of a retirement and of a cleanup make of a view, and what they answer.
use Rattle.std.specs.Prelude.{◌≡◌, ◌+◌, ◌≤◌, ◌∷◌, ◌==◌, [], cond, false, ℕ, List, Option, Some, None}
use Rattle.sv_model.specs.Books.{Books}
use Rattle.sv_model.specs.declared.sv_refs.SvRef.{SvRef}
use Rattle.sv_rule.specs.Blanks.{desk_of, old_in, taken_in}
use Rattle.sv_rule.specs.ReferencePlays.{learnt, opened}
use Rattle.sv_rule.specs.RoundPlays.{ended_current, numbered, rounded}
use Rattle.sv_rule.specs.SweepPlays.{beyond, works}
use Rattle.sv_rule.specs.Views.{Bodied, Body, LaneView, Work, begun, idle, opens, sweeping}
use Rattle.sv_model.specs.Tasks.{Task}
use Rattle.sv_slots.specs.Seats.{bodied}

-- A new SuperVersion of family f is current, in the books b, and the sweep begins; r was the number word, and the old
-- one has these bodies.
abbrev pub installed : ℕ → Bodied → Books → Task → List Bodied → ℕ → LaneView → LaneView
installed f x b u olds r v =
    let d = desk_of v in
    numbered (record { books = b; work = begun f; due = d.due }) f x.pack olds r
    (rounded f (record { books = b; work = opens f; due = d.due }) (opened f x b u d v))

-- the same, where the family has no current any more
abbrev pub retired : ℕ → Books → Task → List Bodied → ℕ → LaneView → LaneView
retired f b u olds r v =
    let d = desk_of v in
    numbered (record { books = b; work = begun f; due = d.due }) f 0 olds r (ended_current f b u d v)

-- the work once the lane in turn is passed, where so many references were taken
abbrev pub swept_on : ℕ → ℕ → ℕ → List ℕ → LaneView → LaneView
swept_on f l taken hand v =
    works (desk_of v) (beyond v.seat.lanes f (old_in (desk_of v).work) l taken) hand v

-- the work once l of so many lanes are passed, and what was taken is dropped
abbrev pub work_at : ℕ → ℕ → ℕ → ℕ → Work
work_at lanes f r l = cond (r == 0) (cond (l == lanes) idle (sweeping f r l false 0)) (sweeping f r l false 0)

-- From the view s on, l lanes are passed; these are the bodies of what the sweep took and dropped.
abbrev pub passed_by : ℕ → ℕ → LaneView → ℕ → List Bodied → LaneView
passed_by f r s l more = learnt more (works (desk_of s) (work_at s.seat.lanes f r l) s.hand s)

abbrev pub IsPassed : ℕ → ℕ → LaneView → ℕ → LaneView → Type 0
IsPassed f r s l v = (more : List Bodied) × (v ≡ passed_by f r s l more)

-- The lane in turn is passed. A reference that its slot cached is of the old pack, and in hand.
abbrev pub IsSwept : {B : Type 0} → (B → Body) → ℕ → ℕ → Option (SvRef B) → LaneView → LaneView → Type 0
IsSwept body f l None old new = new ≡ swept_on f l (taken_in (desk_of old).work) old.hand old
IsSwept body f l (Some sv) old new = (256 ≤ sv.pack) × (sv.pack ≡ old_in (desk_of old).work)
    × (new ≡ learnt (bodied body sv ∷ []) (swept_on f l (taken_in (desk_of old).work + 1) (sv.pack ∷ old.hand) old))
