-- What a sweep's steps on the slots of other lanes make of its view, and what they tell.
use Rattle.std.specs.Prelude.{◌≡◌, ℕ, ◌+◌, ◌<◌, ◌≤◌, ◌==◌, Bool, true, false, cond, List, [], ◌∷◌, Some}
use Rattle.atomic_table.specs.Table.{Me, rest}
use Rattle.sv_model.specs.declared.sv_refs.SvRef.{SvRef}
use Rattle.sv_rule.specs.declared.parts.Stored.{Stored}
use Rattle.sv_rule.specs.declared.parts.Stored.TheVariants as is
use Rattle.sv_rule.specs.Views.{LaneView, Desk, Work, Body, idle, sweeping}
use Rattle.sv_rule.specs.Blanks.{desk_of, old_in, taken_in}
use Rattle.sv_rule.specs.Table.{slot_home, spot}
use Rattle.sv_rule.specs.ReferencePlays.{learnt}

-- the lane sweeps the slots of family f, and lane l is in turn
pub record Sweeps (v : LaneView) (f l : ℕ) (mid : Bool) : Type 0 where
  pub has : v.locks.db ≡ Some (desk_of v)
  pub work : (desk_of v).work ≡ sweeping f (old_in (desk_of v).work) l mid (taken_in (desk_of v).work)

-- the lane that has the DB lock goes on with its work
abbrev pub works : Desk → Work → List ℕ → LaneView → LaneView
works d work hand v = record v {
  locks = record v.locks
      { db = Some (record { books = d.books; work = work; due = d.due }) };
  hand = hand;
}

-- the sweep once one more lane is passed; where there is no old pack, it ends with the last
abbrev pub beyond : ℕ → ℕ → ℕ → ℕ → ℕ → Work
beyond lanes f old l taken = cond (old == 0) (cond (l + 1 == lanes) idle (sweeping f old (l + 1) false taken))
    (sweeping f old (l + 1) false taken)

module _ {S D C B : Type 0} (body : B → Body) where
  -- the slot of lane l is with the sweep, unless its own lane has it
  pub record Swept (d : Desk) (f old l taken : ℕ) (m : Me (Stored S D C B) LaneView) (r : ℕ)
      (n : Me (Stored S D C B) LaneView) : Type 0 where
    pub empty : r ≡ 0 → n ≡ (
      works d (sweeping f old l true taken) m.0.hand m.0,
      (slot_home (spot l f), is.Nothing) ∷ m.1,
    )
    pub old_is : 256 ≤ r → r ≡ old
    pub cached : 256 ≤ r → (x : SvRef B) × (x.pack ≡ r)
        × (n ≡ (
          learnt (record { pack = r; body = body x.body.value } ∷ [])
              (works d (sweeping f old l true (taken + 1)) (r ∷ m.0.hand) m.0),
          (slot_home (spot l f), is.Cached x) ∷ m.1,
        ))
    pub passed : 0 < r → r < 256 → n ≡ (works d (beyond m.0.seat.lanes f old l taken) m.0.hand m.0, m.1)

module _ {A : Type 0} where
  -- the slot is home and empty, and lane l is passed
  abbrev pub Passed : Desk → ℕ → ℕ → ℕ → ℕ → Me A LaneView → ℕ → Me A LaneView → Type 0
  Passed d f old l taken m r n = n ≡ (works d (beyond m.0.seat.lanes f old l taken) m.0.hand m.0, rest m.1)
