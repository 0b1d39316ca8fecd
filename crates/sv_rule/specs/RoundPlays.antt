-- What the steps on the round word and on number words make of a view, and what they tell.
use Rattle.std.specs.Prelude.{Bool, List, None, Option, Some, [], cond, false, length, slice_get, true, ℕ, ◌++◌, ◌+◌, ◌<◌, ◌==◌, ◌∷◌, ◌≡◌, ◌≤◌, ◌⊎◌}
use Rattle.atomic_table.specs.Table.{Me}
use Rattle.sv_model.specs.Books.{Books}
use Rattle.sv_model.specs.Families.{is_retired}
use Rattle.sv_model.specs.Lists.{Every}
use Rattle.sv_model.specs.declared.records.Family.{Family}
use Rattle.sv_rule.specs.Fits.{BodyFits}
use Rattle.sv_rule.specs.Ledger.{most_hand}
use Rattle.sv_rule.specs.Numbers.{NumberOk}
use Rattle.sv_rule.specs.SlotPlays.{reached}
use Rattle.sv_rule.specs.Sums.{put, without}
use Rattle.sv_model.specs.Supers.{current_of}
use Rattle.sv_model.specs.Turns.{EndsCurrent, Turns}
use Rattle.sv_model.specs.Tasks.{Task}
use Rattle.sv_rule.specs.Views.{Bodied, Desk, LaneView, begun, idle, sweeping}

-- ---- kind 7, round load

-- the lane found the round word r
abbrev pub framed : ℕ → LaneView → LaneView
framed r v = record v {
  known = record v.known {
    frames = cond (r == v.known.round) (v.loads ∷ v.known.frames)
        v.known.frames;
    round = r;
  };
  loads = [];
}

-- ---- kind 8, round add

-- the work on family f begins
abbrev pub rounded : ℕ → Desk → LaneView → LaneView
rounded f d v = record v {
  locks = record v.locks {
    db = Some
        (record { books = d.books; work = begun f; due = d.due });
  };
  counts = record v.counts { adds = v.counts.adds + 1 };
}

abbrev pub is_retired_in : Option Family → Bool
is_retired_in None = false
is_retired_in (Some x) = is_retired x

-- The same with other books, in which the family has no current: it is retired in them, or the lane ends it at the
-- close.
abbrev pub ended_current : ℕ → Books → Task → Desk → LaneView → LaneView
ended_current f b u d v = record v {
  seat = record v.seat { ends = cond (is_retired_in (slice_get b.families f)) v.seat.ends (f ∷ v.seat.ends) };
  known = record v.known { task = u };
  locks = record v.locks { db = Some (record { books = b; work = begun f; due = d.due }) };
  counts = record v.counts { adds = v.counts.adds + 1 };
}

-- The lane has the DB lock and no work, and goes on with these books.
pub record MayEndCurrent (v : LaneView) (f : ℕ) (b : Books) (u : Task) : Type 0 where
  pub alive : v.seat.spent ≡ false
  pub desk : Desk
  pub has : v.locks.db ≡ Some desk
  pub resting : desk.work ≡ idle
  pub near : f < 16
  pub current : 256 ≤ current_of desk.books f
  pub turns : Turns v.known.lane desk.books v.known.task b u []
  pub ended : EndsCurrent desk.books b f
  -- the family is retired in them, or the lane and those joined into it are all lanes
  pub family : Family
  pub family_at : slice_get b.families f ≡ Some family
  pub may : (is_retired family ≡ true) ⊎ (length v.joined + 1 ≡ v.seat.lanes)

-- ---- kind 6, number swap

-- the number word of f was r and is p, and the sweep begins; the bodies are those of the old pack
abbrev pub numbered : Desk → ℕ → ℕ → List Bodied → ℕ → LaneView → LaneView
numbered d f p olds r v = record v {
  known = record v.known { bodies = v.known.bodies ++ olds };
  locks = record v.locks { db = Some (record { books = d.books; work = sweeping f r 0 false 0; due = d.due }) };
  slots = record v.slots { looked = put 0 v.slots.looked f p };
  hand = reached r (without p v.hand);
}

-- The lane began the change of family f's number word, to the pack of its current in the books in hand, or to 0; the
-- bodies are of those books.
pub record MaySwap (v : LaneView) (f p : ℕ) (olds : List Bodied) : Type 0 where
  pub alive : v.seat.spent ≡ false
  pub desk : Desk
  pub has : v.locks.db ≡ Some desk
  pub begun_is : desk.work ≡ begun f
  pub near : f < 16
  pub is : p ≡ current_of desk.books f
  pub bodies : Every (BodyFits desk.books) olds
  pub room : length v.hand < most_hand

module _ {A : Type 0} where
  abbrev pub Framed : Me A LaneView → ℕ → Me A LaneView → Type 0
  Framed m r n = n ≡ (framed r m.0, m.1)

  abbrev pub Rounded : ℕ → Desk → Me A LaneView → ℕ → Me A LaneView → Type 0
  Rounded f d m r n = n ≡ (rounded f d m.0, m.1)

  abbrev pub EndedCurrent : ℕ → Books → Task → Desk → Me A LaneView → ℕ → Me A LaneView → Type 0
  EndedCurrent f b u d m r n = n ≡ (ended_current f b u d m.0, m.1)

  pub record Numbered (d : Desk) (f p : ℕ) (olds : List Bodied) (m : Me A LaneView) (r : ℕ) (n : Me A LaneView) : Type
      0 where
    pub is : n ≡ (numbered d f p olds r m.0, m.1)
    pub was : NumberOk d.books (begun f) f r
