-- What a lane of many answers that sets an option, and what it leaves.
use Rattle.std.specs.Prelude.{IfOk, List, OnErr, Option, Result, [], length, ℕ, ◌++◌, ◌+◌, ◌/◌, ◌<◌, ◌∷◌, ◌≡◌}
use Rattle.sv_borrows.specs.Desks.{AreAlike}
use Rattle.sv_borrows.specs.Grown.{Cleans}
use Rattle.sv_family.specs.Refused.{set_refusal}
use Rattle.sv_model.specs.Books.{Books}
use Rattle.sv_model.specs.Lists.{In}
use Rattle.sv_model.specs.Refusals.{Refuses, first_due}
use Rattle.sv_model.specs.Supers.{current_of}
use Rattle.sv_model.specs.declared.refusals.Refusal.{Refusal}
use Rattle.sv_model.specs.declared.settings.OptionName.{OptionName}
use Rattle.sv_registry.specs.Calls.{make_refusal}
use Rattle.sv_rule.specs.Sums.{put}
use Rattle.sv_rule.specs.Views.{Bodied, LaneView}
use Rattle.sv_state.specs.Changing.{IsSet}

-- ---- of the books

-- what is due of the books found: of the option and the name first, and then of a SuperVersion more
abbrev pub due_to_set : Books → ℕ → List ℕ → OptionName → ℕ → Option Refusal
due_to_set a l name option value =
    first_due (set_refusal a.families l name option value ∷ make_refusal a.supers ∷ [])

-- In the books m the family that lane l means by the name has the option, and a new current of this serial. After them
-- only a SuperVersion of which nobody had a reference any more is Gone.
pub record SetsTo (l : ℕ) (name : List ℕ) (option : OptionName) (value n f : ℕ) (a m b : Books) : Type 0 where
  pub set : IsSet a m l name option value f
  pub serial_is : n ≡ length a.supers + 1
  pub cleans : Cleans m b

-- ---- of the lane

-- The lane took the DB lock once, found the books a and left the books b.
abbrev pub asked : Books → Books → LaneView → LaneView
asked a b v = record v { known = record v.known { found = v.known.found ++ a ∷ []; left = v.known.left ++ b ∷ [] } }

-- Between, the SuperVersion of x became current and was looked at, and the lane learnt what the swept slots had.
abbrev pub renewed_view : ℕ → Bodied → Books → Books → List Bodied → List ℕ → LaneView → LaneView
renewed_view f x a b more s v = record v {
  known = record v.known {
    found = v.known.found ++ a ∷ [];
    left = v.known.left ++ b ∷ [];
    bodies = v.known.bodies ++ x ∷ more;
    seen = s;
  };
  slots = record v.slots { looked = put 0 v.slots.looked f x.pack };
  counts = record v.counts { adds = v.counts.adds + 1 };
}

-- The option is set, by one install. The new serial is above those of all SuperVersions that the lane knew. Nothing else
-- of the lane changed.
pub record Renews (l : ℕ) (name : List ℕ) (option : OptionName) (value n : ℕ) (a b : Books) (v w : LaneView) : Type
    0 where
  pub family : ℕ
  pub made : Books
  pub sets : SetsTo l name option value n family a made b
  pub new : Bodied
  pub new_is : new.pack ≡ current_of made family
  pub above : (x : Bodied) → In x v.known.bodies → x.pack / 256 < n
  pub more : List Bodied
  pub seen : List ℕ
  pub alike : AreAlike seen v.known.seen
  pub is : w ≡ renewed_view family new a b more seen v

-- What a set answers and leaves. It is refused as the books found say, and then they stand.
pub record Sets (l : ℕ) (name : List ℕ) (option : OptionName) (value : ℕ) (r : Result ℕ Refusal) (v w : LaneView) : Type
    0 where
  pub found : Books
  pub left : Books
  pub refused : Refuses (due_to_set found l name option value) r
  pub ok : IfOk r (λ n. Renews l name option value n found left v w)
  pub err : OnErr r ((left ≡ found) × (w ≡ asked found left v))
