-- The round word tells of each change of a number word: what a lane loads between two loads of one round was current
-- together.
use Rattle.std.specs.Prelude.{◌≡◌, ◌≢◌, ◌⊎◌, ℕ, ◌+◌, ◌/◌, ◌<◌, ◌≤◌, List, length}
use Rattle.sv_model.specs.Lists.{total, Every}
use Rattle.sv_model.specs.Books.{Books}
use Rattle.sv_rule.specs.Sums.{below, Each}
use Rattle.sv_model.specs.Supers.{IsPackOf, IsSerialOf, current_of, has_current}
use Rattle.sv_rule.specs.Tasks.{all_adds}
use Rattle.sv_rule.specs.Views.{LaneView, Load, Work}
use Rattle.sv_rule.specs.UnderWay.{sets, sets_on, begins}

-- The pack that was loaded is its family's number word still, unless this is the family that moved. Then only two
-- SuperVersions came after it: that of the number word, and the current of a work that is set.
pub record Loaded (b : Books) (work : Work) (moved : ℕ) (number : ℕ → ℕ) (x : Load) : Type 0 where
  pub near : x.family < 16
  pub is : 256 ≤ x.pack → IsPackOf b.supers x.family x.pack
  pub still : x.family ≢ moved → x.pack ≡ number x.family
  pub after : x.family ≡ moved → 256 ≤ x.pack → (t : ℕ) → IsSerialOf b.supers x.family t → x.pack / 256 < t
      → (t ≡ number x.family / 256) ⊎ ((0 < sets_on x.family work) × (t ≡ current_of b x.family / 256))

pub record Rounds (b : Books) (work : Work) (round : ℕ) (number : ℕ → ℕ) (vs : List LaneView) : Type 0 where
  -- the family whose number word was the last to change, 16 and more where none did since the round was added to
  pub moved : ℕ
  pub begun_none : 0 < begins work → 16 ≤ moved
  pub greatest : moved < 16 → (g : ℕ) → g < 16 → 256 ≤ number moved → number g / 256 ≤ number moved / 256
  pub sum : round ≡ total all_adds vs
  -- at most the SuperVersions and the families without a current
  pub bound : round + below (has_current b) 16 + sets work ≤ length b.supers + length b.families
  pub low : Each (λ j v. v.known.round ≤ round) vs
  pub loaded : Each (λ j v. v.known.round ≡ round → Every (Loaded b work moved number) v.loads) vs
