-- What a lane learns, and what it does with the books.
use Rattle.std.specs.Prelude.{List, [], ℕ, ◌++◌, ◌∷◌, ◌≡◌, ◌≤◌, ◌⊎◌}
use Rattle.sv_laws.specs.Cleaning.{IsCleaned}
use Rattle.sv_model.specs.After.{Continues}
use Rattle.sv_model.specs.Books.{Books}
use Rattle.sv_model.specs.Lists.{at}
use Rattle.sv_model.specs.Tasks.{Task}
use Rattle.sv_model.specs.declared.records.SuperVersion.{SuperVersion}
use Rattle.sv_model.specs.declared.writes.Write.{Write}
use Rattle.sv_rule.specs.Views.{Known, Load, Start}

-- what only other calls change
abbrev pub base_of : Known → ℕ × Start × Task × List Write × ℕ × List (List Load)
base_of k = (k.lane, k.start, k.task, k.mine, k.round, k.frames)

-- The lane learnt more, and changed nothing of its own. Books that fit what it knows now fit what it knew before.
pub record Grows (v w : Known) : Type 0 where
  pub base : base_of w ≡ base_of v
  pub found : Continues v.found w.found
  pub left : Continues v.left w.left
  pub bodies : Continues v.bodies w.bodies
  pub rows : Continues v.rows w.rows
  pub reads : Continues v.reads w.reads
  pub seen : (f : ℕ) → at 0 v.seen f ≤ at 0 w.seen f

-- R holds of each two at the same place
abbrev pub Paired : (Books → Books → Type 0) → List Books → List Books → Type 0
Paired R [] [] = Unit {0}
Paired R [] (b ∷ ys) = ⊥
Paired R (a ∷ xs) [] = ⊥
Paired R (a ∷ xs) (b ∷ ys) = R a b × Paired R xs ys

-- The lane took the DB lock some times and gave it as often, and the books that each giving left are so related to
-- those that its taking found.
pub record Givings (R : Books → Books → Type 0) (v w : Known) : Type 0 where
  pub takings : List Books
  pub givings : List Books
  pub found : w.found ≡ v.found ++ takings
  pub left : w.left ≡ v.left ++ givings
  pub each : Paired R takings givings

-- nothing changed, or a SuperVersion that is no family's current went with all that it alone named
abbrev pub Cleans : Books → Books → Type 0
Cleans a b = (b ≡ a) ⊎ ((s : ℕ) × (x : SuperVersion) × IsCleaned a b s x)
