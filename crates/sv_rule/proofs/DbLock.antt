-- The DB lock, where a lane steps that has it or not.
use Rattle.std.proofs.Common.{Option, Some, ap, set, ℕ, ◌≡◌}
use mathlib.Core.Option.{some}
use lib.ListN.{get_elem?}
use Rattle.atomic_table.specs.Table.{State}
use Rattle.sv_model.specs.Books.{Books}
use Rattle.sv_model.specs.Cells.{Cell}
use Rattle.sv_rule.specs.Home.{IsState, Lock}
use Rattle.sv_rule.specs.Rule.{Kept}
use Rattle.sv_rule.specs.Table.{home, word}
use Rattle.sv_rule.specs.Tasks.{has_db, some_count}
use Rattle.sv_rule.specs.Views.{Body, Desk, Disk, LaneView, Work}
use Rattle.sv_rule.specs.declared.parts.Stored.{Stored}
use Rattle.sv_rule.proofs.Assembly.{Desks}
use Rattle.sv_rule.proofs.Basics.{has_one}
use Rattle.sv_rule.proofs.LockLaws.{desks_same, desks_step, lock-else, lock-kept}

module _ {S D C B : Type 0} (books : S → Books) (disk : D → Disk) (cell : C → Option Cell) (body : B → Body)
    (s : State (Stored S D C B) LaneView) (kept : Kept books disk cell body s) (id : ℕ) (v w : LaneView)
    (me : get_elem? s.views id ≡ some v) where
  abbrev IsBooks : Books → Work → Stored S D C B → Type 0
  IsBooks b work = IsState {S = S} {D = D} {C = C} {B = B} books b work

  -- the lane's own does not change
  pub db-same : w.locks.db ≡ v.locks.db → Lock (IsBooks kept.b kept.work) has_db (word s 0) (home s 0)
      (set s.views id w)
  db-same e = lock-else (IsBooks kept.b kept.work) (IsBooks kept.b kept.work) has_db (word s 0) (home s 0) s.views id
      v w me (ap (λ (o : Option Desk). some_count o) e) (λ y h. h) kept.home.db

  pub owners-same : w.locks.db ≡ v.locks.db → Desks kept.b kept.work (set s.views id w)
  owners-same e = desks_same kept.b kept.work s.views id v w me e kept.home.desks

  -- the lane has the lock, and its desk changes
  module _ (d d' : Desk) (has : v.locks.db ≡ Some d) (now : w.locks.db ≡ Some d') where
    pub db-desk : (b' : Books) (work' : Work) → Lock (IsBooks b' work') has_db (word s 0) (home s 0) (set s.views id w)
    db-desk b' work' = lock-kept (IsBooks kept.b kept.work) (IsBooks b' work') has_db (word s 0) (home s 0) s.views id
        v w me (has_one v d has) (has_one w d' now) kept.home.db

    pub owners-desk : (b' : Books) (work' : Work) → d'.books ≡ b' → d'.work ≡ work' → Desks b' work' (set s.views id w)
    owners-desk b' work' is is' = desks_step {S = S} {D = D} {C = C} {B = B} books kept.b kept.work b' work'
        (word s 0) (home s 0) s.views id v w d d' me has now is is' kept.home.db
