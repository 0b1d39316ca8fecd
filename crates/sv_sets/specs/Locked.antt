-- A set while its lane has the DB lock.
use Rattle.std.specs.Prelude.{IfOk, List, OnErr, Result, length, ℕ, ◌+◌, ◌≡◌}
use Rattle.sv_installs.specs.Installing.{Installs}
use Rattle.sv_model.specs.Books.{Books}
use Rattle.sv_model.specs.Refusals.{Refuses}
use Rattle.sv_model.specs.declared.refusals.Refusal.{Refusal}
use Rattle.sv_model.specs.declared.settings.OptionName.{OptionName}
use Rattle.sv_rule.specs.Views.{LaneView}
use Rattle.sv_sets.specs.Setting.{due_to_set}
use Rattle.sv_state.specs.Changing.{IsSet}

-- The option is set, and the new current is installed.
pub record RenewsLocked (l : ℕ) (name : List ℕ) (option : OptionName) (value n : ℕ) (a b : Books) (v w : LaneView) : Type
    0 where
  pub family : ℕ
  pub made : Books
  pub set : IsSet a made l name option value family
  pub serial_is : n ≡ length a.supers + 1
  pub installs : Installs family made b v w

-- The books b are those that it leaves, and the lane changed as it says.
pub record SetsLocked (l : ℕ) (name : List ℕ) (option : OptionName) (value : ℕ) (r : Result ℕ Refusal) (a b : Books)
    (v w : LaneView) : Type 0 where
  pub refused : Refuses (due_to_set a l name option value) r
  pub ok : IfOk r (λ n. RenewsLocked l name option value n a b v w)
  pub err : OnErr r ((b ≡ a) × (w ≡ v))
