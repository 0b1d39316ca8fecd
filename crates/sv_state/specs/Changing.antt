-- An option is set.
use Rattle.std.specs.Prelude.{◌≡◌, ℕ, List, Some, slice_get}
use Rattle.sv_model.specs.declared.records.Family.{Family}
use Rattle.sv_model.specs.declared.settings.OptionName.{OptionName}
use Rattle.sv_model.specs.Books.{Books}
use Rattle.sv_model.specs.Families.{IsOwn}
use Rattle.sv_family.specs.Calls.{with_option}
use Rattle.sv_laws.specs.NewCurrents.{IsOptionSet}

-- The option of the family that the lane means by the name has this value.
pub record IsSet (a b : Books) (lane : ℕ) (name : List ℕ) (option : OptionName) (value family : ℕ) : Type 0 where
  pub it : Family
  pub at : slice_get a.families family ≡ Some it
  pub own : IsOwn lane name it
  pub set : IsOptionSet a b family (with_option option value it.options)
