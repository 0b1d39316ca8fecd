-- An option is set, and the SuperVersion before goes.
use Rattle.std.specs.Prelude.{◌≡◌, ◌+◌, ℕ, List, length}
use Rattle.sv_model.specs.declared.settings.OptionName.{OptionName}
use Rattle.sv_model.specs.Books.{Books}
use Rattle.sv_state.specs.Changing.{IsSet}
use Rattle.sv_store.specs.Going.{Renews}

-- The option of the family that the lane means by the name has this value, and this is the family's new current.
pub record Sets (a b : Books) (name : List ℕ) (option : OptionName) (value serial : ℕ) : Type 0 where
  pub family : ℕ
  pub renews : Renews (λ x y. IsSet x y 0 name option value family) family a b
  pub serial_is : serial ≡ length a.supers + 1
