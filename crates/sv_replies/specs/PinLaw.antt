-- Pins.
use Rattle.std.specs.Prelude.{◌≡◌, ◌≤◌, ℕ, Some}
use Rattle.sv_model.specs.Books.{Books}
use Rattle.sv_replies.specs.Known.{Known}
use Rattle.sv_replies.specs.Due.{free_pin}
use Rattle.sv_replies.specs.Moments.{IsIn, IsOf}

-- It is the least free pin. Its SuperVersion is of the family, and no older than the lane was shown.
pub record Pins (books : Books) (k : Known) (pin serial family : ℕ) : Type 0 where
  pub least : free_pin k ≡ Some pin
  pub newer : (k.families family).serial ≤ serial
  pub of : IsIn (IsOf family) books.supers serial
