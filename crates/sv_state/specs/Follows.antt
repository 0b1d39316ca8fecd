-- What is true of the books after any call.
use Rattle.std.specs.Prelude.{◌≡◌}
use Rattle.sv_model.specs.After.{After}
use Rattle.sv_model.specs.Books.{Books}
use Rattle.sv_model.specs.Steady.{Sound}
use Rattle.sv_state.specs.Seen.{StateSeen}

-- the books are sound, and come after those before
pub record Follows (a b : Books) : Type 0 where
  pub sound : Sound b
  pub after : After a b

-- nothing but file numbers, holds and jobs changed
abbrev pub OnlyFiles : StateSeen → StateSeen → Type 0
OnlyFiles old new = new ≡ record old { books = record old.books { files = new.books.files } }
