-- The books of the tests after an install in family 0, after the cleanup of its first SuperVersion, and at a close.
use Rattle.std.specs.Prelude.{ℕ, false, [], ◌∷◌, None, Some}
use Rattle.sv_model.specs.Books.{Books}
use Rattle.sv_model.specs.declared.records.SuperVersion.{SuperVersion}
use Rattle.sv_rule.specs.Views.{Bodied}
use Rattle.sv_slots_tests.specs.World.{body_of, super_of, top_of, world_books}
use Rattle.sv_slots_tests.specs.declared.stages.Stage.{Stage}
use Rattle.sv_slots_tests.specs.declared.stages.Stage.TheVariants.{Cleaned, Ended, Installed, Opened}

-- the packs of the first SuperVersion of family 0, and of the one that takes its place
abbrev pub old_pack : ℕ
old_pack = 256

abbrev pub new_pack : ℕ
new_pack = 1284

-- it names what the first one names
abbrev pub new_super : SuperVersion
new_super = record (super_of 0) { place = 4 }

abbrev pub new_bodied : Bodied
new_bodied = record { pack = new_pack; body = body_of 0 }

abbrev pub installed_books : Books
installed_books = record world_books {
  supers = super_of 0 ∷ super_of 1 ∷ super_of 2 ∷ super_of 3 ∷ new_super ∷ [];
  tops = record { current = Some 5; last = 1 } ∷ top_of 1 ∷ top_of 2 ∷ top_of 3 ∷ [];
}

abbrev pub cleaned_books : Books
cleaned_books = record installed_books {
  supers = record (super_of 0) { live = false } ∷ super_of 1 ∷ super_of 2 ∷ super_of 3 ∷ new_super ∷ [];
}

abbrev pub ended_books : Books
ended_books = record world_books {
  tops = record { current = None; last = 1 } ∷ top_of 1 ∷ top_of 2 ∷ top_of 3 ∷ [];
}

abbrev pub books_at : Stage → Books
books_at Opened = world_books
books_at Installed = installed_books
books_at Cleaned = cleaned_books
books_at Ended = ended_books
