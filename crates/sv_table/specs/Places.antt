-- Where the rows of a file begin.
use Rattle.std.specs.Prelude.{◌≡◌, ◌≤◌, ℕ, List, [], ◌∷◌, length, drop, Ok}
use Rattle.sv_model.specs.declared.writes.Kept.{Kept}
use Rattle.sv_model.specs.Order.{OrderedBy, key_of_kept, end_of_kept}
use Rattle.sv_model.specs.TableText.{IsTextOf}
use Rattle.sv_model.specs.TableTextFields.{start}
use Rattle.sv_table.specs.Reading.{Header, Entry, shape_of, entry_at, kept_of}

-- A row stands at this place. It is read there as if it were a first row with another after it.
pub record Stands (h : Header) (bytes : List ℕ) (place : ℕ) (r : Kept) : Type 0 where
  pub entry : Entry
  pub rest : List ℕ
  pub within : place ≤ length bytes
  pub reads : entry_at (shape_of h) 1 start (drop place bytes) ≡ Ok (entry, rest)
  pub is : kept_of h entry ≡ r

-- These are the places of these rows.
abbrev pub ArePlaces : Header → List ℕ → List ℕ → List Kept → Type 0
ArePlaces h bytes [] [] = Unit {0}
ArePlaces h bytes [] (r ∷ rows) = ⊥
ArePlaces h bytes (p ∷ places) [] = ⊥
ArePlaces h bytes (p ∷ places) (r ∷ rows) = Stands h bytes p r × ArePlaces h bytes places rows

-- The bytes are a text of a table with this header, and these are the places of its rows.
pub record IsIndexed (h : Header) (bytes places : List ℕ) : Type 0 where
  pub rows : List Kept
  pub text : IsTextOf bytes h.from h.to h.bottom rows
  pub count : h.count ≡ length rows
  pub are : ArePlaces h bytes places rows

-- Some row stands at this place.
pub record HasRowAt (h : Header) (bytes : List ℕ) (place : ℕ) : Type 0 where
  pub row : Kept
  pub stands : Stands h bytes place row

-- These are the places of rows that stand in order.
pub record HasPlaces (h : Header) (bytes places : List ℕ) : Type 0 where
  pub rows : List Kept
  pub are : ArePlaces h bytes places rows
  pub ordered : OrderedBy key_of_kept end_of_kept rows
