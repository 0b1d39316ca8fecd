-- What is kept beside the numbers.
use Rattle.std.specs.Prelude.{◌≡◌, ◌<◌, ◌≤◌, ◌++◌, ℕ, if◌then◌else◌, List, Some, None, slice_get, length, map, min}
use Rattle.std.specs.Ordering.{nat_cmp}
use Rattle.std.specs.BTreeMap.{BTreeMap, get}
use Rattle.sv_model.specs.declared.records.RegisteredFile.{RegisteredFile}
use Rattle.sv_model.specs.declared.records.FileStatus.TheVariants.{Obsolete}
use Rattle.sv_model.specs.Books.{FileRegister}
use Rattle.sv_model.specs.Lists.{IsChosen, total}
use Rattle.sv_model.specs.Numbers.{AreInOrder, FilesStand, IsRegistered, captures, registered}
use Rattle.sv_model.specs.Summaries.{is_obsolete}

-- The map has the position of each number, and nothing else.
pub record KeepsPositions (places : BTreeMap ℕ ℕ) (numbers : List RegisteredFile) : Type 0 where
  pub found : (n p : ℕ) → get nat_cmp places n ≡ Some p → (x : RegisteredFile) × (slice_get numbers p ≡ Some x) × (x.number ≡ n)
  pub has : (p : ℕ) (x : RegisteredFile) → slice_get numbers p ≡ Some x → get nat_cmp places x.number ≡ Some p

-- how many numbers are Obsolete
abbrev pub count_obsolete : List RegisteredFile → ℕ
count_obsolete numbers = total (λ x. if is_obsolete x.status then 1 else 0) numbers

-- Each number is registered once, and found by the map. The Obsolete ones stand in order, with room for all.
pub record AreKept (numbers : List RegisteredFile) (places : BTreeMap ℕ ℕ) (obsolete : List ℕ) (room : ℕ) : Type 0 where
  pub once : (n : ℕ) → registered n numbers ≤ 1
  pub positions : KeepsPositions places numbers
  pub in_order : AreInOrder (λ n. IsRegistered numbers n Obsolete) obsolete
  pub counted : length obsolete ≡ count_obsolete numbers
  pub enough : length numbers ≤ room

-- a number that is still to be removed and that no family drew
abbrev pub obsolete_stray : ℕ → RegisteredFile
obsolete_stray number = record { number = number; status = Obsolete; family = None }

-- The listed numbers below the limit that were not registered are registered last, in the order of the listing.
pub record AddsStrays (old new : List RegisteredFile) (listed : List ℕ) (limit : ℕ) : Type 0 where
  pub strays : List ℕ
  pub chosen : IsChosen (λ n. (registered n old ≡ 0) × (n < limit)) listed strays
  pub is : new ≡ old ++ map obsolete_stray strays

-- The strays are registered, and found are all Obsolete numbers below the bound.
pub record FindsStrays (old new : List RegisteredFile) (listed : List ℕ) (bound next : ℕ) (found : List ℕ) : Type 0 where
  pub added : AddsStrays old new listed (min bound next)
  pub found_are : AreInOrder (λ n. IsRegistered new n Obsolete × (n < bound)) found

-- What holds of a book's fields, seen as a register.
pub record IsFileBook (files : FileRegister) (made : ℕ) : Type 0 where
  pub laws : FilesStand files
  pub counted : made ≡ captures files.numbers
