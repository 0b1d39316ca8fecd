-- What a scan answers and leaves.
use Rattle.std.specs.Prelude.{◌≡◌, ◌≤◌, ◌⊎◌, ◌++◌, ℕ, List, [], Option, Some, None, IfSome, map}
use Rattle.std.specs.List.{filter_map}
use Rattle.sv_model.specs.declared.refusals.Refusal.{Refusal}
use Rattle.sv_model.specs.declared.refusals.Refusal.TheVariants as refusal
use Rattle.sv_model.specs.Books.{FileRegister}
use Rattle.sv_model.specs.Faults.{Rose}
use Rattle.sv_model.specs.Files.{Files}
use Rattle.sv_model.specs.Lists.{In, IsChosen}
use Rattle.sv_model.specs.Numbers.{AreInOrder, IsReady}
use Rattle.sv_dir.specs.Files.{ListsEach}
use Rattle.sv_dir.specs.TableNames.{number_named}
use Rattle.sv_files.specs.Calls.{IsStray, disabled}
use Rattle.sv_files.specs.Kept.{obsolete_stray}
use Rattle.sv_store.specs.Purging.{IsIdle}
use Rattle.sv_store.specs.Removals.{DirSeen, Removes, RemovesSome}

-- ---- the listing

-- the numbers of the table files among these names, in the order of the names
abbrev pub numbers_named : List (List ℕ) → List ℕ
numbers_named names = filter_map number_named names

-- The numbers are those of the names that were listed: each file's, where the directory tells its files.
pub record IsListing (told : Option Files) (listed : List ℕ) : Type 0 where
  pub names : List (List ℕ)
  pub each : IfSome told (ListsEach names)
  pub are : listed ≡ numbers_named names

-- a listing was refused: the directory failed, which is told with the number 0, or out of memory
abbrev pub ListingRefused : Refusal → Type 0
ListingRefused (refusal.DirFault number) = number ≡ 0
ListingRefused refusal.OutOfMemory = Unit {0}
ListingRefused e = ⊥

-- ---- what is handed out

-- the strays are registered last, as Obsolete
abbrev pub with_strays : FileRegister → List ℕ → FileRegister
with_strays r strays = record r { numbers = r.numbers ++ map obsolete_stray strays }

-- The numbers are those that were Obsolete and below the bound, and the strays of the listing, ascending.
pub record HandsOut (r : FileRegister) (listed strays numbers : List ℕ) : Type 0 where
  pub chosen : IsChosen (IsStray r) listed strays
  pub are : AreInOrder (λ n. IsReady r n ⊎ In n strays) numbers

-- ---- all together

-- No hold stands, and these numbers of a listing were handed out.
pub record IsBegun (old : FileRegister) (d : DirSeen) (strays numbers : List ℕ) : Type 0 where
  pub free : disabled old ≡ None
  pub listed : List ℕ
  pub listing : IsListing d.files listed
  pub hands : HandsOut old listed strays numbers

-- The strays are registered, and each number that was handed out is Gone.
pub record Scans (old new : FileRegister) (d : DirSeen) (numbers : List ℕ) : Type 0 where
  pub strays : List ℕ
  pub begun : IsBegun old d strays numbers
  pub removes : Removes (with_strays old strays) new d numbers numbers []

-- The same, but some of the numbers are left: they are Obsolete, and strays among them stay registered.
pub record ScansSome (old new : FileRegister) (d : DirSeen) (e : Refusal) : Type 0 where
  pub strays : List ℕ
  pub numbers : List ℕ
  pub begun : IsBegun old d strays numbers
  pub removes : RemovesSome (with_strays old strays) new d numbers e

-- No hold stands, and nothing was handed out nor removed.
pub record HandsOutNone (old new : FileRegister) (d : DirSeen) : Type 0 where
  pub free : disabled old ≡ None
  pub same : new ≡ old
  pub files : d.later ≡ d.files
  pub later : d.before ≤ d.now

-- The directory failed at the listing, which the number 0 stands for.
pub record ListingFails (old new : FileRegister) (d : DirSeen) (number : ℕ) : Type 0 where
  pub none : HandsOutNone old new d
  pub number_is : number ≡ 0
  pub rose : Rose d.before d.now

-- What a refused scan leaves. It is refused as `Disabled` exactly where holds stand, as many as shown.
abbrev pub ScanStops : FileRegister → FileRegister → DirSeen → Refusal → Type 0
ScanStops old new d (refusal.Disabled count) = (disabled old ≡ Some (refusal.Disabled count)) × IsIdle old new d
ScanStops old new d (refusal.DirFault number) = ListingFails old new d number ⊎ ScansSome old new d (refusal.DirFault number)
ScanStops old new d refusal.OutOfMemory = HandsOutNone old new d ⊎ ScansSome old new d refusal.OutOfMemory
ScanStops old new d e = ⊥
