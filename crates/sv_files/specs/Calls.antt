-- What the calls of a book of file numbers give and leave.
use Rattle.std.specs.Prelude.{◌≡◌, ◌+◌, ◌<◌, ◌≤◌, ◌==◌, ◌||◌, ◌++◌, ◌∷◌, ◌⊎◌, ℕ, Bool, if◌then◌else◌, nat_le, nat_lt, List, [], Option, Some, None, map, replicate, length, sum, slice_get, slice_set}
use Rattle.std.specs.List.{list_any}
use Rattle.sv_model.specs.declared.records.RegisteredFile.{RegisteredFile}
use Rattle.sv_model.specs.declared.records.FileStatus.{FileStatus}
use Rattle.sv_model.specs.declared.records.FileStatus.TheVariants as status
use Rattle.sv_model.specs.declared.refusals.Refusal.{Refusal}
use Rattle.sv_model.specs.declared.refusals.Refusal.TheVariants.{RegisterFull, Disabled, NoHold, TooManyHolds}
use Rattle.sv_model.specs.Books.{FileRegister}
use Rattle.sv_model.specs.Lists.{Distinct, In, IsChosen}
use Rattle.sv_model.specs.Numbers.{AreInOrder, IsMarked, IsReady, IsSettled, captures, least_captured, registered}
use Rattle.sv_files.specs.declared.settled.Settled.{Settled}
use Rattle.sv_files.specs.declared.settled.Settled.TheVariants as settled
use Rattle.sv_model.specs.declared.limits.TheConstants.{MAX_CAPTURED, MAX_FAMILIES, MAX_HOLDS, MAX_LANES, MAX_WRITES}

-- ---- making a book

-- a book of these numbers, with no capture, no hold and no job
abbrev pub opened : ℕ → List RegisteredFile → FileRegister
opened next numbers = record { numbers = numbers; captured = replicate MAX_FAMILIES None; holds = replicate MAX_LANES 0; jobs = 0; next = next }

-- the family's number, which a Version names
abbrev pub live_file : ℕ × ℕ → RegisteredFile
live_file f = record { number = f.1; status = status.Live; family = Some f.0 }

-- The numbers differ, and each is at least 1 and below the next one.
pub record AreNamed (next : ℕ) (files : List (ℕ × ℕ)) : Type 0 where
  pub few : length files ≤ MAX_WRITES
  pub apart : Distinct (map (λ (f : ℕ × ℕ). f.1) files)
  pub within : (i : ℕ) (f : ℕ × ℕ) → slice_get files i ≡ Some f → (1 ≤ f.1) × (f.1 < next)

-- ---- captures

-- the refusal that a capture meets: 1,048,576 numbers were captured, or the next one is the greatest of all
abbrev pub capture_refusal : FileRegister → Option Refusal
capture_refusal r =
    if nat_le MAX_CAPTURED (captures r.numbers) || (r.next == 18446744073709551615) then Some RegisterFull else None

-- The next number is registered last as Pending, and is the family's captured number.
abbrev pub captured_for : FileRegister → ℕ → FileRegister
captured_for r family = record r {
  numbers = r.numbers ++ record { number = r.next; status = status.Pending; family = Some family } ∷ [];
  captured = slice_set r.captured family (Some r.next);
  next = r.next + 1;
}

abbrev pub settled_status : Settled → FileStatus
settled_status settled.Live = status.Live
settled_status settled.Obsolete = status.Obsolete

-- The number is settled for the one family that had it captured.
pub record Settles (number : ℕ) (now : FileStatus) (old new : FileRegister) : Type 0 where
  pub family : ℕ
  pub only : (f : ℕ) → slice_get old.captured f ≡ Some (Some number) → f ≡ family
  pub settled : IsSettled family number now old new

-- ---- holds

-- the refusals that a hold and its end meet
abbrev pub hold_refusal : ℕ → Option Refusal
hold_refusal count = if count == MAX_HOLDS then Some TooManyHolds else None

abbrev pub unhold_refusal : ℕ → Option Refusal
unhold_refusal count = if count == 0 then Some NoHold else None

-- the lane has this count of holds
abbrev pub with_hold : FileRegister → ℕ → ℕ → FileRegister
with_hold r lane count = record r { holds = slice_set r.holds lane count }

-- no lane has a hold any more
abbrev pub without_holds : FileRegister → FileRegister
without_holds r = record r { holds = replicate MAX_LANES 0 }

-- the refusal that finding meets: holds stand
abbrev pub disabled : FileRegister → Option Refusal
disabled r = if nat_lt 0 (sum r.holds) then Some (Disabled (sum r.holds)) else None

-- ---- finding

-- the number is Grabbed where it was found
abbrev pub grab : List ℕ → RegisteredFile → RegisteredFile
grab found f = record f { status = if list_any (λ n. n == f.number) found then status.Grabbed else f.status }

-- What was found is Grabbed, and one more job is under way.
abbrev pub grabbed : FileRegister → List ℕ → FileRegister
grabbed r found = record r { numbers = map (grab found) r.numbers; jobs = r.jobs + 1 }

-- Found are the numbers that were Obsolete and below the bound, ascending, and they are Grabbed.
pub record IsFound (old new : FileRegister) (found : List ℕ) : Type 0 where
  pub ready : AreInOrder (IsReady old) found
  pub is : new ≡ grabbed old found

-- the number is not registered, and below the bound and the next number
pub record IsStray (r : FileRegister) (number : ℕ) : Type 0 where
  pub new : registered number r.numbers ≡ 0
  pub low : number < least_captured r.captured
  pub below : number < r.next

-- a stray that was found
abbrev pub stray : ℕ → RegisteredFile
stray number = record { number = number; status = status.Grabbed; family = None }

-- Found are the numbers that were Obsolete and below the bound and the strays of the list, ascending. They are Grabbed,
-- and the strays are registered.
pub record IsScanned (old new : FileRegister) (listed found : List ℕ) : Type 0 where
  pub strays : List ℕ
  pub chosen : IsChosen (IsStray old) listed strays
  pub found_are : AreInOrder (λ n. IsReady old n ⊎ In n strays) found
  pub is : new ≡ record old { numbers = map (grab found) old.numbers ++ map stray strays; jobs = old.jobs + 1 }

-- The Obsolete number is Grabbed, and one more job is under way.
pub record IsTaken (number : ℕ) (old new : FileRegister) : Type 0 where
  pub numbers : IsMarked number status.Obsolete status.Grabbed old.numbers new.numbers
  pub rest : new ≡ record old { numbers = new.numbers; jobs = old.jobs + 1 }

-- the number may be taken: it is Obsolete and below the bound, and no hold stands
pub record MayBeTaken (r : FileRegister) (number : ℕ) : Type 0 where
  pub ready : IsReady r number
  pub free : sum r.holds ≡ 0

-- what a Grabbed number becomes
abbrev pub ungrabbed : Bool → FileStatus
ungrabbed gone = if gone then status.Gone else status.Obsolete
