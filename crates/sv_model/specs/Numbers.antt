-- File numbers: what may be done with each, which are captured, the bound, and what always holds of their register.
use Rattle.std.specs.Prelude.{◌≡◌, ◌<◌, ◌≤◌, ◌==◌, ◌↔◌, ℕ, Bool, true, false, if◌then◌else◌, min, List, [], ◌∷◌, Option, Some, None, is_some, slice_get, slice_set, length, map, filter}
use Rattle.std.specs.List.Sorted.{IsStrictlyIncreasing}
use Rattle.sv_model.specs.declared.records.RegisteredFile.{RegisteredFile}
use Rattle.sv_model.specs.declared.records.FileStatus.{FileStatus}
use Rattle.sv_model.specs.declared.records.FileStatus.TheVariants.{Pending, Live, Obsolete, Grabbed}
use Rattle.sv_model.specs.Books.{FileRegister}
use Rattle.sv_model.specs.Lists.{In, total, same}
use Rattle.sv_model.specs.Registers.{entry, change, Has}
use Rattle.sv_model.specs.declared.limits.TheConstants.{MAX_CAPTURED, MAX_FAMILIES, MAX_HOLDS, MAX_JOBS, MAX_LANES}

-- ---- statuses

abbrev pub is_pending : FileStatus → Bool
is_pending Pending = true
is_pending status = false

abbrev pub is_live : FileStatus → Bool
is_live Live = true
is_live status = false

abbrev pub is_grabbed : FileStatus → Bool
is_grabbed Grabbed = true
is_grabbed status = false

-- how often the number is registered
abbrev pub registered : ℕ → List RegisteredFile → ℕ
registered n numbers = total (λ x. same n x.number) numbers

-- how often the number is registered with such a status
abbrev pub having : (FileStatus → Bool) → ℕ → List RegisteredFile → ℕ
having is n numbers = total (λ x. if x.number == n then (if is x.status then 1 else 0) else 0) numbers

-- the number has this status
pub record HasStatus (number : ℕ) (status : FileStatus) (x : RegisteredFile) : Type 0 where
  pub number_is : x.number ≡ number
  pub status_is : x.status ≡ status

-- the number is registered with this status
abbrev pub IsRegistered : List RegisteredFile → ℕ → FileStatus → Type 0
IsRegistered numbers number status = Has (HasStatus number status) numbers

-- The list has each number that is so, once, in ascending order, and no other.
pub record AreInOrder (P : ℕ → Type 0) (given : List ℕ) : Type 0 where
  pub exact : (n : ℕ) → In n given ↔ P n
  pub rising : IsStrictlyIncreasing given

-- ---- captures

-- how many numbers were ever captured
abbrev pub captures : List RegisteredFile → ℕ
captures numbers = total (λ x. if is_some x.family then 1 else 0) numbers

-- the numbers that were captured, in the order of their captures
abbrev pub captured_numbers : List RegisteredFile → List ℕ
captured_numbers numbers = map (λ x. x.number) (filter (λ x. is_some x.family) numbers)

-- the number is the family's, and Pending
pub record IsCapture (family number : ℕ) (x : RegisteredFile) : Type 0 where
  pub number_is : x.number ≡ number
  pub status_is : x.status ≡ Pending
  pub family_is : x.family ≡ Some family

-- the number is captured for some family
abbrev pub IsCaptured : List (Option ℕ) → ℕ → Type 0
IsCaptured captured n = (f : ℕ) × (slice_get captured f ≡ Some (Some n))

-- the bound: the least captured number, or the greatest number of all where none is captured
abbrev pub least_captured : List (Option ℕ) → ℕ
least_captured [] = 18446744073709551615
least_captured (None ∷ captured) = least_captured captured
least_captured (Some number ∷ captured) = min number (least_captured captured)

-- the number is Obsolete and below the bound
pub record IsReady (files : FileRegister) (number : ℕ) : Type 0 where
  pub obsolete : IsRegistered files.numbers number Obsolete
  pub below : number < least_captured files.captured

-- ---- what always holds

-- Each number is registered once, below the next one. It is Pending exactly where its family has it captured. One that
-- was ever captured is at least 1, and a Grabbed one is below each captured number.
pub record NumbersStand (numbers : List RegisteredFile) (captured : List (Option ℕ)) (next : ℕ) : Type 0 where
  pub once : (n : ℕ) → registered n numbers ≤ 1
  pub below : (i : ℕ) (x : RegisteredFile) → entry numbers i ≡ Some x → x.number < next
  pub pending : (i : ℕ) (x : RegisteredFile) → entry numbers i ≡ Some x → x.status ≡ Pending
      → (f : ℕ) × (x.family ≡ Some f) × (slice_get captured f ≡ Some (Some x.number))
  pub held : (f n : ℕ) → slice_get captured f ≡ Some (Some n) → Has (IsCapture f n) numbers
  pub drawn : (i : ℕ) (x : RegisteredFile) → entry numbers i ≡ Some x → is_some x.family ≡ true → 1 ≤ x.number
  pub grabbed : (i : ℕ) (x : RegisteredFile) → entry numbers i ≡ Some x → x.status ≡ Grabbed
      → (f n : ℕ) → slice_get captured f ≡ Some (Some n) → x.number < n
  pub least : 1 ≤ next
  pub most : next ≤ 18446744073709551615

-- The numbers, the captures of 16 families, the holds of 32 lanes and the jobs, each within its limit.
pub record FilesStand (files : FileRegister) : Type 0 where
  pub numbers : NumbersStand files.numbers files.captured files.next
  pub few : captures files.numbers ≤ MAX_CAPTURED
  pub families : length files.captured ≡ MAX_FAMILIES
  pub lanes : length files.holds ≡ MAX_LANES
  pub holds : (lane count : ℕ) → slice_get files.holds lane ≡ Some count → count ≤ MAX_HOLDS
  pub jobs : files.jobs ≤ MAX_JOBS

-- ---- a status changes

-- The number had one status and has another, and nothing else changed in the numbers.
pub record IsMarked (number : ℕ) (was now : FileStatus) (old new : List RegisteredFile) : Type 0 where
  pub at : ℕ
  pub it : RegisteredFile
  pub found : entry old at ≡ Some it
  pub had : HasStatus number was it
  pub marked : new ≡ change old at (record it { status = now })

-- The number's status is another, and nothing else of the register changed.
pub record MarksOnly (number : ℕ) (was now : FileStatus) (old new : FileRegister) : Type 0 where
  pub numbers : IsMarked number was now old.numbers new.numbers
  pub rest : new ≡ record old { numbers = new.numbers }

-- The family's captured number, which was Pending, has this status, the family has no captured number, and nothing
-- else changed.
pub record IsSettled (family number : ℕ) (now : FileStatus) (old new : FileRegister) : Type 0 where
  pub numbers : IsMarked number Pending now old.numbers new.numbers
  pub of : numbers.it.family ≡ Some family
  pub was : slice_get old.captured family ≡ Some (Some number)
  pub rest : new ≡ record old { numbers = new.numbers; captured = slice_set old.captured family None }
