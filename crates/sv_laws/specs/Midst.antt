-- In the midst of a cleanup: what is still to be looked at.
use Rattle.std.specs.Prelude.{◌≡◌, ◌⊎◌, ℕ, false, List, [], Option, Some, None, length}
use Rattle.sv_model.specs.declared.records.Memtable.{Memtable}
use Rattle.sv_model.specs.declared.records.MemtableList.{MemtableList}
use Rattle.sv_model.specs.declared.records.Version.{Version}
use Rattle.sv_model.specs.declared.records.RegisteredFile.{RegisteredFile}
use Rattle.sv_model.specs.declared.records.FileStatus.TheVariants.{Live, Obsolete}
use Rattle.sv_model.specs.Lists.{In, IsChosen}
use Rattle.sv_model.specs.Registers.{entry, change, Has, GoesOn}
use Rattle.sv_model.specs.After.{KeepsMemtable}
use Rattle.sv_model.specs.Named.{IsLiveMemtable, HasMember, NamedFile, numbers_of}
use Rattle.sv_model.specs.Numbers.{IsRegistered}
use Rattle.sv_laws.specs.Cleaning.{AreCellsGone}

-- a part is freed exactly where it is not named any more
abbrev pub Frees : Type 0 → ℕ → Option ℕ → Type 0
Frees named part (Some freed) = (freed ≡ part) × (named → ⊥)
Frees named part None = named

-- What is Live is named or still to be looked at, and what is named is Live. The cells are those of the memtables
-- that went.
pub record Midst (Named : ℕ → Type 0) (old now : List Memtable) (left cells : List ℕ) : Type 0 where
  pub long : length now ≡ length old
  pub goes : GoesOn KeepsMemtable old now
  pub live : (m : ℕ) → IsLiveMemtable now m → Named m ⊎ In m left
  pub named : (m : ℕ) → Named m → IsLiveMemtable now m
  pub went : AreCellsGone old now cells

-- a file that is not named is Obsolete, or is still to be looked at
pub record MidstFiles (Named : ℕ → Type 0) (old now : List RegisteredFile) (left : List ℕ) : Type 0 where
  pub long : length now ≡ length old
  pub goes : GoesOn (λ x y. (y ≡ x) ⊎ ((y ≡ record x { status = Obsolete }) × (x.status ≡ Live) × (Named x.number → ⊥))) old now
  pub live : (n : ℕ) → IsRegistered now n Live → Named n ⊎ In n left

-- the list, where one is freed, is Gone; given are its members that no other list names
abbrev pub EndsList : List MemtableList → Option ℕ → List MemtableList → List ℕ → Type 0
EndsList old None new given = (new ≡ old) × (given ≡ [])
EndsList old (Some l) new given = (z : MemtableList) → entry old l ≡ Some z → (new ≡ change old l (record z { live = false })) × IsChosen (λ m. Has (HasMember m) new → ⊥) z.members given

-- the Version, where one is let go, is Gone; given are its files that no other Version names
abbrev pub EndsVersion : List Version → Option ℕ → List Version → List ℕ → Type 0
EndsVersion old None new given = (new ≡ old) × (given ≡ [])
EndsVersion old (Some v) new given = (z : Version) → entry old v ≡ Some z → (new ≡ change old v (record z { live = false })) × IsChosen (λ n. NamedFile new n → ⊥) (numbers_of z.files) given
