-- What always holds of the store of one lane.
use Rattle.std.specs.Prelude.{◌≡◌, ◌+◌, ◌*◌, ◌⊎◌, ℕ, true, false, List, Option, Some, None, slice_get}
use Rattle.sv_model.specs.declared.records.Family.{Family}
use Rattle.sv_model.specs.declared.records.SuperVersion.{SuperVersion}
use Rattle.sv_model.specs.declared.records.FileStatus.TheVariants.{Grabbed}
use Rattle.sv_model.specs.Books.{Books, FileRegister}
use Rattle.sv_model.specs.Cells.{Cell}
use Rattle.sv_model.specs.Families.{is_retired}
use Rattle.sv_model.specs.Named.{HasCurrent}
use Rattle.sv_model.specs.Numbers.{IsRegistered}
use Rattle.sv_model.specs.Registers.{EachEntry}
use Rattle.sv_model.specs.Steady.{Sound}
use Rattle.sv_state.specs.Currents.{HasCurrentAt}
use Rattle.sv_state.specs.Gone.{IsFree}
use Rattle.sv_store.specs.Cells.{CellsHold}

-- each family that is not retired has a current
abbrev pub HaveCurrents : Books → Type 0
HaveCurrents b = (f : ℕ) (x : Family) → slice_get b.families f ≡ Some x → is_retired x ≡ false → HasCurrentAt b f

-- ---- the SuperVersion that waits to be cleaned up, while an install is under way

-- what waits is Live, and current of no family
abbrev pub MayGo : Books → Option ℕ → Type 0
MayGo b None = Unit {0}
MayGo b (Some pack) = IsFree b pack

-- this SuperVersion is the one that waits
abbrev pub Waits : Option ℕ → ℕ → SuperVersion → Type 0
Waits None s x = ⊥
Waits (Some pack) s x = pack ≡ s * 256 + x.place

-- Each Live SuperVersion is some family's current, but for the one that waits.
abbrev pub IsAloneBut : Books → Option ℕ → Type 0
IsAloneBut b waiting = EachEntry (λ s x. x.live ≡ true → HasCurrent b.tops s ⊎ Waits waiting s x) b.supers

-- The books are sound, no family's current was ended, nothing but currents is kept, and each cell holds its memtable.
pub record Stands (b : Books) (cells : List (Option Cell)) (waiting : Option ℕ) : Type 0 where
  pub sound : Sound b
  pub currents : HaveCurrents b
  pub alone : IsAloneBut b waiting
  pub goes : MayGo b waiting
  pub cells_hold : CellsHold b.journal b.memtables cells

-- ---- between calls

-- each Live SuperVersion is some family's current
abbrev pub IsAlone : Books → Type 0
IsAlone b = EachEntry (λ s x. x.live ≡ true → HasCurrent b.tops s) b.supers

-- No output, no purge and no scan is under way.
pub record IsStill (files : FileRegister) : Type 0 where
  pub jobs : files.jobs ≡ 0
  pub idle : (f : ℕ) (c : Option ℕ) → slice_get files.captured f ≡ Some c → c ≡ None
  pub given_back : (n : ℕ) → IsRegistered files.numbers n Grabbed → ⊥

pub record Rests (b : Books) (cells : List (Option Cell)) : Type 0 where
  pub stands : Stands b cells None
  pub still : IsStill b.files
