-- When a flush may begin, and when an output is under way.
use Rattle.std.specs.Prelude.{◌≡◌, ◌<◌, ℕ, Some, None, length, slice_get}
use Rattle.sv_model.specs.declared.records.SuperVersion.{SuperVersion}
use Rattle.sv_model.specs.declared.records.MemtableList.{MemtableList}
use Rattle.sv_model.specs.Books.{Books}
use Rattle.sv_model.specs.Registers.{entry}
use Rattle.sv_laws.specs.Installs.{IsOpen}

-- The family's list has a member, and no number is captured for the family.
pub record CanBegin (b : Books) (family : ℕ) : Type 0 where
  pub serial : ℕ
  pub it : SuperVersion
  pub is_open : IsOpen b family serial it
  pub list : MemtableList
  pub list_at : entry b.lists it.descriptor.list ≡ Some list
  pub some : 0 < length list.members
  pub idle : slice_get b.files.captured family ≡ Some None

-- the number is captured for some family
pub record IsUnderWay (b : Books) (number : ℕ) : Type 0 where
  pub family : ℕ
  pub is : slice_get b.files.captured family ≡ Some (Some number)
