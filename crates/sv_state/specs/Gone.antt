-- What a release and a cleanup leave.
use Rattle.std.specs.Prelude.{◌≡◌, ◌+◌, ◌*◌, ℕ, Bool, true, false, List, Option, Some, None, slice_get}
use Rattle.sv_model.specs.declared.records.SuperVersion.{SuperVersion}
use Rattle.sv_model.specs.declared.records.Family.{Family}
use Rattle.sv_model.specs.declared.records.Top.{Top}
use Rattle.sv_model.specs.Books.{Books}
use Rattle.sv_model.specs.Families.{IsOwn}
use Rattle.sv_model.specs.Named.{HasLast}
use Rattle.sv_model.specs.Registers.{entry}
use Rattle.sv_laws.specs.Cleaning.{AreCellsGone, IsCleaned}
use Rattle.sv_laws.specs.Families.{IsReleased, IsRetired}
use Rattle.sv_state.specs.declared.installs.Install.{Install}
use Rattle.sv_state.specs.Refs.{IsKept}

-- The lane has no handle of the name any more. The family is retired by it where it is given.
abbrev pub IsReleasedAs : Books → Books → ℕ → List ℕ → Option ℕ → Type 0
IsReleasedAs a b lane name None = (f : ℕ) × (x : Family) × (slice_get a.families f ≡ Some x) × IsOwn lane name x × IsReleased a b f lane
IsReleasedAs a b lane name (Some f) = (x : Family) × (slice_get a.families f ≡ Some x) × IsOwn lane name x × IsRetired a b f lane

-- The install has the reference of the current that the family had, and no cell for a new memtable.
pub record TellsEnd (a : Books) (install : Install) : Type 0 where
  pub old : (t : Top) → slice_get a.tops install.family ≡ Some t → IsKept a t.current install.old
  pub vacant : install.vacant ≡ None

-- the pack is that of a Live SuperVersion that is current of no family
pub record IsFree (b : Books) (pack : ℕ) : Type 0 where
  pub serial : ℕ
  pub it : SuperVersion
  pub at : entry b.supers serial ≡ Some it
  pub live : it.live ≡ true
  pub pack_is : pack ≡ serial * 256 + it.place
  pub free : (f : ℕ) (t : Top) → slice_get b.tops f ≡ Some t → t.current ≡ Some serial → ⊥

-- The SuperVersion is Gone with all that it alone named, and these are the cells of the memtables that went.
pub record SuperGoes (a : Books) (serial : ℕ) (it : SuperVersion) (b : Books) (cells : List ℕ) : Type 0 where
  pub cleaned : IsCleaned a b serial it
  pub cells_are : AreCellsGone a.memtables b.memtables cells

-- whether the Version is the last one of a family that is not retired
abbrev pub IsLastOr : ℕ → List Family → List Top → Bool → Type 0
IsLastOr version families tops true = HasLast version families tops
IsLastOr version families tops false = HasLast version families tops → ⊥
