-- What a write needs and leaves.
use Rattle.std.specs.Prelude.{◌≡◌, ◌<◌, ◌⊎◌, ℕ, Bool, true, false, List, [], Option, None, Some, Result, IfErr, length}
use Rattle.sv_model.specs.declared.writes.Row.{Row}
use Rattle.sv_model.specs.declared.records.SuperVersion.{SuperVersion}
use Rattle.sv_model.specs.declared.refusals.Refusal.{Refusal}
use Rattle.sv_model.specs.declared.refusals.Refusal.TheVariants as refusal
use Rattle.sv_model.specs.declared.sv_refs.SvRef.{SvRef}
use Rattle.sv_model.specs.Books.{Books}
use Rattle.sv_model.specs.Cells.{Cell}
use Rattle.sv_model.specs.Journal.{borne_by, of_family}
use Rattle.sv_laws.specs.Installs.{IsOpen}
use Rattle.sv_laws.specs.NewCurrents.{IsSwitched}
use Rattle.sv_laws.specs.Writes.{IsWritten}
use Rattle.sv_objects.specs.declared.bodies.Body.{Body}
use Rattle.sv_objects.specs.Makings.{IsCellOf}
use Rattle.sv_state.specs.declared.planning.Plan.{Plan}
use Rattle.sv_state.specs.Planning.{IsPlanOf, MeantAt, Planned, active_rows, is_switch_due, write_refusal}
use Rattle.sv_state.specs.Seen.{StateSeen}
use Rattle.sv_state.specs.Writing.{CanWrite, write_of}
use Rattle.sv_store.specs.Cells.{filled}
use Rattle.sv_store.specs.Going.{Renews}
use Rattle.sv_store.specs.Seen.{StoreSeen}
use Rattle.sv_store.specs.Standing.{Stands}

-- ---- installs

-- The install may be carried out: once the new memtable is in its cell, all stands but for the current before, which
-- waits.
pub record CanObey (b : Books) (cells : List (Option Cell)) (vacant : Option (ℕ × ℕ)) (old : Option (SvRef Body)) : Type 0 where
  pub within : (cell mem : ℕ) → vacant ≡ Some (cell, mem) → cell < 64
  pub r : SvRef Body
  pub old_is : old ≡ Some r
  pub stands : Stands b (filled cells vacant) (Some r.pack)

-- ---- rows

-- The lane may write into the family's current, whose active memtable is in this cell.
pub record CanAppend (s : StateSeen) (cells : List (Option Cell)) (family cell : ℕ) : Type 0 where
  pub stands : Stands s.books cells None
  pub can : CanWrite s 0 family
  pub cell_is : IsCellOf s.books.memtables can.it.descriptor.active cell

-- The row is the family's write of this number, the last.
pub record Accepts (a b : Books) (family : ℕ) (row : Row) (number : ℕ) : Type 0 where
  pub mem : ℕ
  pub written : IsWritten a b family (write_of 0 family mem row)
  pub number_is : number ≡ length (of_family family b.journal)

-- ---- switches

-- The family's current may be frozen: its active memtable is in this cell, and has a row.
pub record CanFreeze (b : Books) (cells : List (Option Cell)) (family cell : ℕ) : Type 0 where
  pub stands : Stands b cells None
  pub serial : ℕ
  pub it : SuperVersion
  pub is_open : IsOpen b family serial it
  pub row : 0 < length (borne_by it.descriptor.active b.journal)
  pub cell_is : IsCellOf b.memtables it.descriptor.active cell

-- the family's active memtable, which has no row, is in this cell
pub record IsEmptyIn (b : Books) (family cell : ℕ) : Type 0 where
  pub serial : ℕ
  pub it : SuperVersion
  pub is_open : IsOpen b family serial it
  pub none : borne_by it.descriptor.active b.journal ≡ []
  pub cell_is : IsCellOf b.memtables it.descriptor.active cell

-- the family has switched, and its current before is Gone
abbrev pub Switches : ℕ → Books → Books → Type 0
Switches family a b = Renews (λ x y. IsSwitched x y family) family a b

-- ---- the whole of a write

-- The row is accepted, after a switch where one was due.
abbrev pub PutsAs : Bool → Books → Books → ℕ → Row → ℕ → Type 0
PutsAs true a b family row number = (m : Books) × Switches family a m × Accepts m b family row number
PutsAs false a b family row number = Accepts a b family row number

abbrev pub IsPut : (a b : Books) {name : List ℕ} → MeantAt a 0 name → Row → ℕ → Type 0
IsPut a b m row number = PutsAs (is_switch_due (active_rows a m) m.is_open.family.options) a b m.family row number

-- the switch that was due is done, and nothing else
pub record IsSwitchAlone (a b : Books) (name : List ℕ) : Type 0 where
  pub meant : MeantAt a 0 name
  pub due : is_switch_due (active_rows a meant) meant.is_open.family.options ≡ true
  pub switched : Switches meant.family a b

-- A refusal leaves the store as it was. Only out of memory may leave a switch that was due done.
abbrev pub StopsAs : StoreSeen → StoreSeen → List ℕ → Refusal → Type 0
StopsAs a b name refusal.OutOfMemory = (b ≡ a) ⊎ IsSwitchAlone a.books b.books name
StopsAs a b name e = b ≡ a

pub record Writes (a b : StoreSeen) (name : List ℕ) (row : Row) (r : Result ℕ Refusal) : Type 0 where
  pub answers : Planned a.books 0 name (write_refusal a.books) (λ m n. IsPut a.books b.books m row n) r
  pub stops : IfErr r (StopsAs a b name)

-- What a plan that was made says: what it is of, and that nothing is due.
pub record IsPlanned (s : StateSeen) (cells : List (Option Cell)) (name : List ℕ) (plan : Plan) : Type 0 where
  pub stands : Stands s.books cells None
  pub meant : MeantAt s.books 0 name
  pub none_due : write_refusal s.books meant ≡ None
  pub plan_is : IsPlanOf s.books meant plan
  pub room : 0 < s.spare
