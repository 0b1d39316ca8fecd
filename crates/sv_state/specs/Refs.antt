-- References of SuperVersions, and what their bodies have.
use Rattle.std.specs.Prelude.{◌≡◌, ◌+◌, ◌*◌, ◌∷◌, ℕ, List, [], Option, Some, None, length, slice_get}
use Rattle.sv_model.specs.declared.writes.Write.{Write}
use Rattle.sv_model.specs.declared.records.SuperVersion.{SuperVersion}
use Rattle.sv_model.specs.declared.records.Descriptor.{Descriptor}
use Rattle.sv_model.specs.declared.records.Memtable.{Memtable}
use Rattle.sv_model.specs.declared.records.MemtableList.{MemtableList}
use Rattle.sv_model.specs.declared.records.Version.{Version}
use Rattle.sv_model.specs.declared.records.Top.{Top}
use Rattle.sv_model.specs.declared.sv_refs.SvRef.{SvRef}
use Rattle.sv_model.specs.Books.{Books}
use Rattle.sv_model.specs.Cells.{Cell}
use Rattle.sv_model.specs.Journal.{borne_by, rows_of}
use Rattle.sv_model.specs.Registers.{entry}
use Rattle.sv_model.specs.Steady.{Sound}
use Rattle.sv_objects.specs.declared.bodies.Body.{Body}
use Rattle.sv_objects.specs.Makings.{IsCellOf}
use Rattle.sv_objects.specs.Shown.{shown}

-- the memtable's cell, and all its rows
pub record IsFrozenAt (journal : List Write) (memtables : List Memtable) (m : ℕ) (x : ℕ × Cell) : Type 0 where
  pub cell : IsCellOf memtables m x.0
  pub rows : x.1 ≡ record { id = m; rows = rows_of (borne_by m journal) }

-- so it is of each of the memtables, in their order
abbrev pub AreFrozenAt : List Write → List Memtable → List ℕ → List (ℕ × Cell) → Type 0
AreFrozenAt journal memtables [] [] = Unit {0}
AreFrozenAt journal memtables [] (x ∷ xs) = ⊥
AreFrozenAt journal memtables (m ∷ ms) [] = ⊥
AreFrozenAt journal memtables (m ∷ ms) (x ∷ xs) = IsFrozenAt journal memtables m x × AreFrozenAt journal memtables ms xs

-- The body has the descriptor, the cell of the active memtable, each frozen memtable of the list, and the files.
pub record IsBodyOf (b : Books) (d : Descriptor) (body : Body) : Type 0 where
  pub descriptor_is : body.descriptor ≡ d
  pub cell : IsCellOf b.memtables d.active body.cell
  pub list : MemtableList
  pub list_at : entry b.lists d.list ≡ Some list
  pub frozen : AreFrozenAt b.journal b.memtables list.members (shown body.frozen)
  pub version : Version
  pub version_at : entry b.versions d.version ≡ Some version
  pub files_are : body.files ≡ version.files

-- the pack and the body of a reference of the SuperVersion
pub record IsRefOf (b : Books) (serial pack : ℕ) (body : Body) : Type 0 where
  pub it : SuperVersion
  pub at : entry b.supers serial ≡ Some it
  pub pack_is : pack ≡ serial * 256 + it.place
  pub body_is : IsBodyOf b it.descriptor body

-- A reference of the current is kept where there is one.
abbrev pub IsKept : Books → Option ℕ → Option (SvRef Body) → Type 0
IsKept b None None = Unit {0}
IsKept b None (Some r) = ⊥
IsKept b (Some s) None = ⊥
IsKept b (Some s) (Some r) = IsRefOf b s r.pack r.body.value

pub record AreKept (b : Books) (held : List (Option (SvRef Body))) : Type 0 where
  pub paired : length held ≡ length b.tops
  pub each : (f : ℕ) (t : Top) → slice_get b.tops f ≡ Some t
      → (r : Option (SvRef Body)) × (slice_get held f ≡ Some r) × IsKept b t.current r

-- the books are sound, and a reference of each current is kept
pub record IsState (b : Books) (held : List (Option (SvRef Body))) : Type 0 where
  pub sound : Sound b
  pub kept : AreKept b held
