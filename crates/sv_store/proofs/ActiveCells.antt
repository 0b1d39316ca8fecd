-- The active memtable in its cell, and what a write and a switch make of it.
use Rattle.std.proofs.Common.{◌≡◌, ◌<◌, ◌+◌, ◌++◌, ◌∷◌, ℕ, suc, true, List, [], length, set, Option, Some, None, refl, sym, ap, ◌∙◌, subst}
use Rattle.std.specs.Prelude.{slice_get}
use Rattle.sv_model.specs.declared.records.Memtable.{Memtable}
use Rattle.sv_model.specs.declared.records.SuperVersion.{SuperVersion}
use Rattle.sv_model.specs.declared.writes.Row.{Row}
use Rattle.sv_model.specs.declared.writes.Write.{Write}
use Rattle.sv_model.specs.Books.{Books}
use Rattle.sv_model.specs.Cells.{Cell}
use Rattle.sv_model.specs.Journal.{rows_of}
use Rattle.sv_model.specs.Registers.{entry}
use Rattle.sv_model.specs.Steady.{Sound}
use Rattle.sv_model.proofs.Registers.{entry-new}
use Rattle.sv_laws.specs.Growing.{IsPlaced}
use Rattle.sv_laws.specs.Installs.{IsOpen, next_top}
use Rattle.sv_laws.specs.NewCurrents.{IsSwitched}
use Rattle.sv_laws.specs.Writes.{IsWritten}
use Rattle.sv_laws.proofs.GrownRegisters.{placed-set}
use Rattle.sv_model.proofs.Entries.{some}
use Rattle.sv_laws.proofs.OpenFamilies.{active-lives, fresh-mem}
use Rattle.sv_objects.specs.Makings.{IsCellOf}
use Rattle.sv_state.specs.declared.installs.Install.{Install}
use Rattle.sv_state.specs.Writing.{TellsSwitch, write_of}
use Rattle.sv_store.specs.Cells.{CellsHold, filled, with_row}
use Rattle.sv_store.specs.Standing.{Stands}
use Rattle.sv_store.specs.Writing.{CanObey}
use Rattle.sv_store.proofs.CellLaws.{cell_now, filled-cells, in-cell, written-cells}
use Rattle.sv_store.proofs.FrameLaws.{cells-stand}
use Rattle.sv_store.proofs.StandLaws.{installed-stands}

pub rows-length : (l : List Write) → length (rows_of l) ≡ length l
rows-length [] = refl
rows-length (w ∷ l) = ap suc (rows-length l)

module _ (b : Books) (cells : List (Option Cell)) (h : Stands b cells None) (f s : ℕ) (c : SuperVersion) (o : IsOpen b f s c) (cell : ℕ)
    (is : IsCellOf b.memtables c.descriptor.active cell) where
  active-live : is.it.live ≡ true
  active-live =
      let l = active-lives b h.sound f s c o in
      ap (λ (z : Memtable). z.live) (some (sym is.at ∙ l.at)) ∙ l.live

  pub active-at : slice_get cells cell ≡ Some (Some (cell_now b.journal c.descriptor.active))
  active-at = subst (λ n. slice_get cells n ≡ Some (Some (cell_now b.journal c.descriptor.active))) is.is
      (in-cell b h.sound.lawful cells h.cells_hold c.descriptor.active is.it is.at active-live)

  -- one row more
  pub written-stands : (e : Books) → Sound e → (row : Row) → IsWritten b e f (write_of 0 f c.descriptor.active row) → (new : List (Option Cell))
      → new ≡ set cells cell (Some (with_row (cell_now b.journal c.descriptor.active) row.key row.op)) → Stands e new None
  written-stands e sound row w new n =
      let hold : CellsHold (b.journal ++ write_of 0 f c.descriptor.active row ∷ []) b.memtables new = subst (CellsHold (b.journal ++ write_of 0 f c.descriptor.active row ∷ []) b.memtables)
      (ap (λ k. set cells k (Some (with_row (cell_now b.journal c.descriptor.active) row.key row.op))) is.is ∙ sym n)
      (written-cells b h.sound.lawful cells h.cells_hold (write_of 0 f c.descriptor.active row) is.it is.at active-live) in
      cells-stand b e cells h sound new (ap (λ (z : Books). z.supers) w.is) (ap (λ (z : Books). z.families) w.is) (ap (λ (z : Books). z.tops) w.is)
      (subst (λ (z : Books). CellsHold z.journal z.memtables new) (sym w.is) hold)

-- ---- a switch

module _ (a b : Books) (cells : List (Option Cell)) (h : Stands a cells None) (sound : Sound b) (f : ℕ) (w : IsSwitched a b f) where
  -- the cells with the new memtable in its place
  pub switched-cells : (memtable : Memtable) → entry b.memtables (length a.memtables + 1) ≡ Some memtable
      → CellsHold b.journal b.memtables (filled cells (Some (memtable.cell, length a.memtables + 1)))
  switched-cells memtable at =
      let ms = ap (λ (z : Books). z.memtables) w.is in
      let q : memtable.cell ≡ w.cell = ap (λ (z : Memtable). z.cell) (some (sym at ∙ ap (λ l. entry l (length a.memtables + 1)) ms ∙ entry-new a.memtables _ (length a.memtables + 1) refl)) in
      subst (λ (z : ℕ × Books). CellsHold z.1.journal z.1.memtables (filled cells (Some (z.0, length a.memtables + 1)))) (λ i. (sym q i, sym w.is i))
      (filled-cells a.journal a.memtables cells h.cells_hold _ w.cell_room refl (fresh-mem a h.sound f w.s w.c w.is_open))

  pub switched-stands : (install : Install) → TellsSwitch a b f install → CanObey b cells install.vacant install.old
  switched-stands install t =
      let ms = ap (λ (z : Books). z.memtables) w.is in
      let q : t.memtable.cell ≡ w.cell = ap (λ (z : Memtable). z.cell) (some (sym t.memtable_at ∙ ap (λ l. entry l (length a.memtables + 1)) ms ∙ entry-new a.memtables _ (length a.memtables + 1) refl)) in
      let hold : CellsHold b.journal b.memtables (filled cells install.vacant) = subst (λ v. CellsHold b.journal b.memtables (filled cells v)) (sym t.vacant) (switched-cells t.memtable t.memtable_at) in
      let p = placed-set a.tops f w.is_open.current.top (next_top a w.c.descriptor.version) w.is_open.current.at in
      let i = installed-stands a b cells (filled cells install.vacant) h sound f _ (next_top a w.c.descriptor.version)
      (ap (λ (z : Books). z.supers) w.is)
      (subst (λ l. IsPlaced a.tops l f (next_top a w.c.descriptor.version)) (sym (ap (λ (z : Books). z.tops) w.is)) p)
      refl
      (λ g y d e. ap (λ (z : Books). slice_get z.families g) (sym w.is) ∙ e)
      hold w.s w.c w.is_open install.old t.tells.old in
      record {
        within = λ cell mem e. subst (λ n. n < 64) (sym q ∙ ap (λ (z : ℕ × ℕ). z.0) (some (sym t.vacant ∙ e))) w.cell_room.within;
        r = i.0;
        old_is = i.1;
        stands = i.2;
      }
