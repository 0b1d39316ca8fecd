-- The cell of a family's active memtable, as a lane with the DB lock finds it and gives it back.
use Rattle.std.proofs.Common.{Option, Some, [], ap, arith, inl, refl, subst, sym, true, ℕ, ◌<◌, ◌∙◌, ◌≡◌}
use Rattle.sv_borrows.specs.Desks.{GoesOn, IsAtDesk}
use Rattle.sv_borrows.proofs.Vacating.{desk, is_desk, took-locked, vacated}
use Rattle.sv_model.specs.Books.{Books}
use Rattle.sv_model.specs.Cells.{Cell}
use Rattle.sv_model.specs.Lawful.{Lawful}
use Rattle.sv_model.specs.declared.records.Memtable.{Memtable}
use Rattle.sv_model.specs.declared.records.SuperVersion.{SuperVersion}
use Rattle.sv_model.proofs.Entries.{some}
use Rattle.sv_puts.specs.Rows.{HasActive}
use Rattle.sv_rule.proofs.TurnsSame.{stands-same}
use Rattle.sv_rule.specs.Blanks.{desk_of}
use Rattle.sv_rule.specs.Fits.{cell_of}
use Rattle.sv_rule.specs.Held.{CellSays, Occupied, fills_up, has_rows, is_due, is_vacant}
use Rattle.sv_rule.specs.LockPlays.{FindsAsBooks, MayWriteCell, took_cell, without_cell, wrote_cell}
use Rattle.sv_rule.specs.Views.{Desk, LaneView}
use Rattle.sv_slots.proofs.Unchanged.{still-turns}

-- ---- in lawful books

module _ (b : Books) (lawful : Lawful b) (f c : ℕ) (h : HasActive b f c) where
  super-live : h.it.live ≡ true
  super-live =
      let o = h.is_open in
      let t = lawful.tops f h.serial o.family o.current.top o.family_at o.current.at o.current.is in
      ap (λ (x : SuperVersion). x.live) (some (sym o.current.has ∙ t.at)) ∙ t.live

  pub active-live : h.cell_is.it.live ≡ true
  active-live =
      let l = (lawful.memtables h.it.descriptor.active).1
      (inl (h.serial, h.it, h.is_open.current.has, record { live = super-live; is = refl })) in
      ap (λ (m : Memtable). m.live) (some (sym h.cell_is.at ∙ l.at)) ∙ l.live

  -- it is in the cell
  abbrev pub active-occupies : Occupied b.memtables c
  active-occupies = record {
    id = h.it.descriptor.active;
    it = h.cell_is.it;
    at = h.cell_is.at;
    live = active-live;
    is = h.cell_is.is;
  }

  pub active-within : c < 64
  active-within =
      let m = h.cell_is in omega (arith, (lawful.cells h.it.descriptor.active m.it m.at active-live).0, m.is)

  -- and no other is
  one-active : (o : Occupied b.memtables c) → o.id ≡ h.it.descriptor.active
  one-active o =
      let m = h.cell_is in
      (lawful.cells h.it.descriptor.active m.it m.at active-live).1 o.id o.it o.at o.live (o.is ∙ sym m.is)

  -- the cell has its rows
  active-says : (x : Option Cell) → CellSays b.memtables b.journal 0 0 c x
      → x ≡ Some (cell_of b.journal h.it.descriptor.active)
  active-says x (has_rows o e) = e ∙ ap (λ n. Some (cell_of b.journal n)) (one-active o)
  active-says x (fills_up o e le) = absurd (omega (arith, le))
  active-says x (is_vacant free e) = absurd (free active-occupies)
  active-says x (is_due free le m it at live e) = absurd (free active-occupies)

-- ---- the lane

module _ (b : Books) (v : LaneView) (at_d : IsAtDesk b [] v) where
  pub finds-active : (f c : ℕ) (h : HasActive b f c) (x : Option Cell) → FindsAsBooks v c x
      → x ≡ Some (cell_of b.journal h.it.descriptor.active)
  finds-active f c h x finds = active-says b at_d.own.lawful f c h x (finds (desk b [] v at_d) at_d.db)

  module _ (f c : ℕ) (h : HasActive b f c) (x : Option Cell) (u : LaneView) (took : u ≡ took_cell c x v) where
    -- the cell may be given as it was found
    pub may-give-same : x ≡ Some (cell_of b.journal h.it.descriptor.active) → MayWriteCell u c b u.known.task [] x 0 0
    may-give-same is = subst (λ (z : LaneView). MayWriteCell z c b z.known.task [] x 0 0)
        (sym (took ∙ took-locked b [] v at_d c x)) (record {
          alive = at_d.alive;
          desk = desk b [] v at_d;
          has = at_d.db;
          found = x;
          cell = refl;
          turns = still-turns v.known.lane b v.known.task at_d.own;
          stands = stands-same b;
          more_is = inl refl;
          says = has_rows (active-occupies b at_d.own.lawful f c h) is;
          seen = omega arith;
        })

  module _ (c : ℕ) (x : Option Cell) (u : LaneView) (took : u ≡ took_cell c x v) where
    -- and the lane goes on
    pub gave-same : (w : LaneView) → w ≡ wrote_cell (desk_of u) c b u.known.task [] 0 0 u → GoesOn b [] v w
    gave-same w wrote = subst (λ (d : Desk). GoesOn b (without_cell c d.due) v w) (is_desk b [] v at_d)
        (vacated b [] v at_d c x u took w wrote)
