-- A lane that has the DB lock appends a row to a family's active memtable.
use Rattle.std.proofs.Common.{List, Option, Some, [], ap, arith, drop, inr, length, refl, subst, sym, ℕ, ◌++◌, ◌<◌, ◌∙◌, ◌∷◌, ◌≡◌}
use Rattle.std.proofs.lemmas.List.{length-map, map-append}
use Rattle.sv_borrows.specs.Desks.{IsAtDesk}
use Rattle.sv_borrows.proofs.Accounted.{accounted-still}
use Rattle.sv_borrows.proofs.Vacating.{desk, is_desk, took-locked}
use Rattle.sv_laws.specs.Writes.{IsWritten}
use Rattle.sv_laws.proofs.BorneRows.{borne-same}
use Rattle.sv_model.specs.Books.{Books}
use Rattle.sv_model.specs.Cells.{Cell}
use Rattle.sv_model.specs.Journal.{borne_by, of_family, row_of, rows_of}
use Rattle.sv_model.specs.Registers.{entry}
use Rattle.sv_model.specs.Turns.{Turns}
use Rattle.sv_model.specs.declared.limits.TheConstants.{MAX_ROWS}
use Rattle.sv_model.specs.declared.writes.Row.{Row}
use Rattle.sv_model.specs.declared.writes.Write.{Write}
use Rattle.sv_puts.specs.Rows.{Appends, CanAppend, HasActive, with_row}
use Rattle.sv_puts.proofs.ActiveCells.{active-occupies}
use Rattle.sv_rule.specs.Blanks.{desk_of}
use Rattle.sv_rule.specs.Fits.{cell_of}
use Rattle.sv_rule.specs.Held.{Occupied, has_rows}
use Rattle.sv_rule.specs.LockPlays.{MayWriteCell, raised, took_cell, wrote_cell}
use Rattle.sv_rule.specs.Views.{LaneView, idle}
use Rattle.sv_state.specs.Follows.{Follows}
use Rattle.sv_state.specs.Seen.{StateSeen}
use Rattle.sv_state.specs.Writing.{CanWrite, write_of}
use Rattle.sv_turns.specs.Called.{IsCalled}
use Rattle.sv_turns.proofs.Writes.{written-stands, written-turns}

-- the writes that the later books have more
abbrev pub written_since : Books → Books → List Write
written_since a b = drop (length a.journal) b.journal

drop-front : {A : Type 0} (l m : List A) → drop (length l) (l ++ m) ≡ m
drop-front [] m = refl
drop-front (x ∷ l) m = drop-front l m

-- ---- what a lane may write to

module _ (s : StateSeen) (lane f c : ℕ) (can : CanAppend s lane f c) where
  abbrev pub active-of : HasActive s.books f c
  active-of = record { serial = can.can.serial; it = can.can.it; is_open = can.can.is_open; cell_is = can.cell_is }

  -- its memtable has room
  pub room-for : length (cell_of s.books.journal can.can.it.descriptor.active).rows < MAX_ROWS
  room-for =
      omega (arith, length-map (borne_by can.can.it.descriptor.active s.books.journal) row_of, can.can.few_rows)

  -- the state accepts a write of the lane
  abbrev Accepts : Books → Row → StateSeen → Type 0
  Accepts b row z = (k : CanWrite z lane f) → IsWritten z.books b f (write_of lane f k.it.descriptor.active row)

  pub is-written : (m : StateSeen) → m ≡ s → (b : Books) (row : Row) (l : ℕ) → lane ≡ l → Accepts b row m
      → IsWritten s.books b f (write_of l f can.can.it.descriptor.active row)
  is-written m same b row l lane_is h =
      subst (λ n. IsWritten s.books b f (write_of n f can.can.it.descriptor.active row)) lane_is
      (subst (Accepts b row) same h can.can)

-- ---- the write

module _ (a b : Books) (v : LaneView) (at_d : IsAtDesk a [] v) (f c : ℕ) (h : HasActive a f c) (row : Row)
    (follows : Follows a b) (written : IsWritten a b f (write_of v.known.lane f h.it.descriptor.active row)) where
  abbrev pub write : Write
  write = write_of v.known.lane f h.it.descriptor.active row

  called : IsCalled v.known.lane a v.known.task b
  called = record { own = at_d.own; lawful = follows.sound.lawful; later = follows.after }

  turned : Turns v.known.lane a v.known.task b v.known.task (write ∷ [])
  turned = written-turns v.known.lane a b v.known.task called f write written refl

  abbrev now-occupies : Occupied b.memtables c
  now-occupies = let o = active-occupies a at_d.own.lawful f c h in record {
    id = o.id;
    it = o.it;
    at = ap (λ (z : Books). entry z.memtables o.id) written.is ∙ o.at;
    live = o.live;
    is = o.is;
  }

  -- the memtable has the row
  grown : with_row (cell_of a.journal h.it.descriptor.active) row ≡ cell_of b.journal h.it.descriptor.active
  grown =
      let mem = h.it.descriptor.active in
      let rows : rows_of (borne_by mem b.journal) ≡ rows_of (borne_by mem a.journal) ++ row ∷ []
      = ap (λ (z : Books). rows_of (borne_by mem z.journal)) written.is ∙ ap rows_of (borne-same a.journal write)
      ∙ map-append row_of (borne_by mem a.journal) (write ∷ []) in
      ap (λ (l : List Row). record { id = mem; rows = l }) (sym rows)

  module _ (x : Option Cell) (u : LaneView) (took : u ≡ took_cell c x v) where
    -- it is what the journal has more
    more-is : written_since (desk_of u).books b ≡ write ∷ []
    more-is =
        let d : desk_of u ≡ desk a [] v at_d = ap desk_of (took ∙ took-locked a [] v at_d c x) ∙ is_desk a [] v at_d in
        (λ i. written_since (d i).books (written.is i)) ∙ drop-front a.journal (write ∷ [])

    module _ (n : ℕ) (n_is : n ≡ length (of_family f b.journal)) where
      may-append : (y : Option Cell) → y ≡ Some (with_row (cell_of a.journal h.it.descriptor.active) row)
          → MayWriteCell u c b u.known.task (write ∷ []) y f n
      may-append y is = subst (λ (z : LaneView). MayWriteCell z c b z.known.task (write ∷ []) y f n)
          (sym (took ∙ took-locked a [] v at_d c x)) (record {
            alive = at_d.alive;
            desk = desk a [] v at_d;
            has = at_d.db;
            found = x;
            cell = refl;
            turns = turned;
            stands = written-stands v.known.lane a b v.known.task called f write written;
            more_is = inr (record { resting = refl; it = write; is = refl; of = now-occupies; mem = refl });
            says = has_rows now-occupies (is ∙ ap Some grown);
            seen = omega (arith, n_is);
          })

      pub may-append-more : (y : Option Cell) → y ≡ Some (with_row (cell_of a.journal h.it.descriptor.active) row)
          → MayWriteCell u c b u.known.task (written_since (desk_of u).books b) y f n
      may-append-more y is =
          subst (λ (l : List Write). MayWriteCell u c b u.known.task l y f n) (sym more-is) (may-append y is)

      pub appends : (w : LaneView)
          → w ≡ wrote_cell (desk_of u) c b u.known.task (written_since (desk_of u).books b) f n u
          → Appends a b f row n v w
      appends w wrote =
          let has : u ≡ record v { locks = record v.locks { cell = Some (record { number = c; found = x }) } }
          = took ∙ took-locked a [] v at_d c x in
          let d : desk_of u ≡ desk a [] v at_d = ap desk_of has ∙ is_desk a [] v at_d in record {
            mem = h.it.descriptor.active;
            written = written;
            number_is = n_is;
            own = accounted-still v.known.lane a b v.known.task at_d.own turned;
            is = wrote ∙ (λ i. wrote_cell (d i) c b (has i).known.task (more-is i) f n (has i))
                ∙ (λ i. record v {
                  locks = record v.locks {
                    db = Some (record { books = b; work = idle; due = [] });
                    cell = sym at_d.cell i;
                  };
                  known = record v.known { mine = v.known.mine ++ write ∷ []; seen = raised v.known.seen f n };
                });
          }
