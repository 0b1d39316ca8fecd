-- What is held: the cells hold the rows of their memtables, the directory the files, and each slot at home a body that
-- fits.
use Rattle.std.specs.Prelude.{◌≡◌, ◌<◌, ◌≤◌, ℕ, true, false, List, [], Option, Some, None}
use mathlib.Core.Option as maybe
use Rattle.atomic_table.specs.Table.{State}
use Rattle.sv_model.specs.declared.writes.Write.{Write}
use Rattle.sv_model.specs.declared.records.Memtable.{Memtable}
use Rattle.sv_model.specs.declared.sv_refs.SvRef.{SvRef}
use Rattle.sv_model.specs.Journal.{borne_by}
use Rattle.sv_model.specs.Books.{Books}
use Rattle.sv_model.specs.Cells.{Cell}
use Rattle.sv_model.specs.Files.{Files, file_of}
use Rattle.sv_model.specs.HeldFiles.{HasItsText, FilesHold}
use Rattle.sv_model.specs.Lists.{Every, total}
use Rattle.sv_model.specs.Registers.{entry}
use Rattle.sv_rule.specs.declared.parts.Stored.{Stored}
use Rattle.sv_rule.specs.declared.parts.Stored.TheVariants as is
use Rattle.sv_rule.specs.Sums.{Each}
use Rattle.sv_model.specs.Tasks.{Output, marks_of}
use Rattle.sv_rule.specs.Views.{LaneView, CellHeld, Disk, Body}
use Rattle.sv_rule.specs.Tasks.{dues, fills, has_cell}
use Rattle.sv_rule.specs.Fits.{cell_of, BodyFits}
use Rattle.sv_rule.specs.Table.{word, home, cell_word, slot_home}
use Rattle.sv_rule.specs.Home.{Lock}

-- ---- cells

-- a memtable that is not Gone has this cell
pub record Occupied (memtables : List Memtable) (c : ℕ) : Type 0 where
  pub id : ℕ
  pub it : Memtable
  pub at : entry memtables id ≡ Some it
  pub live : it.live ≡ true
  pub is : it.cell ≡ c

abbrev pub Free : List Memtable → ℕ → Type 0
Free memtables c = Occupied memtables c → ⊥

-- What is in cell c, which is due so often, and whose lock the lane with the DB lock has so often: the memtable that is
-- not Gone; or this is new and the lane is to fill the cell; or there is none and the cell is vacant; or the cell is
-- due, and has a memtable that is Gone.
pub data CellSays (memtables : List Memtable) (journal : List Write) (due fill c : ℕ) (x : Option Cell) : Type 0 where
  has_rows : (o : Occupied memtables c) → x ≡ Some (cell_of journal o.id) → CellSays memtables journal due fill c x
  fills_up : (o : Occupied memtables c) → borne_by o.id journal ≡ [] → 1 ≤ fill
      → CellSays memtables journal due fill c x
  is_vacant : Free memtables c → x ≡ None → CellSays memtables journal due fill c x
  is_due : Free memtables c → 1 ≤ due → (m : ℕ) (it : Memtable) → entry memtables m ≡ Some it → it.live ≡ false
      → x ≡ Some (cell_of journal m)
      → CellSays memtables journal due fill c x

abbrev pub Says : Books → List LaneView → ℕ → Option Cell → Type 0
Says b vs c x = CellSays b.memtables b.journal (total (dues c) vs) (total (fills c) vs) c x

-- a cell whose lock a lane holds
pub record IsLent (b : Books) (vs : List LaneView) (h : CellHeld) : Type 0 where
  pub within : h.number < 64
  pub says : Says b vs h.number h.found

-- ---- files

-- Where the directory tells its files, which at the opening were these: beside what the books have, each written output
-- and each listed number has its text, and what a job marked as taken away is not there.
pub record FilesHeld (b : Books) (first files : Files) (vs : List LaneView) : Type 0 where
  pub hold : FilesHold b first files
  pub written : Each (λ j v. (o : Output) → v.known.task.output ≡ Some o → o.written ≡ true
      → HasItsText b files o.meta.number) vs
  pub listed : Each (λ j v. v.seat.spent ≡ false → Every (HasItsText b files) v.known.task.listed) vs
  pub taken : Each (λ j v. Every (λ k. k.taken ≡ true → file_of k.number files ≡ None) (marks_of v.known.task.job)) vs

-- The directory tells its files at both times, or at none.
abbrev pub Told : (Files → Files → Type 0) → Option Files → Option Files → Type 0
Told R None None = Unit {0}
Told R (Some first) (Some files) = R first files
Told R first files = ⊥

-- ---- the part

module _ {S D C B : Type 0} (cell : C → Option Cell) (body : B → Body) where
  abbrev pub IsCell : (Option Cell → Type 0) → Stored S D C B → Type 0
  IsCell P x = (y : C) × (x ≡ is.Cell y) × P (cell y)

  pub record Held (b : Books) (first disk : Disk) (s : State (Stored S D C B) LaneView) : Type 0 where
    pub cells : (c : ℕ) → c < 64 → Lock (IsCell (Says b s.views c)) (has_cell c) (word s (cell_word c))
        (home s (cell_word c)) s.views
    pub lent : Each (λ j v. (h : CellHeld) → v.locks.cell ≡ Some h → IsLent b s.views h) s.views
    pub files : Told (λ x y. FilesHeld b x y s.views) first.files disk.files
    -- the body of each reference at home
    pub bodies : (i : ℕ) (r : SvRef B) → i < 512 → home s (slot_home i) ≡ maybe.some (maybe.some (is.Cached r))
        → BodyFits b (record { pack = r.pack; body = body r.body.value })
