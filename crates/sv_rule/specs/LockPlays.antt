-- What the steps on locks make of a view, what they need, and what they tell: of the seat before, the word found and
-- the seat after.
use Rattle.std.specs.Prelude.{◌≡◌, ◌≢◌, ◌≤◌, ◌<◌, ◌+◌, ◌/◌, ◌%◌, ◌++◌, ◌⊎◌, ◌↔◌, ◌==◌, ◌||◌, ◌&&◌, ℕ, Bool, true, false, max, nat_lt, List, [], ◌∷◌, Option, Some, None, length, filter, not, is_some}
use Rattle.std.specs.List.{list_any}
use Rattle.std.specs.FinMap as map
use Rattle.atomic_table.specs.Table.{Me, rest}
use Rattle.sv_model.specs.declared.writes.Write.{Write}
use Rattle.sv_model.specs.declared.records.FileMeta.{FileMeta}
use Rattle.sv_model.specs.Journal.{of_family}
use Rattle.sv_model.specs.Books.{Books}
use Rattle.sv_model.specs.Cells.{Cell}
use Rattle.sv_model.specs.Files.{Files, file_name, file_of, with_file}
use Rattle.sv_model.specs.HeldFiles.{HasItsText}
use Rattle.sv_model.specs.Lists.{In, Every, times, at}
use Rattle.sv_rule.specs.declared.parts.Stored.{Stored}
use Rattle.sv_rule.specs.declared.parts.Stored.TheVariants as is
use Rattle.sv_rule.specs.Sums.{put}
use Rattle.sv_model.specs.Supers.{LiveAt, current_of}
use Rattle.sv_model.specs.Tasks.{Task, Output, Mark, marks_of, has_output, grabs, has_job}
use Rattle.sv_model.specs.Turns.{Turns, Stands, IsOutput, IsAccounted}
use Rattle.sv_rule.specs.Views.{LaneView, Desk, Disk, Bodied, FrozenAt, RowsRead, FileRead, Work, idle, borrow}
use Rattle.sv_rule.specs.Fits.{Fits}
use Rattle.sv_rule.specs.Held.{CellSays, Occupied, Told}
use Rattle.sv_rule.specs.Table.{cell_word, slot_of}
use Rattle.sv_model.specs.declared.limits.TheConstants.{MAX_WRITES}

-- ---- the DB lock

abbrev pub took_db : Books → LaneView → LaneView
took_db b v = record v {
  locks = record v.locks { db = Some (record { books = b; work = idle; due = [] }) };
  known = record v.known { found = v.known.found ++ b ∷ [] };
}

abbrev pub gave_db : Books → Task → LaneView → LaneView
gave_db b u v = record v {
  locks = record v.locks { db = None };
  known = record v.known { left = v.known.left ++ b ∷ []; task = u };
}

-- the lane has no work under way, no cell's lock and no cell to make vacant, and leaves these books
pub record MayGiveDb (v : LaneView) (b : Books) (u : Task) : Type 0 where
  pub alive : v.seat.spent ≡ false
  pub desk : Desk
  pub has : v.locks.db ≡ Some desk
  pub resting : desk.work ≡ idle
  pub due : desk.due ≡ []
  pub cell : v.locks.cell ≡ None
  pub turns : Turns v.known.lane desk.books v.known.task b u []
  pub stands : Stands desk.books b

-- What a lane is told with the state: its books fit what it knows; they have what it has of its own; each family of
-- which it has a handle has a current; and what it owes is Live, and current of no family.
pub record IsTold (v : LaneView) (b : Books) : Type 0 where
  pub fits : Fits b v.known
  pub accounted : IsAccounted v.known.lane b v.known.task
  pub currents : (f : ℕ) → f < 16 → 1 ≤ times f v.known.task.handles → (In f v.seat.ends → ⊥) → 256 ≤ current_of b f
  pub owed : (p : ℕ) → 256 ≤ p → In p v.owes → LiveAt b.supers (p / 256) (p % 256)
      × ((f : ℕ) → f < 16 → p ≢ current_of b f)

module _ {S D C B : Type 0} (books : S → Books) where
  pub record TookDb (m : Me (Stored S D C B) LaneView) (r : ℕ) (n : Me (Stored S D C B) LaneView) : Type 0 where
    pub free : r ≡ 0 → (st : S) × (n ≡ (took_db (books st) m.0, (0, is.State st) ∷ m.1)) × IsTold m.0 (books st)
    pub busy : r ≢ 0 → n ≡ m

  abbrev pub GaveDb : Task → Me (Stored S D C B) LaneView → ℕ → Me (Stored S D C B) LaneView → Type 0
  GaveDb u m r n = (st : S) → m.1 ≡ (0, is.State st) ∷ rest m.1 → n ≡ (gave_db (books st) u m.0, rest m.1)

-- ---- a cell's lock

-- No more rows come to the memtable: it is frozen in a body that the lane knows, or a later write of its family was
-- seen.
abbrev pub closes : List ℕ → Cell → Bodied → Bool
closes seen c x =
    list_any (λ k. k.frozen.id == c.id) x.body.frozen
    || ((x.body.descriptor.active == c.id) && nat_lt (x.body.descriptor.base + length c.rows)
    (at 0 seen x.body.descriptor.family))

-- what a taking of a cell reads, without the DB lock
abbrev pub read_of : Option Desk → List Bodied → List ℕ → Option Cell → List RowsRead
read_of None bodies seen (Some c) = record { mem = c.id; rows = c.rows; whole = list_any (closes seen c) bodies } ∷ []
read_of None bodies seen None = []
read_of (Some d) bodies seen x = []

abbrev pub takings : Option Desk → ℕ
takings None = 1
takings (Some d) = 0

abbrev pub took_cell : ℕ → Option Cell → LaneView → LaneView
took_cell c x v = record v {
  locks = record v.locks { cell = Some (record { number = c; found = x }) };
  known = record v.known { rows = v.known.rows ++ read_of v.locks.db v.known.bodies v.known.seen x };
  counts = record v.counts { takes = v.counts.takes + takings v.locks.db };
}

abbrev pub raised : List ℕ → ℕ → ℕ → List ℕ
raised seen f n = put 0 seen f (max (at 0 seen f) n)

abbrev pub gave_cell : ℕ → ℕ → LaneView → LaneView
gave_cell f cut v = record v {
  locks = record v.locks { cell = None };
  known = record v.known { seen = raised v.known.seen f cut };
}

-- the cut of a read: it was seen before, or is that of the active memtable of a body
pub record IsActiveCut (v : LaneView) (x : Option Cell) (f cut : ℕ) : Type 0 where
  pub cell : Cell
  pub found : x ≡ Some cell
  pub it : Bodied
  pub has : In it v.known.bodies
  pub active : it.body.descriptor.active ≡ cell.id
  pub family : it.body.descriptor.family ≡ f
  pub is : cut ≡ it.body.descriptor.base + length cell.rows

abbrev pub IsCut : LaneView → Option Cell → ℕ → ℕ → Type 0
IsCut v x f cut = (cut ≤ at 0 v.known.seen f) ⊎ IsActiveCut v x f cut

-- the cell is as it was found
pub record MayGiveCell (v : LaneView) (c : ℕ) (x : Option Cell) (f cut : ℕ) : Type 0 where
  pub alive : v.seat.spent ≡ false
  pub db : v.locks.db ≡ None
  pub cell : v.locks.cell ≡ Some (record { number = c; found = x })
  pub cut_is : IsCut v x f cut

abbrev pub without_cell : ℕ → List ℕ → List ℕ
without_cell c due = filter (λ k. not (k == c)) due

-- the lane that has the DB lock gives the cell, and goes on with these books
abbrev pub wrote_cell : Desk → ℕ → Books → Task → List Write → ℕ → ℕ → LaneView → LaneView
wrote_cell d c b u more f n v = record v {
  locks = record v.locks { db = Some (record { books = b; work = d.work; due = without_cell c d.due }); cell = None };
  known = record v.known { task = u; mine = v.known.mine ++ more; seen = raised v.known.seen f n };
}

-- one write, of the memtable of the cell, while no work is under way
pub record IsOneWrite (b : Books) (work : Work) (c : ℕ) (more : List Write) : Type 0 where
  pub resting : work ≡ idle
  pub it : Write
  pub is : more ≡ it ∷ []
  pub of : Occupied b.memtables c
  pub mem : it.mem ≡ of.id

abbrev pub IsWriting : Books → Work → ℕ → List Write → Type 0
IsWriting b work c more = (more ≡ []) ⊎ IsOneWrite b work c more

-- The cell holds its memtable's rows in the books that the lane goes on with, or is vacant where it is no memtable's.
pub record MayWriteCell (v : LaneView) (c : ℕ) (b : Books) (u : Task) (more : List Write) (x : Option Cell)
    (f n : ℕ) : Type 0 where
  pub alive : v.seat.spent ≡ false
  pub desk : Desk
  pub has : v.locks.db ≡ Some desk
  pub found : Option Cell
  pub cell : v.locks.cell ≡ Some (record { number = c; found = found })
  pub turns : Turns v.known.lane desk.books v.known.task b u more
  pub stands : Stands desk.books b
  pub more_is : IsWriting b desk.work c more
  pub says : CellSays b.memtables b.journal 0 0 c x
  pub seen : n ≤ length (of_family f b.journal)

-- ---- what a taking of a cell tells

-- the cell has this memtable
abbrev pub HasMem : Option Cell → ℕ → Type 0
HasMem x m = (k : Cell) × (x ≡ Some k) × (k.id ≡ m)

-- the lane has a reference of the pack, in hand or borrowed
abbrev pub HasRef : LaneView → ℕ → Type 0
HasRef v p = (1 ≤ times p v.hand) ⊎ ((f : ℕ) × (floor : ℕ) × (f < 16) × (slot_of v f ≡ borrow p floor))

-- the lane that has the DB lock finds what its books say
abbrev pub FindsAsBooks : LaneView → ℕ → Option Cell → Type 0
FindsAsBooks v c x = (d : Desk) → v.locks.db ≡ Some d → CellSays d.books.memtables d.books.journal (times c d.due) 0 c x

-- A lane that has a reference finds the memtables that its body names; the rows of the active one end at no more than the
-- greatest number of writes. Where it has a borrow, they reach the borrow's floor.
pub record FindsAsBody (v : LaneView) (c : ℕ) (x : Option Cell) : Type 0 where
  pub active : (b : Bodied) → In b v.known.bodies → HasRef v b.pack → b.body.cell ≡ c
      → HasMem x b.body.descriptor.active
  pub frozen : (b : Bodied) (k : FrozenAt) → In b v.known.bodies → HasRef v b.pack → In k b.body.frozen → k.cell ≡ c
      → HasMem x k.frozen.id
  pub floor : (b : Bodied) (f floor : ℕ) (k : Cell) → In b v.known.bodies → f < 16 → slot_of v f ≡ borrow b.pack floor
      → b.body.cell ≡ c → x ≡ Some k → floor ≤ b.body.descriptor.base + length k.rows
  pub most : (b : Bodied) (k : Cell) → In b v.known.bodies → HasRef v b.pack → b.body.cell ≡ c → x ≡ Some k
      → b.body.descriptor.base + length k.rows ≤ MAX_WRITES

module _ {S D C B : Type 0} (cell : C → Option Cell) where
  pub record TookCell (c : ℕ) (m : Me (Stored S D C B) LaneView) (r : ℕ) (n : Me (Stored S D C B) LaneView) : Type
      0 where
    pub free : r ≡ 0 → (y : C) × (n ≡ (took_cell c (cell y) m.0, (cell_word c, is.Cell y) ∷ m.1))
        × FindsAsBooks m.0 c (cell y) × FindsAsBody m.0 c (cell y)
    pub busy : r ≢ 0 → n ≡ m

module _ {A : Type 0} where
  abbrev pub GaveCell : ℕ → ℕ → Me A LaneView → ℕ → Me A LaneView → Type 0
  GaveCell f cut m r n = n ≡ (gave_cell f cut m.0, rest m.1)

  abbrev pub WroteCell : Desk → ℕ → Books → Task → List Write → ℕ → ℕ → Me A LaneView → ℕ → Me A LaneView → Type 0
  WroteCell d c b u more f n m r after = after ≡ (wrote_cell d c b u more f n m.0, rest m.1)

-- ---- the directory's lock

abbrev pub took_dir : Disk → LaneView → LaneView
took_dir d v = record v { locks = record v.locks { dir = Some d } }

-- what the lane made of the directory: its task, what it read, what a listing gave, and by how much the count rose
abbrev pub gave_dir : Task → List FileRead → List (List ℕ) → ℕ → ℕ → LaneView → LaneView
gave_dir u reads names lists rise v = record v {
  locks = record v.locks { dir = None };
  known = record v.known { task = u; reads = v.known.reads ++ reads };
  counts = record v.counts { lists = v.counts.lists + lists; faults = v.counts.faults + rise };
  names = names;
}

-- nothing but the marks of the output and of the job
pub record MarksTask (t u : Task) : Type 0 where
  pub handles : u.handles ≡ t.handles
  pub holds : u.holds ≡ t.holds
  pub quiet : u.quiet ≡ t.quiet
  pub listed : u.listed ≡ t.listed
  pub removed : u.removed ≡ t.removed
  pub ended : u.ended ≡ t.ended
  pub output : (o : Output) → u.output ≡ Some o → IsOutput t o
  pub outputs : (n : ℕ) → has_output n u ≡ has_output n t
  pub grabbed : (n : ℕ) → grabs n u ≡ grabs n t
  pub jobs : has_job u ≡ has_job t

-- The file of one number changed, which the lane has as its output or in its job. What is in a job is only removed.
pub record ChangesOwn (t : Task) (files now : Files) : Type 0 where
  pub number : ℕ
  pub content : Option (List ℕ)
  pub is : now ≡ with_file (file_name number) content files
  pub own : 1 ≤ has_output number t + grabs number t
  pub removes : 1 ≤ grabs number t → content ≡ None

pub record DirChange (v : LaneView) (u : Task) (files now : Files) : Type 0 where
  pub changed : (now ≡ files) ⊎ ChangesOwn v.known.task files now
  -- what is marked as written has its text in all books that fit
  pub written : (o : Output) → u.output ≡ Some o → o.written ≡ true
      → ((v.known.task.output ≡ Some o) × (file_of o.meta.number now ≡ file_of o.meta.number files))
      ⊎ ((b : Books) → Fits b v.known → HasItsText b now o.meta.number)
  pub taken : (k : Mark) → In k (marks_of u.job) → k.taken ≡ true → In k (marks_of v.known.task.job)
      ⊎ (file_of k.number now ≡ None)

-- a read of a file of a SuperVersion of which the lane has a reference
pub record IsOwnRead (v : LaneView) (files : Files) (x : FileRead) : Type 0 where
  pub body : Bodied
  pub has : In body v.known.bodies
  pub held : HasRef v body.pack
  pub file : FileMeta
  pub of : In file body.body.files
  pub number : x.number ≡ file.number
  pub bytes : x.bytes ≡ file_of x.number files

-- The names are those of the latest listing: as they were where none was made, and else just the directory's.
abbrev pub AreListed : List (List ℕ) → List (List ℕ) → ℕ → Files → Type 0
AreListed before names lists files =
    ((lists ≡ 0) × (names ≡ before))
    ⊎ ((1 ≤ lists) × ((name : List ℕ) → In name names ↔ (map.contains_key files name ≡ true)))

pub record MayGiveDir (v : LaneView) (now : Disk) (u : Task) (reads : List FileRead) (names : List (List ℕ)) (lists rise : ℕ)
    : Type 0 where
  pub alive : v.seat.spent ≡ false
  pub found : Disk
  pub has : v.locks.dir ≡ Some found
  -- a lane that has the DB lock changes no file
  pub changes : (now.files ≡ found.files) ⊎ (v.locks.db ≡ None)
  pub marks : MarksTask v.known.task u
  pub files : Told (DirChange v u) found.files now.files
  pub reads_are : (files : Files) → found.files ≡ Some files → Every (IsOwnRead v files) reads
  pub listed : (files : Files) → found.files ≡ Some files → AreListed v.names names lists files
  pub later : found.faults ≤ now.faults
  pub rose : (found.faults + rise ≤ now.faults) ⊎ (18446744073709551615 ≤ now.faults)

-- The directory tells its files where it told them at the opening.
abbrev pub AreTold : LaneView → Disk → Type 0
AreTold v d = is_some d.files ≡ is_some v.known.start.disk.files

module _ {S D C B : Type 0} (disk : D → Disk) where
  pub record TookDir (m : Me (Stored S D C B) LaneView) (r : ℕ) (n : Me (Stored S D C B) LaneView) : Type 0 where
    pub free : r ≡ 0 → (y : D) × (n ≡ (took_dir (disk y) m.0, (1, is.Dir y) ∷ m.1)) × AreTold m.0 (disk y)
    pub busy : r ≢ 0 → n ≡ m

module _ {A : Type 0} where
  abbrev pub GaveDir : Task → List FileRead → List (List ℕ) → ℕ → ℕ → Me A LaneView → ℕ → Me A LaneView → Type 0
  GaveDir u reads names lists rise m r n = n ≡ (gave_dir u reads names lists rise m.0, rest m.1)
