-- How the books in hand may change at one step, and what they have of the lane's own with them.
use Rattle.std.specs.Prelude.{List, None, Some, [], false, length, slice_get, true, ℕ, ◌%◌, ◌++◌, ◌+◌, ◌/◌, ◌<◌, ◌∷◌, ◌≡◌, ◌≢◌, ◌≤◌, ◌⊎◌}
use Rattle.sv_model.specs.After.{After, KeepsMemtable}
use Rattle.sv_model.specs.Books.{Books}
use Rattle.sv_model.specs.Families.{is_retired}
use Rattle.sv_model.specs.Journal.{borne_by}
use Rattle.sv_model.specs.Lawful.{Lawful}
use Rattle.sv_model.specs.Lists.{Every, In, times, at}
use Rattle.sv_model.specs.Numbers.{having, is_grabbed, is_live, is_pending}
use Rattle.sv_model.specs.Registers.{GoesOn, entry}
use Rattle.sv_model.specs.Summaries.{is_gone}
use Rattle.sv_model.specs.declared.records.Family.{Family}
use Rattle.sv_model.specs.declared.records.Memtable.{Memtable}
use Rattle.sv_model.specs.declared.records.SuperVersion.{SuperVersion}
use Rattle.sv_model.specs.declared.records.Top.{Top}
use Rattle.sv_model.specs.declared.writes.Write.{Write}
use Rattle.sv_model.specs.Supers.{IsSerialOf, current_of}
use Rattle.sv_model.specs.Tasks.{gone_snapshot, grabs, handle, has_job, has_output, marks_of, Mark, Output, Task}

-- ---- what the books have of the lane's own

-- the output is as it was, but for its mark
pub record IsOutput (t : Task) (o : Output) : Type 0 where
  pub was : Output
  pub is : t.output ≡ Some was
  pub same : o.meta ≡ was.meta

-- the output is new: its number was not registered before
pub record IsFresh (a b : Books) (o : Output) : Type 0 where
  pub covered : In o.meta b.metas
  pub next : a.files.next ≤ o.meta.number
  pub unwritten : o.written ≡ false

-- the number is the lane's output, which is written
pub record IsWritten (t : Task) (n : ℕ) : Type 0 where
  pub it : Output
  pub is : t.output ≡ Some it
  pub number : it.meta.number ≡ n
  pub written : it.written ≡ true

abbrev pub taken_mark : ℕ → Mark
taken_mark n = record { number = n; taken = true }

-- Lane l, which had t of its own in the books a, has u in the books b, and its writes in between are these: what
-- changes of outputs, jobs, snapshots, holds and handles is the lane's own.
pub record OwnTurns (l : ℕ) (a : Books) (t : Task) (b : Books) (u : Task) (more : List Write) : Type 0 where
  pub lawful : Lawful b
  pub later : After a b
  pub journal : b.journal ≡ a.journal ++ more
  pub own : Every (λ w. w.lane ≡ l) more
  pub outputs : (n : ℕ) → having is_pending n b.files.numbers + has_output n t ≡ having is_pending n
      a.files.numbers + has_output n u
  pub grabbed : (n : ℕ) → having is_grabbed n b.files.numbers + grabs n t ≡ having is_grabbed n
      a.files.numbers + grabs n u
  pub removed : (n : ℕ) → having is_gone n b.files.numbers + times n t.removed ≡ having is_gone n
      a.files.numbers + times n u.removed
  pub ended : (n : ℕ) → gone_snapshot n b.snapshots + times n t.ended ≡ gone_snapshot n a.snapshots + times n u.ended
  pub jobs : b.files.jobs + has_job t ≡ a.files.jobs + has_job u
  pub holds : at 0 b.files.holds l + t.holds ≡ at 0 a.files.holds l + u.holds
  pub others_hold : (k : ℕ) → k ≢ l → at 0 b.files.holds k ≡ at 0 a.files.holds k
  pub handles : (f : ℕ) → handle b.families l f + times f t.handles ≡ handle a.families l f + times f u.handles
  pub others_handle : (k f : ℕ) → k ≢ l → handle b.families k f ≡ handle a.families k f
  pub default : times 0 u.handles ≡ times 0 t.handles
  pub output : (o : Output) → u.output ≡ Some o → IsOutput t o ⊎ IsFresh a b o
  -- a number becomes Gone only where the lane had grabbed it
  pub gone : (n : ℕ) → 1 ≤ having is_gone n b.files.numbers → (1 ≤ having is_gone n a.files.numbers) ⊎ (1 ≤ grabs n t)
  -- a job begins only where no other lane has a hold
  pub begins : has_job t ≡ 0 → has_job u ≡ 1 → (k : ℕ) → k ≢ l → at 0 a.files.holds k ≡ 0
  pub quiet : u.quiet ≡ true → (0 < u.holds) × (b.files.jobs ≡ 0)
  pub loud : u.quiet ≡ false → u.listed ≡ []
  pub listed : Every (λ n. In n t.listed ⊎ (1 ≤ having is_live n b.files.numbers)) u.listed

-- The same, with what it says of the files of the directory.
pub record Turns (l : ℕ) (a : Books) (t : Task) (b : Books) (u : Task) (more : List Write) : Type 0 where
  pub counts : OwnTurns l a t b u more
  -- only the directory's lock marks an output as written
  pub written : (o : Output) → u.output ≡ Some o → o.written ≡ true → t.output ≡ Some o
  -- what becomes Live is the lane's written output, and what becomes Gone was taken away
  pub live : (n : ℕ) → 1 ≤ having is_live n b.files.numbers → (1 ≤ having is_live n a.files.numbers) ⊎ IsWritten t n
  pub gone : (n : ℕ) → 1 ≤ having is_gone n b.files.numbers → (1 ≤ having is_gone n a.files.numbers)
      ⊎ In (taken_mark n) (marks_of t.job)
  pub marks : (k : Mark) → In k (marks_of u.job) → k.taken ≡ true → In k (marks_of t.job)

-- ---- what changes of SuperVersions, currents and memtables

-- Each family of the one is one of the other, and retired in both or in none.
pub record NoneRetires (a b : List Family) : Type 0 where
  pub goes : (f : ℕ) (x : Family) → slice_get a f ≡ Some x → (y : Family) × (slice_get b f ≡ Some y)
      × (is_retired y ≡ is_retired x)
  pub long : length a ≤ length b

-- The DB lock is given, or a cell: SuperVersions, currents and memtables stand.
pub record Stands (a b : Books) : Type 0 where
  pub supers : b.supers ≡ a.supers
  pub tops : b.tops ≡ a.tops
  pub memtables : b.memtables ≡ a.memtables
  pub families : NoneRetires a.families b.families
  pub long : length b.families ≡ length a.families

-- The pack is that of a new SuperVersion, which is family f's current. Where the
-- family was there before, it had one; else it had no SuperVersion.
pub record Opens (a b : Books) (f p : ℕ) : Type 0 where
  pub super : SuperVersion
  pub supers : b.supers ≡ a.supers ++ super ∷ []
  pub serial : p / 256 ≡ length a.supers + 1
  pub place : super.place ≡ p % 256
  pub live : super.live ≡ true
  pub family : super.descriptor.family ≡ f
  pub current : current_of b f ≡ p
  pub others : (g : ℕ) → g ≢ f → slice_get b.tops g ≡ slice_get a.tops g
  pub had : (t : Top) → slice_get a.tops f ≡ Some t → (s : ℕ) × (t.current ≡ Some s)
  pub first : current_of a f ≡ 0 → (t : ℕ) → IsSerialOf a.supers f t → ⊥
  pub families : NoneRetires a.families b.families
  pub stands : (y : Family) → slice_get b.families f ≡ Some y → is_retired y ≡ false
  pub fresh : (g : ℕ) (y : Family) → slice_get b.families g ≡ Some y → slice_get a.families g ≡ None → g ≡ f

-- the memtable is new, in a cell
pub record IsNewMemtable (a b : Books) (c : ℕ) (m : Memtable) : Type 0 where
  pub memtables : b.memtables ≡ a.memtables ++ m ∷ []
  pub cell : m.cell ≡ c
  pub live : m.live ≡ true
  pub no_rows : borne_by (length a.memtables + 1) b.journal ≡ []

-- Family f has no current any more; SuperVersions and memtables stand. No other family becomes retired by it.
pub record EndsCurrent (a b : Books) (f : ℕ) : Type 0 where
  pub supers : b.supers ≡ a.supers
  pub memtables : b.memtables ≡ a.memtables
  pub top : Top
  pub on : slice_get b.tops f ≡ Some top
  pub none : top.current ≡ None
  pub others : (g : ℕ) → g ≢ f → slice_get b.tops g ≡ slice_get a.tops g
  pub long : length b.families ≡ length a.families
  pub families : (g : ℕ) (x y : Family) → g ≢ f → slice_get a.families g ≡ Some x → slice_get b.families g ≡ Some y
      → is_retired y ≡ is_retired x
  -- what was retired stays so
  pub same : (x y : Family) → slice_get a.families f ≡ Some x → slice_get b.families f ≡ Some y → is_retired x ≡ true
      → is_retired y ≡ true

-- the SuperVersion of serial t is Gone
pub record IsGone (a b : List SuperVersion) (t : ℕ) : Type 0 where
  pub sv : SuperVersion
  pub was : entry a t ≡ Some sv
  pub is : entry b t ≡ Some (record sv { live = false })
  pub others : (u : ℕ) → u ≢ t → entry b u ≡ entry a u
  pub long : length b ≡ length a

-- Of the memtables only lives changed, from Live to Gone.
pub record EndsMemtables (a b : List Memtable) : Type 0 where
  pub long : length b ≡ length a
  pub goes : GoesOn KeepsMemtable a b
  -- what is Live was Live
  pub live : (m : ℕ) (x y : Memtable) → entry a m ≡ Some x → entry b m ≡ Some y → y.live ≡ true → x.live ≡ true

-- The SuperVersion of the pack is Gone, and with it memtables whose cells are these; currents and families stand.
pub record EndsSuper (a b : Books) (p : ℕ) (cells : List ℕ) : Type 0 where
  pub gone : IsGone a.supers b.supers (p / 256)
  pub tops : b.tops ≡ a.tops
  pub families : b.families ≡ a.families
  pub memtables : EndsMemtables a.memtables b.memtables
  pub freed : (m : ℕ) (x y : Memtable) → entry a.memtables m ≡ Some x → entry b.memtables m ≡ Some y → x.live ≡ true
      → y.live ≡ false → In x.cell cells

-- ---- what the rule tells a lane of its own

-- What a lane has of its own is what the books have of it.
pub record IsAccounted (l : ℕ) (b : Books) (t : Task) : Type 0 where
  pub lawful : Lawful b
  pub quiet : t.quiet ≡ true → (0 < t.holds) × (b.files.jobs ≡ 0)
  pub loud : t.quiet ≡ false → t.listed ≡ []
  pub holds : at 0 b.files.holds l ≡ t.holds
  pub handles : (f : ℕ) → 0 < f → handle b.families l f ≡ times f t.handles
  pub default : times 0 t.handles ≡ 1
  pub output : (o : Output) → t.output ≡ Some o → (1 ≤ having is_pending o.meta.number b.files.numbers)
      × In o.meta b.metas
  pub job : (k : Mark) → In k (marks_of t.job) → 1 ≤ having is_grabbed k.number b.files.numbers
  pub jobs : has_job t ≤ b.files.jobs
