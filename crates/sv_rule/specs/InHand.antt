-- Work in hand: what the books say of outputs, jobs, snapshots, holds and handles is what the views have.
use Rattle.std.specs.Prelude.{◌≡◌, ◌<◌, ◌≤◌, ◌+◌, ◌⊎◌, ℕ, true, false, List, [], Some, None, length, slice_get}
use lib.ListN.{get_elem?}
use mathlib.Core.Option as maybe
use Rattle.sv_model.specs.declared.writes.Write.{Write}
use Rattle.sv_model.specs.declared.records.Family.{Family}
use Rattle.sv_model.specs.declared.records.Top.{Top}
use Rattle.sv_model.specs.Journal.{by_lane}
use Rattle.sv_model.specs.Families.{is_retired}
use Rattle.sv_model.specs.Numbers.{having, is_pending, is_live, is_grabbed}
use Rattle.sv_model.specs.Summaries.{is_obsolete, is_gone}
use Rattle.sv_model.specs.Books.{Books}
use Rattle.sv_model.specs.Lists.{In, Every, total, times, at}
use Rattle.sv_rule.specs.Sums.{Each}
use Rattle.sv_model.specs.Tasks.{Task, Output, has_output, grabs, has_job, handle, gone_snapshot}
use Rattle.sv_rule.specs.Fits.{Fits}
use Rattle.sv_rule.specs.UnderWay.{excepts}
use Rattle.sv_rule.specs.Views.{Known, LaneView, Start, Disk, Work}
use Rattle.sv_rule.specs.Tasks.{has_db, removals, endings, faults, lanes, holds_of, handles_of}

-- Live or Obsolete
abbrev pub IsThere : Books → ℕ → Type 0
IsThere b n = 1 ≤ having is_live n b.files.numbers + having is_obsolete n b.files.numbers

-- a hold that has answered
pub record IsQuiet (b : Books) (t : Task) : Type 0 where
  pub holds : 0 < t.holds
  pub jobs : b.files.jobs ≡ 0
  pub listed : Every (IsThere b) t.listed

-- The books fit what the lane knows, and its writes are those of the journal that bear it.
pub record Accounts (b : Books) (k : Known) : Type 0 where
  pub fits : Fits b k
  pub mine : by_lane k.lane b.journal ≡ k.mine

-- the view, with those joined into it, is all lanes, and ended the family's current at the close
pub record IsClosing (f : ℕ) (v : LaneView) : Type 0 where
  pub all : length v.joined + 1 ≡ v.seat.lanes
  pub alive : v.seat.spent ≡ false
  pub ends : In f v.seat.ends

-- A retired family has no current. Every other has one, unless a view that is all lanes ended it.
pub record CurrentsStand (b : Books) (vs : List LaneView) : Type 0 where
  pub retired : (f : ℕ) (x : Family) (t : Top) → slice_get b.families f ≡ Some x → slice_get b.tops f ≡ Some t
      → is_retired x ≡ true → t.current ≡ None
  pub others : (f : ℕ) (x : Family) (t : Top) → slice_get b.families f ≡ Some x → slice_get b.tops f ≡ Some t
      → t.current ≡ None
      → (is_retired x ≡ true) ⊎ ((j : ℕ) × (v : LaneView) × (get_elem? vs j ≡ maybe.some v) × IsClosing f v)

pub record WorkHeld (b : Books) (work : Work) (start : Start) (disk : Disk) (number : ℕ → ℕ)
    (vs : List LaneView) : Type 0 where
  -- each Pending number is the output of one lane, each Grabbed one in the job of one lane, and nothing else is
  pub outputs : (n : ℕ) → total (λ v. has_output n v.known.task) vs ≡ having is_pending n b.files.numbers
  pub metas : Each (λ j v. (o : Output) → v.known.task.output ≡ Some o → In o.meta b.metas) vs
  pub grabbed : (n : ℕ) → total (λ v. grabs n v.known.task) vs ≡ having is_grabbed n b.files.numbers
  pub jobs : total (λ v. has_job v.known.task) vs ≡ b.files.jobs
  -- each number and each snapshot that became Gone was made so by one lane, once
  pub removed : (n : ℕ) → total (removals n) vs + having is_gone n start.books.files.numbers ≡ having is_gone n
      b.files.numbers
  pub ended : (n : ℕ) → total (endings n) vs + gone_snapshot n start.books.snapshots ≡ gone_snapshot n b.snapshots
  -- holds and handles
  pub holds : (l : ℕ) → total (holds_of l) vs ≡ at 0 b.files.holds l
  pub handles : (l f : ℕ) → 0 < f → total (handles_of l f) vs ≡ handle b.families l f
  pub default : (l : ℕ) → l < 32 → handle b.families l 0 ≡ 1
  pub own_default : Each (λ j v. v.seat.spent ≡ false → times 0 v.known.task.handles ≡ 1) vs
  pub spent : Each (λ j v. v.seat.spent ≡ true → (v.known.task.holds ≡ 0)
      × ((f : ℕ) → times f v.known.task.handles ≡ 0)) vs
  pub quiet : Each (λ j v. v.seat.spent ≡ false → v.known.task.quiet ≡ true → IsQuiet b v.known.task) vs
  pub loud : Each (λ j v. v.known.task.quiet ≡ false → v.known.task.listed ≡ []) vs
  -- currents, and who may have a handle of a family whose first current is not shown yet
  pub currents : CurrentsStand b vs
  pub silent : (f : ℕ) → f < 16 → 0 < excepts f work → number f ≡ 0
      → Each (λ j v. has_db v ≡ 0 → times f v.known.task.handles ≡ 0) vs
  -- the books fit every view, and its writes are the journal's
  pub starts : Each (λ j v. v.seat.spent ≡ false → v.known.start ≡ start) vs
  pub accounts : Each (λ j v. v.seat.spent ≡ false → Accounts b v.known) vs
  pub joined : Each (λ j v. Every (λ o. Accounts b o.known) v.joined) vs
  pub opening : Every (λ w. 32 ≤ w.lane) start.books.journal
  pub writes : (i : ℕ) (w : Write) → slice_get b.journal i ≡ Some w → length start.books.journal ≤ i
      → 1 ≤ total (lanes w.lane) vs
  pub faults : (start.disk.faults + total faults vs ≤ disk.faults) ⊎ (18446744073709551615 ≤ disk.faults)
