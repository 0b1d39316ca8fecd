-- What the lanes of a run leave, once the store is closed.
use Rattle.std.specs.Prelude.{◌≡◌, ◌+◌, ◌≤◌, ◌==◌, ℕ, List, Option, Some, None, filter, length, map, slice_get}
use Rattle.sv_model.specs.declared.records.FileMeta.{FileMeta}
use Rattle.sv_model.specs.Books.{Books}
use Rattle.sv_model.specs.Files.{Files}
use Rattle.sv_model.specs.HeldFiles.{GoneAreAbsent, LiveAreHeld, OthersStay}
use Rattle.sv_model.specs.Lists.{Every, total}
use Rattle.sv_script.specs.Answered.{Answered, answered}
use Rattle.sv_script.specs.declared.replies.LaneReport.{LaneReport}
use Rattle.sv_script.specs.declared.replies.Reply.{Reply}
use Rattle.sv_script.specs.declared.scripts.Line.{Line}
use Rattle.sv_script.specs.declared.scripts.Script.{Script}
use Rattle.sv_replies.specs.Makes.{draws_of, files_made, installs_of}

-- ---- each lane's lines

-- the lines of a lane, which are numbered from 1
abbrev pub lines_of : ℕ → List Line → List Line
lines_of lane lines = filter (λ line. line.lane == lane) lines

-- The report is that of the lane: one reply a line, in order.
pub record IsReportOf (script : Script) (lane : ℕ) (report : LaneReport) : Type 0 where
  pub lane_is : report.lane ≡ lane
  pub numbers : map (λ (r : ℕ × Reply). r.0) report.replies ≡ map (λ line. line.line) (lines_of lane script.lines)

-- there is a report of each lane of the script, in the order of the lanes
pub record AreReports (script : Script) (reports : List LaneReport) : Type 0 where
  pub lanes : length reports ≡ script.lanes
  pub each : (i : ℕ) (r : LaneReport) → slice_get reports i ≡ Some r → IsReportOf script (i + 1) r

-- the commands of each lane, with their replies
abbrev pub answered_of : Script → List LaneReport → List (List Answered)
answered_of script reports = map (λ r. answered (lines_of r.lane script.lines) r.replies) reports

-- no reference was counted yet
abbrev pub HasNoCounts : LaneReport → Type 0
HasNoCounts r = r.counts ≡ record { uses = 0; misses = 0; swept = 0 }

-- ---- what was made

-- Beside the one SuperVersion and the one memtable of the opening, SuperVersions and memtables came together but where a
-- reply shows one alone. Each file that a reply shows drew a number; others were drawn for outputs that were given up.
pub record MakesShown (books : Books) (lanes : List (List Answered)) : Type 0 where
  pub installs : length books.supers ≡ length books.memtables + total installs_of lanes
  pub least : total files_made lanes ≤ length books.metas
  pub most : length books.metas ≤ total draws_of lanes

-- the numbers that were drawn follow one another from this one on
abbrev pub AreDrawnFrom : ℕ → Books → Type 0
AreDrawnFrom first books = (i : ℕ) (file : FileMeta) → slice_get books.metas i ≡ Some file → file.number ≡ first + i

-- ---- the files

-- Each Live number has the file that was written, and no Gone one has a file. Files of names that are no registered
-- number's are as they were.
pub record LeavesFiles (books : Books) (before after : Files) : Type 0 where
  pub live : LiveAreHeld books after
  pub gone : GoneAreAbsent books.files.numbers after
  pub others : OthersStay books.files.numbers before after

-- The directory tells its files before and after, which are then so, or not at all.
abbrev pub LeavesIfTold : Books → Option Files → Option Files → Type 0
LeavesIfTold books None None = Unit {0}
LeavesIfTold books (Some before) (Some after) = LeavesFiles books before after
LeavesIfTold books before after = ⊥
