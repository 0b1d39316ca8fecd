-- What a run owes: how it may end, and what is then written.
use Rattle.std.specs.Prelude.{◌≡◌, ◌+◌, ◌<◌, ◌≤◌, ◌⊎◌, ◌↔◌, ℕ, List, [], ◌∷◌, Option, Some, None, Ok, Err, IfSome, IsSomeAnd, is_some, length}
use Rattle.std.specs.Io.KnownBytes.{Appends}
use Rattle.sv_model.specs.declared.reports.End.{End}
use Rattle.sv_model.specs.declared.reports.End.TheVariants as end
use Rattle.sv_model.specs.declared.writes.Write.{Write}
use Rattle.sv_model.specs.Faults.{Rose, RoseBy}
use Rattle.sv_model.specs.Lists.{Every, total}
use Rattle.sv_model.specs.Summaries.{summary_of, obsolete_of}
use Rattle.sv_script.specs.declared.scripts.BadLine.{BadLine}
use Rattle.sv_script.specs.declared.scripts.Script.{Script}
use Rattle.sv_script.specs.declared.outcomes.Outcome.TheVariants as outcome
use Rattle.sv_script.specs.Answered.{dir_faults}
use Rattle.sv_script.specs.OutcomeTexts.{outcome_text}
use Rattle.sv_script.specs.ReportTexts.{report_text}
use Rattle.sv_script.specs.Script.{script_of}
use Rattle.sv_replies.specs.GetsSeeAll.{GetsSeeAll}
use Rattle.sv_replies.specs.LanesFit.{LanesFit}
use Rattle.sv_store.specs.Closing.{IsClosed}
use Rattle.sv_run.specs.Handed.{Input, Directory, Output, KeepsFiles, IsUntouched}
use Rattle.sv_run.specs.Lanes.{AreDrawnFrom, AreReports, HasNoCounts, LeavesIfTold, MakesShown, answered_of}
use Rattle.sv_run.specs.Openings.{IsFirst}
use Rattle.sv_run.specs.RunWords.{AreRun, IsHelp}
use Rattle.sv_run.specs.Transfers.{IsLong, AppendsPart}
use Rattle.sv_run.specs.declared.outcomes.Status.{Status}
use Rattle.sv_run.specs.declared.outcomes.Status.TheVariants as status
use Rattle.sv_run.specs.declared.outcomes.Done.{Done}

-- the bytes are this script, and no more than a script may have
pub record IsScript (script : Script) (bytes : List ℕ) : Type 0 where
  pub few : length bytes ≤ 16777216
  pub is : script_of bytes ≡ Ok script

-- the bytes are no script, first at this line
pub record IsBad (bad : BadLine) (bytes : List ℕ) : Type 0 where
  pub few : length bytes ≤ 16777216
  pub is : script_of bytes ≡ Err bad

-- ---- what the lanes leave

-- the numbers that close left, ascending
abbrev pub left_of : Done → List ℕ
left_of done = obsolete_of done.books.books.files.numbers

-- how often the directory failed at close: at each number that is left, where it ended so
abbrev pub faults_at_close : End → List ℕ → ℕ
faults_at_close end.DirFault left = length left
faults_at_close ended left = 0

-- Each lane answered its lines of the script, in order. The replies fit the books, whose journal has no write but the
-- lanes'; where there is one lane each get looked at just the writes before it. What was made is what the replies show, and the first file's number is one above
-- the greatest that a file was named by, or 1. Then the store was closed: nothing is kept but what the families that
-- stand show, and the numbers that are left, of which a clean close has none. The directory failed as often as the lanes
-- were told and close met, or more often.
pub record LanesRan (d : Directory) (script : Script) (done : Done) : Type 0 where
  pub reports : AreReports script done.lanes
  pub counts : Every HasNoCounts done.lanes
  pub fits : LanesFit (is_some d.files) done.books.books (answered_of script done.lanes)
  pub own : Every (λ (w : Write). w.lane < script.lanes) done.books.books.journal
  pub sees : script.lanes ≡ 1 → Every GetsSeeAll (answered_of script done.lanes)
  pub makes : MakesShown done.books.books (answered_of script done.lanes)
  pub first : ℕ
  pub first_is : IfSome d.files (IsFirst first)
  pub drawn : AreDrawnFrom first done.books.books
  pub closed : IsClosed done.books.books
  pub clean : (done.end ≡ end.Clean) ↔ (left_of done ≡ [])
  pub files : LeavesIfTold done.books.books d.files d.later
  pub faults : RoseBy (total dir_faults (answered_of script done.lanes) + faults_at_close done.end (left_of done)) d.before d.now

-- ---- endings

-- The source held a script, where it tells its bytes, and its lanes ran.
pub record IsDone (i : Input) (d : Directory) (done : Done) : Type 0 where
  pub script : Script
  pub read : IfSome i.left (IsScript script)
  pub ran : LanesRan d script done

-- a run that was closed so
pub record IsDoneAs (ended : End) (i : Input) (d : Directory) (done : Done) : Type 0 where
  pub close : done.end ≡ ended
  pub is : IsDone i d done

-- The directory failed before any lane ran.
pub record IsShut (d : Directory) : Type 0 where
  pub later : d.before ≤ d.now
  pub rose : Rose d.before d.now
  pub kept : KeepsFiles d

-- Memory was wanted before any lane ran.
pub record IsShort (d : Directory) : Type 0 where
  pub later : d.before ≤ d.now
  pub kept : KeepsFiles d

-- How a run of words that are taken comes to its text, before that is written.
abbrev pub Comes : Input → Directory → Option Done → Status → Type 0
Comes i d (Some done) status.Ok = IsDoneAs end.Clean i d done
Comes i d (Some done) status.DirFault = IsDoneAs end.DirFault i d done
Comes i d (Some done) status.OutOfMemory = IsDone i d done
Comes i d None (status.BadScript bad) = IfSome i.left (IsBad bad) × IsUntouched d
Comes i d None status.ScriptTooLong = IsLong i.left × IsUntouched d
Comes i d None status.ReadFault = Rose i.before i.now × IsUntouched d
Comes i d None status.DirFault = IsShut d
Comes i d None status.OutOfMemory = IsShort d
Comes i d stands status = ⊥

-- The same of any words: for help and for words that are refused nothing is read or run. Memory may be wanted for any
-- text.
abbrev pub Follows : Input → Directory → Option Done → Status → Type 0
Follows i d None status.Ok = IsHelp i.words × IsUntouched d
Follows i d None status.Usage = ((AreRun i.words → ⊥) × (IsHelp i.words → ⊥)) × IsUntouched d
Follows i d None status.OutOfMemory = IsShort d
Follows i d stands status = AreRun i.words × Comes i d stands status

-- ---- texts

-- the report of what stands
abbrev pub report_of : Done → List ℕ
report_of done = report_text done.lanes (summary_of done.end done.books.books)

-- the text for want of memory
abbrev pub short_text : List ℕ
short_text = outcome_text outcome.OutOfMemory

-- The text that is due. Where memory was wanted it is the report, if close ended so, or else that text alone.
abbrev pub IsDueText : Option Done → Status → List ℕ → Type 0
IsDueText (Some done) status.Ok text = text ≡ report_of done
IsDueText (Some done) status.DirFault text = text ≡ report_of done
IsDueText (Some done) status.OutOfMemory text = (text ≡ short_text) ⊎ ((done.end ≡ end.OutOfMemory) × (text ≡ report_of done))
IsDueText None status.Ok text = text ≡ outcome_text outcome.Usage
IsDueText stands status.Usage text = text ≡ outcome_text outcome.Usage
IsDueText stands (status.BadScript bad) text = text ≡ outcome_text (outcome.BadScript bad)
IsDueText stands status.ScriptTooLong text = text ≡ outcome_text outcome.ScriptTooLong
IsDueText stands status.ReadFault text = text ≡ outcome_text outcome.ReadFault
IsDueText stands status.DirFault text = text ≡ outcome_text outcome.DirFault
IsDueText stands status text = text ≡ short_text

-- the text that is due was written, after what the sink had
pub record IsWhole (o : Output) (stands : Option Done) (due : Status) : Type 0 where
  pub text : List ℕ
  pub is : IsDueText stands due text
  pub wrote : Appends o.old o.new text

-- The sink failed while the text of another ending was written.
pub record IsCutOff (i : Input) (d : Directory) (o : Output) (stands : Option Done) : Type 0 where
  pub rose : Rose o.before o.now
  pub due : Status
  pub follows : Follows i d stands due
  pub text : List ℕ
  pub is : IsDueText stands due text
  pub part : AppendsPart o.old o.new text

-- How a run ended: what it was handed, and the answer.
abbrev pub Ends : Input → Directory → Output → Option Done → Status → Type 0
Ends i d o stands status.WriteFault = IsCutOff i d o stands
Ends i d o stands status = Follows i d stands status × IsWhole o stands status

-- Where the words are taken, the source holds a script and no count of faults rises, every line is answered,
-- unless memory runs out.
abbrev pub Completes : Input → Directory → Output → Status → Type 0
Completes i d o answer =
    AreRun i.words → (script : Script) → IsSomeAnd i.left (IsScript script) → (Rose i.before i.now → ⊥) → (Rose d.before d.now → ⊥) → (Rose o.before o.now → ⊥)
    → (answer ≡ status.Ok) ⊎ (answer ≡ status.OutOfMemory)

-- Who asks for help gets it where the sink does not fail, unless memory runs out.
abbrev pub Helps : Input → Output → Status → Type 0
Helps i o answer = IsHelp i.words → (Rose o.before o.now → ⊥) → (answer ≡ status.Ok) ⊎ (answer ≡ status.OutOfMemory)
