-- From the lines that were answered to a run that is done.
use Rattle.std.proofs.Common.{◌≡◌, ◌<◌, ◌≤◌, ◌↔◌, ◌+◌, ◌==◌, inl, ℕ, suc, cond, List, [], ◌∷◌, length, map, All, Option, Some, None, refl, sym, ◌∙◌, ap, subst, arith, eq-eqb}
use Rattle.std.specs.Prelude.{IfSome, is_some, filter, slice_get}
use Rattle.sv_model.specs.declared.records.FileMeta.{FileMeta}
use Rattle.sv_model.specs.declared.reports.End.{End}
use Rattle.sv_model.specs.declared.reports.End.TheVariants as end
use Rattle.sv_model.specs.declared.writes.Write.{Write}
use Rattle.sv_model.specs.Books.{Books}
use Rattle.sv_model.specs.Faults.{RoseBy}
use Rattle.sv_model.specs.Files.{Files}
use Rattle.sv_model.specs.Journal.{by_lane, change_of}
use Rattle.sv_model.specs.Openings.{opening_books}
use Rattle.sv_model.specs.Summaries.{obsolete_of}
use Rattle.sv_model.proofs.Entries.{entry_none, get_one}
use Rattle.sv_script.specs.declared.replies.LaneReport.{LaneReport}
use Rattle.sv_script.specs.declared.replies.Reply.{Reply}
use Rattle.sv_script.specs.declared.scripts.Line.{Line}
use Rattle.sv_script.specs.declared.scripts.Script.{Script}
use Rattle.sv_script.specs.Answered.{Answered, answered, dir_faults}
use Rattle.sv_script.specs.ScriptLaws.{IsRunnable, IsWellFormed}
use Rattle.sv_replies.specs.GetsSeeAll.{GetsSeeAll}
use Rattle.sv_replies.specs.LanesFit.{LanesFit}
use Rattle.sv_replies.proofs.OneLane.{one-lane}
use Rattle.sv_replies.proofs.ToldLaws.{told-later}
use Rattle.sv_state.specs.Follows.{Follows}
use Rattle.sv_state.specs.Seen.{StateSeen}
use Rattle.sv_store.specs.Closing.{Closes, EndsAs, IsClosed}
use Rattle.sv_store.specs.HeldFiles.{IsHeld, LeavesOthers}
use Rattle.sv_store.proofs.AbsentFiles.{leaves-through}
use Rattle.sv_answers.specs.Answered.{alone}
use Rattle.sv_lane.specs.Played.{Moment, Played}
use Rattle.sv_run.specs.declared.outcomes.Done.{Done}
use Rattle.sv_run.specs.Ends.{LanesRan, faults_at_close}
use Rattle.sv_run.specs.Lanes.{AreReports, IsReportOf, LeavesIfTold, MakesShown, lines_of}
use Rattle.sv_run.specs.Openings.{IsFirst}

-- ---- the lines of the one lane

-- where each line is the lane's
lines-all : (lane : ℕ) (lines : List Line) → All (λ (l : Line). l.lane ≡ lane) lines → lines_of lane lines ≡ lines
lines-all lane [] all = refl
lines-all lane (l ∷ lines) all =
    ap (λ q. cond q (l ∷ lines_of lane lines) (lines_of lane lines)) (eq-eqb l.lane lane (all 0 l (omega arith)))
    ∙ ap (λ (z : List Line). l ∷ z) (lines-all lane lines (λ k d lt. all (suc k) d (omega (arith, lt))))

pub lines-are : (script : Script) → IsWellFormed script → lines_of 1 script.lines ≡ script.lines
lines-are script wf = lines-all 1 script.lines (λ k d lt. (wf.runnable k d lt).lane)

-- ---- how close ended

some_left : (l : List ℕ) → 1 ≤ length l → l ≡ [] → ⊥
some_left l some none = absurd (omega (arith, some, ap length none))

clean_is : (ended : End) (left : List ℕ) (before now : ℕ) → EndsAs ended left before now → (ended ≡ end.Clean) ↔ (left ≡ [])
clean_is end.Clean left before now h = (λ e. h, λ none. refl)
clean_is end.DirFault left before now h = (λ e. absurd (cc), λ none. absurd (some_left left h.0 none))
clean_is end.OutOfMemory left before now h = (λ e. absurd (cc), λ none. absurd (some_left left h none))

rose_at_close : (ended : End) (left : List ℕ) (told before now later : ℕ) → RoseBy told before now → EndsAs ended left now later → now ≤ later
    → RoseBy (told + 0 + faults_at_close ended left) before later
rose_at_close end.Clean left told before now later rose h more = omega (arith, rose, more)
rose_at_close end.DirFault left told before now later rose h more = let some = h.0 in let close = h.1 in omega (arith, rose, close, some)
rose_at_close end.OutOfMemory left told before now later rose h more = omega (arith, rose, more)

-- ---- the files that are left

files-left : (first : ℕ) (closed : Books) (o q : Option Files) → IsHeld closed q → LeavesOthers (opening_books first) closed o q → LeavesIfTold closed o q
files-left first closed None None held others = tt
files-left first closed None (Some after) held others = absurd others.stay
files-left first closed (Some before) None held others = absurd others.stay
files-left first closed (Some before) (Some after) held others = record {
  live = held after refl;
  gone = others.absent (λ all is n x at. absurd (entry_none n x at)) after refl;
  others = others.stay;
}

-- before the first line no number is Live
pub none-held : (first : ℕ) (told : Option Files) → IsHeld (opening_books first) told
none-held first told all is n live = absurd (entry_none live.0 live.1 live.2)

-- ---- the run

-- what the close does to the store, and to the directory that had these files and has those
pub record Closed (now closed : Books) (ended : End) (files later : Option Files) (before faults : ℕ) : Type 0 where
  pub is : IsClosed closed
  pub closes : Closes now closed
  pub ends : EndsAs ended (obsolete_of closed.files.numbers) before faults
  pub held : IsHeld now files → IsHeld closed later
  pub others : LeavesOthers now closed files later
  pub more : before ≤ faults
  pub follows : Follows now closed

module _ (script : Script) (wf : IsWellFormed script) (first : ℕ) (files : Option Files) (first_is : IfSome files (IsFirst first)) (before : ℕ)
    (now : Moment) (replies : List (ℕ × Reply)) (played : Played (record { books = opening_books first; files = files; faults = before }) now script.lines replies)
    (books : StateSeen) (ended : End) (later : Option Files) (faults : ℕ) (close : Closed now.books books.books ended now.files later now.faults faults) where
  abbrev closed : Books
  closed = books.books

  abbrev all : List Answered
  all = answered script.lines replies

  abbrev report : LaneReport
  report = record { lane = 1; replies = replies; counts = record { uses = 0; misses = 0; swept = 0 } }

  -- of the lines of the lane, which are all lines
  abbrev shown : List Answered
  shown = answered (lines_of 1 script.lines) replies

  shown-is : shown ≡ all
  shown-is = ap (λ (l : List Line). answered l replies) (lines-are script wf)

  reports : AreReports script (report ∷ [])
  reports = record {
    lanes = sym wf.lanes;
    each = λ i r at.
        let is = get_one report i r at in
        subst (λ (z : LaneReport). IsReportOf script (i + 1) z) (sym is.1)
        (subst (λ n. IsReportOf script (n + 1) report) (sym is.0) (record {
          lane_is = refl;
          numbers = played.numbers ∙ ap (map (λ (line : Line). line.line)) (sym (lines-are script wf));
        }));
  }

  journal-same : closed.journal ≡ now.books.journal
  journal-same = ap (λ (z : Books). z.journal) close.closes.is

  fits : LanesFit (is_some files) closed (all ∷ [])
  fits =
      let told = played.lane in
      one-lane (is_some files) closed all
      (told-later (alone (is_some files)) now.books closed all played.follows.sound.lawful close.follows.sound.lawful close.follows.after told.lane.told).fits
      (ap (λ (l : List Write). map change_of (by_lane 0 l)) journal-same ∙ told.lane.journal)
      (λ i w at. inl (let mine = told.writes i w (ap (λ (l : List Write). slice_get l i) (sym journal-same) ∙ at) in omega (arith, mine)))
      told.purged_once told.ended_once

  metas-same : closed.metas ≡ now.books.metas
  metas-same = ap (λ (z : Books). z.metas) close.closes.is

  makes : MakesShown closed (all ∷ [])
  makes =
      let m = played.makes in
      let made = m.grows.made in
      let long = m.grows.draws.long in
      let metas = ap (λ (l : List FileMeta). length l) metas-same in
      let supers = close.closes.supers in
      let memtables = close.closes.memtables in
      let least = m.least in
      let most = m.most in
      record {
        installs = omega (arith, made, supers, memtables);
        least = omega (arith, long, metas, least);
        most = omega (arith, long, metas, most);
      }

  pub lanes-ran : LanesRan (record { files = files; later = later; before = before; now = faults }) script
      (record { books = books; lanes = report ∷ []; end = ended })
  lanes-ran = record {
    reports = reports;
    counts = λ i r at. (let is = get_one report i r at in ap (λ (z : LaneReport). z.counts) is.1);
    fits = subst (λ (l : List Answered). LanesFit (is_some files) closed (l ∷ [])) (sym shown-is) fits;
    own = λ i w at. (
        let mine = played.lane.writes i w (ap (λ (l : List Write). slice_get l i) (sym journal-same) ∙ at) in
        let one = wf.lanes in
        omega (arith, mine, one)
        );
    sees = λ one i l at. (
        let is = get_one shown i l at in
        subst GetsSeeAll (sym (is.1 ∙ shown-is)) played.lane.sees
        );
    makes = subst (λ (l : List Answered). MakesShown closed (l ∷ [])) (sym shown-is) makes;
    first = first;
    first_is = first_is;
    drawn = λ i file at. (
        let each = played.makes.grows.draws.each i file (omega arith) (ap (λ (l : List FileMeta). slice_get l i) (sym metas-same) ∙ at) in
        omega (arith, each)
        );
    closed = close.is;
    clean = clean_is ended (obsolete_of closed.files.numbers) now.faults faults close.ends;
    files = files-left first closed files later (close.held played.held)
        (leaves-through (opening_books first) now.books closed close.follows.after files now.files later played.others close.others);
    faults = subst (λ (l : List Answered). RoseBy (dir_faults l + 0 + faults_at_close ended (obsolete_of closed.files.numbers)) before faults) (sym shown-is)
        (rose_at_close ended (obsolete_of closed.files.numbers) (dir_faults all) before now.faults faults played.faults close.ends close.more);
  }

-- ---- from before the opening, which left the files

rose_earlier : (n before start now : ℕ) → before ≤ start → RoseBy n start now → RoseBy n before now
rose_earlier n before start now le rose = omega (arith, le, rose)

ran_from : (files later : Option Files) (before start now : ℕ) (script : Script) (done : Done) → before ≤ start
    → LanesRan (record { files = files; later = later; before = start; now = now }) script done
    → LanesRan (record { files = files; later = later; before = before; now = now }) script done
ran_from files later before start now script done le h = record {
  reports = h.reports;
  counts = h.counts;
  fits = h.fits;
  own = h.own;
  sees = h.sees;
  makes = h.makes;
  first = h.first;
  first_is = h.first_is;
  drawn = h.drawn;
  closed = h.closed;
  clean = h.clean;
  files = h.files;
  faults = rose_earlier _ before start now le h.faults;
}

pub ran_opened : (files opened later : Option Files) (before start now : ℕ) (script : Script) (done : Done) → opened ≡ files → before ≤ start
    → LanesRan (record { files = opened; later = later; before = start; now = now }) script done
    → LanesRan (record { files = files; later = later; before = before; now = now }) script done
ran_opened files opened later before start now script done same le h =
    subst (λ (f : Option Files). LanesRan (record { files = f; later = later; before = before; now = now }) script done) same
    (ran_from opened later before start now script done le h)
