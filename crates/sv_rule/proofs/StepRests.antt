-- What a step on slots, numbers or references leaves: the directory's lock, what is held, and work in hand.
-- ---- cells
use Rattle.std.proofs.Common.{List, None, Option, Some, [], ap, arith, cond, false, inl, inr, option_map, refl, set, subst, sym, true, ℕ, ⊎_elim, ◌++◌, ◌+◌, ◌<◌, ◌==◌, ◌∙◌, ◌≡◌, ◌≢◌, ◌≤◌}
use mathlib.Core.Option.{some}
use mathlib.Core.Option as maybe
use lib.ListN.{get_elem?}
use Rattle.atomic_table.specs.Table.{State}
use Rattle.sv_model.specs.Books.{Books}
use Rattle.sv_model.specs.Cells.{Cell}
use Rattle.sv_model.specs.Files.{Files, file_of}
use Rattle.sv_model.specs.HeldFiles.{HasItsText}
use Rattle.sv_model.specs.Lists.{Every, In, same, times, total}
use Rattle.sv_model.specs.declared.records.Memtable.{Memtable}
use Rattle.sv_model.specs.declared.sv_refs.SvRef.{SvRef}
use Rattle.sv_model.specs.declared.writes.Write.{Write}
use Rattle.sv_rule.specs.Fits.{BodyFits}
use Rattle.sv_rule.specs.Held.{CellSays, FilesHeld, Held, IsCell, IsLent, Says, Told}
use Rattle.sv_rule.specs.Home.{IsDir, Lock}
use Rattle.sv_rule.specs.InHand.{Accounts, IsQuiet, WorkHeld}
use Rattle.sv_rule.specs.Rule.{Kept}
use Rattle.sv_rule.specs.Sums.{Each}
use Rattle.sv_model.specs.Tasks.{grabs, has_job, has_output, marks_of, Output, Task}
use Rattle.sv_rule.specs.Table.{Box, cell_word, home, number, number_word, slot_home, word}
use Rattle.sv_rule.specs.Tasks.{cell_count, due_count, due_of, dues, endings, faults, fill_count, fills, handles_of, has_cell, has_db, has_dir, holds_of, lanes, removals, some_count}
use Rattle.sv_rule.specs.UnderWay.{excepts, fit}
use Rattle.sv_rule.specs.Views.{Bodied, Body, CellHeld, Desk, Disk, Joined, Known, LaneView, Seat, Start, Work}
use Rattle.sv_rule.specs.declared.parts.Stored.{Stored}
use Rattle.sv_rule.specs.declared.parts.Stored.TheVariants as is
use Rattle.sv_rule.proofs.Basics.{each_set, every_append}
use Rattle.sv_rule.proofs.CellLaws.{says-more}
use Rattle.sv_rule.proofs.CurrentTurns.{closing-set}
use Rattle.sv_rule.proofs.FileTurns.{told-map}
use Rattle.sv_rule.proofs.LockLaws.{lock-else}
use Rattle.sv_rule.proofs.StepLaws.{next, view_same, word_else}
use Rattle.sv_rule.proofs.Sums.{total-set}

-- a lane that does not lose what is due, nor a cell's lock under the DB lock, leaves what the cells say
pub says-step : (b : Books) (vs : List LaneView) (id : ℕ) (v w : LaneView) → get_elem? vs id ≡ some v
    → (k : ℕ) (x : Option Cell) → dues k v ≤ dues k w → fills k v ≤ fills k w → Says b vs k x → Says b (set vs id w) k x
says-step b vs id v w me k x d f h = says-more b.memtables b.journal (total (dues k) vs)
    (total (dues k) (set vs id w)) (total (fills k) vs) (total (fills k) (set vs id w)) k x
    (omega (arith, total-set (dues k) vs id v w me)) (omega (arith, total-set (fills k) vs id v w me)) h

-- the same where the books change, but neither memtables nor journal
pub says-books : (a b : Books) (vs : List LaneView) (k : ℕ) (x : Option Cell) → b.memtables ≡ a.memtables
    → b.journal ≡ a.journal → Says a vs k x → Says b vs k x
says-books a b vs k x m j = subst (λ (z : List Memtable × List Write). CellSays z.0 z.1 (total (dues k) vs)
    (total (fills k) vs) k x) (λ i. (sym m i, sym j i))

-- ---- what a lane knows

-- a lane came to have more bodies, each of which fits
pub accounts-bodies : (b : Books) (k : Known) (more : List Bodied) → Every (BodyFits b) more → Accounts b k
    → Accounts b (record k { bodies = k.bodies ++ more })
accounts-bodies b k more fit h = record {
  fits = record {
    lawful = h.fits.lawful;
    start = h.fits.start;
    found = h.fits.found;
    left = h.fits.left;
    mine = h.fits.mine;
    bodies = every_append (BodyFits b) k.bodies more h.fits.bodies fit;
    rows = h.fits.rows;
    reads = h.fits.reads;
    seen = h.fits.seen;
    removed = h.fits.removed;
    ended = h.fits.ended;
    round = h.fits.round;
    frames = h.fits.frames;
  };
  mine = h.mine;
}

-- what the parts Held and Work read of a view, beside what the lane knows
abbrev pub hand_view : LaneView → Seat × Task × ℕ × Option CellHeld × Option (List ℕ) × List Joined × Option Disk × ℕ
    × Start
hand_view v = (
  v.seat,
  v.known.task,
  v.counts.faults,
  v.locks.cell,
  due_of v,
  v.joined,
  v.locks.dir,
  v.known.lane,
  v.known.start,
)

pub due-has : (v w : LaneView) → due_of w ≡ due_of v → has_db w ≡ has_db v
due-has v w e = sym (count w.locks.db) ∙ (ap (λ (o : Option (List ℕ)). some_count o) e ∙ count v.locks.db)
  where
    count : (o : Option Desk) → some_count (option_map (λ (d : Desk). d.due) o) ≡ some_count o
    count None = refl
    count (Some d) = refl

module _ (b : Books) (work work' : Work) (start : Start) (disk : Disk) (number number' : ℕ → ℕ) (vs : List LaneView)
    (id : ℕ) (v w : LaneView) (me : get_elem? vs id ≡ some v) (stand : hand_view w ≡ hand_view v) where
  abbrev H : Type 0
  H = Seat × Task × ℕ × Option CellHeld × Option (List ℕ) × List Joined × Option Disk × ℕ × Start

  -- a sum of what stands
  stands : (g : LaneView → ℕ) (h : H → ℕ) → ((x : LaneView) → g x ≡ h (hand_view x))
      → total g (set vs id w) ≡ total g vs
  stands g h is = view_same g vs id v w me (is w ∙ (ap h stand ∙ sym (is v)))

  -- work in hand, where the books stand
  pub in-hand-stays : (v.seat.spent ≡ false → Accounts b w.known)
      → ((f : ℕ) → f < 16 → 0 < excepts f work' → number' f ≡ 0
      → Each (λ j x. has_db x ≡ 0 → times f x.known.task.handles ≡ 0) (set vs id w))
      → WorkHeld b work start disk number vs → WorkHeld b work' start disk number' (set vs id w)
  in-hand-stays mine silent held =
      let spent : w.seat.spent ≡ v.seat.spent = ap (λ (z : H). z.0.spent) stand in
      let task : w.known.task ≡ v.known.task = ap (λ (z : H). z.1) stand in record {
        outputs = λ n. stands (λ x. has_output n x.known.task) (λ z. has_output n z.1) (λ x. refl) ∙ held.outputs n;
        metas = each_set (λ j x. (o : Output) → x.known.task.output ≡ Some o → In o.meta b.metas) vs id w
            (λ o e. held.metas id v me o (ap (λ (t : Task). t.output) (sym task) ∙ e)) held.metas;
        grabbed = λ n. stands (λ x. grabs n x.known.task) (λ z. grabs n z.1) (λ x. refl) ∙ held.grabbed n;
        jobs = stands (λ x. has_job x.known.task) (λ z. has_job z.1) (λ x. refl) ∙ held.jobs;
        removed = λ n. omega (
          arith,
          stands (removals n)
              (λ z. times n z.1.removed + total (λ o. times n o.known.task.removed) z.5) (λ x. refl),
          held.removed n,
        );
        ended = λ n. omega (
          arith,
          stands (endings n) (λ z. times n z.1.ended + total
              (λ o. times n o.known.task.ended) z.5) (λ x. refl),
          held.ended n,
        );
        holds = λ l. stands (holds_of l) (λ z. cond (z.7 == l) z.1.holds 0) (λ x. refl) ∙ held.holds l;
        handles = λ l f pos. stands (handles_of l f) (λ z. cond (z.7 == l) (times f z.1.handles) 0) (λ x. refl)
            ∙ held.handles l f pos;
        default = held.default;
        own_default = each_set (λ j x. x.seat.spent ≡ false → times 0 x.known.task.handles ≡ 1) vs id w
            (λ e. ap (λ (t : Task). times 0 t.handles) task ∙ held.own_default id v me (sym spent ∙ e))
            held.own_default;
        spent = each_set (λ j x. x.seat.spent ≡ true → (x.known.task.holds ≡ 0)
            × ((f : ℕ) → times f x.known.task.handles ≡ 0)) vs id w
            (λ e. let h = held.spent id v me (sym spent ∙ e) in
            (ap (λ (t : Task). t.holds) task ∙ h.0, λ f. ap (λ (t : Task). times f t.handles) task ∙ h.1 f))
            held.spent;
        quiet = each_set (λ j x. x.seat.spent ≡ false → x.known.task.quiet ≡ true → IsQuiet b x.known.task) vs id w
            (λ e q. subst (IsQuiet b) (sym task) (held.quiet id v me (sym spent ∙ e)
            (ap (λ (t : Task). t.quiet) (sym task) ∙ q))) held.quiet;
        loud = each_set (λ j x. x.known.task.quiet ≡ false → x.known.task.listed ≡ []) vs id w
            (λ q. ap (λ (t : Task). t.listed) task ∙ held.loud id v me (ap (λ (t : Task). t.quiet) (sym task) ∙ q))
            held.loud;
        currents = record {
          retired = held.currents.retired;
          others = λ f x t at on ended. ⊎_elim (λ z. inl z)
              (λ z. inr (closing-set f vs id v w me (ap (λ (z : H). z.5) stand) (ap (λ (z : H). z.0) stand) z))
              (held.currents.others f x t at on ended);
        };
        silent = silent;
        starts = each_set (λ j x. x.seat.spent ≡ false → x.known.start ≡ start) vs id w
            (λ e. ap (λ (z : H). z.8) stand ∙ held.starts id v me (sym spent ∙ e)) held.starts;
        accounts = each_set (λ j x. x.seat.spent ≡ false → Accounts b x.known) vs id w (λ e. mine (sym spent ∙ e))
            held.accounts;
        joined = each_set (λ j x. Every (λ o. Accounts b o.known) x.joined) vs id w
            (subst (Every (λ o. Accounts b o.known)) (sym (ap (λ (z : H). z.5) stand)) (held.joined id v me))
            held.joined;
        opening = held.opening;
        writes = λ i x e from. omega (
          arith,
          held.writes i x e from,
          stands (lanes x.lane) (λ z. cond z.0.spent 0 (same x.lane z.7) + total (λ o. same x.lane o.known.lane)
              z.5) (λ y. refl),
        );
        faults = ⊎_elim (λ h. inl (omega (
          arith,
          h,
          stands faults (λ z. z.2 + total (λ o. o.counts.faults) z.5)
              (λ x. refl),
        ))) (λ h. inr h) held.faults;
      }

  -- who may have a handle of a family whose first current is not shown yet
  pub silent-stands : ((f : ℕ) → f < 16 → number' f ≡ number f) → ((f : ℕ) → 0 < excepts f work' → 0 < excepts f work)
      → WorkHeld b work start disk number vs
      → (f : ℕ) → f < 16 → 0 < excepts f work' → number' f ≡ 0
      → Each (λ j x. has_db x ≡ 0 → times f x.known.task.handles ≡ 0) (set vs id w)
  silent-stands same_numbers less held f near excepted z =
      let old = held.silent f near (less f excepted) (sym (same_numbers f near) ∙ z) in
      each_set (λ j x. has_db x ≡ 0 → times f x.known.task.handles ≡ 0) vs id w
      (λ no_lock. ap (λ (y : H). times f y.1.handles) stand
      ∙ old id v me (sym (due-has v w (ap (λ (y : H). y.4) stand)) ∙ no_lock)) old

  -- what the cells say
  pub says-stand : (k : ℕ) (x : Option Cell) → Says b vs k x → Says b (set vs id w) k x
  says-stand k x = says-step b vs id v w me k x
      (omega (arith, ap (λ (z : H). due_count k z.4) stand)) (omega (arith, ap (λ (z : H). fill_count k z.4 z.3) stand))

  pub files-stand : (first files : Files) → FilesHeld b first files vs → FilesHeld b first files (set vs id w)
  files-stand first files h =
      let spent : w.seat.spent ≡ v.seat.spent = ap (λ (z : H). z.0.spent) stand in
      let task : w.known.task ≡ v.known.task = ap (λ (z : H). z.1) stand in record {
        hold = h.hold;
        written = each_set (λ j x. (o : Output) → x.known.task.output ≡ Some o → o.written ≡ true
            → HasItsText b files o.meta.number) vs id w
            (λ o e. h.written id v me o (ap (λ (t : Task). t.output) (sym task) ∙ e)) h.written;
        listed = each_set (λ j x. x.seat.spent ≡ false → Every (HasItsText b files) x.known.task.listed) vs id w
            (λ e. subst (λ (t : Task). Every (HasItsText b files) t.listed) (sym task)
            (h.listed id v me (sym spent ∙ e))) h.listed;
        taken = each_set (λ j x. Every (λ k. k.taken ≡ true → file_of k.number files ≡ None)
            (marks_of x.known.task.job)) vs id w (subst
            (λ (t : Task). Every (λ k. k.taken ≡ true → file_of k.number files ≡ None) (marks_of t.job)) (sym task)
            (h.taken id v me)) h.taken;
      }

-- ---- what is held, after a step on no cell's lock

module _ {S D C B : Type 0} (cell : C → Option Cell) (body : B → Body) (s : State (Stored S D C B) LaneView) (i x : ℕ)
    (homes : List (maybe.Option (Stored S D C B))) (id : ℕ) (v w : LaneView) (me : get_elem? s.views id ≡ some v) where
  abbrev N : State (Stored S D C B) LaneView
  N = next s i x homes id v w me

  pub held-by : (a b : Books) (first old disk : Disk) → ((c : ℕ) → c < 64 → cell_word c ≢ i)
      → ((c : ℕ) → c < 64 → get_elem? homes (cell_word c) ≡ get_elem? s.homes (cell_word c))
      → w.locks.cell ≡ v.locks.cell
      → ((k : ℕ) (y : Option Cell) → Says a s.views k y → Says b N.views k y)
      → Told (λ p q. FilesHeld b p q N.views) first.files disk.files
      → ((k : ℕ) (r : SvRef B) → k < 512 → get_elem? homes (slot_home k) ≡ some (some (is.Cached r))
      → BodyFits b (record { pack = r.pack; body = body r.body.value }))
      → Held cell body a first old s → Held cell body b first disk N
  held-by a b first old disk else same_homes same_cell says files bodies h = record {
    cells = λ c l. subst (λ (z : ℕ × Box (Stored S D C B)). Lock
        (IsCell {S = S} {D = D} {C = C} {B = B} cell body (Says b N.views c)) (has_cell c) z.0 z.1 N.views)
        (λ k. (sym (word_else s i x homes id v w me (cell_word c) (else c l)) k, sym (same_homes c l) k))
        (lock-else (IsCell {S = S} {D = D} {C = C} {B = B} cell body (Says a s.views c))
        (IsCell {S = S} {D = D} {C = C} {B = B} cell body (Says b N.views c)) (has_cell c) (word s (cell_word c))
        (home s (cell_word c)) s.views id v w me
        (ap (cell_count c) same_cell) (λ y k. (k.0, k.1, says c (cell k.0) k.2)) (h.cells c l));
    lent = each_set (λ j u. (k : CellHeld) → u.locks.cell ≡ Some k → IsLent b N.views k) s.views id w
        (λ k e. let t = h.lent id v me k (sym same_cell ∙ e) in
        record { within = t.within; says = says k.number k.found t.says })
        (λ j u at_u k e. let t = h.lent j u at_u k e in
        record { within = t.within; says = says k.number k.found t.says });
    files = files;
    bodies = bodies;
  }

-- ---- all that a step on slots, numbers or references leaves

module _ {S D C B : Type 0} (books : S → Books) (disk : D → Disk) (cell : C → Option Cell) (body : B → Body) where
  pub record Rest (b : Books) (work : Work) (start : Start) (d : Disk) (s : State (Stored S D C B) LaneView) : Type
      0 where
    pub dir : Lock (IsDir {S = S} {D = D} {C = C} {B = B} disk d) has_dir (word s 1) (home s 1) s.views
    pub disks : Each (λ j v. (k : Disk) → v.locks.dir ≡ Some k → k ≡ d) s.views
    pub held : Held cell body b start.disk d s
    pub in_hand : WorkHeld b work start d (number s) s.views

  module _ (s : State (Stored S D C B) LaneView) (kept : Kept books disk cell body s) (id : ℕ) (v w : LaneView)
      (me : get_elem? s.views id ≡ some v) (i x : ℕ) (homes : List (maybe.Option (Stored S D C B)))
      (stand : hand_view w ≡ hand_view v) where
    abbrev X : Type 0
    X = Seat × Task × ℕ × Option CellHeld × Option (List ℕ) × List Joined × Option Disk × ℕ × Start

    abbrev R : State (Stored S D C B) LaneView
    R = next s i x homes id v w me

    pub rest-stays : (work' : Work) → 65 < i → ((k : ℕ) → k < 66 → get_elem? homes k ≡ get_elem? s.homes k)
        → (v.seat.spent ≡ false → Accounts kept.b w.known)
        → ((f : ℕ) → f < 16 → 0 < excepts f work' → number R f ≡ 0
        → Each (λ j u. has_db u ≡ 0 → times f u.known.task.handles ≡ 0) R.views)
        → ((k : ℕ) (r : SvRef B) → k < 512 → get_elem? homes (slot_home k) ≡ some (some (is.Cached r))
        → BodyFits kept.b (record { pack = r.pack; body = body r.body.value }))
        → Rest kept.b work' kept.start kept.d R
    rest-stays work' high same_homes mine silent bodies = record {
      dir = subst (λ (z : ℕ × Box (Stored S D C B)). Lock (IsDir {S = S} {D = D} {C = C} {B = B} disk kept.d) has_dir
          z.0 z.1 R.views)
          (λ k. (sym (word_else s i x homes id v w me 1 (λ e. omega arith)) k, sym (same_homes 1 (omega arith)) k))
          (lock-else (IsDir {S = S} {D = D} {C = C} {B = B} disk kept.d)
          (IsDir {S = S} {D = D} {C = C} {B = B} disk kept.d) has_dir (word s 1) (home s 1) s.views id v w me
          (ap (λ (z : X). some_count z.6) stand) (λ y h. h) kept.home.dir);
      disks = each_set (λ j u. (k : Disk) → u.locks.dir ≡ Some k → k ≡ kept.d) s.views id w
          (λ k e. kept.home.disks id v me k (ap (λ (z : X). z.6) (sym stand) ∙ e)) kept.home.disks;
      held = held-by cell body s i x homes id v w me kept.b kept.b kept.start.disk kept.d kept.d
          (λ c l e. omega arith) (λ c l. same_homes (cell_word c) (omega arith)) (ap (λ (z : X). z.3) stand)
          (says-stand kept.b kept.work work' kept.start kept.d (number s) (number R) s.views id v w me stand)
          (told-map (λ p q. FilesHeld kept.b p q s.views) (λ p q. FilesHeld kept.b p q R.views)
          (files-stand kept.b kept.work work' kept.start kept.d (number s) (number R) s.views id v w me stand)
          kept.start.disk.files kept.d.files kept.held.files)
          bodies kept.held;
      in_hand = in-hand-stays kept.b kept.work work' kept.start kept.d (number s) (number R) s.views id v w me stand
          mine silent kept.in_hand;
    }

  -- the same where no value moves and no number word changes
  module _ (s : State (Stored S D C B) LaneView) (kept : Kept books disk cell body s) (id : ℕ) (v w : LaneView)
      (me : get_elem? s.views id ≡ some v) (i x : ℕ) (stand : hand_view w ≡ hand_view v) where
    pub rest-same : (work' : Work) → 65 < i → ((f : ℕ) → f < 16
        → word (next s i x s.homes id v w me) (number_word f) ≡ number s f)
        → ((f : ℕ) → 0 < excepts f work' → 0 < excepts f kept.work) → (v.seat.spent ≡ false → Accounts kept.b w.known)
        → Rest kept.b work' kept.start kept.d (next s i x s.homes id v w me)
    rest-same work' high numbers less mine = rest-stays s kept id v w me i x s.homes stand work' high (λ k l. refl) mine
        (silent-stands kept.b kept.work work' kept.start kept.d (number s) (number (next s i x s.homes id v w me))
        s.views id v w me stand numbers less kept.in_hand)
        kept.held.bodies
