-- The directory's lock, what is held, and work in hand, where a lane with the DB lock changes the books in its hands.
use Rattle.std.proofs.Common.{List, None, Option, Some, [], ap, arith, false, inl, inr, length, option_map, refl, set, subst, sym, ℕ, ⊎_elim, ◌++◌, ◌+◌, ◌<◌, ◌∙◌, ◌≡◌, ◌≤◌}
use mathlib.Core.Logic.{dite}
use mathlib.Core.Option.{some}
use native.Mathlib.Decide.{ℕ_discrete}
use lib.ListN.{get_elem?}
use Rattle.atomic_table.specs.Table.{State}
use Rattle.sv_model.specs.After.{After}
use Rattle.sv_model.specs.Books.{Books}
use Rattle.sv_model.specs.Cells.{Cell}
use Rattle.sv_model.specs.Journal.{borne_by, by_lane}
use Rattle.sv_model.specs.Lawful.{Lawful}
use Rattle.sv_model.specs.Lists.{Every, In, same, times, total}
use Rattle.sv_model.specs.Numbers.{IsRegistered}
use Rattle.sv_model.specs.TableTextFields.{start}
use Rattle.sv_model.specs.declared.records.FileStatus.TheVariants.{Gone}
use Rattle.sv_model.specs.declared.records.Memtable.{Memtable}
use Rattle.sv_model.specs.declared.writes.Write.{Write}
use Rattle.sv_model.proofs.Lists.{times_in}
use Rattle.sv_model.proofs.Registers.{entry-new}
use Rattle.sv_model.proofs.SearchLaws.{found}
use Rattle.sv_rule.specs.Fits.{BodyFits, IsGoneSnapshot}
use Rattle.sv_rule.specs.Held.{CellSays, FilesHeld, Says, fills_up}
use Rattle.sv_rule.specs.Home.{IsDir, Lock}
use Rattle.sv_rule.specs.InHand.{Accounts, CurrentsStand}
use Rattle.sv_rule.specs.Rule.{Kept}
use Rattle.sv_rule.specs.Sums.{Each}
use Rattle.sv_model.specs.Turns.{EndsSuper, IsNewMemtable, Turns}
use Rattle.sv_model.specs.Tasks.{Task}
use Rattle.sv_rule.specs.Table.{home, number, word}
use Rattle.sv_rule.specs.Tasks.{due_count, due_of, dues, faults, fill_count, fills, has_db, has_dir, some_count}
use Rattle.sv_rule.specs.UnderWay.{excepts, fit}
use Rattle.sv_rule.specs.Views.{Bodied, Body, CellHeld, Desk, Disk, Joined, Known, LaneView, Work}
use Rattle.sv_rule.specs.declared.parts.Stored.{Stored}
use Rattle.sv_rule.proofs.Basics.{append_none, each_set}
use Rattle.sv_rule.proofs.CellLaws.{says-ended, says-new}
use Rattle.sv_rule.proofs.FileTurns.{files-turn, told-map}
use Rattle.sv_rule.proofs.FitLaws.{body-after, fits-after}
use Rattle.sv_rule.proofs.InHandTurns.{ended-turn, removed-turn, work-turns}
use Rattle.sv_rule.proofs.LockLaws.{lock-else}
use Rattle.sv_rule.proofs.StepRests.{Rest, held-by, says-books, says-step}
use Rattle.sv_rule.proofs.StepLaws.{next, view_le, view_same, word_else}
use Rattle.sv_rule.proofs.Sums.{same_one, total-append, total-set}

-- what a lane knows, in later books in which it has another task and more bodies
pub accounts-turn : (a b : Books) → After a b → Lawful b → (k : Known) (u : Task) (L : List Bodied)
    → by_lane k.lane b.journal ≡ k.mine → Every (BodyFits b) L
    → Every (λ n. IsRegistered b.files.numbers n Gone) u.removed → Every (IsGoneSnapshot b.snapshots) u.ended
    → Accounts a k → Accounts b (record k { task = u; bodies = L })
accounts-turn a b later lawful k u L mine fit removed ended h = let f = fits-after a b later lawful k h.fits in record {
  fits = record {
    lawful = f.lawful;
    start = f.start;
    found = f.found;
    left = f.left;
    mine = f.mine;
    bodies = fit;
    rows = f.rows;
    reads = f.reads;
    seen = f.seen;
    removed = removed;
    ended = ended;
    round = f.round;
    frames = f.frames;
  };
  mine = mine;
}

module _ {S D C B : Type 0} (books : S → Books) (disk : D → Disk) (cell : C → Option Cell) (body : B → Body)
    (s : State (Stored S D C B) LaneView) (kept : Kept books disk cell body s) (id : ℕ) (v w : LaneView)
    (me : get_elem? s.views id ≡ some v) (i x : ℕ) where
  abbrev pub T : State (Stored S D C B) LaneView
  T = next s i x s.homes id v w me

  pub rest-turns : (b : Books) (work' : Work) → 65 < i → v.seat.spent ≡ false → w.seat.spent ≡ v.seat.spent
      → w.known.lane ≡ v.known.lane → w.joined ≡ v.joined → w.known.start ≡ v.known.start
      → w.counts.faults ≡ v.counts.faults → w.locks.cell ≡ v.locks.cell → w.locks.dir ≡ v.locks.dir
      → Turns v.known.lane kept.b v.known.task b w.known.task [] → Accounts b w.known → CurrentsStand b T.views
      → ((f : ℕ) → f < 16 → 0 < excepts f work' → number T f ≡ 0
      → Each (λ j u. has_db u ≡ 0 → times f u.known.task.handles ≡ 0) T.views)
      → ((k : ℕ) (y : Option Cell) → Says kept.b s.views k y → Says b T.views k y)
      → Rest books disk cell body b work' kept.start kept.d T
  rest-turns b work' high alive spent lane joined start same_faults same_cell same_dir turns mine currents silent says =
      let before = kept.numbers.lawful in record {
        dir = subst (λ (z : ℕ). Lock (IsDir {S = S} {D = D} {C = C} {B = B} disk kept.d) has_dir z (home s 1) T.views)
            (sym (word_else s i x s.homes id v w me 1 (λ e. omega arith)))
            (lock-else (IsDir {S = S} {D = D} {C = C} {B = B} disk kept.d)
            (IsDir {S = S} {D = D} {C = C} {B = B} disk kept.d) has_dir (word s 1) (home s 1) s.views id v w me
            (ap (λ (o : Option Disk). some_count o) same_dir) (λ y h. h) kept.home.dir);
        disks = each_set (λ j u. (k : Disk) → u.locks.dir ≡ Some k → k ≡ kept.d) s.views id w
            (λ k e. kept.home.disks id v me k (sym same_dir ∙ e)) kept.home.disks;
        held = held-by cell body s i x s.homes id v w me kept.b b kept.start.disk kept.d kept.d (λ c l e. omega arith)
            (λ c l. refl) same_cell says
            (told-map (λ p q. FilesHeld kept.b p q s.views) (λ p q. FilesHeld b p q T.views)
            (λ p q h. files-turn kept.b b kept.work kept.start kept.d (number s) s.views id v w v.known.lane [] me
            before alive turns kept.in_hand p q h) kept.start.disk.files kept.d.files kept.held.files)
            (λ k r l e. body-after kept.b b turns.counts.later (record { pack = r.pack; body = body r.body.value })
            (kept.held.bodies k r l e))
            kept.held;
        in_hand = work-turns kept.b b kept.work work' kept.start kept.d kept.d (number s) (number T) s.views id v w
            v.known.lane [] me before kept.home.seats.once alive refl spent lane joined turns.counts kept.in_hand mine
            start currents silent
            (⊎_elim (λ h. inl (omega (
              arith,
              h,
              view_same faults s.views id v w me
                  (λ q. same_faults q + total (λ (o : Joined). o.counts.faults) (joined q)),
            ))) (λ h. inr h)
            kept.in_hand.faults);
      }

  -- the task of the lane is the books'
  pub mine-turns : (b : Books) (L : List Bodied) → v.seat.spent ≡ false → w.seat.spent ≡ v.seat.spent
      → w.known.lane ≡ v.known.lane → w.joined ≡ v.joined → Turns v.known.lane kept.b v.known.task b w.known.task []
      → Every (BodyFits b) L → Accounts b (record v.known { task = w.known.task; bodies = L })
  mine-turns b L alive spent lane joined turns fit =
      let before = kept.numbers.lawful in
      let accounts = kept.in_hand.accounts id v me alive in
      accounts-turn kept.b b turns.counts.later turns.counts.lawful v.known w.known.task L
      (ap (by_lane v.known.lane) (turns.counts.journal ∙ sym (append_none kept.b.journal)) ∙ accounts.mine) fit
      (removed-turn kept.b b kept.work kept.work kept.start kept.d kept.d (number s) (number s) s.views id v w
      v.known.lane [] me before kept.home.seats.once alive refl spent lane joined turns.counts kept.in_hand)
      (ended-turn kept.b b kept.work kept.work kept.start kept.d kept.d (number s) (number s) s.views id v w
      v.known.lane [] me before kept.home.seats.once alive refl spent lane joined turns.counts kept.in_hand)
      accounts

-- the journal stands where no write comes
pub journal-stands : (a b : List Write) → b ≡ a ++ [] → b ≡ a
journal-stands a b e = e ∙ sym (append_none a)

-- what the cells say, where a lane with the DB lock leaves memtables and what is due
module _ (a b : Books) (vs : List LaneView) (id : ℕ) (v w : LaneView) (me : get_elem? vs id ≡ some v) (d e : Desk)
    (has : v.locks.db ≡ Some d) (now : w.locks.db ≡ Some e) (same_cell : w.locks.cell ≡ v.locks.cell)
    (journal : b.journal ≡ a.journal) where
  abbrev ws : List LaneView
  ws = set vs id w

  due_is : due_of v ≡ Some d.due
  due_is = ap (option_map (λ (y : Desk). y.due)) has

  due_now : due_of w ≡ Some e.due
  due_now = ap (option_map (λ (y : Desk). y.due)) now

  same_fills : (k : ℕ) → fills k w ≡ fills k v
  same_fills k = ap (λ o. fill_count k o w.locks.cell) due_now ∙ fill_same w.locks.cell
      ∙ ap (λ h. fill_count k (Some d.due) h) same_cell ∙ ap (λ o. fill_count k o v.locks.cell) (sym due_is)
    where
      fill_same : (h : Option CellHeld) → fill_count k (Some e.due) h ≡ fill_count k (Some d.due) h
      fill_same None = refl
      fill_same (Some h) = refl

  -- no memtable is new, and none ends
  pub says-same : b.memtables ≡ a.memtables → e.due ≡ d.due → (k : ℕ) (x : Option Cell) → Says a vs k x → Says b ws k x
  says-same memtables due k x h = says-books a b ws k x memtables journal
      (says-step a vs id v w me k x (omega (
        arith,
        ap (due_count k) due_is,
        ap (due_count k) due_now,
        ap (times k) due,
      )) (omega (arith, same_fills k)) h)

  -- a memtable is new, in a cell whose lock the lane has
  pub says-opens : (m : Memtable) (c : ℕ) (found : Option Cell) → IsNewMemtable a b c m
      → v.locks.cell ≡ Some (record { number = c; found = found }) → e.due ≡ d.due → (k : ℕ) (x : Option Cell)
      → Says a vs k x → Says b ws k x
  says-opens m c found new lock due k x h =
      let moved : Says a ws k x = says-step a vs id v w me k x
      (omega (arith, ap (due_count k) due_is, ap (due_count k) due_now, ap (times k) due))
      (omega (arith, same_fills k)) h in
      let both : fills c v ≡ same c c = λ q. fill_count c (due_is q) (lock q) in
      let fill : 1 ≤ total (fills c) ws = omega (
        arith,
        total-set (fills c) vs id v w me,
        view_le (fills c) vs id v me,
        same_fills c,
        both,
        same_one c c refl,
      ) in
      subst (λ (z : List Memtable × List Write). CellSays z.0 z.1 (total (dues k) ws) (total (fills k) ws) k x)
      (λ q. (sym new.memtables q, sym journal q))
      (dite (ℕ_discrete k c)
      (λ here. fills_up (record {
        id = length a.memtables + 1;
        it = m;
        at = entry-new a.memtables m (length a.memtables + 1) refl;
        live = new.live;
        is = new.cell ∙ sym here;
      })
      (ap (borne_by (length a.memtables + 1)) (sym journal) ∙ new.no_rows)
      (subst (λ z. 1 ≤ total (fills z) ws) (sym here) fill))
      (λ ne. says-new a.memtables m c new.cell a.journal (total (dues k) ws) (total (fills k) ws) k x ne moved))

  -- memtables become Gone, and their cells are due
  pub says-closes : Lawful a → (p : ℕ) (cells : List ℕ) → EndsSuper a b p cells → e.due ≡ d.due ++ cells
      → ((k : ℕ) → total (fills k) vs ≡ 0) → (k : ℕ) (x : Option Cell) → Says a vs k x → Says b ws k x
  says-closes lawful p cells ended due no_fills k x h =
      let grown : dues k w ≡ dues k v + times k cells = ap (due_count k) due_now ∙ ap (times k) due
      ∙ total-append (same k) d.due cells ∙ ap (λ z. due_count k z + times k cells) (sym due_is) in
      let sum = total-set (dues k) vs id v w me in
      subst (λ j. CellSays b.memtables j (total (dues k) ws) (total (fills k) ws) k x) (sym journal)
      (says-ended a.memtables b.memtables ended.memtables a.journal (total (dues k) vs) (total (dues k) ws)
      (total (fills k) vs) (total (fills k) ws) k x (no_fills k) (omega (arith, sum, grown))
      (λ n y at live. (lawful.cells n y at live).1)
      (λ o y at gone. let inside = ended.freed o.id o.it y o.at at o.live gone in
      omega (
        arith,
        sum,
        grown,
        view_le (dues k) vs id v me,
        times_in k cells (subst (λ z. In z cells) o.is inside),
      ))
      h)
