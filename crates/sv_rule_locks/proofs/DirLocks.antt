-- The kinds lock take and lock give keep the rule, for the directory.
use Rattle.std.proofs.Common.{List, None, Option, Some, [], ap, arith, eqb, false, inl, inr, length, length-set, option_map, refl, set, slice_get, subst, sym, true, ℕ, ⊎_elim, ◌+◌, ◌<◌, ◌∙◌, ◌∷◌, ◌≡◌, ◌≢◌, ◌≤◌, ◌⊎◌}
use Rattle.std.specs.Prelude.{is_some}
use mathlib.Core.Option.{none, some}
use mathlib.Core.Option as maybe
use lib.ListN.{get_elem?}
use prog.Atomic.{either}
use Rattle.atomic_table.proofs.Lists.{exchanged, set_again, set_else, set_here}
use Rattle.atomic_table.specs.Table.{Act, Allows, Me, State, Valid, carried_after, gives, keeps, stepped, takes}
use Rattle.sv_model.specs.Books.{Books}
use Rattle.sv_model.specs.Cells.{Cell}
use Rattle.sv_model.specs.Files.{Files}
use Rattle.sv_model.specs.Lawful.{Lawful}
use Rattle.sv_model.specs.Lists.{times, total}
use Rattle.sv_model.specs.TableTextFields.{start}
use Rattle.sv_model.proofs.AfterLaws.{after-itself}
use Rattle.sv_rule.specs.Fits.{ReadFits}
use Rattle.sv_rule.specs.Held.{FilesHeld, Says, Told}
use Rattle.sv_rule.specs.Home.{IsDir, Lock}
use Rattle.sv_rule.specs.InHand.{Accounts, WorkHeld}
use Rattle.sv_rule.specs.LockPlays.{AreTold, DirChange, GaveDir, MarksTask, MayGiveDir, TookDir, gave_dir, took_dir}
use Rattle.sv_rule.specs.Rule.{Kept}
use Rattle.sv_rule.specs.Sums.{Each}
use Rattle.sv_model.specs.Turns.{OwnTurns}
use Rattle.sv_model.specs.Tasks.{Task}
use Rattle.sv_rule.specs.Table.{Box, cell_word, home, names, number, number_word, slot_home, word}
use Rattle.sv_rule.specs.Tasks.{due_count, due_of, faults, fill_count, fills, has_dir, some_count}
use Rattle.sv_rule.specs.Views.{Body, Desk, Disk, FileRead, LaneView, Seat, Start, Work}
use Rattle.sv_rule.specs.declared.parts.Stored.{Stored}
use Rattle.sv_rule.specs.declared.parts.Stored.TheVariants as is
use Rattle.sv_rule.proofs.Basics.{each_other, each_set, every_append, some_is}
use Rattle.sv_rule.proofs.CurrentTurns.{currents-stand, silent-stays}
use Rattle.sv_rule.proofs.DbLock.{db-same, owners-same}
use Rattle.sv_rule_locks.proofs.DirFiles.{files-dir, read-fits}
use Rattle.sv_rule.proofs.FileTurns.{files-turn, told-map}
use Rattle.sv_rule.proofs.InHandTurns.{work-turns}
use Rattle.sv_rule_locks.proofs.LockGoes.{kept-by-other-lock}
use Rattle.sv_rule.proofs.LockLaws.{alone, lock-gave, lock-took}
use Rattle.sv_rule.proofs.RefLaws.{ref-live}
use Rattle.sv_rule.proofs.StepRests.{held-by, says-step}
use Rattle.sv_rule.proofs.StepLaws.{next, rounds_view, view_same, word_else, word_here}
use Rattle.sv_rule.proofs.Sums.{total-set}
use Rattle.sv_rule.proofs.TurnsSame.{stands-same, turns-same}

disk_is : {x y : Disk} → Some x ≡ Some y → x ≡ y
disk_is e = some_is e

no_disk : (d : Disk) → None ≡ Some d → ⊥
no_disk d e = cc

dir_one : (v : LaneView) (d : Disk) → v.locks.dir ≡ Some d → has_dir v ≡ 1
dir_one v d e = ap (λ (o : Option Disk). some_count o) e

told_alike : (R : Files → Files → Type 0) (first files : Option Files) → Told R first files
    → is_some files ≡ is_some first
told_alike R None None h = refl
told_alike R None (Some f) h = absurd h
told_alike R (Some a) None h = absurd h
told_alike R (Some a) (Some f) h = refl

-- what the directory tells it told at the opening
files_told : (first files : Option Files) (R : Files → Files → Type 0) → Told R first files → is_some first ≡ true
    → (a : Files) × (f : Files) × (first ≡ Some a) × (files ≡ Some f) × R a f
files_told None files R h e = absurd (cc)
files_told (Some a) None R h e = absurd h
files_told (Some a) (Some f) R h e = (a, f, refl, refl, h)

told-both : (P Q R : Files → Files → Type 0) → ((a b c : Files) → P a b → Q b c → R a c) → (x y z : Option Files)
    → Told P x y → Told Q y z → Told R x z
told-both P Q R f None None None h k = h
told-both P Q R f None None (Some c) h k = k
told-both P Q R f None (Some b) z h k = absurd h
told-both P Q R f (Some a) None z h k = absurd h
told-both P Q R f (Some a) (Some b) None h k = absurd k
told-both P Q R f (Some a) (Some b) (Some c) h k = f a b c h k

-- marks change nothing of which the part on work in hand speaks
counts-marks : (b : Books) (work : Work) (start : Start) (disk : Disk) (number : ℕ → ℕ) (vs : List LaneView) (id : ℕ)
    (v : LaneView) (u : Task) → get_elem? vs id ≡ some v → v.seat.spent ≡ false → WorkHeld b work start disk number vs
    → Lawful b → MarksTask v.known.task u → OwnTurns v.known.lane b v.known.task b u []
counts-marks b work start disk number vs id v u me alive held lawful m =
    let c = (turns-same b work start disk number vs id v me alive held lawful).counts in
    record {
      lawful = lawful;
      later = c.later;
      journal = c.journal;
      own = c.own;
      outputs = λ n. omega (arith, m.outputs n);
      grabbed = λ n. omega (arith, m.grabbed n);
      removed = λ n. omega (arith, ap (times n) m.removed);
      ended = λ n. omega (arith, ap (times n) m.ended);
      jobs = omega (arith, m.jobs);
      holds = omega (arith, m.holds);
      others_hold = c.others_hold;
      handles = λ f. omega (arith, ap (times f) m.handles);
      others_handle = c.others_handle;
      default = ap (times 0) m.handles;
      output = λ o e. inl (m.output o e);
      gone = c.gone;
      begins = λ z one. absurd (omega (arith, m.jobs));
      quiet = λ e. let q = c.quiet (sym m.quiet ∙ e) in (omega (arith, q.0, m.holds), q.1);
      loud = λ e. m.listed ∙ c.loud (sym m.quiet ∙ e);
      listed = λ i n e. inl (record { at = i; is = ap (λ (l : List ℕ). slice_get l i) (sym m.listed) ∙ e });
    }

module _ {S D C B : Type 0} (books : S → Books) (disk : D → Disk) (cell : C → Option Cell) (body : B → Body) where
  -- what is kept where a step on word 1 leaves the lock so
  by_dir : (s : State (Stored S D C B) LaneView) (kept : Kept books disk cell body s) (id : ℕ) (v w : LaneView)
      (me : get_elem? s.views id ≡ some v) (x : ℕ) (homes : List (maybe.Option (Stored S D C B))) (d : Disk)
      → length homes ≡ length s.homes → ((k : ℕ) → k ≢ 1 → get_elem? homes k ≡ get_elem? s.homes k)
      → v.seat.spent ≡ false → w.seat ≡ v.seat → w.known.lane ≡ v.known.lane → w.joined ≡ v.joined
      → w.known.start ≡ v.known.start → w.slots ≡ v.slots → w.hand ≡ v.hand → w.owes ≡ v.owes
      → w.known.seen ≡ v.known.seen → rounds_view w ≡ rounds_view v → w.locks.db ≡ v.locks.db
      → w.locks.cell ≡ v.locks.cell
      → ((f : ℕ) → times f w.known.task.handles ≡ times f v.known.task.handles)
      → OwnTurns v.known.lane kept.b v.known.task kept.b w.known.task [] → Accounts kept.b w.known
      → Lock (IsDir {S = S} {D = D} {C = C} {B = B} disk d) has_dir x (get_elem? homes 1) (set s.views id w)
      → Each (λ j u. (e : Disk) → u.locks.dir ≡ Some e → e ≡ d) (set s.views id w)
      → Told (λ p q. FilesHeld kept.b p q (set s.views id w)) kept.start.disk.files d.files
      → (kept.start.disk.faults + total faults (set s.views id w) ≤ d.faults) ⊎ (18446744073709551615 ≤ d.faults)
      → Kept books disk cell body (next s 1 x homes id v w me)
  by_dir s kept id v w me x homes d long others alive seat lane joined start same_slots same_hand owed same_seen
      circles same_db same_cell handles counts accounts lock disks files risen =
      let b = kept.b in
      let lawful = kept.numbers.lawful in
      let spent : w.seat.spent ≡ v.seat.spent = ap (λ (z : Seat). z.spent) seat in
      let due : due_of w ≡ due_of v = ap (option_map (λ (k : Desk). k.due)) same_db in
      let says : (k : ℕ) (y : Option Cell) → Says b s.views k y
      → Says b (set s.views id w) k y = λ k y. says-step b s.views id v w me k y
      (omega (arith, ap (due_count k) due)) (omega (arith, fill k due)) in
      let numbers : (f : ℕ) → f < 16 → word (next s 1 x homes id v w me) (number_word f) ≡ number s f = λ f l.
      word_else s 1 x homes id v w me (number_word f) (λ z. omega arith) in
      kept-by-other-lock books disk cell body s kept id v w me 1 x homes b d (omega arith) (omega arith) long others
      (after-itself b) lawful (stands-same b) (inr refl)
      (λ k. ((seat k).spent, lane k, (seat k).lanes, (seat k).made, joined k)) same_slots same_hand owed circles alive
      spent
      (λ f. omega (arith, (accounts.fits).seen f))
      (db-same books disk cell body s kept id v w me same_db)
      (owners-same books disk cell body s kept id v w me same_db)
      (subst (λ (z : ℕ). Lock (IsDir {S = S} {D = D} {C = C} {B = B} disk d) has_dir z (get_elem? homes 1)
      (set s.views id w)) (sym (word_here s 1 x homes id v w me (omega (arith, kept.home.seats.words)))) lock)
      disks
      (held-by cell body s 1 x homes id v w me b b kept.start.disk kept.d d (λ c l e. omega arith)
      (λ c l. others (cell_word c) (λ z. omega arith)) same_cell says files
      (λ k r l e. kept.held.bodies k r l (sym (others (slot_home k) (λ z. omega arith)) ∙ e)) kept.held)
      (work-turns b b kept.work kept.work kept.start kept.d d (number s) (number (next s 1 x homes id v w me)) s.views
      id v w v.known.lane [] me lawful kept.home.seats.once alive refl spent lane joined counts kept.in_hand
      accounts start
      (currents-stand b b s.views id v w me joined seat refl (stands-same b).families refl kept.in_hand.currents)
      (silent-stays b b s.views id v w me joined seat kept.work (number s) (number (next s 1 x homes id v w me))
      numbers (λ z f y. omega (arith, handles f)) (λ z. sym (ap (λ (o : Option Desk). some_count o) same_db) ∙ z)
      kept.in_hand.silent)
      risen)
    where
      fill : (k : ℕ) → due_of w ≡ due_of v → fills k w ≡ fills k v
      fill k due = λ q. fill_count k (due q) (same_cell q)
      -- the cells and bodies speak of no disk

  pub takes_dir : (n id : ℕ) (m : Me (Stored S D C B) LaneView) → m.0.seat.spent ≡ false
      → Allows (Kept books disk cell body) n id m 1 (λ y. either (eqb y 0) 1 y) (TookDir disk m)
  takes_dir n id m alive s kept long me fits =
      let v = m.0 in
      let r : ℕ = word s 1 in
      exchanged r 0 1 (λ y. (w : LaneView) × (a : Act (Stored S D C B)) × Valid s.homes m.1 a
      × Kept books disk cell body (stepped s 1 y id m.1 w a) × TookDir disk m r (w, carried_after m.1 a))
      (λ e. let t = kept.home.dir.home e in
      let y = t.2 in
      let w = took_dir (disk y.0) v in
      let homes = set s.homes 1 none in
      let accounts = kept.in_hand.accounts id v me alive in
      let same_turn = turns-same kept.b kept.work kept.start kept.d (number s) s.views id v me alive kept.in_hand
      kept.numbers.lawful in
      let told : AreTold v (disk y.0) = ap (λ (z : Disk). is_some z.files) y.2
      ∙ told_alike (λ p q. FilesHeld kept.b p q s.views) kept.start.disk.files kept.d.files kept.held.files
      ∙ sym (ap (λ (z : Start). is_some z.disk.files) (kept.in_hand.starts id v me alive)) in (
        w,
        takes 1 (is.Dir y.0),
        t.1 ∙ ap (λ z. some (some z)) y.1,
        by_dir s kept id v w me 1 homes kept.d (length-set s.homes 1 none) (λ k ne. set_else s.homes 1 k none ne)
            alive refl refl refl refl refl refl refl refl refl refl refl (λ f. refl)
            same_turn.counts accounts
            (subst (λ (z : Box (Stored S D C B)). Lock (IsDir {S = S} {D = D} {C = C} {B = B} disk kept.d) has_dir 1 z
            (set s.views id w)) (sym (set_here s.homes 1 none (omega (arith, kept.home.seats.homes))))
            (lock-took (IsDir {S = S} {D = D} {C = C} {B = B} disk kept.d)
            (IsDir {S = S} {D = D} {C = C} {B = B} disk kept.d) has_dir r (home s 1) s.views id v w me e refl
            kept.home.dir))
            (each_set (λ j u. (q : Disk) → u.locks.dir ≡ Some q → q ≡ kept.d) s.views id w
            (λ q z. sym (disk_is z) ∙ y.2) kept.home.disks)
            (told-map (λ p q. FilesHeld kept.b p q s.views) (λ p q. FilesHeld kept.b p q (set s.views id w))
            (λ p q h. files-turn kept.b kept.b kept.work kept.start kept.d (number s) s.views id v w v.known.lane
            [] me kept.numbers.lawful alive same_turn kept.in_hand p q h) kept.start.disk.files kept.d.files
            kept.held.files)
            (⊎_elim (λ h. inl (omega (arith, h, view_same faults s.views id v w me refl))) (λ h. inr h)
            kept.in_hand.faults),
        record { free = λ _. (y.0, refl, told); busy = λ ne. absurd (ne e) },
      ))
      (λ ne. (
        v,
        keeps,
        tt,
        subst (λ (z : List LaneView). Kept books disk cell
            body record { words = set s.words 1 r; homes = s.homes; views = z }) (sym (set_again s.views id v me))
            (subst (λ (z : List ℕ). Kept books disk cell body record { words = z; homes = s.homes; views = s.views })
            (sym (lib.Seq.set-get_or s.words 1 0)) kept),
        record { free = λ e. absurd (ne e); busy = λ _. refl },
      ))

  gives_own : (n id : ℕ) (u : Task) (reads : List FileRead) (names : List (List ℕ)) (lists rise : ℕ) (v : LaneView)
      (more : List (ℕ × Stored S D C B)) (y : D) → MayGiveDir v (disk y) u reads names lists rise
      → let m : Me (Stored S D C B) LaneView = (v, (1, is.Dir y) ∷ more) in
      Allows (Kept books disk cell body) n id m 1 (λ _. 0) (GaveDir u reads names lists rise m)
  gives_own n id u reads names lists rise v more y may s kept long me fits =
      let d = disk y in
      let w = gave_dir u reads names lists rise v in
      let homes = set s.homes 1 (some (is.Dir y)) in
      let accounts = kept.in_hand.accounts id v me may.alive in
      let f = accounts.fits in
      let one : has_dir v ≡ 1 = dir_one v may.found may.has in
      let same_disk : may.found ≡ kept.d = kept.home.disks id v me may.found may.has in
      let changed : Told (DirChange v u) kept.d.files d.files = subst
      (λ (z : Disk). Told (DirChange v u) z.files d.files) same_disk may.files in
      let start_is = kept.in_hand.starts id v me may.alive in (
        w,
        gives,
        tt,
        by_dir s kept id v w me 0 homes d (length-set s.homes 1 (some (is.Dir y)))
            (λ k ne. set_else s.homes 1 k (some (is.Dir y)) ne)
            may.alive refl refl refl refl refl refl refl refl refl refl refl (λ g. ap (times g) may.marks.handles)
            (counts-marks kept.b kept.work kept.start kept.d (number s) s.views id v u me may.alive kept.in_hand
            kept.numbers.lawful may.marks)
            record {
              fits = record {
                lawful = f.lawful;
                start = f.start;
                found = f.found;
                left = f.left;
                mine = f.mine;
                bodies = f.bodies;
                rows = f.rows;
                reads = λ told. every_append (ReadFits kept.b) v.known.reads reads (f.reads told)
                    (let h = files_told kept.start.disk.files kept.d.files (λ p q. FilesHeld kept.b p q s.views)
                    kept.held.files (ap (λ (z : Start). is_some z.disk.files) (sym start_is) ∙ told) in
                    λ i x e. read-fits kept.b h.0 h.1 s.views v f.lawful f.bodies
                    (ref-live s kept.b.supers kept.ledger.places id v me) h.4 x
                    (may.reads_are h.1 (ap (λ (z : Disk). z.files) same_disk ∙ h.3) i x e));
                seen = f.seen;
                removed = λ i q e. f.removed i q (ap (λ (l : List ℕ). slice_get l i) (sym may.marks.removed) ∙ e);
                ended = λ i q e. f.ended i q (ap (λ (l : List ℕ). slice_get l i) (sym may.marks.ended) ∙ e);
                round = f.round;
                frames = f.frames;
              };
              mine = accounts.mine;
            }
            (subst (λ (z : Box (Stored S D C B)). Lock (IsDir {S = S} {D = D} {C = C} {B = B} disk d) has_dir 0 z
            (set s.views id w)) (sym (set_here s.homes 1 (some (is.Dir y)) (omega (arith, kept.home.seats.homes))))
            (lock-gave (IsDir {S = S} {D = D} {C = C} {B = B} disk kept.d)
            (IsDir {S = S} {D = D} {C = C} {B = B} disk d) has_dir (word s 1) (home s 1) s.views id v w (is.Dir y)
            me one refl (y, refl, refl) kept.home.dir))
            (each_other (λ j x. (e : Disk) → x.locks.dir ≡ Some e → e ≡ d) s.views id w (λ e z. absurd (no_disk e z))
            (λ j x ne at_x e z. absurd (omega (
              arith,
              dir_one x e z,
              alone (IsDir {S = S} {D = D} {C = C} {B = B} disk kept.d) has_dir (word s 1) (home s 1) s.views id v
                  me one kept.home.dir j x ne at_x,
            ))))
            (told-both (λ p q. FilesHeld kept.b p q s.views) (DirChange v u)
            (λ p q. FilesHeld kept.b p q (set s.views id w))
            (λ p q r h change. files-dir kept.b kept.work kept.start kept.d (number s) s.views id v w me may.alive
            kept.numbers.lawful kept.in_hand f may.marks p q r change h) kept.start.disk.files kept.d.files
            d.files kept.held.files changed)
            (risen s kept id v me (ap (λ (z : Disk). z.faults) same_disk)),
        refl,
      )
    where
      risen : (s : State (Stored S D C B) LaneView) (kept : Kept books disk cell body s) (id : ℕ) (v : LaneView)
          (me : get_elem? s.views id ≡ some v) → may.found.faults ≡ kept.d.faults
          → (kept.start.disk.faults + total faults (set s.views id (gave_dir u reads names lists rise v)) ≤
          (disk y).faults) ⊎ (18446744073709551615 ≤ (disk y).faults)
      risen s kept id v me e =
          let sum = total-set faults s.views id v (gave_dir u reads names lists rise v) me in
          ⊎_elim (λ h. ⊎_elim (λ k. inl (omega (arith, sum, h, k, e))) (λ k. inr (omega (arith, k, e, may.later)))
          kept.in_hand.faults) (λ h. inr h) may.rose

  pub gives_dir : (n id : ℕ) (u : Task) (reads : List FileRead) (names : List (List ℕ)) (lists rise : ℕ)
      (m : Me (Stored S D C B) LaneView) (more : List (ℕ × Stored S D C B)) (y : D)
      → MayGiveDir m.0 (disk y) u reads names lists rise → m.1 ≡ (1, is.Dir y) ∷ more
      → Allows (Kept books disk cell body) n id m 1 (λ _. 0) (GaveDir u reads names lists rise m)
  gives_dir n id u reads names lists rise m more y may e = subst
      (λ (c : List (ℕ × Stored S D C B)). Allows (Kept books disk cell body) n id (m.0, c) 1 (λ _. 0)
      (GaveDir u reads names lists rise (m.0, c))) (sym e) (gives_own n id u reads names lists rise m.0 more y may)
