-- What a step on the lock of a cell leaves.
use Rattle.std.proofs.Common.{List, Option, Some, ap, arith, false, inl, inr, length, refl, set, subst, sym, ℕ, ⊎_elim, ◌+◌, ◌<◌, ◌∙◌, ◌≡◌, ◌≢◌, ◌≤◌, ◌⊎◌}
use mathlib.Core.Logic.{dite}
use mathlib.Core.Option.{some}
use mathlib.Core.Option as maybe
use native.Mathlib.Decide.{ℕ_discrete}
use lib.ListN.{get_elem?}
use Rattle.atomic_table.specs.Table.{State}
use Rattle.sv_model.specs.Books.{Books}
use Rattle.sv_model.specs.Cells.{Cell}
use Rattle.sv_model.specs.Lists.{times, total}
use Rattle.sv_model.specs.TableTextFields.{start}
use Rattle.sv_model.specs.declared.writes.Write.{Write}
use Rattle.sv_rule.specs.Held.{FilesHeld, IsCell, IsLent, Says}
use Rattle.sv_rule.specs.Home.{IsDir, IsState, Lock}
use Rattle.sv_rule.specs.InHand.{Accounts}
use Rattle.sv_rule.specs.Rule.{Kept}
use Rattle.sv_rule.specs.Table.{Box, cell_word, home, number, number_word, slot_home, word}
use Rattle.sv_rule.specs.Tasks.{faults, has_cell, has_db, has_dir, some_count}
use Rattle.sv_model.specs.Turns.{Stands, Turns}
use Rattle.sv_rule.specs.Views.{Body, CellHeld, Disk, Joined, LaneView, Seat, idle}
use Rattle.sv_rule.specs.declared.parts.Stored.{Stored}
use Rattle.sv_rule.proofs.Assembly.{Desks}
use Rattle.sv_rule.proofs.Basics.{each_other, each_set}
use Rattle.sv_rule.proofs.CurrentTurns.{currents-stand, silent-stays}
use Rattle.sv_rule.proofs.FileTurns.{files-turn, told-map}
use Rattle.sv_rule.proofs.FitLaws.{body-after}
use Rattle.sv_rule.proofs.InHandTurns.{work-turns}
use Rattle.sv_rule_locks.proofs.LockGoes.{kept-by-other-lock}
use Rattle.sv_rule.proofs.LockLaws.{lock-else}
use Rattle.sv_rule.proofs.StepLaws.{next, rounds_view, view_same, word_else, word_here}

module _ {S D C B : Type 0} (books : S → Books) (disk : D → Disk) (cell : C → Option Cell) (body : B → Body) where
  abbrev pub Cells : Books → List LaneView → ℕ → Stored S D C B → Type 0
  Cells b vs c = IsCell {S = S} {D = D} {C = C} {B = B} cell body (Says b vs c)

  pub by_cell : (s : State (Stored S D C B) LaneView) (kept : Kept books disk cell body s) (id : ℕ) (v w : LaneView)
      (me : get_elem? s.views id ≡ some v) (c x : ℕ) (homes : List (maybe.Option (Stored S D C B))) (b : Books)
      (more : List Write)
      → c < 64 → length homes ≡ length s.homes → ((k : ℕ) → k ≢ cell_word c → get_elem? homes k ≡ get_elem? s.homes k)
      → v.seat.spent ≡ false → w.seat ≡ v.seat → w.known.lane ≡ v.known.lane → w.joined ≡ v.joined
      → w.known.start ≡ v.known.start → w.slots ≡ v.slots → w.hand ≡ v.hand → w.owes ≡ v.owes
      → rounds_view w ≡ rounds_view v → w.locks.dir ≡ v.locks.dir → w.counts.faults ≡ v.counts.faults
      → (has_db w ≡ 0 → has_db v ≡ 0) → (has_db w ≡ 0 → (f : ℕ)
      → times f w.known.task.handles ≤ times f v.known.task.handles)
      → (kept.work ≡ idle) ⊎ (b.journal ≡ kept.b.journal) → Stands kept.b b
      → Turns v.known.lane kept.b v.known.task b w.known.task more → Accounts b w.known
      → Lock (IsState {S = S} {D = D} {C = C} {B = B} books b kept.work) has_db (word s 0) (home s 0)
      (set s.views id w) → Desks b kept.work (set s.views id w)
      → ((k : ℕ) → k ≢ c → has_cell k w ≡ has_cell k v)
      → ((k : ℕ) (y : Option Cell) → k ≢ c → Says kept.b s.views k y → Says b (set s.views id w) k y)
      → Lock (Cells b (set s.views id w) c) (has_cell c) x (get_elem? homes (cell_word c)) (set s.views id w)
      → ((h : CellHeld) → w.locks.cell ≡ Some h → IsLent b (set s.views id w) h)
      → ((j : ℕ) (u : LaneView) (h : CellHeld) → j ≢ id → get_elem? s.views j ≡ some u → u.locks.cell ≡ Some h
      → h.number ≢ c)
      → Kept books disk cell body (next s (cell_word c) x homes id v w me)
  by_cell s kept id v w me c x homes b more few long others alive seat lane joined start same_slots same_hand owed
      circles same_dir same_faults bare same_handles still stands turns accounts lock_db desks same_cells says lock
      mine apart =
      let a = kept.b in
      let i = cell_word c in
      let ws = set s.views id w in
      let later = turns.counts.later in
      let before = kept.numbers.lawful in
      let spent : w.seat.spent ≡ v.seat.spent = ap (λ (z : Seat). z.spent) seat in
      let else : (k : ℕ) → k ≢ i → word (next s i x homes id v w me) k ≡ word s k = word_else s i x homes id v w me in
      let numbers : (f : ℕ) → f < 16 → word (next s i x homes id v w me) (number_word f) ≡ number s f = λ f l. else
      (number_word f) (λ z. omega arith) in
      kept-by-other-lock books disk cell body s kept id v w me i x homes b kept.d (omega arith) (omega (arith, few))
      long others later turns.counts.lawful stands still
      (λ k. ((seat k).spent, lane k, (seat k).lanes, (seat k).made, joined k)) same_slots same_hand owed circles alive
      spent
      (λ f. omega (arith, accounts.fits.seen f))
      lock_db desks
      (subst (λ (z : ℕ × Box (Stored S D C B)). Lock (IsDir {S = S} {D = D} {C = C} {B = B} disk kept.d) has_dir z.0
      z.1 ws) (λ k. (sym (else 1 (λ z. omega arith)) k, sym (others 1 (λ z. omega arith)) k))
      (lock-else (IsDir {S = S} {D = D} {C = C} {B = B} disk kept.d)
      (IsDir {S = S} {D = D} {C = C} {B = B} disk kept.d) has_dir (word s 1) (home s 1) s.views id v w me
      (ap (λ (o : Option Disk). some_count o) same_dir) (λ y h. h) kept.home.dir))
      (each_set (λ j u. (k : Disk) → u.locks.dir ≡ Some k → k ≡ kept.d) s.views id w
      (λ k e. kept.home.disks id v me k (sym same_dir ∙ e)) kept.home.disks)
      record {
        cells = λ k less. dite (ℕ_discrete k c)
            (λ is. subst (λ (z : ℕ). Lock (Cells b ws z) (has_cell z)
            (word (next s i x homes id v w me) (cell_word z)) (get_elem? homes (cell_word z)) ws) (sym is)
            (subst (λ (z : ℕ). Lock (Cells b ws c) (has_cell c) z (get_elem? homes i) ws)
            (sym (word_here s i x homes id v w me (omega (arith, kept.home.seats.words, few)))) lock))
            (λ ne. subst (λ (z : ℕ × Box (Stored S D C B)). Lock (Cells b ws k) (has_cell k) z.0 z.1 ws)
            (λ q. (
              sym (else (cell_word k) (λ z. ne (omega arith))) q,
              sym (others (cell_word k) (λ z. ne (omega arith))) q,
            ))
            (lock-else (Cells a s.views k) (Cells b ws k) (has_cell k) (word s (cell_word k)) (home s (cell_word k))
            s.views id v w me (same_cells k ne)
            (λ y h. (h.0, h.1, says k (cell h.0) ne h.2)) (kept.held.cells k less)));
        lent = each_other (λ j u. (h : CellHeld) → u.locks.cell ≡ Some h → IsLent b ws h) s.views id w mine
            (λ j u ne at_u h e. let t = kept.held.lent j u at_u h e in
            record { within = t.within; says = says h.number h.found (apart j u h ne at_u e) t.says });
        files = told-map (λ p q. FilesHeld a p q s.views) (λ p q. FilesHeld b p q ws)
            (λ p q h. files-turn a b kept.work kept.start kept.d (number s) s.views id v w v.known.lane more me before
            alive turns kept.in_hand p q h) kept.start.disk.files kept.d.files kept.held.files;
        bodies = λ k r l e. body-after a b later (record { pack = r.pack; body = body r.body.value })
            (kept.held.bodies k r l (sym (others (slot_home k) (λ z. omega (arith, few))) ∙ e));
      }
      (work-turns a b kept.work kept.work kept.start kept.d kept.d (number s) (number (next s i x homes id v w me))
      s.views id v w v.known.lane more me before kept.home.seats.once alive refl spent lane joined turns.counts
      kept.in_hand accounts start
      (currents-stand a b s.views id v w me joined seat stands.tops stands.families stands.long kept.in_hand.currents)
      (silent-stays a b s.views id v w me joined seat kept.work (number s) (number (next s i x homes id v w me))
      numbers (λ z f y. same_handles z f) bare kept.in_hand.silent)
      (⊎_elim (λ h. inl (omega (
        arith,
        h,
        view_same faults s.views id v w me
            (λ q. same_faults q + total (λ (o : Joined). o.counts.faults) (joined q)),
      ))) (λ h. inr h)
      kept.in_hand.faults))
