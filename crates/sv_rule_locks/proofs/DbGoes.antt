-- What a step on the word of the DB lock leaves, where no work is under way.
use Rattle.std.proofs.Common.{List, Option, Some, [], ap, arith, false, inl, inr, length, refl, subst, sym, ℕ, ⊎_elim, ◌+◌, ◌<◌, ◌∙◌, ◌≡◌, ◌≢◌, ◌≤◌}
use mathlib.Core.Option.{some}
use mathlib.Core.Option as maybe
use lib.ListN.{get_elem?}
use Rattle.atomic_table.specs.Table.{State}
use Rattle.sv_model.specs.Books.{Books}
use Rattle.sv_model.specs.Cells.{Cell}
use Rattle.sv_model.specs.Lists.{same, total}
use Rattle.sv_model.specs.TableTextFields.{start}
use Rattle.sv_model.specs.declared.records.SuperVersion.{SuperVersion}
use Rattle.sv_rule.specs.Fresh.{FreshOf}
use Rattle.sv_rule.specs.Held.{FilesHeld, Says}
use Rattle.sv_rule.specs.Home.{IsDir, IsState, Lock}
use Rattle.sv_rule.specs.InHand.{Accounts}
use Rattle.sv_rule.specs.Ledger.{Places}
use Rattle.sv_rule.specs.Numbers.{Numbers}
use Rattle.sv_rule.specs.Rule.{Kept}
use Rattle.sv_model.specs.Supers.{IsSerialOf, current_of}
use Rattle.sv_model.specs.Turns.{Stands, Turns}
use Rattle.sv_rule.specs.Sweep.{Rights}
use Rattle.sv_rule.specs.Table.{Box, cell_word, holders, holds, home, names, number, number_word, owers, owes, reference, reference_word, slot, slot_home, slot_word, word}
use Rattle.sv_rule.specs.Tasks.{dues, faults, fills, has_db, has_dir, some_count}
use Rattle.sv_rule.specs.UnderWay.{Stock, begins, sets, sets_on}
use Rattle.sv_rule.specs.Views.{Body, Desk, Disk, Joined, LaneView, Seat, SlotView, Work, idle}
use Rattle.sv_rule.specs.declared.parts.Stored.{Stored}
use Rattle.sv_rule.proofs.Assembly.{Desks, kept-by-lock, low_id, z_stays}
use Rattle.sv_rule.proofs.Basics.{each_set, true_not, views-here}
use Rattle.sv_rule.proofs.CurrentTurns.{currents-stand, silent-none}
use Rattle.sv_rule.proofs.FileTurns.{files-turn, told-map}
use Rattle.sv_rule.proofs.FitLaws.{body-after}
use Rattle.sv_rule.proofs.FreshTurns.{fresh-stands}
use Rattle.sv_rule.proofs.InHandTurns.{work-turns}
use Rattle.sv_rule.proofs.LockLaws.{lock-else}
use Rattle.sv_rule.proofs.NumberTurns.{current-stands, numbers-stands}
use Rattle.sv_rule.proofs.Places.{places_same}
use Rattle.sv_rule.proofs.StepRests.{held-by, says-books, says-step}
use Rattle.sv_rule.proofs.RoundTurns.{loaded-turn, rounds-on}
use Rattle.sv_rule.proofs.RoundRises.{has-current-same}
use Rattle.sv_rule.proofs.StepLaws.{fresh_stay, fresh_view, holders_by_view, next, numbers_same, rights_stay, rounds_view, view_same, views_move}
use Rattle.sv_rule.proofs.TurnRest.{journal-stands}

module _ {S D C B : Type 0} (books : S → Books) (disk : D → Disk) (cell : C → Option Cell) (body : B → Body)
    (s : State (Stored S D C B) LaneView) (kept : Kept books disk cell body s) (id : ℕ) (v w : LaneView)
    (me : get_elem? s.views id ≡ some v) (x : ℕ) (homes : List (maybe.Option (Stored S D C B))) where
  abbrev pub W : State (Stored S D C B) LaneView
  W = next s 0 x homes id v w me

  pub kept-by-db : (b : Books) → kept.work ≡ idle → length homes ≡ length s.homes
      → ((k : ℕ) → k ≢ 0 → get_elem? homes k ≡ get_elem? s.homes k)
      → v.seat.spent ≡ false → w.seat ≡ v.seat → w.known.lane ≡ v.known.lane → w.joined ≡ v.joined
      → w.known.start ≡ v.known.start → w.counts.faults ≡ v.counts.faults → w.locks.cell ≡ v.locks.cell
      → w.locks.dir ≡ v.locks.dir
      → w.hand ≡ v.hand → w.owes ≡ v.owes → fresh_view w ≡ fresh_view v → rounds_view w ≡ rounds_view v
      → ((k : ℕ) → fills k v ≤ fills k w) → ((k : ℕ) → dues k v ≤ dues k w)
      → Turns v.known.lane kept.b v.known.task b w.known.task [] → Stands kept.b b → Accounts b w.known
      → Lock (IsState {S = S} {D = D} {C = C} {B = B} books b idle) has_db x (get_elem? homes 0) W.views
      → Desks b idle W.views → Kept books disk cell body W
  kept-by-db b resting long others alive seat lane joined start same_faults same_cell same_dir same_hand owed stand
      circles filled due turns stands mine lock desks =
      let a = kept.b in let later = turns.counts.later in let lawful = turns.counts.lawful in
      let before = kept.numbers.lawful in
      let journal : b.journal ≡ a.journal = journal-stands a.journal b.journal turns.counts.journal in
      let else = z_stays books disk cell body s kept id v w me x homes in
      let spent : w.seat.spent ≡ v.seat.spent = ap (λ (z : Seat). z.spent) seat in
      let numbers : (f : ℕ) → f < 16 → number W f ≡ number s f = λ f l. else (number_word f) (λ z. omega arith) in
      let same_slots : length w.slots.slot ≡ length v.slots.slot = ap
      (λ (z : List SlotView × List ℕ × List ℕ × List ℕ). length z.0) stand in
      let same_holds : (q : ℕ) → holds q w ≡ holds q v = λ q.
      (λ k. total (names q) (stand k).0 + total (same q) (same_hand k)) in
      let current : (f : ℕ) → current_of b f ≡ current_of a f = current-stands a b stands in
      let says : (k : ℕ) (y : Option Cell) → Says a s.views k y → Says b W.views k y = λ k y h.
      says-books a b W.views k y stands.memtables journal
      (says-step a s.views id v w me k y (due k) (filled k) h) in
      kept-by-lock books disk cell body s kept id v w me x homes b idle long others lock desks
      record {
        dir = subst (λ (z : ℕ × Box (Stored S D C B)). Lock (IsDir {S = S} {D = D} {C = C} {B = B} disk kept.d)
            has_dir z.0 z.1 W.views) (λ k. (sym (else 1 (λ z. omega arith)) k, sym (others 1 (λ z. omega arith)) k))
            (lock-else (IsDir {S = S} {D = D} {C = C} {B = B} disk kept.d)
            (IsDir {S = S} {D = D} {C = C} {B = B} disk kept.d) has_dir (word s 1) (home s 1) s.views id v w me
            (ap (λ (o : Option Disk). some_count o) same_dir) (λ y h. h) kept.home.dir);
        disks = each_set (λ j u. (k : Disk) → u.locks.dir ≡ Some k → k ≡ kept.d) s.views id w
            (λ k e. kept.home.disks id v me k (sym same_dir ∙ e)) kept.home.disks;
        held = held-by cell body s 0 x homes id v w me a b kept.start.disk kept.d kept.d (λ c l e. omega arith)
            (λ c l. others (cell_word c) (λ z. omega arith)) same_cell says
            (told-map (λ p q. FilesHeld a p q s.views) (λ p q. FilesHeld b p q W.views)
            (λ p q h. files-turn a b kept.work kept.start kept.d (number s) s.views id v w v.known.lane [] me
            before alive turns kept.in_hand p q h) kept.start.disk.files kept.d.files kept.held.files)
            (λ k r l e. body-after a b later (record { pack = r.pack; body = body r.body.value })
            (kept.held.bodies k r l (sym (others (slot_home k) (λ z. omega arith)) ∙ e)))
            kept.held;
        in_hand = work-turns a b kept.work idle kept.start kept.d kept.d (number s) (number W) s.views id v w
            v.known.lane [] me before kept.home.seats.once alive refl spent lane joined turns.counts kept.in_hand mine
            start
            (currents-stand a b s.views id v w me joined seat stands.tops stands.families stands.long
            kept.in_hand.currents)
            (silent-none idle (number W) W.views (λ f. refl))
            (⊎_elim (λ h. inl (omega (
              arith,
              h,
              view_same faults s.views id v w me
                  (λ q. same_faults q + total (λ (o : Joined). o.counts.faults) (joined q)),
            ))) (λ h. inr h)
            kept.in_hand.faults);
      }
      (subst (λ (z : List SuperVersion). Places z (reference W) (holders W) (owers W)) (sym stands.supers)
      (places_same a.supers (reference s) (reference W) (holders s) (holders W) (owers s) (owers W)
      (λ k l. else (reference_word k) (λ z. omega arith))
      (λ q l. omega (
        arith,
        holders_by_view s 0 x homes id v w me (λ f y z. omega arith) (λ f y z. omega arith) q,
        same_holds q,
      ))
      (λ q l. omega (arith, views_move s 0 x homes id v w me (owes q), ap (total (same q)) owed)) kept.ledger.places))
      (omega (arith, kept.ledger.hands id v me, ap (λ (z : List ℕ). length z) same_hand))
      (omega (arith, kept.home.seats.slots id v me, same_slots))
      (λ k. ((seat k).spent, lane k, (seat k).lanes, (seat k).made, joined k))
      (λ z. absurd (true_not (sym z ∙ spent ∙ alive)))
      (numbers_same b idle (number s) (number W) numbers
      (numbers-stands a b later lawful stands idle (number s) (inl refl)
      (subst (λ (z : Work). Numbers a z (number s)) resting kept.numbers)))
      (subst (λ (z : Work). Rights z (number W) (slot W) W.views) resting
      (rights_stay kept.work kept.work (number s) (number W) (slot s) (slot W) s.views id v w me
      (low_id books disk cell body s kept id v w me) (λ i. ((stand i).0, (stand i).1)) numbers
      (λ j l. else (slot_word j) (λ z. omega arith)) (λ l f n. refl) (λ j. refl) kept.sweep.right))
      tt (λ d z. subst (λ (y : Work). Stock d.books y w.hand) (sym (idle_desk d z)) tt)
      (fresh_stay a b (number s) (number W) s.views id v w me stand
      (λ f c p e y l h. fresh-stands a b later (number W f) f c p e y (current f)
      (subst (λ (z : ℕ). FreshOf a z f y c p e) (sym (numbers f l)) h)) kept.fresh)
      (rounds-on a b kept.work idle (word s 82) (word W 82) (number s) (number W) s.views id v w me
      (else 82 (λ z. omega arith)) numbers (sym (ap begins resting)) kept.rounds
      (loaded-turn a b later (λ f t k. subst (λ z. IsSerialOf z f t) stands.supers k) kept.work idle kept.rounds.moved
      (number s) (number W) numbers (λ f. sym (ap (sets_on f) resting)) (λ f z. current f))
      (omega (
        arith,
        kept.rounds.bound,
        has-current-same a b current,
        ap sets resting,
        ap (λ (z : List SuperVersion). length z) stands.supers,
        stands.long,
      )) circles)
    where
      -- the lane's own work rests where it has the lock
      idle_desk : (d : Desk) → w.locks.db ≡ Some d → d.work ≡ idle
      idle_desk d e = (desks id w (views-here s.views id v w me) d e).1
