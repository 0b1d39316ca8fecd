-- The rule, as a seat is made or joined.
use Rattle.std.proofs.Common.{List, None, Option, Some, arith, false, length, refl, true, ℕ, ◌≡◌, ◌≤◌}
use mathlib.Core.Option.{some}
use lib.ListN.{get_elem?}
use Rattle.atomic_table.specs.Table.{State, rest}
use Rattle.sv_model.specs.Books.{Books}
use Rattle.sv_model.specs.Cells.{Cell}
use Rattle.sv_model.specs.Files.{file_of}
use Rattle.sv_model.specs.HeldFiles.{HasItsText}
use Rattle.sv_model.specs.Lists.{Every, total}
use Rattle.sv_rule.specs.Blanks.{bare_known, bare_view}
use Rattle.sv_rule.specs.Fresh.{FreshIn, FreshOf}
use Rattle.sv_rule.specs.Held.{FilesHeld, IsLent, Says}
use Rattle.sv_rule.specs.Home.{Seats}
use Rattle.sv_rule.specs.InHand.{WorkHeld}
use Rattle.sv_rule.specs.Ledger.{most_hand}
use Rattle.sv_rule.specs.Rounds.{Loaded}
use Rattle.sv_rule.specs.Rule.{Kept}
use Rattle.sv_rule.specs.Table.{holders, holds, number, owers, owes, reference, word}
use Rattle.sv_rule.specs.Tasks.{all_adds, dues, fills, has_cell, has_db, has_dir}
use Rattle.sv_model.specs.Tasks.{marks_of, Output}
use Rattle.sv_rule.specs.UnderWay.{Stock}
use Rattle.sv_rule.specs.Views.{Body, CellHeld, Desk, Disk, Joined, LaneView, Seat, Start, away}
use Rattle.sv_rule.specs.declared.parts.Stored.{Stored}
use Rattle.sv_rule.proofs.Basics.{every_none}
use Rattle.sv_rule.proofs.CellLaws.{says-more}
use Rattle.sv_rule.proofs.FileTurns.{told-map}
use Rattle.sv_rule.proofs.Places.{places_same}
use Rattle.sv_rule_seats.proofs.SeatWork.{Moves, seated}
use Rattle.sv_rule.proofs.StepLaws.{right_same}
use Rattle.sv_model.proofs.Basics.{none_some}

-- a lane that has nothing is fresh
pub fresh_none : (b : Books) (n f : ℕ) → FreshOf b n f away 0 0 0
fresh_none b n f = record {
  slot = λ z. absurd (omega arith);
  cached = λ z. absurd (omega arith);
  looked = λ z. absurd (omega arith);
  floor = omega arith;
  seen_is = omega arith;
}

module _ {S D C B : Type 0} (books : S → Books) (disk : D → Disk) (cell : C → Option Cell) (body : B → Body)
    (s : State (Stored S D C B) LaneView) (kept : Kept books disk cell body s) (id : ℕ) (v : LaneView)
    (me : get_elem? s.views id ≡ some v) (seat seat' : Seat) (joined : List Joined) (lane : ℕ) (start : Start)
    (handles : List ℕ) (ws : List LaneView) (k : ℕ) where
  abbrev l : LaneView
  l = seated v seat joined

  abbrev x : LaneView
  x = bare_view seat' (bare_known lane start handles)

  abbrev V : State (Stored S D C B) LaneView
  V = record { words = s.words; homes = s.homes; views = ws }

  pub kept-by-seats : (rest : (LaneView → ℕ) → ℕ) → Moves s.views ws k id v l x rest → seat.spent ≡ v.seat.spent
      → v.seat.spent ≡ false → Seats V → WorkHeld kept.b kept.work kept.start kept.d (number s) ws
      → Kept books disk cell body V
  kept-by-seats rest move spent alive seats in_hand =
      let b = kept.b in
      let both = move.both in
      let says : (c : ℕ) (y : Option Cell) → Says b s.views c y
      → Says b ws c y = λ c y. says-more b.memtables b.journal (total (dues c) s.views) (total (dues c) ws)
      (total (fills c) s.views) (total (fills c) ws) c y
      (omega (arith, move.sum (dues c), move.dues_none c)) (omega (arith, move.sum (fills c), move.fills_none c)) in
      record {
        b = b;
        work = kept.work;
        start = kept.start;
        d = kept.d;
        home = record {
          seats = seats;
          db = record {
            bit = omega (arith, move.sum has_db, move.db, kept.home.db.bit);
            one = kept.home.db.one;
            home = kept.home.db.home;
            out = kept.home.db.out;
          };
          desks = both (λ j u. (d : Desk) → u.locks.db ≡ Some d → (d.books ≡ b) × (d.work ≡ kept.work))
              (λ d e. absurd (none_some d e)) (kept.home.desks id v me) kept.home.desks;
          dir = record {
            bit = omega (arith, move.sum has_dir, move.dir, kept.home.dir.bit);
            one = kept.home.dir.one;
            home = kept.home.dir.home;
            out = kept.home.dir.out;
          };
          disks = both (λ j u. (d : Disk) → u.locks.dir ≡ Some d → d ≡ kept.d) (λ d e. absurd (none_some d e))
              (kept.home.disks id v me) kept.home.disks;
          slots = kept.home.slots;
        };
        ledger = record {
          places = places_same b.supers (reference s) (reference s) (holders s) (holders V) (owers s) (owers V)
              (λ i near. refl) (λ q big. omega (arith, move.sum (holds q), move.holders q))
              (λ q big. omega (arith, move.sum (owes q), move.owers q)) kept.ledger.places;
          hands = both (λ j u. length u.hand ≤ most_hand) (omega arith) (kept.ledger.hands id v me) kept.ledger.hands;
        };
        numbers = kept.numbers;
        rounds = record {
          moved = kept.rounds.moved;
          begun_none = kept.rounds.begun_none;
          greatest = kept.rounds.greatest;
          sum = omega (arith, kept.rounds.sum, move.sum all_adds, move.adds);
          bound = kept.rounds.bound;
          low = both (λ j u. u.known.round ≤ word s 82) (omega arith) (kept.rounds.low id v me) kept.rounds.low;
          loaded = both (λ j u. u.known.round ≡ word s 82
              → Every (Loaded b kept.work kept.rounds.moved (number s)) u.loads)
              (λ _. every_none (Loaded b kept.work kept.rounds.moved (number s))) (kept.rounds.loaded id v me)
              kept.rounds.loaded;
        };
        sweep = record {
          right = λ m f low near. let e = move.spots m f in
              right_same refl refl refl refl e.0 e.1 (kept.sweep.right m f low near);
          apart = kept.sweep.apart;
          stock = both (λ j u. (d : Desk) → u.locks.db ≡ Some d → Stock d.books d.work u.hand)
              (λ d e. absurd (none_some d e)) (kept.sweep.stock id v me) kept.sweep.stock;
        };
        fresh = both (λ j u. FreshIn b (number s) u) (λ f near. fresh_none b (number s f) f) (kept.fresh id v me)
            kept.fresh;
        held = record {
          cells = λ c few. let o = kept.held.cells c few in
              record {
                bit = omega (arith, move.sum (has_cell c), move.cells c, o.bit);
                one = o.one;
                home = λ z. let t = o.home z in (t.0, t.1, (t.2.0, t.2.1, says c (cell t.2.0) t.2.2));
                out = o.out;
              };
          lent = both (λ j u. (h : CellHeld) → u.locks.cell ≡ Some h → IsLent b ws h) (λ h e. absurd (none_some h e))
              (lent_on says id v me)
              (λ j u at_u. lent_on says j u at_u);
          files = told-map (λ p q. FilesHeld b p q s.views) (λ p q. FilesHeld b p q ws) (λ p q h. record {
            hold = h.hold;
            written = both (λ j u. (o : Output) → u.known.task.output ≡ Some o → o.written ≡ true
                → HasItsText b q o.meta.number) (λ o e. absurd (none_some o e)) (h.written id v me) h.written;
            listed = both (λ j u. u.seat.spent ≡ false → Every (HasItsText b q) u.known.task.listed)
                (λ _. every_none (HasItsText b q)) (λ _. h.listed id v me alive) h.listed;
            taken = both (λ j u. Every (λ m. m.taken ≡ true → file_of m.number q ≡ None) (marks_of u.known.task.job))
                (every_none (λ m. m.taken ≡ true → file_of m.number q ≡ None)) (h.taken id v me) h.taken;
          }) kept.start.disk.files kept.d.files kept.held.files;
          bodies = kept.held.bodies;
        };
        in_hand = in_hand;
      }
    where
      lent_on : ((c : ℕ) (y : Option Cell) → Says kept.b s.views c y → Says kept.b ws c y) → (j : ℕ) (u : LaneView)
          → get_elem? s.views j ≡ some u → (h : CellHeld) → u.locks.cell ≡ Some h → IsLent kept.b ws h
      lent_on says j u at_u h e = let t = kept.held.lent j u at_u h e in
          record { within = t.within; says = says h.number h.found t.says }
