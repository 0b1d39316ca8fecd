-- The kinds lock take and lock give keep the rule, for the DB lock.
use Rattle.std.proofs.Common.{List, None, Option, Some, [], ap, arith, eqb, false, length-set, option_map, refl, set, subst, sym, ℕ, ◌∙◌, ◌∷◌, ◌≡◌}
use mathlib.Core.Option.{none, some}
use prog.Atomic.{either}
use Rattle.atomic_table.proofs.Lists.{exchanged, set_again, set_else, set_here}
use Rattle.atomic_table.specs.Table.{Act, Allows, Me, Valid, carried_after, gives, keeps, stepped, takes}
use Rattle.sv_model.specs.After.{After}
use Rattle.sv_model.specs.Books.{Books}
use Rattle.sv_model.specs.Cells.{Cell}
use Rattle.sv_model.specs.Lists.{times}
use Rattle.sv_model.proofs.AfterLaws.{after-itself}
use Rattle.sv_rule.specs.Fits.{BodyFits}
use Rattle.sv_rule.specs.Home.{IsState, Lock}
use Rattle.sv_rule.specs.LockPlays.{GaveDb, IsTold, MayGiveDb, TookDb, gave_db, took_db}
use Rattle.sv_rule.specs.Rule.{Kept}
use Rattle.sv_rule.specs.Table.{Box, home, number, word}
use Rattle.sv_rule.specs.Tasks.{due_count, dues, fill_count, fills, has_db}
use Rattle.sv_model.specs.Turns.{Stands, Turns}
use Rattle.sv_model.specs.Tasks.{Task}
use Rattle.sv_rule.specs.Views.{Body, Desk, Disk, LaneView, idle}
use Rattle.sv_rule.specs.declared.parts.Stored.{Stored}
use Rattle.sv_rule.specs.declared.parts.Stored.TheVariants as is
use Rattle.sv_rule.proofs.Basics.{each_other, each_set, every_map, every_push, has_one, no_db, some_is}
use Rattle.sv_rule_locks.proofs.DbGoes.{kept-by-db}
use Rattle.sv_rule.proofs.FitLaws.{body-after}
use Rattle.sv_rule.proofs.LockLaws.{alone, lock-gave, lock-none, lock-took}
use Rattle.sv_rule_locks.proofs.Told.{told}
use Rattle.sv_rule.proofs.TurnRest.{mine-turns}
use Rattle.sv_rule.proofs.LockCounts.{fills_none}
use Rattle.sv_rule.proofs.TurnsSame.{stands-same, turns-same}

-- the state that lies in front, or st
state_in : {S D C B : Type 0} → S → List (ℕ × Stored S D C B) → S
state_in st [] = st
state_in st ((i, is.State x) ∷ c) = x
state_in st (_ ∷ c) = st

desk_is : {x y : Desk} → Some x ≡ Some y → x ≡ y
desk_is e = some_is e

no_desk_now : (d : Desk) → None ≡ Some d → ⊥
no_desk_now d e = cc

module _ {S D C B : Type 0} (books : S → Books) (disk : D → Disk) (cell : C → Option Cell) (body : B → Body) where
  pub takes_db : (n id : ℕ) (m : Me (Stored S D C B) LaneView) → m.0.seat.spent ≡ false
      → Allows (Kept books disk cell body) n id m 0 (λ y. either (eqb y 0) 1 y) (TookDb books m)
  takes_db n id m alive s kept long me fits =
      let v = m.0 in let r : ℕ = word s 0 in
      exchanged r 0 1 (λ y. (w : LaneView) × (a : Act (Stored S D C B)) × Valid s.homes m.1 a
      × Kept books disk cell body (stepped s 0 y id m.1 w a) × TookDb books m r (w, carried_after m.1 a))
      (λ e. let t = kept.home.db.home e in
      let y = t.2 in
      let b : Books = books y.0 in
      let w = took_db b v in
      let homes = set s.homes 0 none in
      let no_lock : has_db v ≡ 0 = lock-none (IsState {S = S} {D = D} {C = C} {B = B} books kept.b kept.work) has_db r
      (home s 0) s.views id v me e kept.home.db in
      let no_due : (k : ℕ) → dues k v ≡ 0 = λ k. ap (λ (o : Option Desk). due_count k
      (option_map (λ (d : Desk). d.due) o)) (no_db v no_lock) in
      let no_fill : (k : ℕ) → fills k v ≡ 0 = λ k. ap (λ (o : Option Desk). fill_count k
      (option_map (λ (d : Desk). d.due) o) v.locks.cell) (no_db v no_lock) in
      let resting = y.3 in
      let accounts = kept.in_hand.accounts id v me alive in
      let f = accounts.fits in (
        w,
        takes 0 (is.State y.0),
        t.1 ∙ ap (λ z. some (some z)) y.1,
        kept-by-db books disk cell body s kept id v w me 1 homes kept.b resting (length-set s.homes 0 none)
            (λ k ne. set_else s.homes 0 k none ne)
            alive refl refl refl refl refl refl refl refl refl refl refl (λ k. omega (arith, no_fill k))
            (λ k. omega (arith, no_due k))
            (turns-same kept.b kept.work kept.start kept.d (number s) s.views id v me alive kept.in_hand f.lawful)
            (stands-same kept.b)
            record {
              fits = record {
                lawful = f.lawful;
                start = f.start;
                found = every_push (λ a. After a kept.b) v.known.found b f.found
                    (subst (λ z. After z kept.b) (sym y.2) (after-itself kept.b));
                left = f.left;
                mine = f.mine;
                bodies = f.bodies;
                rows = f.rows;
                reads = f.reads;
                seen = f.seen;
                removed = f.removed;
                ended = f.ended;
                round = f.round;
                frames = f.frames;
              };
              mine = accounts.mine;
            }
            (subst (λ (z : Box (Stored S D C B)). Lock (IsState {S = S} {D = D} {C = C} {B = B} books kept.b idle)
            has_db 1 z (set s.views id w)) (sym (set_here s.homes 0 none (omega (arith, kept.home.seats.homes))))
            (lock-took (IsState {S = S} {D = D} {C = C} {B = B} books kept.b kept.work)
            (IsState {S = S} {D = D} {C = C} {B = B} books kept.b idle) has_db r (home s 0) s.views id v w me e
            refl kept.home.db))
            (each_set (λ j u. (d : Desk) → u.locks.db ≡ Some d → (d.books ≡ kept.b) × (d.work ≡ idle)) s.views id w
            (λ d z. (ap (λ (q : Desk). q.books) (sym (desk_is z)) ∙ y.2, ap (λ (q : Desk). q.work) (sym (desk_is z))))
            (λ j u at_u d z. let h = kept.home.desks j u at_u d z in (h.0, h.1 ∙ resting))),
        record {
          free = λ _. (
            y.0,
            refl,
            subst (IsTold v) (sym y.2)
                (told books disk cell body s kept id v me alive resting),
          );
          busy = λ ne. absurd (ne e);
        },
      ))
      (λ ne. (
        v,
        keeps,
        tt,
        subst (λ (z : List LaneView). Kept books disk cell
            body record { words = set s.words 0 r; homes = s.homes; views = z }) (sym (set_again s.views id v me))
            (subst (λ (z : List ℕ). Kept books disk cell body record { words = z; homes = s.homes; views = s.views })
            (sym (lib.Seq.set-get_or s.words 0 0)) kept),
        record { free = λ e. absurd (ne e); busy = λ _. refl },
      ))

  gives_own : (n id : ℕ) (v : LaneView) (more : List (ℕ × Stored S D C B)) (st : S) (u : Task)
      → MayGiveDb v (books st) u
      → let m : Me (Stored S D C B) LaneView = (v, (0, is.State st) ∷ more) in
      Allows (Kept books disk cell body) n id m 0 (λ _. 0) (GaveDb books u m)
  unfolding state_in
  gives_own n id v more st u may s kept long me fits =
      let b = books st in
      let w = gave_db b u v in
      let homes = set s.homes 0 (some (is.State st)) in
      let d = may.desk in
      let one : has_db v ≡ 1 = has_one v d may.has in
      let h = kept.home.desks id v me d may.has in
      let no_due : (k : ℕ) → dues k v ≡ 0 = λ k. ap (λ (o : Option Desk). due_count k
      (option_map (λ (q : Desk). q.due) o)) may.has ∙ ap (times k) may.due in
      let turns : Turns v.known.lane kept.b v.known.task b u [] = subst
      (λ z. Turns v.known.lane z v.known.task b u []) h.0 may.turns in
      let stands : Stands kept.b b = subst (λ z. Stands z b) h.0 may.stands in
      let accounts = mine-turns books disk cell body s kept id v w me 0 0 b v.known.bodies may.alive refl refl refl
      turns
      (every_map (BodyFits kept.b) (BodyFits b) v.known.bodies (body-after kept.b b turns.counts.later)
      (kept.in_hand.accounts id v me may.alive).fits.bodies) in
      let f = accounts.fits in (
        w,
        gives,
        tt,
        kept-by-db books disk cell body s kept id v w me 0 homes b (sym h.1 ∙ may.resting)
            (length-set s.homes 0 (some (is.State st))) (λ k ne. set_else s.homes 0 k (some (is.State st)) ne)
            may.alive refl refl refl refl refl refl refl refl refl refl refl
            (λ k. omega (arith, fills_none v may.cell k)) (λ k. omega (arith, no_due k))
            turns stands
            record {
              fits = record {
                lawful = f.lawful;
                start = f.start;
                found = f.found;
                left = every_push (λ a. After a b) v.known.left b f.left (after-itself b);
                mine = f.mine;
                bodies = f.bodies;
                rows = f.rows;
                reads = f.reads;
                seen = f.seen;
                removed = f.removed;
                ended = f.ended;
                round = f.round;
                frames = f.frames;
              };
              mine = accounts.mine;
            }
            (subst (λ (z : Box (Stored S D C B)). Lock (IsState {S = S} {D = D} {C = C} {B = B} books b idle) has_db 0
            z (set s.views id w)) (sym (set_here s.homes 0 (some (is.State st))
            (omega (arith, kept.home.seats.homes))))
            (lock-gave (IsState {S = S} {D = D} {C = C} {B = B} books kept.b kept.work)
            (IsState {S = S} {D = D} {C = C} {B = B} books b idle) has_db (word s 0) (home s 0) s.views id v w
            (is.State st) me one refl (st, refl, refl, refl) kept.home.db))
            (each_other (λ j x. (k : Desk) → x.locks.db ≡ Some k → (k.books ≡ b) × (k.work ≡ idle)) s.views id w
            (λ k z. absurd (no_desk_now k z))
            (λ j x ne at_x k z. absurd (omega (
              arith,
              has_one x k z,
              alone (IsState {S = S} {D = D} {C = C} {B = B} books kept.b kept.work) has_db (word s 0) (home s 0)
                  s.views id v me one kept.home.db j x ne at_x,
            )))),
        λ st' e. λ c. (gave_db (books (state_in st (e c))) u v, more),
      )

  pub gives_db : (n id : ℕ) (m : Me (Stored S D C B) LaneView) (more : List (ℕ × Stored S D C B)) (st : S) (u : Task)
      → MayGiveDb m.0 (books st) u → m.1 ≡ (0, is.State st) ∷ more
      → Allows (Kept books disk cell body) n id m 0 (λ _. 0) (GaveDb books u m)
  gives_db n id m more st u may e = subst (λ (c : List (ℕ × Stored S D C B)). Allows (Kept books disk cell body) n id
      (m.0, c) 0 (λ _. 0) (GaveDb books u (m.0, c))) (sym e) (gives_own n id m.0 more st u may)
