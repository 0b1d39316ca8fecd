-- Takings and givings of a cell's lock keep the rule.
use Rattle.std.proofs.Common.{List, None, Option, [], ap, arith, eqb, false, inr, length, length-set, option_map, refl, set, subst, suc, sym, zero, ℕ, ◌+◌, ◌<◌, ◌∙◌, ◌∷◌, ◌≡◌, ◌≤◌}
use mathlib.Core.Option.{none, some}
use lib.ListN.{get_elem?}
use prog.Atomic.{either}
use Rattle.atomic_table.proofs.Lists.{exchanged, set_again, set_else, set_here}
use Rattle.atomic_table.specs.Table.{Act, Allows, Me, Valid, carried_after, gives, keeps, rest, stepped, takes}
use Rattle.sv_model.specs.Books.{Books}
use Rattle.sv_model.specs.Cells.{Cell}
use Rattle.sv_model.specs.Journal.{of_family}
use Rattle.sv_model.specs.Lists.{total}
use Rattle.sv_rule.specs.Held.{IsLent, Says}
use Rattle.sv_rule.specs.Home.{Lock}
use Rattle.sv_rule.specs.LockPlays.{GaveCell, MayGiveCell, TookCell, gave_cell, took_cell}
use Rattle.sv_rule.specs.Rule.{Kept}
use Rattle.sv_rule.specs.Table.{Box, cell_word, home, number, word}
use Rattle.sv_rule.specs.Tasks.{cell_count, dues, fill_count, fills, has_cell}
use Rattle.sv_rule.specs.Views.{Body, Desk, Disk, LaneView}
use Rattle.sv_rule.specs.declared.parts.Stored.{Stored}
use Rattle.sv_rule.specs.declared.parts.Stored.TheVariants as is
use Rattle.sv_rule_locks.proofs.CellFinds.{finds-body, finds-books}
use Rattle.sv_rule.proofs.LockCounts.{cell_at, cell_one, fills_le, held_is, no_held}
use Rattle.sv_rule_locks.proofs.CellGoes.{Cells, by_cell}
use Rattle.sv_rule_locks.proofs.CellReads.{cut_le, raised_le, reads-fit}
use Rattle.sv_rule.proofs.DbLock.{db-same, owners-same}
use Rattle.sv_rule.proofs.LockLaws.{lock-gave, lock-took}
use Rattle.sv_rule.proofs.RefLaws.{ref-live}
use Rattle.sv_rule.proofs.StepRests.{says-step}
use Rattle.sv_rule.proofs.Sums.{same-else, same_one, term_le, terms_le}
use Rattle.sv_rule.proofs.TurnsSame.{stands-same, turns-same}

terms_less : {A : Type 0} (g h : A → ℕ) (l : List A) → ((x : A) → g x ≤ h x) → total g l ≤ total h l
terms_less g h [] f = omega arith
terms_less g h (x ∷ l) f = omega (arith, f x, terms_less g h l f)

-- where one sum is at most another, term by term
total_less : {A : Type 0} (g h : A → ℕ) (l : List A) (j : ℕ) (v : A) → get_elem? l j ≡ some v → ((x : A) → g x ≤ h x)
    → total g l + h v ≤ total h l + g v
total_less g h [] j v e f = absurd (mathlib.Core.Option.some-ne-none v (sym e))
total_less g h (x ∷ l) zero v e f = let q = mathlib.Core.Option.some-injective x v e in
    omega (arith, ap g q, ap h q, terms_less g h l f)
total_less g h (x ∷ l) (suc j) v e f = omega (arith, f x, total_less g h l j v e f)

module _ {S D C B : Type 0} (books : S → Books) (disk : D → Disk) (cell : C → Option Cell) (body : B → Body) where
  pub takes_cell : (n id c : ℕ) (m : Me (Stored S D C B) LaneView) → c < 64 → m.0.seat.spent ≡ false
      → m.0.locks.cell ≡ None
      → Allows (Kept books disk cell body) n id m (cell_word c) (λ y. either (eqb y 0) 1 y) (TookCell cell c m)
  takes_cell n id c m few alive bare s kept long me fits =
      let v = m.0 in
      let i = cell_word c in
      let r : ℕ = word s i in
      exchanged r 0 1 (λ y. (w : LaneView) × (a : Act (Stored S D C B)) × Valid s.homes m.1 a
      × Kept books disk cell body (stepped s i y id m.1 w a) × TookCell cell c m r (w, carried_after m.1 a))
      (λ e. let own = kept.held.cells c few in
      let t = own.home e in
      let y = t.2 in
      let x = cell y.0 in
      let w = took_cell c x v in
      let homes = set s.homes i none in
      let accounts = kept.in_hand.accounts id v me alive in
      let f = accounts.fits in
      let bare_here : (k : ℕ) → has_cell k v ≡ 0 = λ k. ap (cell_count k) bare in
      let none_has : total (has_cell c) s.views ≡ 0 = own.bit ∙ e in
      let no_fills : total (fills c) s.views ≡ 0 = omega
      (arith, terms_less (fills c) (has_cell c) s.views (fills_le c)) in
      let says : (k : ℕ) (z : Option Cell) → Says kept.b s.views k z
      → Says kept.b (set s.views id w) k z = λ k z. says-step kept.b s.views id v w me k z (omega arith)
      (omega (arith, fills_le k v, bare_here k)) in (
        w,
        takes i (is.Cell y.0),
        t.1 ∙ ap (λ z. some (some z)) y.1,
        by_cell books disk cell body s kept id v w me c 1 homes kept.b [] few (length-set s.homes i none)
            (λ k ne. set_else s.homes i k none ne)
            alive refl refl refl refl refl refl refl refl refl refl (λ z. z) (λ z g. omega arith)
            (inr refl) (stands-same kept.b)
            (turns-same kept.b kept.work kept.start kept.d (number s) s.views id v me alive kept.in_hand f.lawful)
            record {
              fits = record {
                lawful = f.lawful;
                start = f.start;
                found = f.found;
                left = f.left;
                mine = f.mine;
                bodies = f.bodies;
                rows = reads-fit kept.b (total (dues c) s.views) (total (fills c) s.views) c v.locks.db v.known.bodies
                    v.known.seen x v.known.rows no_fills y.2 f.bodies f.seen f.rows;
                reads = f.reads;
                seen = f.seen;
                removed = f.removed;
                ended = f.ended;
                round = f.round;
                frames = f.frames;
              };
              mine = accounts.mine;
            }
            (db-same books disk cell body s kept id v w me refl)
            (owners-same books disk cell body s kept id v w me refl)
            (λ k ne. same-else k c (λ q. ne (sym q)) ∙ sym (bare_here k))
            (λ k z ne. says k z)
            (subst (λ (z : Box (Stored S D C B)). Lock (Cells books disk cell body kept.b (set s.views id w) c)
            (has_cell c) 1 z (set s.views id w)) (sym
            (set_here s.homes i none (omega (arith, kept.home.seats.homes, few))))
            (lock-took (Cells books disk cell body kept.b s.views c)
            (Cells books disk cell body kept.b (set s.views id w) c) (has_cell c) r (home s i) s.views id v w me e
            (same_one c c refl) own))
            (λ h z. subst (IsLent kept.b (set s.views id w)) (held_is (record { number = c; found = x }) h z)
            (record { within = few; says = says c x y.2 }))
            (λ j u h ne at_u z q. absurd (omega (
              arith,
              term_le (has_cell c) s.views j u at_u,
              cell_at c u h z,
              same_one c h.number q,
              none_has,
            ))),
        record {
          free = λ _. (
            y.0,
            refl,
            finds-books kept.b kept.work s.views id v me kept.home.desks kept.home.db.one kept.home.db.bit c x
                no_fills y.2,
            finds-body kept.b s.views v f.lawful f.bodies (ref-live s kept.b.supers kept.ledger.places id v me)
                (λ g near. (kept.fresh id v me g near).floor) c x no_fills y.2,
          );
          busy = λ ne. absurd (ne e);
        },
      ))
      (λ ne. (
        v,
        keeps,
        tt,
        subst (λ (z : List LaneView). Kept books disk cell
            body record { words = set s.words i r; homes = s.homes; views = z }) (sym (set_again s.views id v me))
            (subst (λ (z : List ℕ). Kept books disk cell body record { words = z; homes = s.homes; views = s.views })
            (sym (lib.Seq.set-get_or s.words i 0)) kept),
        record { free = λ e. absurd (ne e); busy = λ _. refl },
      ))

  gives_own : (n id c f cut : ℕ) (v : LaneView) (more : List (ℕ × Stored S D C B)) (y : C) → c < 64
      → MayGiveCell v c (cell y) f cut
      → let m : Me (Stored S D C B) LaneView = (v, (cell_word c, is.Cell y) ∷ more) in
      Allows (Kept books disk cell body) n id m (cell_word c) (λ _. 0) (GaveCell f cut m)
  gives_own n id c f cut v more y few may s kept long me fits =
      let i = cell_word c in
      let x = cell y in
      let w = gave_cell f cut v in
      let ws = set s.views id w in
      let homes = set s.homes i (some (is.Cell y)) in
      let accounts = kept.in_hand.accounts id v me may.alive in
      let t = accounts.fits in
      let own = kept.held.cells c few in
      let one : has_cell c v ≡ 1 = cell_one c v x may.cell in
      let lent = kept.held.lent id v me (record { number = c; found = x }) may.cell in
      let no_fill_here : (k : ℕ) → fills k v ≡ 0 = λ k. ap
      (λ (o : Option Desk). fill_count k (option_map (λ (d : Desk). d.due) o) v.locks.cell) may.db in
      let no_fills : total (fills c) s.views ≡ 0 = omega (
        arith,
        total_less (fills c) (has_cell c) s.views id v me (fills_le c),
        no_fill_here c,
        one,
        own.bit,
        own.one,
      ) in
      let says : (k : ℕ) (z : Option Cell) → Says kept.b s.views k z
      → Says kept.b ws k z = λ k z. says-step kept.b s.views id v w me k z (omega arith)
      (omega (arith, fills_le k w, no_fill_here k)) in (
        w,
        gives,
        tt,
        by_cell books disk cell body s kept id v w me c 0 homes kept.b [] few
            (length-set s.homes i (some (is.Cell y))) (λ k ne. set_else s.homes i k (some (is.Cell y)) ne)
            may.alive refl refl refl refl refl refl refl refl refl refl (λ z. z) (λ z g. omega arith)
            (inr refl) (stands-same kept.b)
            (turns-same kept.b kept.work kept.start kept.d (number s) s.views id v me may.alive kept.in_hand t.lawful)
            record {
              fits = record {
                lawful = t.lawful;
                start = t.start;
                found = t.found;
                left = t.left;
                mine = t.mine;
                bodies = t.bodies;
                rows = t.rows;
                reads = t.reads;
                seen = raised_le v.known.seen f cut (λ k. length (of_family k kept.b.journal))
                    (cut_le kept.b v (total (dues c) s.views) (total (fills c) s.views) c x f cut t no_fills lent.says
                    may.cut_is) t.seen;
                removed = t.removed;
                ended = t.ended;
                round = t.round;
                frames = t.frames;
              };
              mine = accounts.mine;
            }
            (db-same books disk cell body s kept id v w me refl)
            (owners-same books disk cell body s kept id v w me refl)
            (λ k ne. sym (cell_at k v (record { number = c; found = x }) may.cell ∙ same-else k c (λ q. ne (sym q))))
            (λ k z ne. says k z)
            (subst (λ (z : Box (Stored S D C B)). Lock (Cells books disk cell body kept.b ws c) (has_cell c) 0 z ws)
            (sym (set_here s.homes i (some (is.Cell y)) (omega (arith, kept.home.seats.homes, few))))
            (lock-gave (Cells books disk cell body kept.b s.views c) (Cells books disk cell body kept.b ws c)
            (has_cell c) (word s i) (home s i) s.views id v w (is.Cell y) me one refl
            (y, refl, says c x lent.says) own))
            (λ h z. absurd (no_held h z))
            (λ j u h ne at_u z q. absurd (omega (
              arith,
              terms_le (has_cell c) s.views id j v u ne me at_u,
              cell_at c u h z,
              same_one c h.number q,
              one,
              own.bit,
              own.one,
            ))),
        refl,
      )

  pub gives_cell : (n id c f cut : ℕ) (m : Me (Stored S D C B) LaneView) (rest : List (ℕ × Stored S D C B)) (y : C)
      → c < 64 → MayGiveCell m.0 c (cell y) f cut → m.1 ≡ (cell_word c, is.Cell y) ∷ rest
      → Allows (Kept books disk cell body) n id m (cell_word c) (λ _. 0) (GaveCell f cut m)
  gives_cell n id c f cut m rest y few may e = subst (λ (z : List (ℕ × Stored S D C B)). Allows
      (Kept books disk cell body) n id (m.0, z) (cell_word c) (λ _. 0) (GaveCell f cut (m.0, z))) (sym e)
      (gives_own n id c f cut m.0 rest y few may)
