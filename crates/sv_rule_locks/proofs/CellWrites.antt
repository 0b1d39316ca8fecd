-- A giving of a cell's lock by the lane that has the DB lock keeps the rule: the cell is as the books have it.
use Rattle.std.proofs.Common.{Bool, List, Option, Some, [], ap, arith, cond, eq-eqb, false, inl, inr, length, length-set, not, refl, set, subst, suc, sym, true, ℕ, ⊎_elim, ◌++◌, ◌+◌, ◌<◌, ◌==◌, ◌∙◌, ◌∷◌, ◌≡◌, ◌≢◌, ◌≤◌}
use Rattle.std.proofs.lemmas.List.Elements.{filter-append}
use mathlib.Core.Option.{some}
use Rattle.atomic_table.proofs.Lists.{set_else, set_here}
use Rattle.atomic_table.specs.Table.{Allows, Me, gives, rest}
use Rattle.sv_model.specs.After.{Continues}
use Rattle.sv_model.specs.Books.{Books}
use Rattle.sv_model.specs.Cells.{Cell}
use Rattle.sv_model.specs.Journal.{by_lane, of_family}
use Rattle.sv_model.specs.Lists.{Every, same, times, total}
use Rattle.sv_model.specs.Registers.{entry}
use Rattle.sv_model.specs.declared.records.Memtable.{Memtable}
use Rattle.sv_model.specs.declared.writes.Write.{Write}
use Rattle.sv_model.proofs.AfterLaws.{continues-itself}
use Rattle.sv_rule.specs.Fits.{Fits}
use Rattle.sv_rule.specs.Held.{CellSays, Says}
use Rattle.sv_rule.specs.Home.{Lock}
use Rattle.sv_rule.specs.LockPlays.{IsOneWrite, MayWriteCell, WroteCell, without_cell, wrote_cell}
use Rattle.sv_rule.specs.Rule.{Kept}
use Rattle.sv_rule.specs.Table.{Box, cell_word, home, number, word}
use Rattle.sv_rule.specs.Tasks.{dues, fills, has_cell, has_db}
use Rattle.sv_model.specs.Turns.{Stands, Turns}
use Rattle.sv_model.specs.Tasks.{Task}
use Rattle.sv_rule.specs.Views.{Body, Desk, Disk, LaneView}
use Rattle.sv_rule.specs.declared.parts.Stored.{Stored}
use Rattle.sv_rule.specs.declared.parts.Stored.TheVariants as is
use Rattle.sv_rule.proofs.Basics.{append_none, has_one, true_not}
use Rattle.sv_rule.proofs.LockCounts.{cell_at, cell_one, dues_is, fills_le, no_held}
use Rattle.sv_rule_locks.proofs.CellGoes.{Cells, by_cell}
use Rattle.sv_rule.proofs.CellLaws.{says-more, says-write}
use Rattle.sv_rule_locks.proofs.CellReads.{eq-is, raised_le}
use Rattle.sv_rule.proofs.DbLock.{db-desk, owners-desk}
use Rattle.sv_rule.proofs.FitLaws.{fits-after}
use Rattle.sv_rule.proofs.InHandTurns.{ended-turn, removed-turn}
use Rattle.sv_rule.proofs.LockLaws.{lock-gave}
use Rattle.sv_rule.proofs.StepRests.{says-books, says-step}
use Rattle.sv_rule.proofs.Sums.{same-else, same_one, terms_le}

own_lanes : (l : ℕ) (more : List Write) → Every (λ w. w.lane ≡ l) more → by_lane l more ≡ more
own_lanes l [] own = refl
own_lanes l (w ∷ more) own = ap (λ z. cond z (w ∷ by_lane l more) (by_lane l more)) (eq-eqb w.lane l (own 0 w refl))
    ∙ ap (λ z. w ∷ z) (own_lanes l more (λ i x e. own (suc i) x e))

times_one : (k : ℕ) (b : Bool) (d : ℕ) (f : List ℕ) (n : ℕ) → times k f ≡ n → (b ≡ false → same k d ≡ 0)
    → times k (cond b (d ∷ f) f) ≡ same k d + n
times_one k true d f n e z = omega (arith, e)
times_one k false d f n e z = omega (arith, e, z refl)

not_false : (b : Bool) → not b ≡ false → b ≡ true
not_false true e = refl
not_false false e = absurd (true_not e)

times-without : (k c : ℕ) (due : List ℕ) → k ≢ c → times k (without_cell c due) ≡ times k due
times-without k c [] n = refl
times-without k c (d ∷ due) n = times_one k (not (d == c)) d (without_cell c due) (times k due)
    (times-without k c due n) (λ e. same-else k d (λ q. n (sym q ∙ eq-is d c (not_false (d == c) e))))

module _ {S D C B : Type 0} (books : S → Books) (disk : D → Disk) (cell : C → Option Cell) (body : B → Body) where
  writes_own : (n id c : ℕ) (b : Books) (u : Task) (more : List Write) (f k : ℕ) (v : LaneView)
      (rest : List (ℕ × Stored S D C B)) (y : C) → c < 64 → (may : MayWriteCell v c b u more (cell y) f k)
      → let m : Me (Stored S D C B) LaneView = (v, (cell_word c, is.Cell y) ∷ rest) in
      Allows (Kept books disk cell body) n id m (cell_word c) (λ _. 0) (WroteCell may.desk c b u more f k m)
  writes_own n id c b u more f k v rest y few may s kept long me fits =
      let i = cell_word c in
      let x = cell y in
      let w = wrote_cell may.desk c b u more f k v in
      let ws = set s.views id w in
      let homes = set s.homes i (some (is.Cell y)) in
      let accounts = kept.in_hand.accounts id v me may.alive in
      let desk = kept.home.desks id v me may.desk may.has in
      let now : Desk = record { books = b; work = may.desk.work; due = without_cell c may.desk.due } in
      let turns : Turns v.known.lane kept.b v.known.task b u more = subst
      (λ z. Turns v.known.lane z v.known.task b u more) desk.0 may.turns in
      let stands : Stands kept.b b = subst (λ z. Stands z b) desk.0 may.stands in
      let t : Fits b v.known = fits-after kept.b b turns.counts.later turns.counts.lawful v.known accounts.fits in
      let own = kept.held.cells c few in
      let one : has_cell c v ≡ 1 = cell_one c v may.found may.cell in
      let has : has_db v ≡ 1 = has_one v may.desk may.has in
      let mine : by_lane v.known.lane b.journal ≡ v.known.mine ++ more =
      ap (by_lane v.known.lane) turns.counts.journal ∙ filter-append (λ (z : Write). z.lane == v.known.lane)
      kept.b.journal more
      ∙ ap (λ l. by_lane v.known.lane kept.b.journal ++ l) (own_lanes v.known.lane more turns.counts.own)
      ∙ ap (λ l. l ++ more) accounts.mine in
      let no_fill_else : (j : ℕ) → j ≢ c → fills j v ≡ 0 = λ j ne. omega (
        arith,
        fills_le j v,
        cell_at j v (record { number = c; found = may.found }) may.cell,
        same-else j c (λ q. ne (sym q)),
      ) in
      let due_else : (j : ℕ) → j ≢ c → dues j v ≤ dues j w = λ j ne. omega
      (arith, dues_is j v may.desk may.has, times-without j c may.desk.due ne) in
      let none_more : more ≡ [] → b.journal ≡ kept.b.journal = λ e. turns.counts.journal
      ∙ ap (λ l. kept.b.journal ++ l) e ∙ sym (append_none kept.b.journal) in
      let says : (j : ℕ) (z : Option Cell) → j ≢ c → Says kept.b s.views j z → Says b ws j z = λ j z ne h.
      let moved : Says kept.b ws j z = says-step kept.b s.views id v w me j z (due_else j ne)
      (omega (arith, no_fill_else j ne)) h in
      ⊎_elim
      (λ (e : more ≡ []). says-books kept.b b ws j z stands.memtables (none_more e) moved)
      (λ (h : IsOneWrite b may.desk.work c more).
      subst (λ (q : List Memtable × List Write). CellSays q.0 q.1 (total (dues j) ws) (total (fills j) ws) j z)
      (λ q. (sym stands.memtables q, sym (turns.counts.journal ∙ ap (λ l. kept.b.journal ++ l) h.is) q))
      (says-write kept.b.memtables kept.b.journal h.it (total (dues j) ws) (total (fills j) ws) j c z
      (record {
        id = h.of.id;
        it = h.of.it;
        at = subst (λ q. entry q h.of.id ≡ Some h.of.it) stands.memtables
            h.of.at;
        live = h.of.live;
        is = h.of.is;
      }) h.mem ne moved))
      may.more_is in (
        w,
        gives,
        tt,
        by_cell books disk cell body s kept id v w me c 0 homes b more few (length-set s.homes i (some (is.Cell y)))
            (λ j ne. set_else s.homes i j (some (is.Cell y)) ne)
            may.alive refl refl refl refl refl refl refl refl refl refl (λ z. absurd (omega (arith, z)))
            (λ z g. absurd (omega (arith, z)))
            (⊎_elim (λ (e : more ≡ []). inr (none_more e))
            (λ (h : IsOneWrite b may.desk.work c more). inl (sym desk.1 ∙ h.resting)) may.more_is)
            stands turns
            record {
              fits = record {
                lawful = t.lawful;
                start = t.start;
                found = t.found;
                left = t.left;
                mine = subst (λ l. Continues (v.known.mine ++ more) l) (sym mine)
                    (continues-itself (v.known.mine ++ more));
                bodies = t.bodies;
                rows = t.rows;
                reads = t.reads;
                seen = raised_le v.known.seen f k (λ j. length (of_family j b.journal)) may.seen t.seen;
                removed = removed-turn kept.b b kept.work kept.work kept.start kept.d kept.d (number s) (number s)
                    s.views id v w v.known.lane more me kept.numbers.lawful kept.home.seats.once may.alive refl refl
                    refl refl turns.counts kept.in_hand;
                ended = ended-turn kept.b b kept.work kept.work kept.start kept.d kept.d (number s) (number s) s.views
                    id v w v.known.lane more me kept.numbers.lawful kept.home.seats.once may.alive refl refl refl refl
                    turns.counts kept.in_hand;
                round = t.round;
                frames = t.frames;
              };
              mine = mine;
            }
            (db-desk books disk cell body s kept id v w me may.desk now may.has refl b kept.work)
            (owners-desk books disk cell body s kept id v w me may.desk now may.has refl b kept.work refl desk.1)
            (λ j ne. sym (cell_at j v (record { number = c; found = may.found }) may.cell
            ∙ same-else j c (λ q. ne (sym q))))
            says
            (subst (λ (z : Box (Stored S D C B)). Lock (Cells books disk cell body b ws c) (has_cell c) 0 z ws)
            (sym (set_here s.homes i (some (is.Cell y)) (omega (arith, kept.home.seats.homes, few))))
            (lock-gave (Cells books disk cell body kept.b s.views c) (Cells books disk cell body b ws c) (has_cell c)
            (word s i) (home s i) s.views id v w (is.Cell y) me one refl (
              y,
              refl,
              says-more b.memtables b.journal 0 (total (dues c) ws) 0 (total (fills c) ws) c x (omega arith)
                  (omega arith) may.says,
            ) own))
            (λ h z. absurd (no_held h z))
            (λ j q h ne at_q z r. absurd (omega (
              arith,
              terms_le (has_cell c) s.views id j v q ne me at_q,
              cell_at c q h z,
              same_one c h.number r,
              one,
              own.bit,
              own.one,
            ))),
        refl,
      )

  pub writes_cell : (n id c : ℕ) (b : Books) (u : Task) (more : List Write) (f k : ℕ)
      (m : Me (Stored S D C B) LaneView) (rest : List (ℕ × Stored S D C B)) (y : C) → c < 64
      → (may : MayWriteCell m.0 c b u more (cell y) f k) → m.1 ≡ (cell_word c, is.Cell y) ∷ rest
      → Allows (Kept books disk cell body) n id m (cell_word c) (λ _. 0) (WroteCell may.desk c b u more f k m)
  writes_cell n id c b u more f k m rest y few may e = subst
      (λ (z : List (ℕ × Stored S D C B)). Allows (Kept books disk cell body) n id (m.0, z) (cell_word c) (λ _. 0)
      (WroteCell may.desk c b u more f k (m.0, z))) (sym e) (writes_own n id c b u more f k m.0 rest y few may)
