-- What the cells hold goes on to be so.
use Rattle.std.proofs.Common.{List, Option, Some, [], ap, arith, cond, false, ne_eqb, refl, sym, true, ℕ, ⊎_elim, ◌++◌, ◌==◌, ◌∙◌, ◌∷◌, ◌≡◌, ◌≢◌, ◌≤◌}
use Rattle.std.proofs.lemmas.List.Elements.{filter-append}
use Rattle.sv_model.specs.Cells.{Cell}
use Rattle.sv_model.specs.Journal.{borne_by, rows_of}
use Rattle.sv_model.specs.Registers.{EachEntry, entry}
use Rattle.sv_model.specs.declared.records.Memtable.{Memtable}
use Rattle.sv_model.specs.declared.writes.Write.{Write}
use Rattle.sv_model.proofs.FlatKeys.{gone}
use Rattle.sv_model.proofs.Registers.{entry-old, entry_le, entry_push, entry-some}
use Rattle.sv_rule.specs.Held.{CellSays, Occupied, fills_up, has_rows, is_due, is_vacant}
use Rattle.sv_model.specs.Lists.{at}
use Rattle.sv_model.specs.Turns.{EndsMemtables}
use Rattle.sv_rule.proofs.Basics.{append_none, some_is, true_not}

-- a cell may be due more often, and its lock be had by more
pub says-more : (memtables : List Memtable) (journal : List Write) (due due' fill fill' c : ℕ) (x : Option Cell)
    → due ≤ due' → fill ≤ fill' → CellSays memtables journal due fill c x → CellSays memtables journal due' fill' c x
says-more memtables journal due due' fill fill' c x d f (has_rows o e) = has_rows o e
says-more memtables journal due due' fill fill' c x d f (fills_up o e n) = fills_up o e (omega arith)
says-more memtables journal due due' fill fill' c x d f (is_vacant o e) = is_vacant o e
says-more memtables journal due due' fill fill' c x d f (is_due o n m it at gone e) = is_due o (omega arith) m it at
    gone e

-- a write of another memtable
bears_else : (journal : List Write) (w : Write) (m : ℕ) → w.mem ≢ m
    → borne_by m (journal ++ w ∷ []) ≡ borne_by m journal
bears_else journal w m n =
    filter-append (λ (x : Write). x.mem == m) journal (w ∷ [])
    ∙ ap (λ b. borne_by m journal ++ cond b (w ∷ []) []) (ne_eqb w.mem m n)
    ∙ sym (append_none (borne_by m journal))

-- the memtables of two cells are two
two_cells : (memtables : List Memtable) (c k : ℕ) (p : Occupied memtables c) (o : Occupied memtables k) → c ≢ k
    → o.id ≢ p.id
two_cells memtables c k p o n e =
    let same : Some o.it ≡ Some p.it = sym o.at ∙ ap (entry memtables) e ∙ p.at in
    n (sym p.is ∙ ap (λ (m : Memtable). m.cell) (sym (some_is same)) ∙ o.is)

-- a memtable that is Gone is not that of a cell
gone_other : (memtables : List Memtable) (k m : ℕ) (it : Memtable) (o : Occupied memtables k)
    → entry memtables m ≡ Some it → it.live ≡ false → o.id ≢ m
gone_other memtables k m it o at gone e =
    let same : Some o.it ≡ Some it = sym o.at ∙ ap (entry memtables) e ∙ at in
    true_not (sym o.live ∙ ap (λ (m : Memtable). m.live) (some_is same) ∙ gone)

-- a write of the memtable of one cell changes no other cell
pub says-write : (memtables : List Memtable) (journal : List Write) (w : Write) (due fill c k : ℕ) (x : Option Cell)
    (o : Occupied memtables k) → w.mem ≡ o.id → c ≢ k
    → CellSays memtables journal due fill c x → CellSays memtables (journal ++ w ∷ []) due fill c x
says-write memtables journal w due fill c k x o is n (has_rows p e) =
    has_rows p (e ∙ ap (λ l. Some (record { id = p.id; rows = rows_of l }))
    (sym (bears_else journal w p.id (λ q. two_cells memtables c k p o n (sym is ∙ q)))))
says-write memtables journal w due fill c k x o is n (fills_up p e f) =
    fills_up p (bears_else journal w p.id (λ q. two_cells memtables c k p o n (sym is ∙ q)) ∙ e) f
says-write memtables journal w due fill c k x o is n (is_vacant p e) = is_vacant p e
says-write memtables journal w due fill c k x o is n (is_due p f m it at gone e) =
    is_due p f m it at gone (e ∙ ap (λ l. Some (record { id = m; rows = rows_of l }))
    (sym (bears_else journal w m (λ q. gone_other memtables k m it o at gone (sym is ∙ q)))))

-- ---- a new memtable, at the cell k

module _ (memtables : List Memtable) (x : Memtable) (k : ℕ) (is : x.cell ≡ k) where
  old_occupied : (c : ℕ) → c ≢ k → Occupied (memtables ++ x ∷ []) c → Occupied memtables c
  old_occupied c n o = ⊎_elim
      (λ (e : entry memtables o.id ≡ Some o.it). record { id = o.id; it = o.it; at = e; live = o.live; is = o.is })
      (λ e. absurd (n (sym o.is ∙ ap (λ (m : Memtable). m.cell) e.1 ∙ is)))
      (entry_push memtables x o.id o.it o.at)

  new_occupied : (c : ℕ) → Occupied memtables c → Occupied (memtables ++ x ∷ []) c
  new_occupied c o = record {
    id = o.id;
    it = o.it;
    at = entry-old memtables (x ∷ []) o.id o.it o.at;
    live = o.live;
    is = o.is;
  }

  -- the other cells are as they were
  pub says-new : (journal : List Write) (due fill c : ℕ) (y : Option Cell) → c ≢ k
      → CellSays memtables journal due fill c y → CellSays (memtables ++ x ∷ []) journal due fill c y
  unfolding new_occupied
  says-new journal due fill c y n (has_rows o e) = has_rows (new_occupied c o) e
  says-new journal due fill c y n (fills_up o e f) = fills_up (new_occupied c o) e f
  says-new journal due fill c y n (is_vacant f e) = is_vacant (λ o. f (old_occupied c n o)) e
  says-new journal due fill c y n (is_due f d m it at gone e) = is_due (λ o. f (old_occupied c n o)) d m it
      (entry-old memtables (x ∷ []) m it at) gone e

-- ---- memtables that become Gone

module _ (old new : List Memtable) (e : EndsMemtables old new) where
  was_occupied : (c : ℕ) → Occupied new c → Occupied old c
  was_occupied c o =
      let x = entry-some old o.id (entry_le new o.id o.it o.at).0
      (omega (arith, (entry_le new o.id o.it o.at).1, e.long)) in
      let y = e.goes o.id x.0 x.1 in
      let same : y.0 ≡ o.it = some_is (sym y.1 ∙ o.at) in
      record {
        id = o.id;
        it = x.0;
        at = x.1;
        live = e.live o.id x.0 o.it x.1 o.at o.live;
        is = sym y.2.cell
            ∙ ap (λ (m : Memtable). m.cell) same ∙ o.is;
      }

  -- The cells of those that became Gone are due. The lane has no cell lock.
  pub says-ended : (journal : List Write) (due due' fill fill' c : ℕ) (x : Option Cell) → fill ≡ 0 → due ≤ due'
      → ((n : ℕ) (a : Memtable) → entry old n ≡ Some a → a.live ≡ true
      → EachEntry (λ k b. b.live ≡ true → b.cell ≡ a.cell → k ≡ n) old)
      → ((o : Occupied old c) (y : Memtable) → entry new o.id ≡ Some y → y.live ≡ false → 1 ≤ due')
      → CellSays old journal due fill c x → CellSays new journal due' fill' c x
  unfolding was_occupied
  says-ended journal due due' fill fill' c x unfilled d apart became (has_rows o is) =
      let y = e.goes o.id o.it o.at in
      elim y.0.live as (λ q. y.0.live ≡ q → CellSays new journal due' fill' c x) [
        | true ↦ λ z. has_rows (record { id = o.id; it = y.0; at = y.1; live = z; is = y.2.cell ∙ o.is }) is
        | false ↦ λ z. is_due
            (λ p. let q = was_occupied c p in let same = apart o.id o.it o.at o.live q.id q.it q.at q.live
            (q.is ∙ sym o.is) in
            let there : Some p.it ≡ Some y.0 = sym p.at ∙ ap (entry new) same ∙ y.1 in
            true_not (sym p.live ∙ ap (λ (m : Memtable). m.live) (some_is there) ∙ z))
            (became o y.0 y.1 z) o.id y.0 y.1 z is
      ] refl
  says-ended journal due due' fill fill' c x unfilled d apart became (fills_up o is f) = absurd (omega arith)
  says-ended journal due due' fill fill' c x unfilled d apart became (is_vacant f is) = is_vacant
      (λ o. f (was_occupied c o)) is
  says-ended journal due due' fill fill' c x unfilled d apart became (is_due f h m it at gone is) =
      let y = e.goes m it at in is_due (λ o. f (was_occupied c o)) (omega arith) m y.0 y.1 (y.2.gone gone) is
