-- The laws of the rule, at the words that the code computes.
use Rattle.std.proofs.Common.{List, None, Some, get_or, ap, ◌+◌, ◌%◌, ◌^◌, eqb, false, length, refl, subst, sym, ℕ, ◌<◌, ◌∙◌, ◌∷◌, ◌≡◌, ◌≤◌, Option}
use prog.Atomic.{either}
use Rattle.atomic_table.specs.Table.{Allows, Me, rest}
use Rattle.sv_model.specs.Books.{Books}
use Rattle.sv_model.specs.Cells.{Cell}
use Rattle.sv_model.specs.Lists.{In}
use Rattle.sv_model.specs.declared.sv_refs.SvRef.{SvRef}
use Rattle.sv_model.specs.declared.writes.Write.{Write}
use Rattle.sv_rule_locks.proofs.CellWrites.{writes_cell}
use Rattle.sv_rule_locks.proofs.Cells.{gives_cell, takes_cell}
use Rattle.sv_rule_locks.proofs.DbLocks.{gives_db}
use Rattle.sv_rule_locks.proofs.DirLocks.{gives_dir}
use Rattle.sv_rule.specs.Blanks.{desk_of, no_desk}
use Rattle.sv_rule.specs.LockPlays.{FindsAsBooks, GaveCell, GaveDb, GaveDir, MayGiveCell, MayGiveDb, MayGiveDir, MayWriteCell, TookCell, TookDb, TookDir, WroteCell}
use Rattle.sv_rule_slots.proofs.Loads.{loads}
use Rattle.sv_rule_slots.proofs.References.{adds_at}
use Rattle.sv_rule.specs.ReferencePlays.{Added, CanAdd}
use Rattle.sv_rule.specs.Views.{Bodied, Desk, FileRead}
use Rattle.sv_model.specs.Tasks.{Task}
use Rattle.sv_rule_slots.proofs.SlotPuts.{puts, rests}
use Rattle.sv_rule_slots.proofs.SlotUses.{uses}
use Rattle.sv_rule.specs.Ledger.{most_hand}
use Rattle.sv_rule.specs.Rule.{Kept}
use Rattle.sv_rule.specs.SlotPlays.{Looked, PutBack, Rested, Used}
use Rattle.sv_rule.specs.Table.{cell_word, number_word, reference_word, slot_home, slot_of, slot_word, spot}
use Rattle.sv_rule.specs.Views.{Body, Disk, LaneView, away, held}
use Rattle.sv_rule.specs.declared.parts.Stored.{Stored}
use Rattle.sv_rule.specs.declared.parts.Stored.TheVariants as is
use Rattle.sv_slots.specs.Seats.{CarriesNothing, CarriesRef, IsLane, Lends, bodied}

module _ {S D C B : Type 0} (books : S → Books) (disk : D → Disk) (cell : C → Option Cell) (body : B → Body)
    (n id : ℕ) (m : Me (Stored S D C B) LaneView) (lane f i : ℕ) (mine : IsLane m.0 lane) (near : f < 16) where
  pub looks_at : i ≡ number_word f → Allows (Kept books disk cell body) n id m i (λ y. y) (Looked f m)
  looks_at at_word = subst (λ (z : ℕ). Allows (Kept books disk cell body) n id m z (λ y. y) (Looked f m)) (sym at_word)
      (loads books disk cell body n id m f near mine.alive)

  module _ (at_word : i ≡ slot_word (spot lane f)) where
    at : i ≡ slot_word (spot m.0.known.lane f)
    at = at_word ∙ ap (λ z. slot_word (spot z f)) (sym mine.lane_is)

    pub uses_at : (k c : ℕ) → k ≡ c → slot_of m.0 f ≡ away
        → Allows (Kept books disk cell body) n id m i (λ _. 1) (Used body f c m)
    uses_at k c e free = subst
        (λ (z : ℕ). Allows (Kept books disk cell body) n id m z (λ _. 1) (Used body f c m)) (sym at)
        (uses books disk cell body n id m f c near mine.alive free)

    pub puts_at : (p x : ℕ) → p ≡ x → 256 ≤ p → Lends m.0 f p → CarriesRef body m.0 lane f p m.1
        → Allows (Kept books disk cell body) n id m i (λ y. either (eqb y 1) x y) (PutBack f p m)
    puts_at p x same big lent front = subst
        (λ (z : ℕ × ℕ). Allows (Kept books disk cell body) n id m z.0 (λ y. either (eqb y 1) z.1 y) (PutBack f p m))
        (λ c. (sym at c, same c))
        (puts books disk cell body n id m front.0 f p lent.0 front.1 near mine.alive lent.1 front.2 big
        (subst (λ (z : ℕ). In (record { pack = z; body = body front.1.body.value }) m.0.known.bodies) front.2
        front.3)
        (subst (λ (z : ℕ). m.1 ≡ (slot_home (spot z f), is.Cached front.1) ∷ front.0) (sym mine.lane_is) front.4))

    pub rests_at : (p k : ℕ) → slot_of m.0 f ≡ held p → length m.0.hand < most_hand → CarriesNothing lane f m.1
        → Allows (Kept books disk cell body) n id m i (λ _. 0) (Rested f p k m)
    rests_at p k has room front = subst
        (λ (z : ℕ). Allows (Kept books disk cell body) n id m z (λ _. 0) (Rested f p k m)) (sym at)
        (rests books disk cell body n id m front.0 f p k near mine.alive has room
        (subst (λ (z : ℕ). m.1 ≡ (slot_home (spot z f), is.Nothing) ∷ front.0) (sym mine.lane_is) front.1))

module _ {S D C B : Type 0} (books : S → Books) (disk : D → Disk) (cell : C → Option Cell) (body : B → Body)
    (n id : ℕ) (m : Me (Stored S D C B) LaneView) (lane : ℕ) (mine : IsLane m.0 lane) where
  pub adds_bodied : (of : SvRef B) (x : Bodied) (p : ℕ) → x ≡ bodied body of → p ≡ of.pack → 256 ≤ p
      → CanAdd (bodied body of) m.0 → length m.0.hand < most_hand
      → Allows (Kept books disk cell body) n id m (reference_word (p % 256)) (λ y. (y + 1) % 2 ^ 64) (Added x m)
  adds_bodied of x p is e big can room = subst
      (λ (z : Bodied). Allows (Kept books disk cell body) n id m (reference_word (p % 256)) (λ y. (y + 1) % 2 ^ 64)
      (Added z m)) (sym is) (adds_at books disk cell body n id m (bodied body of) p e big can mine.alive room)

-- ---- locks

module _ {S D C B : Type 0} (r : ℕ) (m n : Me (Stored S D C B) LaneView) (e : r ≡ 0) where
  pub took_state : (books : S → Books) (t : TookDb books m r n) → n.1 ≡ (0, is.State (t.free e).0) ∷ rest n.1
  took_state books t =
      let x = t.free e in
      let l : n.1 ≡ (0, is.State x.0) ∷ m.1 = ap (λ (z : Me (Stored S D C B) LaneView). z.1) x.1 in
      l ∙ (λ k. (0, is.State x.0) ∷ rest (sym l k))

  pub took_directory : (disk : D → Disk) (t : TookDir disk m r n) → n.1 ≡ (1, is.Dir (t.free e).0) ∷ rest n.1
  took_directory disk t =
      let x = t.free e in
      let l : n.1 ≡ (1, is.Dir x.0) ∷ m.1 = ap (λ (z : Me (Stored S D C B) LaneView). z.1) x.1 in
      l ∙ (λ k. (1, is.Dir x.0) ∷ rest (sym l k))

  pub found_cell : (cell : C → Option Cell) (c i : ℕ) (t : TookCell cell c m r n) → i ≡ cell_word c
      → n.1 ≡ (i, is.Cell (t.free e).0) ∷ rest n.1
  found_cell cell c i t at_word =
      let x = t.free e in
      let l : n.1 ≡ (cell_word c, is.Cell x.0) ∷ m.1 = ap (λ (z : Me (Stored S D C B) LaneView). z.1) x.1 in
      l ∙ (λ k. (sym at_word k, is.Cell x.0) ∷ rest (sym l k))

pub desk_is_of : (v : LaneView) (d : Desk) → v.locks.db ≡ Some d → desk_of v ≡ d
desk_is_of v d e = ap (λ (o : Option Desk). elim o as (λ _. Desk) [ None ↦ no_desk | Some d ↦ d ]) e

module _ {S D C B : Type 0} (books : S → Books) (disk : D → Disk) (cell : C → Option Cell) (body : B → Body)
    (n id : ℕ) (m m₁ : Me (Stored S D C B) LaneView) where
  pub gives_state : (st : S) (u : Task) → m₁ ≡ (m.0, (0, is.State st) ∷ rest m.1) → MayGiveDb m.0 (books st) u
      → Allows (Kept books disk cell body) n id m₁ 0 (λ _. 0) (GaveDb books u m₁)
  gives_state st u e may = subst
      (λ (z : Me (Stored S D C B) LaneView). Allows (Kept books disk cell body) n id z 0 (λ _. 0) (GaveDb books u z))
      (sym e) (gives_db books disk cell body n id (m.0, (0, is.State st) ∷ rest m.1) (rest m.1) st u may refl)

  pub gives_directory : (y : D) (u : Task) (reads : List FileRead) (names : List (List ℕ)) (lists rise : ℕ)
      → m₁ ≡ (m.0, (1, is.Dir y) ∷ rest m.1) → MayGiveDir m.0 (disk y) u reads names lists rise
      → Allows (Kept books disk cell body) n id m₁ 1 (λ _. 0) (GaveDir u reads names lists rise m₁)
  gives_directory y u reads names lists rise e may = subst
      (λ (z : Me (Stored S D C B) LaneView). Allows (Kept books disk cell body) n id z 1 (λ _. 0)
      (GaveDir u reads names lists rise z)) (sym e)
      (gives_dir books disk cell body n id u reads names lists rise (m.0, (1, is.Dir y) ∷ rest m.1) (rest m.1) y may
      refl)

  pub gives_at : (c i f cut : ℕ) (y : C) → i ≡ cell_word c → c < 64 → MayGiveCell m.0 c (cell y) f cut
      → m₁ ≡ (m.0, (i, is.Cell y) ∷ rest m.1)
      → Allows (Kept books disk cell body) n id m₁ i (λ _. 0) (GaveCell f cut m₁)
  gives_at c i f cut y at_word few may e = subst
      (λ (z : ℕ × Me (Stored S D C B) LaneView). Allows (Kept books disk cell body) n id z.1 z.0 (λ _. 0)
      (GaveCell f cut z.1))
      (λ q. (sym at_word q, (sym (e ∙ λ p. (m.0, (at_word p, is.Cell y) ∷ rest m.1))) q))
      (gives_cell books disk cell body n id c f cut (m.0, (cell_word c, is.Cell y) ∷ rest m.1) (rest m.1) y few may
      refl)

  pub writes_at : (c i : ℕ) (b : Books) (u : Task) (more : List Write) (f k : ℕ) (y : C) (d : Desk)
      → i ≡ cell_word c → c < 64 → (may : MayWriteCell m.0 c b u more (cell y) f k) → may.desk ≡ d
      → m₁ ≡ (m.0, (i, is.Cell y) ∷ rest m.1)
      → Allows (Kept books disk cell body) n id m₁ i (λ _. 0) (WroteCell d c b u more f k m₁)
  writes_at c i b u more f k y d at_word few may desk e = subst
      (λ (z : ℕ × Me (Stored S D C B) LaneView × Desk). Allows (Kept books disk cell body) n id z.1 z.0 (λ _. 0)
      (WroteCell z.2 c b u more f k z.1))
      (λ q. (sym at_word q, (sym (e ∙ λ p. (m.0, (at_word p, is.Cell y) ∷ rest m.1))) q, desk q))
      (writes_cell books disk cell body n id c b u more f k (m.0, (cell_word c, is.Cell y) ∷ rest m.1) (rest m.1) y
      few may refl)

module _ {S D C B : Type 0} (books : S → Books) (disk : D → Disk) (cell : C → Option Cell) (body : B → Body)
    (n id : ℕ) (m : Me (Stored S D C B) LaneView) where
  pub takes_at : (c g i : ℕ) → g ≡ c → i ≡ cell_word c → c < 64 → m.0.seat.spent ≡ false → m.0.locks.cell ≡ None
      → Allows (Kept books disk cell body) n id m i (λ y. either (eqb y 0) 1 y) (TookCell cell g m)
  takes_at c g i same at_word few alive bare = subst
      (λ (z : ℕ × ℕ). Allows (Kept books disk cell body) n id m z.0 (λ y. either (eqb y 0) 1 y)
      (TookCell cell z.1 m)) (λ q. (sym at_word q, sym same q))
      (takes_cell books disk cell body n id c m few alive bare)

cell_in : {S D C B : Type 0} → C → Stored S D C B → C
cell_in d (is.Cell x) = x
cell_in d _ = d

-- what a taking of a cell tells of its books, of what was found there
pub finds_books : {S D C B : Type 0} (cell : C → Option Cell) (c i r : ℕ) (m m' n : Me (Stored S D C B) LaneView)
    → TookCell cell c m r n → r ≡ 0 → i ≡ cell_word c → m ≡ m' → (y : C) → n.1 ≡ (i, is.Cell y) ∷ rest n.1
    → FindsAsBooks m'.0 c (cell y)
unfolding cell_in
finds_books {S} {D} {C} {B} cell c i r m m' n t e at_word same y found =
    let x = t.free e in
    let first = found_cell r m n e cell c i t at_word in
    let it : x.0 ≡ y = ap (λ (l : List (ℕ × Stored S D C B)). cell_in y (get_or l 0 (0, is.Cell y)).1)
    (sym first ∙ found) in
    subst (λ (z : LaneView × C). FindsAsBooks z.0 c (cell z.1)) (λ k. ((same k).0, it k)) x.2
