-- What the cells hold goes on.
use Rattle.std.proofs.Common.{◌≡◌, ◌≢◌, ◌<◌, ◌+◌, ◌++◌, ◌∷◌, ◌⊎◌, inl, inr, ⊎_elim, ℕ, Bool, true, false, List, [], length, set, Option, Some, None, refl, sym, ap, ◌∙◌, subst, arith, length-set}
use Rattle.std.specs.Prelude.{slice_get}
use Rattle.sv_model.specs.declared.writes.Row.{Row}
use Rattle.sv_model.specs.declared.writes.Write.{Write}
use Rattle.sv_model.specs.declared.records.Memtable.{Memtable}
use Rattle.sv_model.specs.declared.records.SuperVersion.{SuperVersion}
use Rattle.sv_model.specs.After.{KeepsMemtable}
use Rattle.sv_model.specs.Books.{Books}
use Rattle.sv_model.specs.Cells.{Cell}
use Rattle.sv_model.specs.Journal.{borne_by, row_of, rows_of}
use Rattle.sv_model.specs.Lawful.{Lawful}
use Rattle.sv_model.specs.Lists.{In}
use Rattle.sv_model.specs.Named.{IsLive, memtable_live}
use Rattle.sv_model.specs.Registers.{entry}
use Rattle.sv_model.proofs.Registers.{entry-new, entry-old, entry_push, get-some}
use Rattle.sv_laws.specs.Cleaning.{AreCellsGone, IsCleaned}
use Rattle.sv_laws.specs.Installs.{HasCell}
use Rattle.sv_laws.proofs.BorneRows.{borne-other, borne-same}
use Rattle.sv_laws.proofs.GrownRegisters.{placed-set, placed_get}
use Rattle.sv_laws.specs.Growing.{IsPlaced}
use Rattle.sv_model.proofs.Entries.{get_push, in-left, in-none, in-right, some}
use Rattle.sv_store.specs.Cells.{CellsHold, HoldsAt, IsInCell, IsVacant, Vacated, with_row}

cell-is : (w : Cell) (m : ℕ) (R : List Row) → w.id ≡ m → w.rows ≡ R → w ≡ record { id = m; rows = R }
cell-is w m R p q = λ i. record { id = p i; rows = q i }

-- the memtable as its cell holds it
abbrev pub cell_now : List Write → ℕ → Cell
cell_now J m = record { id = m; rows = rows_of (borne_by m J) }

module _ (b : Books) (law : Lawful b) (cells : List (Option Cell)) (hold : CellsHold b.journal b.memtables cells) where
  -- a Live memtable is in its cell
  pub in-cell : (m : ℕ) (it : Memtable) → entry b.memtables m ≡ Some it → it.live ≡ true → slice_get cells it.cell ≡ Some (Some (cell_now b.journal m))
  in-cell m it e live =
      let p = law.cells m it e live in
      let g = get-some cells it.cell (omega (arith, p.0, hold.many)) in
      by g.0 g.1 (hold.each it.cell g.0 g.1)
    where
      by : (x : Option Cell) → slice_get cells it.cell ≡ Some x → HoldsAt b.journal b.memtables it.cell x → slice_get cells it.cell ≡ Some (Some (cell_now b.journal m))
      by None g h = absurd (h m it e live refl)
      by (Some w) g h =
          let q : w.id ≡ m = (law.cells m it e live).1 w.id h.it h.at h.live h.cell_is in
          g ∙ ap (λ (z : Cell). Some (Some z)) (cell-is w m (rows_of (borne_by m b.journal)) q (h.rows ∙ ap (λ n. rows_of (borne_by n b.journal)) q))

-- ---- a cleanup

module _ (b e : Books) (law : Lawful b) (cells new : List (Option Cell)) (hold : CellsHold b.journal b.memtables cells) (s : ℕ) (x : SuperVersion)
    (g : IsCleaned b e s x) (gone : List ℕ) (are : AreCellsGone b.memtables e.memtables gone) (v : Vacated gone cells new) where
  -- the cell of a memtable that is still Live is not one of those that went
  stays : (m : ℕ) (it : Memtable) → entry e.memtables m ≡ Some it → it.live ≡ true → (In it.cell gone → ⊥) × (slice_get cells it.cell ≡ Some (Some (cell_now b.journal m)))
  stays m it em live =
      let here : IsLive memtable_live e.memtables m = record { it = it; at = em; live = live } in
      let w = ((g.memtables.exact m).0 here).0 in
      let k = g.memtables.goes m w.it w.at in
      let cell : w.it.cell ≡ it.cell = sym k.2.cell ∙ ap (λ (z : Memtable). z.cell) (some (sym k.1 ∙ em)) in (
        (λ i.
            let went = (are.exact it.cell).0 i in
            let one = (law.cells m w.it w.at w.live).1 went.id went.it went.at went.was_live (went.is ∙ sym cell) in
            went.gone (subst (IsLive memtable_live e.memtables) (sym one) here)),
        ap (slice_get cells) (sym cell) ∙ in-cell b law cells hold m w.it w.at w.live,
      )

  vacant : (c : ℕ) → slice_get new c ≡ Some None → IsVacant e.memtables c
  vacant c q m it em live cell =
      let st = stays m it em live in
      let z : Some (Some (cell_now b.journal m)) ≡ Some None = sym st.1 ∙ sym (v.others it.cell st.0) ∙ ap (slice_get new) cell ∙ q in
      absurd (cc)

  still : (c : ℕ) (w : Cell) → (In c gone → ⊥) → (d : IsInCell b.journal b.memtables c w) → (y : Memtable) → entry e.memtables w.id ≡ Some y → KeepsMemtable d.it y
      → (r : Bool) → y.live ≡ r → IsInCell b.journal e.memtables c w
  still c w out d y at k true l = record { it = y; at = at; live = l; cell_is = k.cell ∙ d.cell_is; rows = d.rows }
  still c w out d y at k false l =
      absurd (out ((are.exact c).1 (record {
        id = w.id;
        it = d.it;
        at = d.at;
        was_live = d.live;
        gone = λ z. let t : true ≡ false = sym z.live ∙ ap (λ (u : Memtable). u.live) (some (sym z.at ∙ at)) ∙ l in absurd (cc);
        is = d.cell_is;
      })))

  held : (c : ℕ) (y : Option Cell) → slice_get new c ≡ Some y → HoldsAt b.journal e.memtables c y
  held c None q = vacant c q
  held c (Some w) q =
      let out : In c gone → ⊥ = λ i. let z : Some w ≡ None = v.vacant c (Some w) i q in absurd (cc) in
      let d : IsInCell b.journal b.memtables c w = hold.each c (Some w) (sym (v.others c out) ∙ q) in
      let k = g.memtables.goes w.id d.it d.at in
      still c w out d k.0 k.1 k.2 k.0.live refl

  pub cleaned-cells : CellsHold e.journal e.memtables new
  cleaned-cells = subst (λ J. CellsHold J e.memtables new) (sym (ap (λ (z : Books). z.journal) g.is)) (record { many = v.many ∙ hold.many; each = held })

-- ---- a new memtable

module _ (J : List Write) (M : List Memtable) (cells : List (Option Cell)) (hold : CellsHold J M cells) (y : Memtable) (room : HasCell M y.cell) (live : y.live ≡ true)
    (none : borne_by (length M + 1) J ≡ []) where
  abbrev pub first_cell : Cell
  first_cell = record { id = length M + 1; rows = [] }

  filled-at : (c : ℕ) (z : Option Cell) → ((c ≡ y.cell) × (z ≡ Some first_cell)) ⊎ ((c ≢ y.cell) × (slice_get cells c ≡ Some z)) → HoldsAt J (M ++ y ∷ []) c z
  filled-at c z h = ⊎_elim
      (λ q. subst (HoldsAt J (M ++ y ∷ []) c) (sym q.1) (record {
        it = y;
        at = entry-new M y (length M + 1) refl;
        live = live;
        cell_is = sym q.0;
        rows = ap rows_of (sym none);
      }))
      (λ q. other z q.0 (hold.each c z q.1))
      h
    where
      other : (z : Option Cell) → c ≢ y.cell → HoldsAt J M c z → HoldsAt J (M ++ y ∷ []) c z
      other None d h = λ n x e l q. ⊎_elim (λ o. h n x o l q) (λ o. d (sym q ∙ ap (λ (u : Memtable). u.cell) o.1)) (entry_push M y n x e)
      other (Some w) d h = record { it = h.it; at = entry-old M (y ∷ []) w.id h.it h.at; live = h.live; cell_is = h.cell_is; rows = h.rows }

  pub filled-cells : CellsHold J (M ++ y ∷ []) (set cells y.cell (Some first_cell))
  filled-cells =
      let g = get-some cells y.cell (omega (arith, room.within, hold.many)) in
      let p = placed-set cells y.cell g.0 (Some first_cell) g.1 in
      record {
        many = length-set cells y.cell (Some first_cell) ∙ hold.many;
        each = λ c z e. filled-at c z (placed_get cells (set cells y.cell (Some first_cell)) y.cell (Some first_cell) p c z e);
      }

-- ---- a row

module _ (b : Books) (law : Lawful b) (cells : List (Option Cell)) (hold : CellsHold b.journal b.memtables cells) (w : Write) (it : Memtable)
    (at : entry b.memtables w.mem ≡ Some it) (live : it.live ≡ true) where
  abbrev pub grown_cell : Cell
  grown_cell = with_row (cell_now b.journal w.mem) w.key w.op

  rows-grow : grown_cell.rows ≡ rows_of (borne_by w.mem (b.journal ++ w ∷ []))
  rows-grow = sym (ap rows_of (borne-same b.journal w) ∙ map_push (borne_by w.mem b.journal))
    where
      map_push : (l : List Write) → rows_of (l ++ w ∷ []) ≡ rows_of l ++ row_of w ∷ []
      map_push [] = refl
      map_push (u ∷ l) = ap (λ (r : List Row). row_of u ∷ r) (map_push l)

  written-at : (c : ℕ) (z : Option Cell) → ((c ≡ it.cell) × (z ≡ Some grown_cell)) ⊎ ((c ≢ it.cell) × (slice_get cells c ≡ Some z)) → HoldsAt (b.journal ++ w ∷ []) b.memtables c z
  written-at c z h = ⊎_elim
      (λ q. subst (HoldsAt (b.journal ++ w ∷ []) b.memtables c) (sym q.1) (record { it = it; at = at; live = live; cell_is = sym q.0; rows = rows-grow }))
      (λ q. other z q.0 (hold.each c z q.1))
      h
    where
      other : (z : Option Cell) → c ≢ it.cell → HoldsAt b.journal b.memtables c z → HoldsAt (b.journal ++ w ∷ []) b.memtables c z
      other None d h = h
      other (Some v) d h = record {
        it = h.it;
        at = h.at;
        live = h.live;
        cell_is = h.cell_is;
        rows = h.rows ∙ ap rows_of (sym (borne-other v.id b.journal w (λ q. d (sym h.cell_is ∙ ap (λ (u : Memtable). u.cell) (some (sym h.at ∙ ap (entry b.memtables) (sym q) ∙ at))))));
      }

  pub written-cells : CellsHold (b.journal ++ w ∷ []) b.memtables (set cells it.cell (Some grown_cell))
  written-cells =
      let p = placed-set cells it.cell (Some (cell_now b.journal w.mem)) (Some grown_cell) (in-cell b law cells hold w.mem it at live) in
      record {
        many = length-set cells it.cell (Some grown_cell) ∙ hold.many;
        each = λ c z e. written-at c z (placed_get cells (set cells it.cell (Some grown_cell)) it.cell (Some grown_cell) p c z e);
      }

-- ---- cells that are made vacant

pub vacated-none : (old : List (Option Cell)) → Vacated [] old old
vacated-none old = record { many = refl; vacant = λ c x i e. absurd (in-none c i); others = λ c out. refl }

in-last : (d : ℕ) (seen : List ℕ) (c : ℕ) → In d (seen ++ c ∷ []) → In d seen ⊎ (d ≡ c)
in-last d seen c i = ⊎_elim (λ q. inl (record { at = i.at; is = q })) (λ q. inr q) (get_push seen c i.at d i.is)

module _ (seen : List ℕ) (old mid : List (Option Cell)) (v : Vacated seen old mid) (c : ℕ) (low : c < length mid) where
  last : IsPlaced mid (set mid c None) c None
  last = let g = get-some mid c low in placed-set mid c g.0 None g.1

  pub vacated-more : Vacated (seen ++ c ∷ []) old (set mid c None)
  vacated-more = record {
    many = length-set mid c None ∙ v.many;
    vacant = λ d x i e. ⊎_elim
        (λ q. q.1)
        (λ q. ⊎_elim (λ j. v.vacant d x j q.1) (λ j. absurd (q.0 j)) (in-last d seen c i))
        (placed_get mid (set mid c None) c None last d x e);
    others = λ d out.
        last.others d (λ q. out (subst (λ n. In n (seen ++ c ∷ [])) (sym q) (in-right c seen (c ∷ []) (record { at = 0; is = refl }))))
        ∙ v.others d (λ i. out (in-left d seen (c ∷ []) i));
  }
