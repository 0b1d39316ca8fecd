-- What a taking of a cell reads fits the books.
use Rattle.std.proofs.Common.{Bool, List, None, Option, Some, [], ap, arith, cond, drop, false, filter, inl, inr, length, length-drop, max, nat_lt, ne_eqb, refl, slice_get, subst, suc, sym, take, true, zero, ℕ, ⊎_elim, ◌&&◌, ◌++◌, ◌+◌, ◌/◌, ◌<◌, ◌==◌, ◌||◌, ◌∙◌, ◌∷◌, ◌≡◌, ◌≤◌, ◌⊎◌}
use Rattle.std.proofs.lemmas.List.{length-map}
use Rattle.std.specs.List.{list_any}
use mathlib.Core.Logic.{dite}
use native.Mathlib.Decide.{ℕ_discrete}
use Rattle.sv_model.specs.After.{Continues}
use Rattle.sv_model.specs.Books.{Books, end_of}
use Rattle.sv_model.specs.Cells.{Cell}
use Rattle.sv_model.specs.Described.{BearsFrom}
use Rattle.sv_model.specs.Journal.{borne_by, of_family, row_of, rows_of}
use Rattle.sv_model.specs.Lawful.{Lawful}
use Rattle.sv_model.specs.Lists.{Every, at}
use Rattle.sv_model.specs.Registers.{entry}
use Rattle.sv_model.specs.declared.records.Memtable.{Memtable}
use Rattle.sv_model.specs.declared.writes.Write.{Write}
use Rattle.sv_model.proofs.AfterLaws.{continues-itself}
use Rattle.sv_model.proofs.FlatKeys.{gone}
use Rattle.sv_model.proofs.FlatReads.{within}
use Rattle.sv_model.proofs.SearchLaws.{found}
use Rattle.sv_rule.specs.Fits.{BodyFits, Fits, IsClosed, RowsFit, cell_of}
use Rattle.sv_rule.specs.Held.{CellSays, fills_up, has_rows, is_due, is_vacant}
use Rattle.sv_rule.specs.LockPlays.{IsActiveCut, IsCut, closes, raised, read_of}
use Rattle.sv_model.specs.Supers.{end_at, end_in}
use Rattle.sv_rule.specs.UnderWay.{fit}
use Rattle.sv_rule.specs.Views.{Bodied, Desk, FrozenAt, LaneView, RowsRead}
use Rattle.sv_rule.proofs.Basics.{append_none, every_push, some_is}
use Rattle.sv_rule.proofs.LaterBooks.{get-map}
use Rattle.sv_rule.proofs.Sums.{at-put_else, at-put_same}
use Rattle.sv_model.proofs.Basics.{none_some}

-- ---- what is raised

-- what is seen stays within bounds
pub raised_le : (seen : List ℕ) (f n : ℕ) (most : ℕ → ℕ) → n ≤ most f → ((k : ℕ) → at 0 seen k ≤ most k) → (k : ℕ)
    → at 0 (raised seen f n) k ≤ most k
raised_le seen f n most le all k = dite (ℕ_discrete k f)
    (λ e. let a = at-put_same 0 seen f (max (at 0 seen f) n) in
    let b : at 0 (raised seen f n) k ≡ at 0 (raised seen f n) f = ap (at 0 (raised seen f n)) e in
    omega (arith, all f, ap most e))
    (λ ne. let a = at-put_else 0 seen f k (max (at 0 seen f) n) ne in omega (arith, all k))

-- ---- what a taking reads

any_at : {A : Type 0} (p : A → Bool) (l : List A) → list_any p l ≡ true → (i : ℕ) × (x : A) × (slice_get l i ≡ Some x)
    × (p x ≡ true)
any_at p [] e = absurd (cc)
any_at {A} p (x ∷ l) e = one (p x) refl e (λ h. any_at p l h)
  where
    one : (b : Bool) → p x ≡ b → (b || list_any p l) ≡ true
        → (list_any p l ≡ true → (i : ℕ) × (y : A) × (slice_get l i ≡ Some y) × (p y ≡ true)) → (i : ℕ) × (y : A)
        × (slice_get (x ∷ l) i ≡ Some y) × (p y ≡ true)
    one true is e later = (0, x, refl, is)
    one false is e later = let h = later e in (suc h.0, h.1, h.2, h.3)

pub eq-is : (x y : ℕ) → (x == y) ≡ true → x ≡ y
eq-is x y e = dite (ℕ_discrete x y) (λ h. h) (λ n. absurd (clash (sym (ne_eqb x y n) ∙ e)))
  where
    clash : false ≡ true → ⊥
    clash e = cc

or_true : (a b : Bool) → (a || b) ≡ true → (a ≡ true) ⊎ (b ≡ true)
or_true true b e = inl refl
or_true false b e = inr e

and_true : (a b : Bool) → (a && b) ≡ true → (a ≡ true) × (b ≡ true)
and_true true b e = (refl, e)
and_true false b e = absurd (cc)

lt-is : (x y : ℕ) → nat_lt x y ≡ true → x < y
lt-is x y e = grind (arith, e)

-- what the view says is closed is closed in books that fit its bodies
closes-closed : (b : Books) (bodies : List Bodied) (seen : List ℕ) (c : Cell) → Every (BodyFits b) bodies
    → ((f : ℕ) → at 0 seen f ≤ length (of_family f b.journal)) → list_any (closes seen c) bodies ≡ true
    → IsClosed b.journal b.lists b.memtables c.id (length c.rows)
closes-closed b bodies seen c fit within e =
    let x = any_at (closes seen c) bodies e in
    let t = fit x.0 x.1 x.2 in
    ⊎_elim
    (λ (h : list_any (λ (k : FrozenAt). k.frozen.id == c.id) x.1.body.frozen ≡ true).
    let f = any_at (λ (k : FrozenAt). k.frozen.id == c.id) x.1.body.frozen h in
    inl (record {
      id = t.super.descriptor.list;
      list = t.fits.list;
      at = t.fits.list_at;
      has = record {
        at = f.0;
        is = ap (λ l. slice_get l f.0) t.members
            ∙ get-map (λ (k : FrozenAt). k.frozen.id) x.1.body.frozen f.0 f.1 f.2
            ∙ ap Some (eq-is f.1.frozen.id c.id f.3);
      };
    }))
    (λ h. let q = and_true (x.1.body.descriptor.active == c.id)
    (nat_lt (x.1.body.descriptor.base + length c.rows) (at 0 seen x.1.body.descriptor.family)) h in
    let active : t.super.descriptor.active ≡ c.id = ap (λ d. d.active) (sym t.descriptor)
    ∙ eq-is x.1.body.descriptor.active c.id q.0 in
    let family : t.fits.active.family ≡ x.1.body.descriptor.family = t.fits.active_family
    ∙ ap (λ d. d.family) (sym t.descriptor) in
    let base : x.1.body.descriptor.base ≡ t.fits.active.first = ap (λ d. d.base) t.descriptor ∙ t.fits.base in
    let past : x.1.body.descriptor.base + length c.rows < at 0 seen x.1.body.descriptor.family = lt-is
    (x.1.body.descriptor.base + length c.rows) (at 0 seen x.1.body.descriptor.family) q.1 in
    inr (record {
      it = t.fits.active;
      at = subst (λ m. entry b.memtables m ≡ Some t.fits.active) active t.fits.active_at;
      past = omega (
        arith,
        past,
        base,
        within x.1.body.descriptor.family,
        ap (λ f. length (of_family f b.journal)) family,
      );
    }))
    (or_true (list_any (λ (k : FrozenAt). k.frozen.id == c.id) x.1.body.frozen)
    ((x.1.body.descriptor.active == c.id) && nat_lt (x.1.body.descriptor.base + length c.rows)
    (at 0 seen x.1.body.descriptor.family)) x.3)

-- a cell that is no one's to fill has all rows of its memtable
pub says-rows : (memtables : List Memtable) (journal : List Write) (due fill c : ℕ) (x : Option Cell) (cell : Cell)
    → fill ≡ 0 → x ≡ Some cell → CellSays memtables journal due fill c x
    → (it : Memtable) × (entry memtables cell.id ≡ Some it) × (cell.rows ≡ rows_of (borne_by cell.id journal))
says-rows memtables journal due fill c x cell z e (has_rows o q) =
    let same : cell_of journal o.id ≡ cell = some_is (sym q ∙ e) in (
      o.it,
      subst (λ m. entry memtables m ≡ Some o.it) (ap (λ k. k.id) same) o.at,
      subst (λ k. k.rows ≡ rows_of (borne_by k.id journal)) same refl,
    )
says-rows memtables journal due fill c x cell z e (fills_up o q f) = absurd (omega arith)
says-rows memtables journal due fill c x cell z e (is_vacant f q) = absurd (none_some cell (sym q ∙ e))
says-rows memtables journal due fill c x cell z e (is_due f d m it at gone q) =
    let same : cell_of journal m ≡ cell = some_is (sym q ∙ e) in (
      it,
      subst (λ k. entry memtables k ≡ Some it) (ap (λ k. k.id) same) at,
      subst (λ k. k.rows ≡ rows_of (borne_by k.id journal)) same refl,
    )

-- the rows that a taking reads fit
pub reads-fit : (b : Books) (due fill c : ℕ) (db : Option Desk) (bodies : List Bodied) (seen : List ℕ)
    (x : Option Cell) (rows : List RowsRead) → fill ≡ 0 → CellSays b.memtables b.journal due fill c x
    → Every (BodyFits b) bodies → ((f : ℕ) → at 0 seen f ≤ length (of_family f b.journal)) → Every (RowsFit b) rows
    → Every (RowsFit b) (rows ++ read_of db bodies seen x)
reads-fit b due fill c None bodies seen None rows z says fit within all = subst (Every (RowsFit b)) (append_none rows)
    all
reads-fit b due fill c (Some d) bodies seen x rows z says fit within all = subst (Every (RowsFit b))
    (append_none rows) all
reads-fit b due fill c None bodies seen (Some k) rows z says fit within all =
    let r = says-rows b.memtables b.journal due fill c (Some k) k z refl says in
    every_push (RowsFit b) rows (record { mem = k.id; rows = k.rows; whole = list_any (closes seen k) bodies }) all
    (record {
      front = subst (λ l. Continues k.rows l) r.2 (continues-itself k.rows);
      whole = λ e. (sym r.2, closes-closed b bodies seen k fit within e);
    })

-- ---- how far a memtable's rows go

length-take_le : {A : Type 0} (n : ℕ) (l : List A) → length (take n l) ≤ length l
length-take_le zero l = omega arith
length-take_le (suc n) [] = omega arith
length-take_le (suc n) (x ∷ l) = omega (arith, length-take_le n l)

-- a memtable's rows end within its family's writes
pub bears_le : (journal : List Write) (m : ℕ) (it : Memtable) → BearsFrom journal m it
    → it.first + length (borne_by m journal) ≤ length (of_family it.family journal)
bears_le journal m it h =
    let F = of_family it.family journal in
    omega (
      arith,
      h.within,
      ap length h.rows,
      length-take_le (length (borne_by m journal)) (drop it.first F),
      length-drop it.first F,
    )

-- the rows of a body's active memtable, as a cell holds them, end where its SuperVersion does
pub active-end : (b : Books) → Lawful b → (due fill c : ℕ) (x : Option Cell) (k : Cell) (it : Bodied) → BodyFits b it
    → fill ≡ 0 → CellSays b.memtables b.journal due fill c x → x ≡ Some k → it.body.descriptor.active ≡ k.id
    → (it.body.descriptor.base + length k.rows ≡ end_at b it.pack)
    × (it.body.descriptor.base + length k.rows ≤ length (of_family it.body.descriptor.family b.journal))
active-end b lawful due fill c x k it t z says found is =
    let r = says-rows b.memtables b.journal due fill c x k z found says in
    let active : t.super.descriptor.active ≡ k.id = ap (λ d. d.active) (sym t.descriptor) ∙ is in
    let bears = bears_le b.journal k.id t.fits.active (lawful.rows k.id t.fits.active
    (subst (λ m. entry b.memtables m ≡ Some t.fits.active) active t.fits.active_at)) in
    let family : t.fits.active.family ≡ it.body.descriptor.family = t.fits.active_family
    ∙ ap (λ d. d.family) (sym t.descriptor) in
    let base : it.body.descriptor.base ≡ t.fits.active.first = ap (λ d. d.base) t.descriptor ∙ t.fits.base in
    let count : length k.rows ≡ length (borne_by k.id b.journal) = ap length r.2
    ∙ length-map (borne_by k.id b.journal) row_of in
    let serial : it.pack / 256 ≡ t.serial = omega (arith, t.pack_is, t.within) in
    let ends : end_at b it.pack ≡ end_of b.journal t.super = ap (λ n. end_in b.journal (entry b.supers n)) serial
    ∙ ap (end_in b.journal) t.at in (
      omega (arith, ends, count, ap (λ d. d.base) t.descriptor, ap (λ m. length (borne_by m b.journal)) active),
      omega (arith, base, bears, count, ap (λ f. length (of_family f b.journal)) family),
    )

length-filter_le : {A : Type 0} (p : A → Bool) (l : List A) → length (filter p l) ≤ length l
length-filter_le p [] = omega arith
length-filter_le {A} p (x ∷ l) = by (p x) (length-filter_le p l)
  where
    by : (q : Bool) → length (filter p l) ≤ length l → length (cond q (x ∷ filter p l) (filter p l)) ≤ suc (length l)
    by true le = omega (arith, le)
    by false le = omega (arith, le)

-- a family's writes are among all writes
pub family_le : (f : ℕ) (journal : List Write) → length (of_family f journal) ≤ length journal
family_le f = length-filter_le (λ (w : Write). w.family == f)

pub cut_le : (b : Books) (v : LaneView) (due fill c : ℕ) (x : Option Cell) (f cut : ℕ) → Fits b v.known → fill ≡ 0
    → CellSays b.memtables b.journal due fill c x → IsCut v x f cut → cut ≤ length (of_family f b.journal)
cut_le b v due fill c x f cut fit z says = ⊎_elim
    (λ h. omega (arith, h, fit.seen f))
    (λ (h : IsActiveCut v x f cut).
    let r = active-end b fit.lawful due fill c x h.cell h.it (fit.bodies h.has.at h.it h.has.is) z says h.found
    h.active in
    omega (arith, h.is, r.1, ap (λ k. length (of_family k b.journal)) h.family))
