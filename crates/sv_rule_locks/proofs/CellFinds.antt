-- What a lane finds in a cell that it takes.
use Rattle.std.proofs.Common.{List, Option, Some, [], ap, arith, inr, length, slice_get, subst, suc, sym, zero, ℕ, ◌%◌, ◌+◌, ◌/◌, ◌<◌, ◌∙◌, ◌∷◌, ◌≡◌, ◌≤◌}
use mathlib.Core.Option.{some}
use lib.ListN.{get_elem?}
use Rattle.sv_model.specs.Books.{Books}
use Rattle.sv_model.specs.Cells.{Cell}
use Rattle.sv_model.specs.Journal.{of_family}
use Rattle.sv_model.specs.Lawful.{Lawful}
use Rattle.sv_model.specs.Lists.{Every, In, bit, times, total, at}
use Rattle.sv_model.specs.declared.records.Memtable.{Memtable}
use Rattle.sv_model.proofs.FlatKeys.{gone}
use Rattle.sv_rule.specs.Fits.{BodyFits, cell_of}
use Rattle.sv_rule.specs.Fresh.{floor_of}
use Rattle.sv_rule.specs.Held.{CellSays, Occupied, Says, fills_up, has_rows, is_due, is_vacant}
use Rattle.sv_rule.specs.LockPlays.{FindsAsBody, FindsAsBooks, HasMem, HasRef}
use Rattle.sv_model.specs.Supers.{LiveAt, end_at}
use Rattle.sv_rule.specs.Sweep.{pack_of}
use Rattle.sv_rule.specs.Table.{slot_of}
use Rattle.sv_rule.specs.Tasks.{dues, fills, has_db}
use Rattle.sv_rule.specs.Views.{Bodied, FrozenAt, LaneView, Work}
use Rattle.sv_rule.proofs.Assembly.{Desks}
use Rattle.sv_rule.proofs.Basics.{has_one, some_is}
use Rattle.sv_rule.proofs.CellLaws.{says-more}
use Rattle.sv_rule_locks.proofs.CellReads.{active-end, family_le}
use Rattle.sv_rule.proofs.LaterBooks.{get-map}
use Rattle.sv_rule.proofs.RefLaws.{body-big, body-live, names-live}
use Rattle.sv_rule.proofs.Sums.{term_le, total_none}
use Rattle.sv_rule.proofs.LockCounts.{dues_is, dues_none}

-- where one view has all of one sum, and another sum needs that, it has all of the other
total_only : {A : Type 0} (g h : A → ℕ) (l : List A) (j : ℕ) (v : A) → get_elem? l j ≡ some v
    → ((x : A) → g x ≡ 0 → h x ≡ 0) → total g l ≡ g v → total h l ≡ h v
total_only g h [] j v e f t = absurd (mathlib.Core.Option.some-ne-none v (sym e))
total_only g h (x ∷ l) zero v e f t = let q = mathlib.Core.Option.some-injective x v e in
    omega (arith, ap h q, total_none g h l f (omega (arith, t, ap g q)))
total_only g h (x ∷ l) (suc j) v e f t =
    let le = term_le g l j v e in
    omega (arith, f x (omega (arith, t, le)), total_only g h l j v e f (omega (arith, t, le)))

pub finds-books : (b : Books) (work : Work) (vs : List LaneView) (id : ℕ) (v : LaneView) → get_elem? vs id ≡ some v
    → Desks b work vs → {w : ℕ} → w ≤ 1 → total has_db vs ≡ w → (c : ℕ) (x : Option Cell) → total (fills c) vs ≡ 0
    → Says b vs c x → FindsAsBooks v c x
finds-books b work vs id v me desks one bit c x no_fills says d has =
    let mine : has_db v ≡ 1 = has_one v d has in
    let all : total has_db vs ≡ has_db v = omega (arith, bit, one, mine, term_le has_db vs id v me) in
    let due : total (dues c) vs ≡ times c d.due = total_only has_db (dues c) vs id v me (λ y z. dues_none c y z) all
    ∙ dues_is c v d has in
    says-more d.books.memtables d.books.journal (total (dues c) vs) (times c d.due) (total (fills c) vs) 0 c x
    (omega (arith, due)) (omega (arith, no_fills))
    (subst (λ (z : Books). CellSays z.memtables z.journal (total (dues c) vs) (total (fills c) vs) c x)
    (sym (desks id v me d has).0) says)

-- a cell whose memtable is Live has it
occupied-has : (b : Books) (due fill c : ℕ) (x : Option Cell) → Lawful b → fill ≡ 0 → (o : Occupied b.memtables c)
    → CellSays b.memtables b.journal due fill c x → HasMem x o.id
occupied-has b due fill c x lawful z o (has_rows p e) =
    (cell_of b.journal p.id, e, (lawful.cells o.id o.it o.at o.live).1 p.id p.it p.at p.live (p.is ∙ sym o.is))
occupied-has b due fill c x lawful z o (fills_up p e f) = absurd (omega arith)
occupied-has b due fill c x lawful z o (is_vacant f e) = absurd (f o)
occupied-has b due fill c x lawful z o (is_due f d m it at gone e) = absurd (f o)

-- the memtable ends where the body's SuperVersion does, which no write of its family is beyond
abbrev EndsAt : Books → Bodied → Cell → Type 0
EndsAt b y k = (y.body.descriptor.base + length k.rows ≡ end_at b y.pack)
    × (y.body.descriptor.base + length k.rows ≤ length (of_family y.body.descriptor.family b.journal))

pub finds-body : (b : Books) (vs : List LaneView) (v : LaneView) → Lawful b → Every (BodyFits b) v.known.bodies
    → ((p : ℕ) → 256 ≤ p → HasRef v p → LiveAt b.supers (p / 256) (p % 256))
    → ((f : ℕ) → f < 16 → floor_of (slot_of v f) ≤ end_at b (pack_of (slot_of v f))) → (c : ℕ) (x : Option Cell)
    → total (fills c) vs ≡ 0 → Says b vs c x → FindsAsBody v c x
finds-body b vs v lawful bodies refs floors c x z says = record {
  active = has_active;
  frozen = λ y f has held inside is.
      let t = bodies has.at y has.is in
      let names = names-live b lawful t.serial t.super t.at (body-live b y t (refs y.pack (body-big b y t) held)) in
      let k = t.frozen inside.at f inside.is in
      let m = names.members f.frozen.id t.fits.list t.fits.list_at
      (record {
        at = inside.at;
        is = ap (λ l. slice_get l inside.at) t.members
            ∙ get-map (λ (g : FrozenAt). g.frozen.id) y.body.frozen inside.at f inside.is;
      }) in
      let same : k.it ≡ m.it = some_is (sym k.at ∙ m.at) in
      occupied-has b (total (dues c) vs) (total (fills c) vs) c x lawful z
      (record {
        id = f.frozen.id;
        it = k.it;
        at = k.at;
        live = ap (λ (g : Memtable). g.live) same ∙ m.live;
        is = k.cell_is ∙ is;
      }) says;
  floor = λ y f floor k has near borrows is found.
      let ends = ends_of y has (inr (f, floor, near, borrows)) is k found in
      omega (arith, floors f near, ap floor_of borrows, ap (λ q. end_at b (pack_of q)) borrows, ends.0);
  most = λ y k has held is found.
      let ends = ends_of y has held is k found in
      omega (arith, ends.1, family_le y.body.descriptor.family b.journal, lawful.limits.writes);
}
  where
    has_active : (y : Bodied) → In y v.known.bodies → HasRef v y.pack → y.body.cell ≡ c
        → HasMem x y.body.descriptor.active
    has_active y has held is =
        let t = bodies has.at y has.is in
        let names = names-live b lawful t.serial t.super t.at (body-live b y t (refs y.pack (body-big b y t) held)) in
        let same : t.fits.active ≡ names.active.it = some_is (sym t.fits.active_at ∙ names.active.at) in
        let found = occupied-has b (total (dues c) vs) (total (fills c) vs) c x lawful z
        (record {
          id = t.super.descriptor.active;
          it = t.fits.active;
          at = t.fits.active_at;
          live = ap (λ (m : Memtable). m.live) same ∙ names.active.live;
          is = sym t.cell_is ∙ is;
        }) says in
        (found.0, found.1, found.2 ∙ ap (λ d. d.active) (sym t.descriptor))

    -- where the rows of the active one end
    ends_of : (y : Bodied) (has : In y v.known.bodies) → HasRef v y.pack → y.body.cell ≡ c → (k : Cell) → x ≡ Some k
        → EndsAt b y k
    ends_of y has held is k found =
        let t = bodies has.at y has.is in
        let mem = has_active y has held is in
        let active : y.body.descriptor.active ≡ k.id = sym mem.2
        ∙ ap (λ (g : Cell). g.id) (some_is (sym mem.1 ∙ found)) in
        active-end b lawful (total (dues c) vs) (total (fills c) vs) c x k y t z says found active
