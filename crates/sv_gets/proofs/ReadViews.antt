-- What the takings and givings of a read make of a view.
use Rattle.std.proofs.Common.{⊎_elim, List, None, Option, Some, [], ap, arith, option_map, inl, inr, length, max, min, nat_le, refl, subst, suc, sym, zero, ℕ, ◌++◌, ◌+◌, ◌∙◌, ◌∷◌, ◌≡◌, ◌≤◌, ◌⊎◌}
use Rattle.std.proofs.lemmas.Bool.{cases_Bool, eq-eqb, leb-false, leb-true, lt-ltb}
use Rattle.std.specs.Prelude.{Bool, false, true, ◌&&◌, ◌<◌, ◌==◌, ◌||◌}
use Rattle.std.proofs.lemmas.List.Folds.{list_any_at}
use Rattle.std.proofs.lemmas.Option.{get_or_from_slice_get}
use Rattle.std.specs.List.{list_any}
use mathlib.Core.Logic.{dite}
use native.Mathlib.Decide.{ℕ_discrete}
use Rattle.sv_borrows.specs.Lending.{IsFree}
use Rattle.sv_borrows.proofs.Growing.{grows-on, in-last}
use Rattle.sv_gets.specs.Reading.{MayRead, MetAt, Reads, reads_in}
use Rattle.sv_model.specs.Cells.{Cell}
use Rattle.sv_model.specs.Files.{Files}
use Rattle.sv_model.specs.Journal.{value_of}
use Rattle.sv_model.specs.Lists.{Every, In, at, times}
use Rattle.sv_model.specs.declared.limits.TheConstants.{MAX_WRITES}
use Rattle.sv_model.specs.declared.writes.Op.{Op}
use Rattle.sv_reads.specs.Parts.{FindsAfter}
use Rattle.sv_rule.specs.Table.{slot_of}
use Rattle.sv_model.specs.Tasks.{Task}
use Rattle.sv_model.specs.declared.records.FileMeta.{FileMeta}
use Rattle.sv_model.proofs.AfterLaws.{continues-itself}
use Rattle.sv_model.proofs.Entries.{get_none, some}
use Rattle.sv_rule.proofs.CurrentLaws.{get_lt}
use Rattle.sv_rule.proofs.Sums.{at-put_else, at-put_same}
use Rattle.sv_rule.specs.Held.{Told}
use Rattle.sv_rule.specs.LockPlays.{DirChange, FindsAsBody, IsOwnRead, MarksTask, MayGiveCell, MayGiveDir, closes, gave_cell, gave_dir, raised, read_of, takings, took_cell, took_dir}
use Rattle.sv_rule.specs.Views.{Bodied, Disk, FileRead, LaneView, Locks, RowsRead, Slots, away, borrow}

-- ---- what is raised

pub raised-over : (seen : List ℕ) (f n : ℕ) → n ≤ at 0 (raised seen f n) f
raised-over seen f n = omega (arith, at-put_same 0 seen f (max (at 0 seen f) n))

raised-from : (seen : List ℕ) (f n g : ℕ) → at 0 seen g ≤ at 0 (raised seen f n) g
raised-from seen f n g = dite (ℕ_discrete g f)
    (λ e. let a = at-put_same 0 seen f (max (at 0 seen f) n) in
    let b : at 0 (raised seen f n) g ≡ at 0 (raised seen f n) f = ap (at 0 (raised seen f n)) e in
    omega (arith, a, b, ap (at 0 seen) e))
    (λ ne. omega (arith, at-put_else 0 seen f g (max (at 0 seen f) n) ne))

-- ---- reads one after the other

pub reads-on : (m n : ℕ) (u v w : LaneView) → Reads m u v → Reads n v w → Reads (m + n) u w
reads-on m n u v w h k = record {
  grows = grows-on u.known v.known w.known h.grows k.grows;
  found = k.found ∙ h.found;
  left = k.left ∙ h.left;
  bodies = k.bodies ∙ h.bodies;
  seat = k.seat ∙ h.seat;
  locks = k.locks ∙ h.locks;
  slots = k.slots ∙ h.slots;
  hand = k.hand ∙ h.hand;
  owes = k.owes ∙ h.owes;
  joined = k.joined ∙ h.joined;
  looks = k.looks ∙ h.looks;
  uses = k.uses ∙ h.uses;
  misses = k.misses ∙ h.misses;
  swept = k.swept ∙ h.swept;
  takes = omega (arith, h.takes, k.takes);
  faults = omega (arith, h.faults, k.faults);
}

-- what the lane may read it may go on to read
pub still-may : (f : ℕ) (x : Bodied) (n : ℕ) (v w : LaneView) → MayRead f x v → Reads n v w → MayRead f x w
still-may f x n v w may r = record {
  near = may.near;
  has = subst (In x) (sym r.bodies) may.has;
  held = ⊎_elim
      (λ (h : 1 ≤ times x.pack v.hand). inl (subst (λ l. 1 ≤ times x.pack l) (sym r.hand) h))
      (λ (h : (g : ℕ) × (floor : ℕ) × (g < 16) × (slot_of v g ≡ borrow x.pack floor)). inr (
        h.0,
        h.1,
        h.2,
        ap (λ (s : Slots). at away s.slot h.0) r.slots ∙ h.3,
      ))
      may.held;
  shown = may.shown;
}

-- ---- a cell

module _ (v : LaneView) (free : IsFree v) (c : ℕ) (x : Option Cell) (u : LaneView) (took : u ≡ took_cell c x v) where
  no_db : v.locks.db ≡ None
  no_db = ap (λ (k : Locks). k.db) free.locks

  pub may-give : (it : Cell) → x ≡ Some it → (b : Bodied) → In b v.known.bodies → it.id ≡ b.body.descriptor.active
      → (cut : ℕ) → cut ≡ b.body.descriptor.base + length it.rows
      → MayGiveCell u c x b.body.descriptor.family cut
  may-give it is b has mem cut cut_is = subst (λ (z : LaneView). MayGiveCell z c x b.body.descriptor.family cut) (sym took) (record {
    alive = free.alive;
    db = no_db;
    cell = refl;
    cut_is = inr (record { cell = it; found = is; it = b; has = has; active = sym mem; family = refl; is = cut_is });
  })

  module _ (f cut : ℕ) (w : LaneView) (gave : w ≡ gave_cell f cut u) where
    is_view : w ≡ gave_cell f cut (took_cell c x v)
    is_view = gave ∙ ap (gave_cell f cut) took

    pub cell-reads : Reads 1 v w
    cell-reads = subst (Reads 1 v) (sym is_view) (record {
      grows = record {
        base = refl;
        found = continues-itself v.known.found;
        left = continues-itself v.known.left;
        bodies = continues-itself v.known.bodies;
        rows = (read_of v.locks.db v.known.bodies v.known.seen x, refl);
        reads = continues-itself v.known.reads;
        seen = raised-from v.known.seen f cut;
      };
      found = refl;
      left = refl;
      bodies = refl;
      seat = refl;
      locks = ap (λ (k : Locks). record k { cell = None }) free.locks ∙ sym free.locks;
      slots = refl;
      hand = refl;
      owes = refl;
      joined = refl;
      looks = refl;
      uses = refl;
      misses = refl;
      swept = refl;
      takes = omega (arith, ap takings no_db);
      faults = omega arith;
    })

    pub cell-read : (it : Cell) → x ≡ Some it → (r : RowsRead) × In r w.known.rows × (r.mem ≡ it.id) × (r.rows ≡ it.rows)
        × (r.whole ≡ list_any (closes v.known.seen it) v.known.bodies)
    cell-read it is =
        let r : RowsRead = record { mem = it.id; rows = it.rows; whole = list_any (closes v.known.seen it) v.known.bodies } in
        let one : read_of v.locks.db v.known.bodies v.known.seen x ≡ r ∷ []
        = (λ i. read_of (no_db i) v.known.bodies v.known.seen (is i)) in (
          r,
          subst (λ (z : LaneView). In r z.known.rows) (sym is_view)
              (subst (λ l. In r (v.known.rows ++ l)) (sym one) (in-last v.known.rows r)),
          refl,
          refl,
          refl,
        )

    pub cell-seen : cut ≤ at 0 w.known.seen f
    cell-seen = subst (λ (z : LaneView). cut ≤ at 0 z.known.seen f) (sym is_view) (raised-over v.known.seen f cut)

-- ---- the directory

marks-same : (t : Task) → MarksTask t t
marks-same t = record {
  handles = refl;
  holds = refl;
  quiet = refl;
  listed = refl;
  removed = refl;
  ended = refl;
  output = λ o e. record { was = o; is = e; same = refl };
  outputs = λ n. refl;
  grabbed = λ n. refl;
  jobs = refl;
}

told-same : (v : LaneView) (o p : Option Files) → p ≡ o → Told (DirChange v v.known.task) o p
told-same v None None e = tt
told-same v None (Some p) e = absurd (cc)
told-same v (Some o) None e = absurd (cc)
told-same v (Some o) (Some p) e = let same : p ≡ o = some e in
    subst (λ z. DirChange v v.known.task o z) (sym same) (record {
      changed = inl refl;
      written = λ k is w. inl (is, refl);
      taken = λ k has t. inl has;
    })

own-reads : (v : LaneView) (all : Files) (x : Bodied) (f : ℕ) → MayRead f x v → (files : List FileMeta)
    → ((file : FileMeta) → In file files → In file x.body.files)
    → Every (IsOwnRead v all) (reads_in (Some all) files)
own-reads v all x f may [] sub = λ i r e. absurd (get_none i r e)
own-reads v all x f may (file ∷ files) sub = first (own-reads v all x f may files (λ z has. sub z (record { at = suc has.at; is = has.is })))
  where
    first : Every (IsOwnRead v all) (reads_in (Some all) files) → Every (IsOwnRead v all) (reads_in (Some all) (file ∷ files))
    first rest zero r e = subst (IsOwnRead v all) (some e) (record {
      body = x;
      has = may.has;
      held = may.held;
      file = file;
      of = sub file (record { at = 0; is = refl });
      number = refl;
      bytes = refl;
    })
    first rest (suc i) r e = rest i r e

rise_by : (n before now : ℕ) → min (before + n) 18446744073709551615 ≤ now
    → (before + n ≤ now) ⊎ (18446744073709551615 ≤ now)
rise_by n before now h = elim (cases_Bool (nat_le (before + n) 18446744073709551615)) [
  | inl some ↦ inl (omega (arith, h, leb-true (before + n) 18446744073709551615 some))
  | inr other ↦ inr (omega (arith, h, leb-false (before + n) 18446744073709551615 other))
]

module _ (v : LaneView) (free : IsFree v) (d : Disk) (u : LaneView) (took : u ≡ took_dir d v) where
  module _ (x : Bodied) (f : ℕ) (may : MayRead f x v) (now : Disk) (same : now.files ≡ d.files) (n : ℕ)
      (later : d.faults ≤ now.faults) (rose : min (d.faults + n) 18446744073709551615 ≤ now.faults) where
    pub may-give-dir : MayGiveDir u now u.known.task (reads_in now.files x.body.files) u.names 0 n
    may-give-dir = subst (λ (z : LaneView). MayGiveDir z now z.known.task (reads_in now.files x.body.files) z.names 0 n) (sym took) (record {
      alive = free.alive;
      found = d;
      has = refl;
      changes = inl same;
      marks = marks-same v.known.task;
      files = told-same (took_dir d v) d.files now.files same;
      reads_are = λ files is. subst (λ o. Every (IsOwnRead (took_dir d v) files) (reads_in o x.body.files)) (sym (same ∙ is))
          (own-reads (took_dir d v) files x f may_took x.body.files (λ z has. has));
      listed = λ files is. inl (refl, refl);
      later = later;
      rose = rise_by n d.faults now.faults rose;
    })
      where
        may_took : MayRead f x (took_dir d v)
        may_took = record { near = may.near; has = may.has; held = may.held; shown = may.shown }

  pub dir-reads : (t : Task) (reads : List FileRead) (n : ℕ) (w : LaneView) → t ≡ u.known.task
      → w ≡ gave_dir t reads u.names 0 n u → Reads 0 v w
  dir-reads t reads n w same gave =
      let here : w ≡ gave_dir v.known.task reads v.names 0 n (took_dir d v)
      = gave ∙ (λ i. gave_dir ((same ∙ ap (λ (z : LaneView). z.known.task) took) i) reads (took i).names 0 n (took i)) in
      subst (Reads 0 v) (sym here) (record {
        grows = record {
          base = refl;
          found = continues-itself v.known.found;
          left = continues-itself v.known.left;
          bodies = continues-itself v.known.bodies;
          rows = continues-itself v.known.rows;
          reads = (reads, refl);
          seen = λ g. omega arith;
        };
        found = refl;
        left = refl;
        bodies = refl;
        seat = refl;
        locks = ap (λ (k : Locks). record k { dir = None }) free.locks ∙ sym free.locks;
        slots = refl;
        hand = refl;
        owes = refl;
        joined = refl;
        looks = refl;
        uses = refl;
        misses = refl;
        swept = refl;
        takes = omega arith;
        faults = omega arith;
      })

-- ---- what was met in a cell

le-or-over : (m n : ℕ) → (m ≤ n) ⊎ (n < m)
le-or-over m n = elim (cases_Bool (nat_le m n)) [
  | inl is_le ↦ inl (leb-true m n is_le)
  | inr is_over ↦ inr (omega (arith, leb-false m n is_over))
]

or-right : (a : Bool) {b : Bool} → b ≡ true → (a || b) ≡ true
or-right true e = refl
or-right false e = e

any-has : {A : Type 0} (p : A → Bool) (l : List A) (x : A) → In x l → p x ≡ true → list_any p l ≡ true
any-has p l x has is = list_any_at p l has.at x (get_lt l has.at x has.is)
    (ap p (get_or_from_slice_get l has.at x x has.is) ∙ is)

-- a later write of the family was met, so the active memtable has no more rows
is-whole : (v : LaneView) (it : Cell) (x : Bodied) → In x v.known.bodies → it.id ≡ x.body.descriptor.active
    → x.body.descriptor.base + length it.rows < at 0 v.known.seen x.body.descriptor.family
    → list_any (closes v.known.seen it) v.known.bodies ≡ true
is-whole v it x has mem past = any-has (closes v.known.seen it) v.known.bodies x has
    (or-right (list_any (λ k. k.frozen.id == it.id) x.body.frozen)
    (both (sym mem) (lt-ltb (x.body.descriptor.base + length it.rows) (at 0 v.known.seen x.body.descriptor.family) past)))
  where
    both : x.body.descriptor.active ≡ it.id → {b : Bool} → b ≡ true → ((x.body.descriptor.active == it.id) && b) ≡ true
    both e {b} t = ap (λ z. z && b) (eq-eqb x.body.descriptor.active it.id e) ∙ t

-- the cell has the body's active memtable, and a borrow's floor is reached
pub record HasActive (f : ℕ) (x : Bodied) (v : LaneView) (slot : Option Cell) : Type 0 where
  pub it : Cell
  pub is : slot ≡ Some it
  pub mem : it.id ≡ x.body.descriptor.active
  pub floor : (n : ℕ) → slot_of v f ≡ borrow x.pack n → n ≤ x.body.descriptor.base + length it.rows
  pub most : x.body.descriptor.base + length it.rows ≤ MAX_WRITES

pub has-active : (f : ℕ) (x : Bodied) (v : LaneView) → MayRead f x v → (c : ℕ) → c ≡ x.body.cell → (slot : Option Cell)
    → FindsAsBody v c slot → HasActive f x v slot
has-active f x v may c c_is slot finds =
    let k = finds.active x may.has may.held (sym c_is) in
    record {
      it = k.0;
      is = k.1;
      mem = k.2;
      floor = λ n e. finds.floor x f n k.0 may.has may.near e (sym c_is) k.1;
      most = finds.most x k.0 may.has may.held (sym c_is) k.1;
    }

module _ (v : LaneView) (free : IsFree v) (f : ℕ) (x : Bodied) (may : MayRead f x v) (c : ℕ) (slot : Option Cell)
    (a : HasActive f x v slot) (u : LaneView) (took : u ≡ took_cell c slot v) (cut : ℕ)
    (cut_is : cut ≡ x.body.descriptor.base + length a.it.rows) where
  pub gives-slot : MayGiveCell u c slot x.body.descriptor.family cut
  gives-slot = may-give v free c slot u took a.it a.is x may.has a.mem cut cut_is

  module _ (w : LaneView) (gave : w ≡ gave_cell x.body.descriptor.family cut u) where
    pub slot-reads : Reads 1 v w
    slot-reads = cell-reads v free c slot u took x.body.descriptor.family cut w gave

    pub met-at : (key : List ℕ) (found : Option (Option (List ℕ))) (op : Option Op) → found ≡ option_map value_of op
        → FindsAfter x.body.descriptor.base a.it.rows key cut op → MetAt f x key found cut v w
    met-at key found op found_is newest =
        let r = cell-read v free c slot u took x.body.descriptor.family cut w gave a.it a.is in record {
          read = r.0;
          has = r.1;
          mem = r.2 ∙ a.mem;
          cut_is = cut_is ∙ ap (λ l. x.body.descriptor.base + length l) (sym r.3);
          op = op;
          found_is = found_is;
          newest = subst (λ l. FindsAfter x.body.descriptor.base l key cut op) (sym r.3) newest;
          floor = λ n e. omega (arith, a.floor n e, cut_is);
          reaches = ⊎_elim (λ le. inl le) (λ past. inr (r.4 ∙ is-whole v a.it x may.has a.mem (omega (
            arith,
            past,
            cut_is,
            ap (at 0 v.known.seen) may.shown.family,
          )))) (le-or-over (at 0 v.known.seen f) cut);
          seen = subst (λ g. cut ≤ at 0 w.known.seen g) may.shown.family
              (cell-seen v free c slot u took x.body.descriptor.family cut w gave);
        }
