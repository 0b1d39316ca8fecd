-- A new memtable takes its cell while its SuperVersion becomes current.
use Rattle.std.specs.Prelude.{false}
use Rattle.std.proofs.Common.{List, Option, Some, [], ap, arith, inl, inr, length, refl, subst, sym, ℕ, ◌++◌, ◌+◌, ◌<◌, ◌∙◌, ◌∷◌, ◌≡◌, ◌⊎◌}
use Rattle.sv_borrows.proofs.Alike.{raised-none}
use Rattle.sv_borrows.proofs.Vacating.{took-locked}
use Rattle.sv_borrows.specs.Parts.{body_of}
use Rattle.sv_installs.proofs.Renewing.{before_sweep, begins-sweep, installs, may-open, ref-pack, sweep-is, swept_from, with_cell}
use Rattle.sv_installs.specs.Installing.{Installs, IsInstalled, MayInstall}
use Rattle.sv_installs.specs.Sweeping.{BeginsSweep, IsReclaimed}
use Rattle.sv_model.proofs.Registers.{entry-new}
use Rattle.sv_model.specs.Books.{Books}
use Rattle.sv_model.specs.Cells.{Cell}
use Rattle.sv_model.specs.Journal.{borne_by, rows_of}
use Rattle.sv_model.specs.Registers.{entry}
use Rattle.sv_model.specs.Supers.{current_of}
use Rattle.sv_model.specs.declared.records.Memtable.{Memtable}
use Rattle.sv_model.specs.declared.writes.Write.{Write}
use Rattle.sv_borrows.proofs.Accounted.{accounted-still}
use Rattle.sv_rule.proofs.Basics.{append_none}
use Rattle.sv_rule.proofs.TurnsSame.{stands-same}
use Rattle.sv_rule.specs.Blanks.{desk_of}
use Rattle.sv_rule.specs.Held.{Occupied, has_rows}
use Rattle.sv_rule.specs.LockPlays.{MayWriteCell, raised, took_cell, wrote_cell}
use Rattle.sv_rule.specs.ReferencePlays.{MayOpen, NewInCell}
use Rattle.sv_rule.specs.Views.{Bodied, CellHeld, LaneView, sweeping}
use Rattle.sv_objects.specs.declared.bodies.Body.{Body}
use Rattle.sv_state.specs.Currents.{HasCurrentAt}
use Rattle.sv_state.specs.Refs.{IsRefOf}
use Rattle.sv_slots.proofs.Unchanged.{still-turns}

length-push : {A : Type 0} (l : List A) (y : A) → length (l ++ y ∷ []) ≡ length l + 1
length-push [] y = refl
length-push (x ∷ l) y = omega (arith, length-push l y)

module _ (b : Books) (f p c : ℕ) (v : LaneView) (may : MayInstall b f p (Some c) v) (y : Option Cell) where
  abbrev pub a : Books
  a = may.found

  abbrev m : Memtable
  m = may.memtable.0

  abbrev pub k : Option CellHeld
  k = Some (record { number = c; found = y })

  pub locked-is : (u : LaneView) → u ≡ took_cell c y v → u ≡ with_cell b f p (Some c) v may k
  locked-is u e = e ∙ took-locked a [] v may.desk c y

  pub new-in-cell : (b.memtables ≡ a.memtables) ⊎ NewInCell a b (with_cell b f p (Some c) v may k)
  new-in-cell = inr (c, m, y, may.memtable.1, refl)

  -- the new memtable, which has no rows, is the cell's
  next : length b.memtables ≡ length a.memtables + 1
  next = ap (λ (l : List Memtable). length l) may.memtable.1.memtables ∙ length-push a.memtables m

  abbrev occupied : Occupied b.memtables c
  occupied = record {
    id = length b.memtables;
    it = m;
    at = ap (λ (l : List Memtable). entry l (length b.memtables)) may.memtable.1.memtables
        ∙ entry-new a.memtables m (length b.memtables) next;
    live = may.memtable.1.live;
    is = may.memtable.1.cell;
  }

  module _ (x : Bodied) (x_is : x.pack ≡ current_of b f) (s : LaneView)
      (is : IsInstalled f x b (with_cell b f p (Some c) v may k) s) where
    abbrev before : LaneView
    before = before_sweep b f p (Some c) v may x x_is k s is

    is-before : s ≡ before
    is-before = sweep-is b f p (Some c) v may x x_is k s is

    pub may-fill : (z : Option Cell) → z ≡ Some (record { id = length b.memtables; rows = [] })
        → MayWriteCell s c b s.known.task [] z 0 0
    may-fill z e = subst (λ (w : LaneView). MayWriteCell w c b w.known.task [] z 0 0) (sym is-before) (record {
      alive = may.desk.alive;
      desk = record { books = b; work = sweeping f p 0 false 0; due = [] };
      has = refl;
      found = y;
      cell = refl;
      turns = still-turns v.known.lane b v.known.task
          (accounted-still v.known.lane a b v.known.task may.desk.own may.turns);
      stands = stands-same b;
      more_is = inl refl;
      says = has_rows occupied (e ∙ ap (λ (l : List Write). Some (record { id = length b.memtables; rows = rows_of l }))
          (sym (ap (λ (n : ℕ). borne_by n b.journal) next ∙ may.memtable.1.no_rows)));
      seen = omega arith;
    })

    pub filled-is : (u : LaneView) → u ≡ wrote_cell (desk_of s) c b s.known.task [] 0 0 s
        → u ≡ swept_from b f p (Some c) v may x (raised v.known.seen 0 0)
    filled-is u e = e ∙ ap (λ (w : LaneView). wrote_cell (desk_of w) c b w.known.task [] 0 0 w) is-before
        ∙ (λ i. record (swept_from b f p (Some c) v may x (raised v.known.seen 0 0)) {
          known = record v.known {
            bodies = v.known.bodies ++ x ∷ [];
            mine = sym (append_none v.known.mine) i;
            seen = raised v.known.seen 0 0;
          };
          locks = record v.locks {
            db = Some (record { books = b; work = sweeping f p 0 false 0; due = [] });
            cell = sym may.desk.cell i;
          };
        })

    pub filled-begins : (u : LaneView) → u ≡ wrote_cell (desk_of s) c b s.known.task [] 0 0 s → BeginsSweep b f p u
    filled-begins u e = subst (BeginsSweep b f p) (sym (filled-is u e))
        (begins-sweep b f p (Some c) v may x (raised v.known.seen 0 0))

    pub filled-installs : (u : LaneView) → u ≡ wrote_cell (desk_of s) c b s.known.task [] 0 0 s → (d : Books)
        (w : LaneView) → IsReclaimed p b d u w → Installs f b d v w
    filled-installs u e d w h = installs b f p (Some c) v may x (raised v.known.seen 0 0) x_is
        (raised-none v.known.seen) d w (subst (λ (z : LaneView). IsReclaimed p b d z w) (filled-is u e) h)

-- ---- with the lock of the cell taken, and the new current as the state has it

module _ (b : Books) (f p c : ℕ) (v : LaneView) (may : MayInstall b f p (Some c) v) (y : Option Cell) (m : Books)
    (same : m ≡ b) (n : ℕ) (body : Body) (ref : (at : HasCurrentAt m f) → IsRefOf m at.serial n body) (u : LaneView)
    (took : u ≡ took_cell c y v) where
  abbrev new : Bodied
  new = record { pack = n; body = body_of body }

  abbrev held_cell : Option CellHeld
  held_cell = Some (record { number = c; found = y })

  locked : u ≡ with_cell b f p (Some c) v may held_cell
  locked = locked-is b f p c v may y u took

  new_is : n ≡ current_of b f
  new_is = ref-pack b f p (Some c) v may m same n body ref

  pub opens-filled : (f < 16) × MayOpen u f new b u.known.task
  opens-filled = (
    may.near,
    subst (λ (z : LaneView). MayOpen z f new b z.known.task) (sym locked)
        (may-open b f p (Some c) v may m same n body ref held_cell (new-in-cell b f p c v may y)),
  )

  module _ (s : LaneView) (is : IsInstalled f new b u s) where
    here : IsInstalled f new b (with_cell b f p (Some c) v may held_cell) s
    here = subst (λ (z : LaneView). IsInstalled f new b z s) locked is

    pub fills : (z : Option Cell) → z ≡ Some (record { id = length b.memtables; rows = [] })
        → MayWriteCell s c b s.known.task [] z 0 0
    fills z e = may-fill b f p c v may y new new_is s here z e

    module _ (w : LaneView) (wrote : w ≡ wrote_cell (desk_of s) c b s.known.task [] 0 0 s) where
      pub begins-filled : BeginsSweep b f p w
      begins-filled = filled-begins b f p c v may y new new_is s here w wrote

      pub installs-filled : (d : Books) (t : LaneView) → IsReclaimed p b d w t → Installs f b d v t
      installs-filled d t h = filled-installs b f p c v may y new new_is s here w wrote d t h
