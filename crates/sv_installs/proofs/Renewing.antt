-- A SuperVersion that the state has made is made current in the table.
use Rattle.std.proofs.Common.{List, None, Option, Some, [], ap, arith, inl, refl, subst, suc, sym, zero, ℕ, ◌++◌, ◌<◌, ◌∙◌, ◌∷◌, ◌≡◌, ◌≤◌, ◌⊎◌}
use Rattle.std.specs.Prelude.{false}
use mathlib.Core.List.{append_assoc}
use Rattle.sv_borrows.proofs.Alike.{alike-itself}
use Rattle.sv_borrows.proofs.CurrentRefs.{current-fits, current-pack, has-current}
use Rattle.sv_borrows.specs.Desks.{AreAlike}
use Rattle.sv_borrows.specs.Parts.{body_of}
use Rattle.sv_installs.proofs.Replaced.{before-free}
use Rattle.sv_installs.specs.Installing.{Installs, IsInstalled, MayInstall, renewed}
use Rattle.sv_installs.specs.Sweeping.{BeginsSweep, IsReclaimed}
use Rattle.sv_model.specs.Books.{Books}
use Rattle.sv_model.specs.Lawful.{Lawful}
use Rattle.sv_model.specs.Supers.{current_of}
use Rattle.sv_model.specs.Turns.{IsAccounted, Opens}
use Rattle.sv_borrows.proofs.Accounted.{accounted-still}
use Rattle.sv_objects.specs.declared.bodies.Body.{Body}
use Rattle.sv_rule.proofs.Basics.{append_none}
use Rattle.sv_rule.proofs.FoundNumbers.{install-found}
use Rattle.sv_rule.specs.Blanks.{desk_of}
use Rattle.sv_rule.specs.Fits.{BodyFits}
use Rattle.sv_rule.specs.ReferencePlays.{MayOpen, NewInCell}
use Rattle.sv_rule.specs.SlotPlays.{reached}
use Rattle.sv_rule.specs.Views.{Bodied, CellHeld, Desk, LaneView, idle, sweeping}
use Rattle.sv_slots.proofs.InstallSweeps.{installed-hand, without-first}
use Rattle.sv_slots.proofs.Laws.{desk_is_of}
use Rattle.sv_slots.specs.Installs.{installed}
use Rattle.sv_state.specs.Currents.{HasCurrentAt}
use Rattle.sv_state.specs.Gone.{IsFree}
use Rattle.sv_state.specs.Refs.{IsRefOf}

reached-some : (p : ℕ) (hand : List ℕ) → 256 ≤ p → reached p hand ≡ p ∷ hand
reached-some zero hand big = absurd (omega (arith, big))
reached-some (suc p) hand big = refl

module _ (b : Books) (f p : ℕ) (cell : Option ℕ) (v : LaneView) (may : MayInstall b f p cell v) where
  abbrev a : Books
  a = may.found

  lawful : Lawful b
  lawful = may.turns.counts.lawful

  pub new-current : HasCurrentAt b f
  new-current = has-current b f (omega (arith, may.opens.serial))

  own : IsAccounted v.known.lane b v.known.task
  own = accounted-still v.known.lane a b v.known.task may.desk.own may.turns

  was-big : 256 ≤ current_of a f
  was-big = omega (arith, may.was, may.big)

  pub replaced-free : (256 ≤ p) × IsFree b p
  replaced-free = (
    may.big,
    subst (IsFree b) (sym may.was) (before-free a b may.desk.own.lawful lawful f was-big may.opens),
  )

  -- the lane with the lock of a cell, or of none
  abbrev pub with_cell : Option CellHeld → LaneView
  with_cell k = record v { locks = record v.locks { cell = k } }

  -- ---- the new current, of which the state has a reference

  module _ (m : Books) (same : m ≡ b) (n : ℕ) (body : Body)
      (ref : (at : HasCurrentAt m f) → IsRefOf m at.serial n body) where
    abbrev x : Bodied
    x = record { pack = n; body = body_of body }

    law_m : Lawful m
    law_m = subst Lawful (sym same) lawful

    at_m : HasCurrentAt m f
    at_m = subst (λ (z : Books). HasCurrentAt z f) (sym same) new-current

    pub ref-pack : n ≡ current_of b f
    ref-pack = current-pack m law_m f at_m n body (ref at_m) ∙ ap (λ (z : Books). current_of z f) same

    ref-fits : BodyFits b x
    ref-fits = subst (λ (z : Books). BodyFits z x) same (current-fits m law_m f at_m n body (ref at_m))

    pub may-open : (k : Option CellHeld) → ((b.memtables ≡ a.memtables) ⊎ NewInCell a b (with_cell k))
        → MayOpen (with_cell k) f x b v.known.task
    may-open k memtable = record {
      alive = may.desk.alive;
      desk = record { books = a; work = idle; due = [] };
      has = may.desk.db;
      resting = refl;
      near = may.near;
      turns = may.turns;
      made = subst (Opens a b f) (sym ref-pack) may.opens;
      memtable = memtable;
      body = ref-fits;
      room = omega (arith, may.room);
    }

  -- ---- the sweep begins

  module _ (x : Bodied) (x_is : x.pack ≡ current_of b f) (k : Option CellHeld) (s : LaneView)
      (is : IsInstalled f x b (with_cell k) s) where
    opens_x : Opens a b f x.pack
    opens_x = subst (Opens a b f) (sym x_is) may.opens

    found-is : is.0 ≡ p
    found-is = install-found a b may.turns.counts.later may.desk.own.lawful f x.pack is.0 opens_x is.1 ∙ sym may.was

    desk_is : desk_of (with_cell k) ≡ record { books = a; work = idle; due = [] }
    desk_is = desk_is_of (with_cell k) (record { books = a; work = idle; due = [] }) may.desk.db

    hand_is : (installed f x b v.known.task [] is.0 (with_cell k)).hand ≡ p ∷ v.hand
    hand_is = installed-hand f is.0 x b v.known.task [] (with_cell k)
        ∙ ap (λ (n : ℕ). reached n v.hand) found-is
        ∙ reached-some p v.hand may.big

    -- the lane before its sweep, with the lock of the cell
    abbrev pub before_sweep : LaneView
    before_sweep = record (renewed f x b [] v.known.seen v) {
      locks = record v.locks { db = Some (record { books = b; work = sweeping f p 0 false 0; due = [] }); cell = k };
      hand = p ∷ v.hand;
    }

    pub sweep-is : s ≡ before_sweep
    sweep-is = is.2 ∙ (λ i. record before_sweep {
      known = record v.known { bodies = sym (append_none (v.known.bodies ++ x ∷ [])) i };
      locks = record v.locks {
        db = Some (record { books = b; work = sweeping f (found-is i) 0 false 0; due = due_is i });
        cell = k;
      };
      hand = hand_is i;
    })
      where
        due_is : (desk_of (with_cell k)).due ≡ []
        due_is = ap (λ (d : Desk). d.due) desk_is

  module _ (x : Bodied) (seen : List ℕ) where
    -- with the cell given
    abbrev pub swept_from : LaneView
    swept_from = record (renewed f x b [] seen v) {
      locks = record v.locks { db = Some (record { books = b; work = sweeping f p 0 false 0; due = [] }) };
      hand = p ∷ v.hand;
    }

    pub begins-sweep : BeginsSweep b f p swept_from
    begins-sweep = record {
      alive = may.desk.alive;
      db = refl;
      cell = may.desk.cell;
      own = own;
      owes = may.owes;
      hand = v.hand;
      has = refl;
      few = omega (arith, may.room);
      big = may.big;
      goes = replaced-free.1;
    }

    pub installs : x.pack ≡ current_of b f → AreAlike seen v.known.seen → (c : Books) (w : LaneView)
        → IsReclaimed p b c swept_from w → Installs f b c v w
    installs x_is alike c w h = record {
      new = x;
      new_is = x_is;
      cleans = h.0;
      own = h.1;
      more = h.2.0;
      seen = h.2.1;
      alike = λ g. h.2.2 g ∙ alike g;
      is = h.2.3 ∙ (λ i. record (renewed f x c h.2.0 h.2.1 v) {
        known = record v.known { bodies = append_assoc v.known.bodies (x ∷ []) h.2.0 i; seen = h.2.1 };
        hand = without-first p v.hand i;
        owes = sym may.owes i;
      });
    }

-- ---- without a new memtable

module _ (b : Books) (f p : ℕ) (v : LaneView) (may : MayInstall b f p None v) (m : Books) (same : m ≡ b) (n : ℕ)
    (body : Body) (ref : (at : HasCurrentAt m f) → IsRefOf m at.serial n body) where
  abbrev new : Bodied
  new = record { pack = n; body = body_of body }

  pub opens-plain : (f < 16) × MayOpen v f new b v.known.task
  opens-plain = (may.near, may-open b f p None v may m same n body ref v.locks.cell (inl may.memtable))

  module _ (s : LaneView) (is : IsInstalled f new b v s) where
    new_is : n ≡ current_of b f
    new_is = ref-pack b f p None v may m same n body ref

    plain : s ≡ swept_from b f p None v may new v.known.seen
    plain = sweep-is b f p None v may new new_is v.locks.cell s is

    pub begins-plain : BeginsSweep b f p s
    begins-plain = subst (BeginsSweep b f p) (sym plain) (begins-sweep b f p None v may new v.known.seen)

    pub installs-plain : (c : Books) (w : LaneView) → IsReclaimed p b c s w → Installs f b c v w
    installs-plain c w h = installs b f p None v may new v.known.seen new_is (alike-itself v.known.seen) c w
        (subst (λ (z : LaneView). IsReclaimed p b c z w) plain h)
