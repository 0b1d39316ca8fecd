-- A switch, its install, and the new memtable after it.
use Rattle.std.proofs.Common.{List, None, Option, Some, [], ap, arith, false, length, refl, subst, sym, true, ℕ, ⊎_elim, ◌++◌, ◌+◌, ◌<◌, ◌∙◌, ◌∷◌, ◌≡◌, ◌≢◌}
use Rattle.std.specs.Prelude.{slice_get}
use Rattle.sv_borrows.proofs.CurrentRefs.{current-big, current-pack}
use Rattle.sv_borrows.specs.Desks.{GoesOn, IsAtDesk}
use Rattle.sv_borrows.specs.Grown.{Cleans}
use Rattle.sv_installs.specs.Installing.{Installs, MayInstall, renewed}
use Rattle.sv_laws.specs.Cleaning.{IsCleaned}
use Rattle.sv_laws.specs.NewCurrents.{IsSwitched}
use Rattle.sv_laws.specs.Installs.{next_top}
use Rattle.sv_laws.proofs.GrownRegisters.{placed-set}
use Rattle.sv_model.proofs.Entries.{some}
use Rattle.sv_model.proofs.Registers.{entry-else, entry-new}
use Rattle.sv_model.specs.Books.{Books}
use Rattle.sv_model.specs.Journal.{borne_by, of_family}
use Rattle.sv_model.specs.Lists.{at}
use Rattle.sv_model.specs.Registers.{entry}
use Rattle.sv_model.specs.Turns.{IsAccounted, IsNewMemtable, Opens}
use Rattle.sv_model.specs.declared.records.Memtable.{Memtable}
use Rattle.sv_model.specs.declared.records.SuperVersion.{SuperVersion}
use Rattle.sv_model.specs.declared.sv_refs.SvRef.{SvRef}
use Rattle.sv_objects.specs.declared.bodies.Body.{Body}
use Rattle.sv_puts.specs.Rows.{HasActive}
use Rattle.sv_puts.specs.Switching.{IsEmptyIn, SwitchesTo}
use Rattle.sv_rule.specs.Views.{LaneView}
use Rattle.sv_slots.specs.declared.table.TheConstants.{MAX_HAND}
use Rattle.sv_state.specs.Currents.{HasCurrentAt}
use Rattle.sv_state.specs.Follows.{Follows}
use Rattle.sv_state.specs.Refs.{IsKept, IsRefOf}
use Rattle.sv_state.specs.Writing.{TellsSwitch}
use Rattle.sv_state.specs.declared.installs.Install.{Install}
use Rattle.sv_turns.proofs.Currents.{switched-opens, switched-turns}
use Rattle.sv_turns.proofs.Memtables.{switched-memtable}
use Rattle.sv_turns.specs.Called.{IsCalled}

-- the lane is at its desk still
pub goes-on-desk : (a : Books) (v u : LaneView) → IsAtDesk a [] v → GoesOn a [] v u → IsAtDesk a [] u
goes-on-desk a v u d h = subst (IsAtDesk a []) (sym h.2)
    (record { alive = d.alive; db = refl; cell = d.cell; own = d.own })

-- ---- a cleanup leaves the active memtable

module _ (m c : Books) (s : ℕ) (f cell : ℕ) (k : HasActive m f cell) where
  pub cleaned-active : (x : SuperVersion) → IsCleaned m c s x
      → (h : HasActive c f cell) × (h.it.descriptor.active ≡ k.it.descriptor.active)
  cleaned-active x h =
      let cur = k.is_open.current in
      let apart : k.serial ≢ s = λ e. h.free f cur.top cur.at (cur.is ∙ ap (λ (n : ℕ). Some n) e) in
      let y = h.memtables.goes k.it.descriptor.active k.cell_is.it k.cell_is.at in (
        record {
          serial = k.serial;
          it = k.it;
          is_open = record {
            current = record {
              top = cur.top;
              at = ap (λ (z : Books). slice_get z.tops f) h.is ∙ cur.at;
              is = cur.is;
              has = ap (λ (z : Books). entry z.supers k.serial) h.is
                  ∙ entry-else m.supers s k.serial (record x { live = false }) apart ∙ cur.has;
            };
            family = k.is_open.family;
            family_at = ap (λ (z : Books). slice_get z.families f) h.is ∙ k.is_open.family_at;
            stands = k.is_open.stands;
          };
          cell_is = record { it = y.0; at = y.1; is = y.2.cell ∙ k.cell_is.is };
        },
        refl,
      )

pub cleans-empty : (m c : Books) (f cell : ℕ) → Cleans m c → IsEmptyIn m f cell → IsEmptyIn c f cell
cleans-empty m c f cell h k = ⊎_elim
    (λ e. subst (λ (z : Books). IsEmptyIn z f cell) (sym e) k)
    (λ q.
    let w = cleaned-active m c q.0 f cell k.active q.1 q.2 in
    record {
      active = w.0;
      none = ap (λ (z : Books). borne_by w.0.it.descriptor.active z.journal) q.2.is
          ∙ ap (λ (n : ℕ). borne_by n m.journal) w.1 ∙ k.none;
    })
    h

-- ---- the switch

-- what the state tells of it, of the books that it had
pub record IsMade (a m : Books) (f : ℕ) (install : Install) : Type 0 where
  pub follows : Follows a m
  pub switched : IsSwitched a m f
  pub tells : TellsSwitch a m f install

pub made : (a' a m : Books) → a' ≡ a → (f : ℕ) (install : Install) → Follows a' m → IsSwitched a' m f
    → TellsSwitch a' m f install → IsMade a m f install
made a' a m same f install h k t =
    subst (λ (z : Books). IsMade z m f install) same (record { follows = h; switched = k; tells = t })

module _ (a m : Books) (f : ℕ) (v : LaneView) (desk : IsAtDesk a [] v) (install : Install) (k : IsMade a m f install) where
  abbrev sw : IsSwitched a m f
  sw = k.switched

  abbrev tells : TellsSwitch a m f install
  tells = k.tells

  called : IsCalled v.known.lane a v.known.task m
  called = record { own = desk.own; lawful = k.follows.sound.lawful; later = k.follows.after }

  abbrev has-a : HasCurrentAt a f
  has-a = record {
    top = sw.is_open.current.top;
    at = sw.is_open.current.at;
    serial = sw.s;
    is = sw.is_open.current.is;
  }

  kept : IsKept a (Some sw.s) install.old
  kept = subst (λ o. IsKept a o install.old) sw.is_open.current.is
      (tells.tells.old sw.is_open.current.top sw.is_open.current.at)

  pub has-old : (r : SvRef Body) × (install.old ≡ Some r)
  has-old = by install.old kept
    where
      by : (o : Option (SvRef Body)) → IsKept a (Some sw.s) o → (r : SvRef Body) × (o ≡ Some r)
      by None h = absurd h
      by (Some r) h = (r, refl)

  pub has-vacant : (x : ℕ × ℕ) × (install.vacant ≡ Some x)
  has-vacant = ((tells.memtable.cell, length a.memtables + 1), tells.vacant)

  abbrev new : Memtable
  new = record { family = f; first = length (of_family f a.journal); cell = sw.cell; live = true }

  new-at : entry m.memtables (length a.memtables + 1) ≡ Some new
  new-at = ap (λ (z : Books). entry z.memtables (length a.memtables + 1)) sw.is
      ∙ entry-new a.memtables new (length a.memtables + 1) refl

  cell-told : tells.memtable.cell ≡ sw.cell
  cell-told = ap (λ (z : Memtable). z.cell) (some (sym tells.memtable_at ∙ new-at))

  module _ (x : ℕ × ℕ) (place : install.vacant ≡ Some x) where
    told : x ≡ (tells.memtable.cell, length a.memtables + 1)
    told = some (sym place ∙ tells.vacant)

    cell-is : x.0 ≡ sw.cell
    cell-is = ap (λ (z : ℕ × ℕ). z.0) told ∙ cell-told

    pub new-id : x.1 ≡ length m.memtables
    new-id = ap (λ (z : ℕ × ℕ). z.1) told ∙ sym (ap (λ (z : Books). length z.memtables) sw.is ∙ grown a.memtables new)
      where
        grown : (l : List Memtable) (y : Memtable) → length (l ++ y ∷ []) ≡ length l + 1
        grown [] y = refl
        grown (z ∷ l) y = omega (arith, grown l y)

    module _ (r : SvRef Body) (old : install.old ≡ Some r) where
      ref : IsRefOf a sw.s r.pack r.body.value
      ref = subst (IsKept a (Some sw.s)) old kept

      pub may-install : f < 16 → v.owes ≡ [] → length v.hand + 1 < MAX_HAND
          → (x.0 < 64) × MayInstall m f r.pack (Some x.0) v
      may-install near owes room = (
        omega (arith, cell-is, sw.cell_room.within),
        record {
          found = a;
          desk = desk;
          near = near;
          turns = switched-turns v.known.lane a m v.known.task called f sw;
          opens = let o = switched-opens v.known.lane a m v.known.task called f sw in
              subst (Opens a m f) (sym o.current) o;
          memtable = (
            new,
            subst (λ (n : ℕ). IsNewMemtable a m n new) (sym cell-is)
                (switched-memtable v.known.lane a m v.known.task called f sw),
          );
          was = current-pack a desk.own.lawful f has-a r.pack r.body.value ref;
          big = current-big a desk.own.lawful f has-a r.pack r.body.value ref;
          owes = owes;
          room = room;
        },
      )

    -- the new memtable is active, and has no row
    empty-in : IsEmptyIn m f x.0
    empty-in = record {
      active = record {
        serial = length a.supers + 1;
        it = _;
        is_open = record {
          current = record {
            top = next_top a sw.c.descriptor.version;
            at = ap (λ (z : Books). slice_get z.tops f) sw.is
                ∙ (placed-set a.tops f sw.is_open.current.top (next_top a sw.c.descriptor.version) sw.is_open.current.at).here;
            is = refl;
            has = ap (λ (z : Books). entry z.supers (length a.supers + 1)) sw.is
                ∙ entry-new a.supers _ (length a.supers + 1) refl;
          };
          family = sw.is_open.family;
          family_at = ap (λ (z : Books). slice_get z.families f) sw.is ∙ sw.is_open.family_at;
          stands = sw.is_open.stands;
        };
        cell_is = record { it = new; at = new-at; is = sym cell-is };
      };
      none = (switched-memtable v.known.lane a m v.known.task called f sw).no_rows;
    }

    -- what the whole says, of the view before the rows were frozen
    pub switches-to : (c : Books) (v0 w : LaneView) → GoesOn a [] v0 v → Installs f m c v w → SwitchesTo a c f v0 w x.0
    switches-to c v0 w g i = record {
      made = m;
      switched = sw;
      installs = installs-before c v0 w g i;
      empty = cleans-empty m c f x.0 i.cleans empty-in;
    }
      where
        installs-before : (c : Books) (v0 w : LaneView) → GoesOn a [] v0 v → Installs f m c v w → Installs f m c v0 w
        installs-before c v0 w g i = record {
          new = i.new;
          new_is = i.new_is;
          cleans = i.cleans;
          own = subst (λ (z : LaneView). IsAccounted z.known.lane c z.known.task) g.2 i.own;
          more = i.more;
          seen = i.seen;
          alike = λ h. i.alike h ∙ ap (λ (z : LaneView). at 0 z.known.seen h) g.2 ∙ g.1 h;
          is = i.is ∙ ap (renewed f i.new c i.more i.seen) g.2;
        }
