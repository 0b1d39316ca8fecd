-- The new SuperVersion with the option, and its install.
use Rattle.std.proofs.Common.{List, None, Ok, Option, Some, ap, arith, length, refl, subst, sym, ℕ, ◌*◌, ◌+◌, ◌<◌, ◌∙◌, ◌≡◌}
use Rattle.std.specs.Prelude.{[]}
use Rattle.sv_borrows.proofs.CurrentRefs.{current-big, current-pack}
use Rattle.sv_borrows.specs.Desks.{IsAtDesk}
use Rattle.sv_family.specs.Calls.{with_option}
use Rattle.sv_installs.specs.Installing.{Installs, MayInstall}
use Rattle.sv_laws.proofs.GrownRegisters.{get_within}
use Rattle.sv_laws.specs.NewCurrents.{IsOptionSet}
use Rattle.sv_model.proofs.Entries.{some}
use Rattle.sv_model.proofs.Registers.{entry-new}
use Rattle.sv_model.specs.Books.{Books}
use Rattle.sv_model.specs.Registers.{entry}
use Rattle.sv_model.specs.Turns.{Opens}
use Rattle.sv_model.specs.declared.records.SuperVersion.{SuperVersion}
use Rattle.sv_model.specs.declared.settings.OptionName.{OptionName}
use Rattle.sv_model.specs.declared.sv_refs.SvRef.{SvRef}
use Rattle.sv_objects.specs.declared.bodies.Body.{Body}
use Rattle.sv_rule.specs.Views.{LaneView}
use Rattle.sv_sets.specs.Locked.{SetsLocked}
use Rattle.sv_sets.specs.Setting.{due_to_set}
use Rattle.sv_slots.specs.declared.table.TheConstants.{MAX_HAND}
use Rattle.sv_state.specs.Changing.{IsSet}
use Rattle.sv_state.specs.Currents.{HasCurrentAt}
use Rattle.sv_state.specs.Follows.{Follows}
use Rattle.sv_state.specs.Refs.{IsKept, IsRefOf}
use Rattle.sv_state.specs.Writing.{Tells}
use Rattle.sv_state.specs.declared.installs.Install.{Install}
use Rattle.sv_turns.proofs.Currents.{option_set-opens, option_set-turns}
use Rattle.sv_turns.specs.Called.{IsCalled}

-- what the state tells of it, of the books that it had
pub record IsMade (l : ℕ) (name : List ℕ) (option : OptionName) (value : ℕ) (a m : Books) (install : Install) : Type
    0 where
  pub follows : Follows a m
  pub set : IsSet a m l name option value install.family
  pub tells : Tells a m install.family install

pub made : (l : ℕ) (name : List ℕ) (option : OptionName) (value : ℕ) (a' a m : Books) → a' ≡ a → (install : Install)
    → Follows a' m → IsSet a' m l name option value install.family → Tells a' m install.family install
    → IsMade l name option value a m install
made l name option value a' a m same install h k t =
    subst (λ (z : Books). IsMade l name option value z m install) same (record { follows = h; set = k; tells = t })

module _ (l : ℕ) (name : List ℕ) (option : OptionName) (value : ℕ) (a m : Books) (v : LaneView) (desk : IsAtDesk a [] v)
    (install : Install) (k : IsMade l name option value a m install) where
  abbrev f : ℕ
  f = install.family

  set : IsOptionSet a m f (with_option option value k.set.it.options)
  set = k.set.set

  called : IsCalled v.known.lane a v.known.task m
  called = record { own = desk.own; lawful = k.follows.sound.lawful; later = k.follows.after }

  abbrev has-a : HasCurrentAt a f
  has-a = record {
    top = set.is_open.current.top;
    at = set.is_open.current.at;
    serial = set.s;
    is = set.is_open.current.is;
  }

  kept : IsKept a (Some set.s) install.old
  kept = subst (λ o. IsKept a o install.old) set.is_open.current.is
      (k.tells.old set.is_open.current.top set.is_open.current.at)

  pub has-old : (r : SvRef Body) × (install.old ≡ Some r)
  has-old = by install.old kept
    where
      by : (o : Option (SvRef Body)) → IsKept a (Some set.s) o → (r : SvRef Body) × (o ≡ Some r)
      by None h = absurd h
      by (Some r) h = (r, refl)

  -- the serial of the new SuperVersion, as its pack shows it
  new-place : k.tells.it.place ≡ set.place
  new-place = ap (λ (z : SuperVersion). z.place) (some (sym k.tells.at
      ∙ ap (λ (z : Books). entry z.supers (length a.supers + 1)) set.is
      ∙ entry-new a.supers _ (length a.supers + 1) refl))

  module _ (serial place : ℕ) (is : install.new ≡ serial * 256 + place) (within : place < 256) where
    serial-told : serial ≡ length a.supers + 1
    serial-told = omega (arith, is, within, k.tells.new_is, new-place, set.room.within)

    pub renewed-locked : due_to_set a l name option value ≡ None → (b : Books) (w : LaneView) → Installs f m b v w
        → SetsLocked l name option value (Ok serial) a b v w
    renewed-locked due b w i = record {
      refused = due;
      ok = record { family = f; made = m; set = k.set; serial_is = serial-told; installs = i };
      err = tt;
    }

  module _ (r : SvRef Body) (old : install.old ≡ Some r) where
    ref : IsRefOf a set.s r.pack r.body.value
    ref = subst (IsKept a (Some set.s)) old kept

    pub may-install : v.owes ≡ [] → length v.hand + 1 < MAX_HAND → MayInstall m f r.pack None v
    may-install owes room = record {
      found = a;
      desk = desk;
      near = omega (
        arith,
        get_within a.families f set.is_open.family set.is_open.family_at,
        desk.own.lawful.limits.families,
      );
      turns = option_set-turns v.known.lane a m v.known.task called f _ set;
      opens = let o = option_set-opens v.known.lane a m v.known.task called f _ set in
          subst (Opens a m f) (sym o.current) o;
      memtable = ap (λ (z : Books). z.memtables) set.is;
      was = current-pack a desk.own.lawful f has-a r.pack r.body.value ref;
      big = current-big a desk.own.lawful f has-a r.pack r.body.value ref;
      owes = owes;
      room = room;
    }
