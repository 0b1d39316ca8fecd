-- A switch and the cleanup after it.
use Rattle.std.proofs.Common.{◌≡◌, ◌≢◌, ◌+◌, ℕ, false, length, Option, Some, refl, ap, ◌∙◌, arith}
use Rattle.std.specs.Prelude.{slice_get}
use Rattle.sv_model.specs.declared.records.Memtable.{Memtable}
use Rattle.sv_model.specs.declared.records.Top.{Top}
use Rattle.sv_model.specs.declared.sv_refs.SvRef.{SvRef}
use Rattle.sv_model.specs.Books.{Books}
use Rattle.sv_model.specs.Journal.{borne_by, of_family}
use Rattle.sv_model.specs.Registers.{entry}
use Rattle.sv_model.specs.Steady.{Sound}
use Rattle.sv_model.proofs.Registers.{entry-else, entry-new, entry-old, entry_le}
use Rattle.sv_laws.specs.Installs.{live_super, next_top}
use Rattle.sv_laws.specs.NewCurrents.{IsSwitched}
use Rattle.sv_laws.proofs.GrownRegisters.{placed-set}
use Rattle.sv_laws.proofs.OpenFamilies.{fresh-mem}
use Rattle.sv_objects.specs.declared.bodies.Body.{Body}
use Rattle.sv_state.specs.Refs.{IsKept}
use Rattle.sv_store.specs.Going.{CurrentGoes, PackGoes}
use Rattle.sv_store.specs.Writing.{IsEmptyIn}
use Rattle.sv_store.proofs.StandLaws.{current-goes}

module _ (a m b : Books) (k : Sound a) (f : ℕ) (w : IsSwitched a m f) where
  old-on : entry m.supers w.s ≡ Some w.c
  old-on = ap (λ (z : Books). entry z.supers w.s) w.is ∙ entry-old a.supers _ w.s w.c w.is_open.current.has

  pub old-goes : Sound m → (old : Option (SvRef Body)) → ((t : Top) → slice_get a.tops f ≡ Some t → IsKept a t.current old) → (r : SvRef Body) → old ≡ Some r → PackGoes m b r.pack
      → CurrentGoes a m b f
  old-goes l old kept r e p = current-goes a m b f w.s w.c k l w.is_open old kept r e old-on p

  module _ (g : CurrentGoes a m b f) (memtable : Memtable) (at : entry m.memtables (length a.memtables + 1) ≡ Some memtable) where
    later : length a.supers + 1 ≢ g.s
    later q = omega (arith, q, (entry_le a.supers g.s g.x g.was.has).1)

    new-on : entry b.supers (length a.supers + 1) ≡ Some (live_super (record w.c.descriptor { active = length a.memtables + 1; list = length a.lists + 1; base = length (of_family f a.journal) }) w.place)
    new-on = ap (λ (z : Books). entry z.supers (length a.supers + 1)) g.cleaned.is ∙ entry-else m.supers g.s (length a.supers + 1) (record g.x { live = false }) later
        ∙ ap (λ (z : Books). entry z.supers (length a.supers + 1)) w.is ∙ entry-new a.supers _ (length a.supers + 1) refl

    pub switched-empty : IsEmptyIn b f memtable.cell
    switched-empty =
        let y = g.cleaned.memtables.goes (length a.memtables + 1) memtable at in
        record {
          serial = length a.supers + 1;
          it = _;
          is_open = record {
            current = record {
              top = next_top a w.c.descriptor.version;
              at = ap (λ (z : Books). slice_get z.tops f) (g.cleaned.is) ∙ ap (λ (z : Books). slice_get z.tops f) w.is
                  ∙ (placed-set a.tops f w.is_open.current.top (next_top a w.c.descriptor.version) w.is_open.current.at).here;
              is = refl;
              has = new-on;
            };
            family = w.is_open.family;
            family_at = ap (λ (z : Books). slice_get z.families f) g.cleaned.is ∙ ap (λ (z : Books). slice_get z.families f) w.is ∙ w.is_open.family_at;
            stands = w.is_open.stands;
          };
          none = ap (λ (z : Books). borne_by (length a.memtables + 1) z.journal) g.cleaned.is ∙ ap (λ (z : Books). borne_by (length a.memtables + 1) z.journal) w.is
              ∙ fresh-mem a k f w.s w.c w.is_open;
          cell_is = record { it = y.0; at = y.1; is = y.2.cell };
        }
