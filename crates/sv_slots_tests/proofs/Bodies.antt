-- References of the first SuperVersions have bodies that fit.
use Rattle.std.proofs.Common.{List, Some, [], arith, length, refl, suc, zero, ℕ, ◌++◌, ◌+◌, ◌*◌, ◌<◌, ◌∷◌, ◌≡◌}
use Rattle.std.specs.Prelude.{slice_get}
use Rattle.sv_model.specs.Lists.{In}
use Rattle.sv_model.proofs.Entries.{every_none, get_none}
use Rattle.sv_model.specs.Described.{IsFileOf}
use Rattle.sv_model.specs.Registers.{entry}
use Rattle.sv_model.specs.Supers.{current_of}
use Rattle.sv_rule.specs.Fits.{BodyFits, IsFrozenAt}
use Rattle.sv_rule.specs.Views.{Bodied}
use Rattle.sv_slots_tests.specs.World.{body_of, memtable_of, no_list, no_version, super_of, world_books}

abbrev pub bodied_of : ℕ → Bodied
bodied_of f = record { pack = (suc f) * 256 + f; body = body_of f }

fits-at : (f : ℕ) → f < 4 → entry world_books.supers (suc f) ≡ Some (super_of f)
    → entry world_books.memtables (suc f) ≡ Some (memtable_of f) → entry world_books.lists (suc f) ≡ Some no_list
    → entry world_books.versions (suc f) ≡ Some no_version → BodyFits world_books (bodied_of f)
fits-at f near s m l v = record {
  serial = suc f;
  super = super_of f;
  at = s;
  pack_is = refl;
  within = omega (arith, near);
  descriptor = refl;
  fits = record {
    active = memtable_of f;
    active_at = m;
    active_family = refl;
    base = refl;
    within = omega arith;
    list = no_list;
    list_at = l;
    version = no_version;
    version_at = v;
    middle = 0;
    files = record { joins = refl; each = every_none (IsFileOf [] [] f); above = λ j m q. absurd (get_none j m q) };
    members = refl;
  };
  cell_is = refl;
  members = refl;
  frozen = every_none (IsFrozenAt world_books);
  files = refl;
}

pub bodies-fit : (f : ℕ) → f < 4 → BodyFits world_books (bodied_of f)
bodies-fit zero near = fits-at 0 near refl refl refl refl
bodies-fit (suc zero) near = fits-at 1 near refl refl refl refl
bodies-fit (suc (suc zero)) near = fits-at 2 near refl refl refl refl
bodies-fit (suc (suc (suc zero))) near = fits-at 3 near refl refl refl refl
bodies-fit (suc (suc (suc (suc f)))) near = absurd (omega (arith, near))

pub currents : (f : ℕ) → f < 4 → current_of world_books f ≡ (suc f) * 256 + f
currents zero near = refl
currents (suc zero) near = refl
currents (suc (suc zero)) near = refl
currents (suc (suc (suc zero))) near = refl
currents (suc (suc (suc (suc f)))) near = absurd (omega (arith, near))
