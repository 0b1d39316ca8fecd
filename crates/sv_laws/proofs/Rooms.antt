-- What an Ok of the parts gives: room for a SuperVersion and for a memtable.
use Rattle.std.proofs.Common.{◌≡◌, ◌<◌, ℕ, Bool, true, false, cond, List, length, Option, Some, None, refl, arith}
use Rattle.std.proofs.lemmas.Grind.{common_steps}
use Rattle.std.specs.Prelude.{nat_le}
use Rattle.sv_model.specs.declared.refusals.Refusal.{Refusal}
use Rattle.sv_model.specs.declared.refusals.Refusal.TheVariants.{RegisterFull, TooManyLive, TooManyMemtables}
use Rattle.sv_model.specs.declared.records.SuperVersion.{SuperVersion}
use Rattle.sv_model.specs.declared.records.Memtable.{Memtable}
use Rattle.sv_model.specs.Places.{IsLeastFree, live_count}
use Rattle.sv_model.specs.Named.{super_live, memtable_live}
use Rattle.sv_laws.specs.Installs.{HasRoom, HasCell}

not-due : (b : Bool) (e : Refusal) (r : Option Refusal) → cond b (Some e) r ≡ None → (b ≡ false) × (r ≡ None)
not-due true e r q = absurd (cc)
not-due false e r q = (refl, q)

below : (k n : ℕ) → nat_le k n ≡ false → n < k
below k n h = grind (arith, common_steps)

-- the fault of a registry's `make`, as sv_registry has it
abbrev pub make_refusal : List SuperVersion → Option Refusal
make_refusal supers =
    cond (nat_le 1048576 (length supers)) (Some RegisterFull)
    (cond (nat_le 256 (live_count super_live supers)) (Some TooManyLive) None)

pub room-made : (supers : List SuperVersion) (place : ℕ) → make_refusal supers ≡ None → place < 256
    → IsLeastFree super_live (λ s. s.place) supers place → HasRoom supers place
room-made supers place none within least =
    let f =
    not-due (nat_le 1048576 (length supers)) RegisterFull
    (cond (nat_le 256 (live_count super_live supers)) (Some TooManyLive) None) none in
    let g = not-due (nat_le 256 (live_count super_live supers)) TooManyLive None f.1 in
    record {
      few = below 1048576 (length supers) f.0;
      few_live = below 256 (live_count super_live supers) g.0;
      within = within;
      free = λ n s e l p. least.free (n, s, e, record { is_live = l; at = p });
    }

pub cell-made : (memtables : List Memtable) (cell : ℕ)
    → cond (nat_le 64 (live_count memtable_live memtables)) (Some TooManyMemtables) None ≡ None → cell < 64
    → IsLeastFree memtable_live (λ m. m.cell) memtables cell → HasCell memtables cell
cell-made memtables cell none within least =
    let g = not-due (nat_le 64 (live_count memtable_live memtables)) TooManyMemtables None none in
    record {
      few = below 64 (live_count memtable_live memtables) g.0;
      within = within;
      free = λ n m e l p. least.free (n, m, e, record { is_live = l; at = p });
    }
