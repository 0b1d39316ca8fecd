use Rattle.std.proofs.Common.{◌∷◌, [], length, refl, ap}
use Rattle.sv_model.specs.Families.{default_name}
use Rattle.sv_state_bench.specs.Kept.{kept_file}
use Rattle.sv_state_bench.proofs.KeptStores.{as-kept, may-open}
use Rattle.sv_state_bench.proofs.openings.kept_store.Goals as goal

pub returns : goal.returns
returns c =
    let f = c.in_ok-first.first in
    let g = c.in_ok-second.second in
    let k = as-kept default_name _ (kept_file ∷ []) _ 1 f c.in_ok-first.ensures c.in_ok-kept_files.ensures c.in_ok-kept_rows.ensures in
    let l = as-kept (97 ∷ []) _ [] _ 0 g c.in_ok-second.ensures c.new.ensures.items (ap length c.new-2.ensures.items) in
    may-open f g k l (record { next = 5; families = c.in_ok-both.field-0 }) c.in_ok-both.ensures refl
