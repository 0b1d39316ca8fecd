use Rattle.std.proofs.Common.{◌⊎◌, ℕ, drop}
use Rattle.std.specs.Prelude.{◌↔◌}
use Rattle.std.specs.BTreeSet.{keys}
use Rattle.sv_model.specs.Lists.{In}
use Rattle.sv_model.specs.Named.{numbers_of}
use Rattle.sv_state.proofs.live.add_numbers.Given as goal

abbrev pub invariant-loop-file : goal.invariant-loop-file
invariant-loop-file l =
    (n : ℕ) → (In n (keys l.numbers) ⊎ In n (numbers_of (drop l.file-index l.files))) ↔ (In n (keys l.initial.numbers) ⊎ In n (numbers_of l.files))
