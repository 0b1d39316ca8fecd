-- What a refused output leaves.
use Rattle.std.specs.Prelude.{◌≡◌, ℕ, Option}
use Rattle.sv_model.specs.declared.refusals.Refusal.{Refusal}
use Rattle.sv_model.specs.declared.refusals.Refusal.TheVariants as refusal
use Rattle.sv_model.specs.Files.{Files}
use Rattle.sv_dir.specs.Files.{LeavesAny}

-- An output under this number was refused: the directory failed at it, and the file of that number is absent or holds
-- any bytes; or out of memory, and the files are as they were.
abbrev pub OutputRefused : ℕ → Option Files → Option Files → Refusal → Type 0
OutputRefused number before after (refusal.DirFault n) = (n ≡ number) × LeavesAny number before after
OutputRefused number before after refusal.OutOfMemory = after ≡ before
OutputRefused number before after e = ⊥
