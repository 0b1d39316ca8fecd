-- What contracts see of a folder of the machine.
use Rattle.std.specs.Prelude.{ℕ}
use Rattle.sv_dir.specs.declared.folder.RealDir.{RealDir}

-- how often it failed
abbrev pub real_faults : {R : Type 0} → RealDir R → ℕ
real_faults dir = dir.faults
