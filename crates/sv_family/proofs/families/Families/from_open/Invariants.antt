use Rattle.std.proofs.Common.{◌≡◌, ◌++◌, false, map, take}
use Rattle.sv_family.specs.Openings.{open_family}
use Rattle.sv_family.proofs.families.Families.from_open.Given as goal

-- the others so far stand after the first
abbrev pub invariant-loop-other : goal.invariant-loop-other
invariant-loop-other l = l.families.items ≡ l.initial.families.items ++ map (open_family false) (take l.other-index l.others)
