use Rattle.std.proofs.Common.{ℕ, ◌<◌}
use Rattle.sv_registry.proofs.PartLemmas.{NoneAt}
use Rattle.sv_registry.proofs.parts.is_named.Given as goal

-- no SuperVersion at a place before this one names the part
abbrev pub invariant-loop-place : goal.invariant-loop-place
invariant-loop-place l = (i : ℕ) → i < l.place → NoneAt l.part l.supers i
