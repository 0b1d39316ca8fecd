use Rattle.std.proofs.Common.{◌≡◌, take}
use Rattle.sv_state.specs.Begun.{IsBegun}
use Rattle.sv_state.proofs.begun.Begun.of.Given as goal

abbrev pub invariant-loop-family : goal.invariant-loop-family
invariant-loop-family l = record {
  begun : IsBegun (take l.family-index l.kept) l.begun;
  files : l.begun.objects.files ≡ l.initial.begun.objects.files;
}
