use Rattle.std.proofs.Common.{◌≡◌, ◌≤◌, ℕ, List, Some, drop}
use Rattle.std.specs.Prelude.{slice_get}
use Rattle.sv_model.specs.declared.records.FileStatus.TheVariants.{Live}
use Rattle.sv_model.specs.declared.records.RegisteredFile.{RegisteredFile}
use Rattle.sv_model.specs.declared.records.Version.{Version}
use Rattle.sv_model.specs.Named.{NamedFile}
use Rattle.sv_model.specs.Lists.{In}
use Rattle.sv_model.specs.Numbers.{IsRegistered, registered}
use Rattle.sv_laws.specs.Midst.{MidstFiles}
use Rattle.sv_objects.proofs.cleanup.retire_all.Given as goal

abbrev pub invariant-loop-number : goal.invariant-loop-number
invariant-loop-number l = record {
  live : (i n : ℕ) → l.number-index ≤ i → slice_get l.numbers i ≡ Some n → IsRegistered l.files.numbers n Live;
  midst : (versions : List Version) (all : List RegisteredFile) → ((n : ℕ) → registered n all ≤ 1) → ((n : ℕ) → In n l.numbers → NamedFile versions n → ⊥) → MidstFiles (NamedFile versions) all l.fn.files.numbers l.numbers → MidstFiles (NamedFile versions) all l.files.numbers (drop l.number-index l.numbers);
  rest : l.files ≡ record l.fn.files { numbers = l.files.numbers };
}
