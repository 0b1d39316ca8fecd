use Rattle.std.proofs.Common.{◌++◌, subst}
use Rattle.std.specs.Option.{option_to_list}
use Rattle.sv_model.specs.Named.{NamedMemtable}
use Rattle.sv_laws.specs.Midst.{Midst}
use Rattle.sv_objects.proofs.cleanup.end_active.Goals as goal

pub returns : goal.returns
returns c = record {
  midst = λ all left apart h. c.end_unnamed.ensures.midst all left apart
      (subst (λ o. Midst (NamedMemtable c.args.supers.now c.args.lists.now) all c.args.memtables.now (option_to_list o ++ left) c.args.cells.now.items) c.in-Some.is h);
}
