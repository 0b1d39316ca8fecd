use Rattle.std.proofs.Common.{ap}
use Rattle.sv_model.specs.Books.{Books}
use Rattle.sv_turns.proofs.Currents.{option_set-opens, option_set-turns, switched-opens, switched-turns}
use Rattle.sv_turns.proofs.Memtables.{switched-memtable}
use Rattle.sv_turns.proofs.laws.turns_of_currents.Goals as goal

pub returns-clause-option_set : goal.returns-clause-option_set
returns-clause-option_set c l a b t k f o h =
    (option_set-turns l a b t k f o h, option_set-opens l a b t k f o h, ap (λ (z : Books). z.memtables) h.is)

pub returns-clause-switched : goal.returns-clause-switched
returns-clause-switched c l a b t k f h =
    (switched-turns l a b t k f h, switched-opens l a b t k f h, switched-memtable l a b t k f h)
