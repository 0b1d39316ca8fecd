use Rattle.sv_turns.proofs.Memtables.{made-memtable, made-opens, made-turns}
use Rattle.sv_turns.proofs.laws.turns_of_made_families.Goals as goal

pub returns-clause-turns : goal.returns-clause-turns
returns-clause-turns c l a b t k r h near own = made-turns l a b t k r h near own

pub returns-clause-opens : goal.returns-clause-opens
returns-clause-opens c l a b t k r h sound = made-opens l a b t k r h sound

pub returns-clause-memtable : goal.returns-clause-memtable
returns-clause-memtable c l a b t k r h sound = made-memtable l a b t k r h sound
