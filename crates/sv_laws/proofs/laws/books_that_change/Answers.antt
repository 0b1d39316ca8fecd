use Rattle.sv_laws.proofs.Kept.{sound-kept}
use Rattle.sv_laws.proofs.laws.books_that_change.Goals as goal

pub returns : goal.returns
returns c = sound-kept
