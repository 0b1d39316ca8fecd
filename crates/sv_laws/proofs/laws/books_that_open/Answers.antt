use Rattle.sv_laws.proofs.Opened.{opening-sound, first-sound}
use Rattle.sv_laws.proofs.laws.books_that_open.Goals as goal

pub returns-clause-opening : goal.returns-clause-opening
returns-clause-opening c = opening-sound

pub returns-clause-first : goal.returns-clause-first
returns-clause-first c = first-sound
