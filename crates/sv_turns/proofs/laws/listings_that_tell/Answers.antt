use Rattle.sv_turns.proofs.Listings.{last_files-live, scan-tells}
use Rattle.sv_turns.proofs.laws.listings_that_tell.Goals as goal

pub returns-clause-scan : goal.returns-clause-scan
returns-clause-scan c = scan-tells

pub returns-clause-last : goal.returns-clause-last
returns-clause-last c = last_files-live
