use Rattle.sv_script.proofs.WellFormedLemmas.{parsed_well}
use Rattle.sv_script.proofs.parsing.reading.parse.Goals as goal

pub returns-clause-well_formed : goal.returns-clause-well_formed
returns-clause-well_formed c = parsed_well c.args.bytes.now c.script_from.result c.script_from.ensures.script
