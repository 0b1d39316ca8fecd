-- How a reading stopped is how the run ends.
use Rattle.sv_run.proofs.scripts.read_script.Goals as goal

pub returns-in-Err-clause-err : goal.returns-in-Err-clause-err
returns-in-Err-clause-err g c = λ words d kept.
    c.status_of.ensures (record { words = words; left = g.S.Source.left c.args.source.now; before = g.S.Source.faults c.args.source.now; now = g.S.Source.faults c.read_all.new.source }) d kept c.in-Err.ensures.stopped
