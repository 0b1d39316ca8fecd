use Rattle.sv_store.proofs.StandLaws.{follows-through}
use Rattle.sv_store.proofs.flush_files.flush_family.Goals as goal

pub returns-clause-follows : goal.returns-clause-follows
returns-clause-follows g c =
    follows-through c.args.state.now.books c.empty_active.new.state.books c.flush_list.new.state.books c.empty_active.ensures.follows c.flush_list.ensures.follows
