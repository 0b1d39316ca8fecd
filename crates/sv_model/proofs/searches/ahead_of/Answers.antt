use Rattle.std.proofs.Common.{rules}
use Rattle.std.proofs.lemmas.List.Sorted.{IsPartitionPoint-from_clause}
use Rattle.sv_model.specs.Order.{is_ahead}
use Rattle.sv_model.proofs.SearchLaws.{parted}
use Rattle.sv_model.proofs.searches.ahead_of.Goals as goal

pub returns-clause-parted : goal.returns-clause-parted
returns-clause-parted g c = λ up.
    IsPartitionPoint-from_clause (is_ahead g.T.Ranked.key g.T.Ranked.rank c.args.key.now c.args.upto) _ _ c.partition_point.ensures.partitioned (parted g.T.Ranked.key g.T.Ranked.rank c.args.key.now c.args.upto c.args.items.now up) (λ a r f called. search rules)
