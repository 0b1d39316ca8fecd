use Rattle.std.proofs.Common.{nat_le, rules}
use Rattle.std.proofs.lemmas.List.Sorted.{IsPartitionPoint-from_clause, IsPartitionedBy-leb}
use Rattle.sv_memtable.proofs.numbers.count_upto.Goals as goal

pub returns-clause-parted : goal.returns-clause-parted
returns-clause-parted c =
    IsPartitionPoint-from_clause (λ n. nat_le n c.args.upto) _ _ c.partition_point.ensures.partitioned (IsPartitionedBy-leb (λ n. n) c.args.numbers.now c.args.upto c.requires) (λ a r f called. search rules)
