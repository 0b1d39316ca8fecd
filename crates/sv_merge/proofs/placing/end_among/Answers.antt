use Rattle.std.proofs.Common.{◌≡◌, ℕ, nat_lt, slice_get, rules, ◌∙◌, arith}
use Rattle.std.specs.Option.{unwrap_or}
use Rattle.std.proofs.lemmas.List.Sorted.{IsPartitionPoint-from_clause, IsPartitionedBy-ltb}
use Rattle.std.proofs.lemmas.Option.{gets}
use Rattle.sv_merge.proofs.PlacingLaws.{among_at}
use Rattle.sv_merge.proofs.placing.end_among.Goals as goal

pub returns : goal.returns
returns c =
    let cuts = c.args.cuts.now in
    let parts = IsPartitionPoint-from_clause (λ y. nat_lt y c.args.number) cuts c.partition_point-at.result c.partition_point-at.ensures.partitioned
    (IsPartitionedBy-ltb (λ (x : ℕ). x) cuts c.args.number c.requires) (λ a r f called. search rules) in
    let found : c.unwrap_or.result ≡ unwrap_or (slice_get cuts c.partition_point-at.result) c.args.to = grind (arith, gets) in
    found ∙ among_at cuts c.args.to c.args.number c.partition_point-at.result (λ k d lt. parts.0 k d (omega arith) lt) parts.1
