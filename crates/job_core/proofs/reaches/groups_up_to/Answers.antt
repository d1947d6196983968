use Rattle.std.proofs.Common.{leb, leb-true, leb-false, arith, rules}
use Rattle.std.proofs.lemmas.List.Sorted.{IsPartitionPoint-from_clause, IsPartitionedBy-leb}
use Rattle.job_core.proofs.ReachesAfterPuts.{own_group, rising_first}
use Rattle.job_core.proofs.reaches.groups_up_to.Goals as goal

pub returns-clause-last : goal.returns-clause-last
returns-clause-last c =
    let parted = IsPartitionedBy-leb (λ g. g.first) c.args.groups.now c.args.page (rising_first c.args.groups.now c.requires) in
    let point = IsPartitionPoint-from_clause (λ g. leb g.first c.args.page) _ _ c.partition_point.ensures.partitioned parted (λ a r q k. search rules) in
    own_group c.args.groups.now c.args.page c.partition_point.result c.requires c.partition_point.ensures.bound (λ n d lt. leb-true _ _ (point.0 n d (omega arith) lt)) (λ n d le lt. leb-false _ _ (point.1 n d le lt))
