use Rattle.std.proofs.Common.{ℕ, ltb, rules, arith}
use Rattle.std.proofs.lemmas.List.Sorted.{IsPartitionPoint-from_clause, IsPartitionedBy-ltb}
use Rattle.jc_ranges.proofs.Order.{filter_front, non_decreasing}
use Rattle.jc_verdicts.proofs.rows.count_within.Goals as goal

-- The indexes increase, so those below stand in front of those that are not.
pub returns : goal.returns
returns c =
    let parts =
    IsPartitionPoint-from_clause (λ (index : ℕ). ltb index c.args.completions) c.args.done.now c.partition_point.result c.partition_point.ensures.partitioned
    (IsPartitionedBy-ltb (λ (index : ℕ). index) c.args.done.now c.args.completions (λ i j d q k. non_decreasing c.args.done.now c.requires i j d q k)) (λ a r f q. search rules) in
    filter_front (λ n. ltb n c.args.completions) c.args.done.now c.partition_point.result c.partition_point.ensures.bound
    (λ k low. parts.0 k 0 (omega arith) low) (λ k high within. parts.1 k 0 high within)
