use Rattle.std.proofs.Common.{ℕ, ltb, rules, arith, ltb-true, ltb-false}
use Rattle.std.proofs.lemmas.List.Sorted.{IsPartitionPoint-from_clause, IsPartitionedBy-ltb}
use Rattle.jc_verdicts.proofs.places.count_below.Goals as goal

-- The places rise, so a search by halves finds the first that is not below.
pub returns : goal.returns
returns c =
    let parts =
    IsPartitionPoint-from_clause (λ (place : ℕ). ltb place c.args.n) c.args.places.now c.partition_point.result c.partition_point.ensures.partitioned
    (IsPartitionedBy-ltb (λ (place : ℕ). place) c.args.places.now c.args.n c.requires) (λ a r f q. search rules) in
    record {
      within = c.partition_point.ensures.bound;
      below = λ i low. ltb-true _ _ (parts.0 i 0 (omega arith) low);
      above = λ i high within. ltb-false _ _ (parts.1 i 0 high within);
    }
