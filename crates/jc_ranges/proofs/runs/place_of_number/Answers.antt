use Rattle.std.proofs.Common.{ltb, rules}
use Rattle.std.proofs.lemmas.List.Sorted.{IsPartitionPoint-from_clause}
use Rattle.jc_ranges.specs.declared.runs.Run.{Run}
use Rattle.jc_ranges.proofs.Apart.{partitioned_runs, parted_at}
use Rattle.jc_ranges.proofs.runs.place_of_number.Goals as goal

pub returns : goal.returns
returns c =
    parted_at c.args.n c.args.runs.now c.partition_point.result c.partition_point.ensures.bound
    (IsPartitionPoint-from_clause (λ (r : Run). ltb r.last c.args.n) c.args.runs.now c.partition_point.result c.partition_point.ensures.partitioned (partitioned_runs c.args.n c.args.runs.now c.requires)
    (λ a r f q. search rules))
