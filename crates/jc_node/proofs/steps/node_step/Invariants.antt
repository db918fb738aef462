-- Nothing befalls the pods that were passed over.
use Rattle.std.proofs.Common.{◌+◌, ◌-◌, length}
use Rattle.jc_log.specs.Log.{pods_in}
use Rattle.jc_node.specs.Fated.{ends_at_key}
use Rattle.jc_node.proofs.NextFacts.{NothingBelow}
use Rattle.jc_node.proofs.steps.node_step.Given as goal

abbrev pub invariant-pods : goal.invariant-pods
invariant-pods l = NothingBelow (ends_at_key l.fates) l.from (pods_in l.store)

abbrev pub decreases-pods : goal.decreases-pods
decreases-pods l = length l.store + 1 - l.from
