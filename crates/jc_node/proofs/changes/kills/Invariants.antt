-- Those that were gone through and still ran are killed.
use Rattle.std.proofs.Common.{◌≡◌, filter_map, take}
use Rattle.jc_history.specs.Nodes.{killed}
use Rattle.jc_node.proofs.changes.kills.Given as goal

abbrev pub invariant-loop-container : goal.invariant-loop-container
invariant-loop-container l = l.changes ≡ filter_map killed (take l.container-index l.containers)
