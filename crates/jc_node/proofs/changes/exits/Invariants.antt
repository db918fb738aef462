-- What is said so far, and what the rest then exit with.
use Rattle.std.proofs.Common.{◌≡◌, ◌++◌, drop}
use Rattle.jc_history.specs.Nodes.{exits}
use Rattle.jc_node.proofs.changes.exits.Given as goal

abbrev pub invariant-loop-container : goal.invariant-loop-container
invariant-loop-container l =
    exits l.exit l.containers ≡ l.changes ++ exits l.code (drop l.container-index l.containers)
