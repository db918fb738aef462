-- The step's pod is one of the log's, and something befalls it.
use Rattle.jc_node.proofs.LawFacts.{step-again, step-befalls, step-there}
use Rattle.jc_node.proofs.laws.steps_can_be_made.Goals as goal

pub returns : goal.returns
returns c = record { there = step-there; befalls = step-befalls; again = step-again }
