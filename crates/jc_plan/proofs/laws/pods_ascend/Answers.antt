-- The lemmas on the order of a plan's lists.
use Rattle.jc_plan.proofs.OrderFacts.{let_goes-ascend, marks-ascend, pod-found, releases-ascend}
use Rattle.jc_plan.proofs.laws.pods_ascend.Goals as goal

pub returns : goal.returns
returns c = record { found = pod-found; marks = marks-ascend; let_goes = let_goes-ascend; releases = releases-ascend }
