use Rattle.std.proofs.Common.{length}
use Rattle.jc_states.proofs.NotedFacts.{AreLeft}
use Rattle.jc_states.proofs.pod_lists.Pods.few_odd_pods.Given as goal

-- Of the pods at odds some are copied, and the numbers are those of the others.
abbrev pub invariant-copying : goal.invariant-copying
invariant-copying l = AreLeft l.self l.copies.items l.numbers

-- The numbers that are left.
abbrev pub decreases-copying : goal.decreases-copying
decreases-copying l = length l.numbers
