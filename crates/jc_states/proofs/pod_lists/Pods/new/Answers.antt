use Rattle.jc_states.proofs.HolderFacts.{held-none}
use Rattle.jc_states.proofs.OddFacts.{odd-none}
use Rattle.jc_states.proofs.TallyFacts.{kept-none}
use Rattle.jc_states.proofs.pod_lists.Pods.new.Goals as goal

-- There are no pods, no rows and no UIDs.
pub invariant_of-result : goal.invariant_of-result
invariant_of-result c = record {
  tallies = kept-none c.new.result.items c.new-2.result.entries c.new.ensures.items c.new-2.ensures.empty;
  odd = odd-none c.new.result.items c.new-3.result.keys c.new.ensures.items c.new-3.ensures.empty;
  held = held-none c.new.result.items c.new-4.result c.new.ensures.items c.new-4.ensures;
}
