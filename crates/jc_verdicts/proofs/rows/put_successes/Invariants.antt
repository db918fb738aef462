use Rattle.std.proofs.Common.{◌≡◌, take}
use Rattle.jc_ranges.specs.Sets.{IsIncreasing}
use Rattle.jc_types.specs.Keys.{same_uid}
use Rattle.jc_log.specs.Tables.{at}
use Rattle.jc_states.specs.UidLists.{join}
use Rattle.jc_verdicts.specs.Verdicts.{success_indexes}
use Rattle.jc_verdicts.proofs.rows.put_successes.Given as goal

-- The set has the indexes of the pods before the index.
abbrev pub invariant-loop-pod : goal.invariant-loop-pod
invariant-loop-pod l = record {
  joined : l.done.items ≡ join l.fn.done.items (success_indexes l.job (at same_uid l.known.entries) (take l.pod-index l.pods));
  order : IsIncreasing l.done.items;
}
