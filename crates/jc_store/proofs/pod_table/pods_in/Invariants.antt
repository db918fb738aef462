use Rattle.std.proofs.Common.{◌≡◌, reverse, take}
use Rattle.jc_log.specs.Log.{pods_in}
use Rattle.jc_store.proofs.pod_table.pods_in.Given as goal

abbrev pub invariant-loop-entry : goal.invariant-loop-entry
invariant-loop-entry l = l.pods ≡ pods_in (reverse (take l.entry-index l.log))
