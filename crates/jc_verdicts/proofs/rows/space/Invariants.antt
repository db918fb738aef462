use Rattle.std.proofs.Common.{◌≡◌, take}
use Rattle.jc_types.specs.Keys.{same_uid}
use Rattle.jc_log.specs.Tables.{at}
use Rattle.jc_verdicts.specs.Verdicts.{space_by}
use Rattle.jc_verdicts.proofs.rows.space.Given as goal

-- So many may join where the pods are those before the index.
abbrev pub invariant-loop-pod : goal.invariant-loop-pod
invariant-loop-pod l = l.space ≡ space_by l.spec (at same_uid l.known.entries) (take l.pod-index l.pods)
