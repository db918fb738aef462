use Rattle.std.proofs.Common.{◌≡◌, take}
use Rattle.jc_states.specs.Bases.{own_pods}
use Rattle.jc_account.specs.Judged.{stayed}
use Rattle.jc_account.proofs.listed.stayed.Given as goal

-- The UIDs so far are those before the index whose pod is tracked.
abbrev pub invariant-loop-uid : goal.invariant-loop-uid
invariant-loop-uid l = l.rest ≡ stayed (own_pods l.job l.pods) (take l.uid-index l.uids)
