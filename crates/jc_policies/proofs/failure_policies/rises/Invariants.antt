use Rattle.std.proofs.Common.{◌≡◌, None, drop}
use Rattle.jc_policies.specs.FailurePolicies.{rises_from}
use Rattle.jc_policies.proofs.failure_policies.rises.Given as goal

-- the codes so far rise
abbrev pub invariant-loop-code : goal.invariant-loop-code
invariant-loop-code l = rises_from l.low (drop l.code-index l.codes) ≡ rises_from None l.codes
