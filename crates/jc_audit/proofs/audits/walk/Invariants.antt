use Rattle.std.proofs.Common.{◌-◌, length}
use Rattle.jc_audit.proofs.AuditFacts.{IsUnderWay}
use Rattle.jc_audit.proofs.audits.walk.Given as goal

-- The lines in front of this place were taken.
abbrev pub invariant-walking : goal.invariant-walking
invariant-walking l = IsUnderWay l.fn.machine.shape l.bytes l.at l.machine

-- How many bytes are left.
abbrev pub decreases-walking : goal.decreases-walking
decreases-walking l = length l.bytes - l.at
