use Rattle.std.proofs.Common.{◌-◌, length}
use Rattle.jc_audit.proofs.TailFacts.{IsSameSoFar}
use Rattle.jc_audit.proofs.tails.lines_compared.Given as goal

-- The lines so far were those that are wanted.
abbrev pub invariant-comparing : goal.invariant-comparing
invariant-comparing l = IsSameSoFar l.first l.line l.at l.due l.rest l.wanted l.full

-- How many bytes are still wanted.
abbrev pub decreases-comparing : goal.decreases-comparing
decreases-comparing l = length l.wanted - l.due
