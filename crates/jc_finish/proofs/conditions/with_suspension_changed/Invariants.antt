use Rattle.std.proofs.Common.{◌≡◌, map, take}
use Rattle.jc_finish.specs.Settled.{in_place}
use Rattle.jc_finish.proofs.conditions.with_suspension_changed.Given as goal

-- The conditions so far, each changed.
abbrev pub invariant-loop-condition : goal.invariant-loop-condition
invariant-loop-condition l = l.settled ≡ map (in_place l.new) (take l.condition-index l.conditions)
