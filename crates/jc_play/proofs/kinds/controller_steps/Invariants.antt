use Rattle.std.proofs.Common.{◌≡◌, ℕ, ◌<◌, true, is_none}
use Rattle.jc_machine.specs.DiariesSeen.{diary_seen}
use Rattle.jc_history.specs.Registers.{register}
use Rattle.jc_play.proofs.kinds.controller_steps.Given as goal

-- The workers before this one have no sync.
abbrev pub invariant-loop-worker : goal.invariant-loop-worker
invariant-loop-worker l = (k : ℕ) → k < l.worker → is_none (register k (diary_seen l.machine l.controller)) ≡ true
