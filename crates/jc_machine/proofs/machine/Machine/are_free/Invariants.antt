use Rattle.std.proofs.Common.{◌≡◌, ◌<◌, ℕ, true, is_none}
use Rattle.jc_history.specs.Registers.{register}
use Rattle.jc_machine.specs.DiariesSeen.{diary_seen}
use Rattle.jc_machine.proofs.machine.Machine.are_free.Given as goal

-- The workers before this one have no syncs.
abbrev pub invariant-loop-worker : goal.invariant-loop-worker
invariant-loop-worker l = (w : ℕ) → w < l.worker → is_none (register w (diary_seen l.self l.controller)) ≡ true
