use Rattle.std.proofs.Common.{◌≡◌, ℕ, ◌<◌, None, filter}
use Rattle.jc_machine.specs.DiariesSeen.{diary_seen}
use Rattle.jc_history.specs.Available.{step_event}
use Rattle.jc_history.specs.Play.{first_event}
use Rattle.jc_play.specs.Slots.{is_unheld}
use Rattle.jc_play.proofs.unheld.controller_unheld_steps.Given as goal

-- The workers before this one have no step that is left.
abbrev pub invariant-loop-worker : goal.invariant-loop-worker
invariant-loop-worker l = (k : ℕ) → k < l.worker → first_event (filter (is_unheld l.slots) (step_event (diary_seen l.machine l.controller) l.controller k)) ≡ None
