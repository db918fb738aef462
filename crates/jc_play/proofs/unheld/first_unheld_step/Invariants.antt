use Rattle.std.proofs.Common.{◌≡◌, ℕ, ◌<◌, None, filter}
use Rattle.jc_machine.specs.DiariesSeen.{diary_seen}
use Rattle.jc_history.specs.Available.{step_events}
use Rattle.jc_history.specs.Play.{first_event}
use Rattle.jc_play.specs.Slots.{is_unheld}
use Rattle.jc_play.proofs.unheld.first_unheld_step.Given as goal

-- The controllers before this one have no step that is left.
abbrev pub invariant-loop-controller : goal.invariant-loop-controller
invariant-loop-controller l = (k : ℕ) → k < l.controller → first_event (filter (is_unheld l.slots) (step_events (diary_seen l.machine k) l.machine.shape.workers k)) ≡ None
