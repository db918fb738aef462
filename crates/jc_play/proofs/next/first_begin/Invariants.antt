use Rattle.std.proofs.Common.{◌≡◌, ℕ, ◌<◌, None}
use Rattle.jc_machine.specs.DiariesSeen.{diary_seen}
use Rattle.jc_history.specs.Available.{begin_events}
use Rattle.jc_history.specs.Play.{first_event}
use Rattle.jc_runs.specs.Seen.{log_seen}
use Rattle.jc_play.proofs.next.first_begin.Given as goal

-- The controllers before this one have none.
abbrev pub invariant-loop-controller : goal.invariant-loop-controller
invariant-loop-controller l = (k : ℕ) → k < l.controller → first_event (begin_events (diary_seen l.machine k) (log_seen l.machine) l.machine.shape.workers k) ≡ None
