use Rattle.std.proofs.Common.{◌≡◌, ◌-◌, None}
use Rattle.std.specs.List.{filter_map, range_with_len}
use Rattle.jc_machine.specs.DiariesSeen.{diary_seen}
use Rattle.jc_history.specs.Available.{earliest}
use Rattle.jc_history.specs.Delays.{least_delay}
use Rattle.jc_play.proofs.next.least_of_all.Given as goal

-- What was found, with the controllers from this one on, is what all have.
abbrev pub invariant-loop-controller : goal.invariant-loop-controller
invariant-loop-controller l = earliest None
    (filter_map (λ k. least_delay (diary_seen l.machine k)) (range_with_len 0 l.machine.shape.controllers))
    ≡ earliest l.found (filter_map (λ k. least_delay (diary_seen l.machine k))
    (range_with_len l.controller (l.machine.shape.controllers - l.controller)))
