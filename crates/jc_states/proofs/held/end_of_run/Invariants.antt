use Rattle.std.proofs.Common.{◌≡◌, ◌+◌, ◌-◌, ◌<◌, ◌≤◌}
use Rattle.jc_states.specs.Held.{place_for}
use Rattle.jc_states.proofs.held.end_of_run.Given as goal

-- Up to the lower bound the places grow as the indexes do, and past the upper one they do not, if it is below the end.
abbrev pub invariant-halving : goal.invariant-halving
invariant-halving l =
    (l.from ≤ l.low) × (l.low ≤ l.high) × (l.high ≤ l.end)
    × (place_for l.low l.indexes.items ≡ place_for l.from l.indexes.items + (l.low - l.from))
    × (l.high < l.end → place_for (l.high + 1) l.indexes.items ≡ place_for l.from l.indexes.items + (l.high + 1 - l.from) → ⊥)

-- The indexes between the bounds.
abbrev pub decreases-halving : goal.decreases-halving
decreases-halving l = l.high - l.low
