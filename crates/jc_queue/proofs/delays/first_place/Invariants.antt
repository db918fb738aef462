use Rattle.std.proofs.Common.{◌≡◌, drop, slice_get}
use Rattle.std.specs.Option.{option_and_then}
use Rattle.jc_queue.specs.Delayed.{first_of}
use Rattle.jc_queue.proofs.delays.first_place.Given as goal

-- Of the rows from this place on, the first is known.
abbrev pub invariant-loop-place : goal.invariant-loop-place
invariant-loop-place l = option_and_then (slice_get l.rows.entries) l.first ≡ first_of (drop l.place l.rows.entries)
