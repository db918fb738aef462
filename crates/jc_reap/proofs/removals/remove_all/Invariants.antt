-- The removals of the Jobs so far, and the moment that is reached by them.
use Rattle.std.proofs.Common.{◌≡◌, ◌++◌}
use Rattle.jc_reap.specs.Reaping.{reached_after, removals}
use Rattle.jc_reap.proofs.removals.remove_all.Given as goal

abbrev pub invariant-loop-expiry : goal.invariant-loop-expiry
invariant-loop-expiry l =
    (l.commands ≡ l.initial.commands ++ removals l.store l.fn.now l.yielded) × (l.reached ≡ reached_after l.fn.now l.yielded)
