-- Marks of the pods so far whose Job is gone.
use Rattle.std.proofs.Common.{◌≡◌, ◌++◌, map}
use Rattle.std.specs.Prelude.{filter}
use Rattle.jc_reap.specs.Reaping.{is_ownerless, mark_commands}
use Rattle.jc_reap.proofs.marking.mark_all_ownerless.Given as goal

abbrev pub invariant-loop-pod : goal.invariant-loop-pod
invariant-loop-pod l =
    l.commands ≡ l.initial.commands ++ mark_commands (filter (is_ownerless (map (λ row. row.1) l.fn.jobs)) (map (λ pod. pod.now) l.yielded))
