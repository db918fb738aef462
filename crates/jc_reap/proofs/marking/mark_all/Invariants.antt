-- Marks of the pods so far.
use Rattle.std.proofs.Common.{◌≡◌, ◌++◌, take}
use Rattle.jc_reap.specs.Reaping.{mark_commands}
use Rattle.jc_reap.proofs.marking.mark_all.Given as goal

abbrev pub invariant-loop-pod : goal.invariant-loop-pod
invariant-loop-pod l = l.commands ≡ l.initial.commands ++ mark_commands (take l.pod-index l.pods)
