-- The commands so far.
use Rattle.std.proofs.Common.{◌≡◌, take}
use Rattle.jc_single.specs.Played.{with_commands}
use Rattle.jc_single.proofs.reaps.extend.Given as goal

abbrev pub invariant-loop-command : goal.invariant-loop-command
invariant-loop-command l = l.machine ≡ with_commands l.initial.machine (take l.command-index l.commands)
