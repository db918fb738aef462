use Rattle.std.proofs.Common.{◌≡◌, ◌++◌, replicate}
use Rattle.jc_script.proofs.scripts.add_times.Given as goal

-- the command was added that many times
abbrev pub invariant-loop : goal.invariant-loop
invariant-loop l = l.commands ≡ l.fn.commands ++ replicate l.counter l.said.command
