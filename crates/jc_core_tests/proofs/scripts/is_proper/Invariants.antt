use Rattle.std.proofs.Common.{take}
use Rattle.jc_shared.specs.Plays.{AreWithin}
use Rattle.jc_core_tests.proofs.scripts.is_proper.Given as goal

-- The commands before this one are of the shape.
abbrev pub invariant-loop-command : goal.invariant-loop-command
invariant-loop-command l = AreWithin l.shape (take l.command-index l.script.commands)
