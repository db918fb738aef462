use Rattle.std.proofs.Common.{option_copied}
use Rattle.jc_script.proofs.Reading.{IsReading, left_len}
use Rattle.jc_script.proofs.scripts.read_script.Given as goal

abbrev pub invariant-lines : goal.invariant-lines
invariant-lines l = IsReading l.shape l.bytes l.commands l.number (option_copied l.left)

abbrev pub decreases-lines : goal.decreases-lines
decreases-lines l = left_len (option_copied l.left)
