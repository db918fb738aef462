-- What was read, and what is left.
use Rattle.std.proofs.Common.{option_copied}
use Rattle.jc_reap.proofs.TtlReading.{IsTtlReading, left_len}
use Rattle.jc_reap.proofs.ttls.read_ttls.Given as goal

abbrev pub invariant-lines : goal.invariant-lines
invariant-lines l = IsTtlReading l.shape l.bytes l.ttls l.number (option_copied l.left)

abbrev pub decreases-lines : goal.decreases-lines
decreases-lines l = left_len (option_copied l.left)
