use Rattle.std.proofs.Common.{◌≡◌, length}
use Rattle.std.specs.Slice.Iter.{iter_rest}
use Rattle.jc_table.specs.Pages.{present}
use Rattle.jc_table.proofs.rows.last.Given as goal

abbrev pub invariant-loop-value : goal.invariant-loop-value
invariant-loop-value g l = present (iter_rest l.places) ≡ present (iter_rest l.initial.places)

abbrev pub decreases-loop-value : goal.decreases-loop-value
decreases-loop-value g l = length (iter_rest l.places)
