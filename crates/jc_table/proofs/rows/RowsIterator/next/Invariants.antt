use Rattle.std.proofs.Common.{◌≡◌, ◌++◌, length}
use Rattle.std.specs.Slice.Iter.{iter_rest}
use Rattle.jc_table.specs.Pages.{present, present_in}
use Rattle.jc_table.proofs.rows.RowsIterator.next.Given as goal

abbrev pub invariant-loop-value : goal.invariant-loop-value
invariant-loop-value g l =
    present (iter_rest l.self-inside.front) ++ (present_in (iter_rest l.self-inside.pages) ++ present (iter_rest l.self-inside.back)) ≡ l.fn.self

abbrev pub decreases-loop-value : goal.decreases-loop-value
decreases-loop-value g l = length (iter_rest l.self-inside.pages)
