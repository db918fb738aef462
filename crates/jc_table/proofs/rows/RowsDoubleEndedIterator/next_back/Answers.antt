use Rattle.std.proofs.Common.{◌∙◌}
use Rattle.std.specs.Slice.Iter.{iter_rest}
use Rattle.jc_table.specs.Pages.{present}
use Rattle.jc_table.proofs.PageFacts.{last-page}
use Rattle.jc_table.proofs.rows.RowsDoubleEndedIterator.next_back.Goals as goal

-- The back comes to the last page.
pub loop-value-preserved : goal.loop-value-preserved
loop-value-preserved g c =
    last-page (present (iter_rest c.loop-value.self-inside.front)) (iter_rest c.loop-value.self-inside.pages) (iter_rest c.next_back.new.self) c.in-Some-next_back.page.now
    (iter_rest c.loop-value.self-inside.back) (iter_rest c.iter-self-inside.result) _ c.loop-value.invariant c.in_default.ensures.0 c.in-Some-next_back.ensures.steps
    (c.iter-self-inside.ensures.rest ∙ c.deref.ensures.value)
