use Rattle.std.proofs.Common.{refl, ◌∙◌, ap}
use Rattle.jc_print.specs.PrintedMembers.{unless_empty}
use Rattle.jc_print.specs.PrintedStatuses.{with_failures}
use Rattle.jc_print.proofs.Puts.{put_over}
use Rattle.jc_print.proofs.printed_statuses.put_failures.Goals as goal

pub returns : goal.returns
unfolding with_failures
returns c =
    put_over _ _ _ _ _ _ c.in_ok-put_given-2.ensures
    (c.list_unless_empty.ensures ∙ ap unless_empty c.in_ok-counts.ensures)
    (put_over _ _ _ _ _ _ c.in_ok-put_given.ensures c.in_ok-failed.ensures refl)
