use Rattle.std.proofs.Common.{refl}
use Rattle.jc_print.specs.PrintedStatuses.{with_totals}
use Rattle.jc_print.proofs.Puts.{put_over}
use Rattle.jc_print.proofs.printed_statuses.put_totals.Goals as goal

pub returns : goal.returns
unfolding with_totals
returns c =
    put_over _ _ _ _ _ _ c.in_ok-put_unless_zero-2.ensures refl
    (put_over _ _ _ _ _ _ c.in_ok-put_unless_zero.ensures refl
    (put_over _ _ _ _ _ _ c.in_ok-put_given.ensures c.in_ok-completed.ensures refl))
