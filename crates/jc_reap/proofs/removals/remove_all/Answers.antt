use Rattle.std.proofs.Common.{ap, ◌∙◌}
use Rattle.jc_types.specs.declared.numbers.Uid.{Uid}
use Rattle.jc_reap.specs.declared.expiries.Expiry.{Expiry}
use Rattle.jc_reap.specs.Reaping.{later_moment}
use Rattle.jc_reap.proofs.Lists.{reached-more, removals-more}
use Rattle.jc_reap.proofs.removals.remove_all.Goals as goal

-- The removal of one more Job.
pub loop-expiry-preserved : goal.loop-expiry-preserved
loop-expiry-preserved c =
    let row : Expiry × Uid = (c.in-Some.expiry, c.in-Some.uid) in (
      removals-more c.args.store.now c.args.now c.loop-expiry.yielded row c.loop-expiry.reached c.args.commands.now _ c.wait.new.commands _
          c.loop-expiry.invariant.0 c.loop-expiry.invariant.1 c.in_ok-wait.ensures c.in_ok-remove.ensures,
      c.later_moment-reached.ensures
          ∙ ap (λ m. later_moment m c.in-Some.expiry.moment) c.loop-expiry.invariant.1
          ∙ reached-more c.args.now c.loop-expiry.yielded row,
    )
