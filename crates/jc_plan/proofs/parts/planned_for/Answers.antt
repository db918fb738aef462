-- What is counted in, with what is said of indexes, is what the plan is made of; all else is as it was.
use Rattle.std.proofs.Common.{◌<◌, ◌≤◌, ◌^◌, length}
use Rattle.jc_types.specs.declared.syncs.CountIn.{CountIn}
use Rattle.jc_types.specs.Counts.{counts}
use Rattle.jc_plan.proofs.PartFacts.{accounted-is, filled-holds}
use Rattle.jc_plan.proofs.parts.planned_for.Goals as goal

pub planned_with-requires-clause-counted : goal.planned_with-requires-clause-counted
planned_with-requires-clause-counted c =
    accounted-is c.args.job.now c.args.basis.now c.in_ok-counted.counted c.requires.its_job c.in_ok-counted.ensures.counted
    c.fill.new.counted c.in_ok-fill.ensures.filled

pub planned_with-requires-clause-failed : goal.planned_with-requires-clause-failed
planned_with-requires-clause-failed c =
    filled-holds c.args.job.now c.args.basis.now c.in_ok-counted.counted c.requires.its_job c.in_ok-counted.ensures.counted
    c.fill.new.counted c.in_ok-fill.ensures.filled (λ (k : CountIn). (counts k).0 < 2 ^ 64) c.in_ok-counted.ensures.failed_fits

pub planned_with-requires-clause-succeeded : goal.planned_with-requires-clause-succeeded
planned_with-requires-clause-succeeded c =
    filled-holds c.args.job.now c.args.basis.now c.in_ok-counted.counted c.requires.its_job c.in_ok-counted.ensures.counted
    c.fill.new.counted c.in_ok-fill.ensures.filled (λ (k : CountIn). (counts k).1 < 2 ^ 64) c.in_ok-counted.ensures.succeeded_fits

pub planned_with-requires-clause-new_failed : goal.planned_with-requires-clause-new_failed
planned_with-requires-clause-new_failed c =
    filled-holds c.args.job.now c.args.basis.now c.in_ok-counted.counted c.requires.its_job c.in_ok-counted.ensures.counted
    c.fill.new.counted c.in_ok-fill.ensures.filled (λ (k : CountIn). k.new_failed ≤ length c.args.basis.now.pods) c.in_ok-counted.ensures.few_failed
