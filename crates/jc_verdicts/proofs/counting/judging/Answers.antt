use Rattle.std.proofs.Common.{Some, None, refl}
use Rattle.jc_log.specs.Deeds.{deed}
use Rattle.jc_verdicts.specs.Verdicts.{deeds_of}
use Rattle.jc_verdicts.proofs.VerdictEvents.{judging-start}
use Rattle.jc_verdicts.proofs.counting.judging.Goals as goal

-- No Job was there.
pub returns-in_default-job_among : goal.returns-in_default-job_among
returns-in_default-job_among c =
    judging-start (deed c.args.script.now c.args.past.now) (deeds_of c.args.script.now c.args.before.now) c.args.log.now (Some c.in-Some.start) c.in-Some.start c.end_of.result None
    c.in-Some.ensures refl c.end_of.ensures.same c.in_default-job_among.ensures

-- The Job was there.
pub returns : goal.returns
returns c =
    judging-start (deed c.args.script.now c.args.past.now) (deeds_of c.args.script.now c.args.before.now) c.args.log.now (Some c.in-Some.start) c.in-Some.start c.end_of.result (Some c.in-Some-job_among.job.now)
    c.in-Some.ensures refl c.end_of.ensures.same c.in-Some-job_among.ensures
