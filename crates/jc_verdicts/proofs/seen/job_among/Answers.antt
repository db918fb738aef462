use Rattle.std.proofs.Common.{◌-◌, ◌+◌, ◌≡◌, subst, ◌∙◌, arith}
use Rattle.jc_log.specs.Log.{job_in}
use Rattle.jc_log.specs.PlainReadings.{is_about_job}
use Rattle.jc_verdicts.specs.LogPlaces.{IsCut}
use Rattle.jc_verdicts.proofs.TouchFacts.{job-last, job-none, not_about, places-rise}
use Rattle.jc_verdicts.proofs.seen.job_among.Goals as goal

-- The places of a key rise.
pub count_below-count-requires : goal.count_below-count-requires
count_below-count-requires c = places-rise (job_in c.args.key.now) (λ e older. is_about_job c.args.key.now e) (not_about c.args.key.now) c.args.log.now c.places_at-told.result.now (c.places_at-told.ensures ∙ c.requires.places.jobs c.args.key.now)

-- No entry among the first is about the key.
pub returns-then-count-eq0 : goal.returns-then-count-eq0
returns-then-count-eq0 c =
    job-none c.args.key.now c.args.log.now c.places_at-told.result.now (c.places_at-told.ensures ∙ c.requires.places.jobs c.args.key.now) c.args.end c.requires.within
    (subst (IsCut c.args.end c.places_at-told.result.now) (omega (arith, c.if-count-eq0.true)) c.count_below-count.ensures)

-- The last of them that is says what the Job is.
pub returns : goal.returns
returns c =
    let count = c.count_below-count.result in
    let more : count ≡ count - 1 + 1 = omega (arith, c.if-count-eq0.false) in
    c.put_job.ensures
    ∙ job-last c.args.key.now c.args.log.now c.places_at-told.result.now (c.places_at-told.ensures ∙ c.requires.places.jobs c.args.key.now) c.args.end (count - 1) c.index-log-place.result c.requires.within
    (subst (IsCut c.args.end c.places_at-told.result.now) more c.count_below-count.ensures) c.index-log-place.is
