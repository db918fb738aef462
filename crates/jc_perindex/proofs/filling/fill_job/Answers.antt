-- What is said of a Job without a limit for each index, and of one with it.
use Rattle.std.proofs.Common.{List, map, sym, ap, subst, ◌∙◌}
use Rattle.jc_ranges.specs.Sets.{IsIncreasing}
use Rattle.jc_types.specs.declared.numbers.Uid.{Uid}
use Rattle.jc_types.specs.declared.specifications.JobSpec.{JobSpec}
use Rattle.jc_types.specs.declared.statuses.IndexCount.{IndexCount}
use Rattle.jc_states.specs.Bases.{own_pods}
use Rattle.jc_perindex.specs.Failures.{failed_set, newly_failed}
use Rattle.jc_perindex.specs.FillingSteps.{raise_each}
use Rattle.jc_perindex.proofs.Filled.{filled-none, filled-some}
use Rattle.jc_perindex.proofs.Raised.{each-raised, raised-ascends}
use Rattle.jc_perindex.proofs.filling.fill_job.Goals as goal

pub returns-in_default-clause-filled : goal.returns-in_default-clause-filled
returns-in_default-clause-filled c =
    let job = c.args.job.now in
    filled-none job (own_pods job c.args.pods.now) c.args.counted.now c.new.result c.new-in_default.result (sym (ap (λ (spec : JobSpec). spec.per_index) c.deref.ensures) ∙ c.in_default.is) c.new.ensures c.new-in_default.ensures

pub failed_set-requires-clause-ascending : goal.failed_set-requires-clause-ascending
failed_set-requires-clause-ascending c =
    let job = c.args.job.now in
    let up = c.requires.failures.ascending in
    let pods = newly_failed (own_pods job c.args.pods.now) c.as_slice.result.now in
    subst (λ counts. IsIncreasing (map (λ (count : IndexCount). count.index) counts))
    (sym (c.in_ok-counts.ensures ∙ each-raised job.spec.failure job.status.index_failures up pods))
    (raised-ascends job.spec.failure job.status.index_failures up pods)

pub returns-clause-filled : goal.returns-clause-filled
returns-clause-filled c =
    let job = c.args.job.now in
    let own = own_pods job c.args.pods.now in
    let up = c.requires.failures.ascending in
    let now =
    c.in_ok-counts.ensures
    ∙ ap (λ (uids : List Uid). raise_each job.spec.failure job.status.index_failures (newly_failed own uids)) c.as_slice.ensures
    ∙ each-raised job.spec.failure job.status.index_failures up (newly_failed own c.args.counted.now.judged_failed)
    in filled-some job own c.args.counted.now c.in_ok-failed.failed c.in_ok-counts.counts c.in-Some.limit (sym (ap (λ (spec : JobSpec). spec.per_index) c.deref.ensures) ∙ c.in-Some.is)
    (c.in_ok-failed.ensures ∙ ap (failed_set job c.in-Some.limit c.args.counted.now.completed) now)
    now
