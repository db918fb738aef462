-- The failure of each pod comes after those of the pods behind it.
use Rattle.std.proofs.Common.{◌≡◌, ◌+◌, ◌-◌, ◌<◌, ◌^◌, ◌&&◌, All, drop, filter, length, map, ap, sym, subst, ◌∙◌, arith}
use Rattle.jc_ranges.specs.Sets.{IsIncreasing}
use Rattle.jc_types.specs.declared.objects.Pod.{Pod}
use Rattle.jc_types.specs.declared.specifications.JobSpec.{JobSpec}
use Rattle.jc_types.specs.declared.statuses.IndexCount.{IndexCount}
use Rattle.jc_types.proofs.ListFacts.{filter_filter}
use Rattle.jc_states.specs.Bases.{is_own}
use Rattle.jc_states.specs.UidLists.{is_in}
use Rattle.jc_perindex.specs.FillingSteps.{raise_each, raise_for}
use Rattle.jc_perindex.proofs.Raised.{each-raised, fewer-behind, one-fits, raised-ascends, raised-next}
use Rattle.jc_perindex.proofs.counts.raise_each.Goals as goal

pub raise_for-requires-clause-fit : goal.raise_for-requires-clause-fit
raise_for-requires-clause-fit c =
    let job = c.args.job.now in
    let pods = c.args.pods.now in
    let test = λ (pod : Pod). is_own job pod && is_in pod.uid c.args.uids.now in
    subst (All (λ (count : IndexCount). count.failures + 1 < 2 ^ 64)) (sym c.loop-place.invariant)
    (one-fits (length pods) (2 ^ 64) job.spec.failure job.status.index_failures (filter test (drop c.loop-place.place pods))
    (fewer-behind test pods c.loop-place.place (omega arith) (omega arith)) (omega (arith, c.requires.few_pods)) c.requires.fit)

pub raise_for-requires-clause-ascending : goal.raise_for-requires-clause-ascending
raise_for-requires-clause-ascending c =
    let job = c.args.job.now in
    let test = λ (pod : Pod). is_own job pod && is_in pod.uid c.args.uids.now in
    let pods = filter test (drop c.loop-place.place c.args.pods.now) in
    subst (λ counts. IsIncreasing (map (λ (count : IndexCount). count.index) counts))
    (sym (c.loop-place.invariant ∙ each-raised job.spec.failure job.status.index_failures c.requires.ascending pods))
    (raised-ascends job.spec.failure job.status.index_failures c.requires.ascending pods)

pub loop-place-preserved-in-Continue-branch-2 : goal.loop-place-preserved-in-Continue-branch-2
loop-place-preserved-in-Continue-branch-2 c =
    let job = c.args.job.now in
    let pods = c.args.pods.now in
    let pod = c.index-pods-place.result in
    let test = λ (pod : Pod). is_own job pod && is_in pod.uid c.args.uids.now in
    c.in_ok-raise_for.ensures
    ∙ ap (λ (spec : JobSpec). raise_for spec.failure c.deref-then-is_newly_failed-2.result.now c.loop-place.counts) c.deref-then-is_newly_failed.ensures
    ∙ ap (λ (pod : Pod). raise_for job.spec.failure pod c.loop-place.counts) c.deref-then-is_newly_failed-2.ensures
    ∙ ap (raise_for job.spec.failure pod) c.loop-place.invariant
    ∙ raised-next job.spec.failure job.status.index_failures test pods (c.loop-place.place - 1) c.loop-place.place pod _ (omega arith) (omega arith)
    c.index-pods-place.is (ap test (sym c.deref-in-loop-place.ensures) ∙ sym c.is_newly_failed.ensures ∙ c.if-is_newly_failed.true)

pub returns : goal.returns
returns c =
    let job = c.args.job.now in
    let pods = c.args.pods.now in
    let each = raise_each job.spec.failure job.status.index_failures in
    let all : c.loop-place.place ≡ 0 = omega arith in
    c.loop-place.invariant
    ∙ ap (λ k. each (filter (λ (pod : Pod). is_own job pod && is_in pod.uid c.args.uids.now) (drop k pods))) all
    ∙ ap each (sym (filter_filter (λ (pod : Pod). is_in pod.uid c.args.uids.now) (is_own job) pods))
