-- Of the pods to look at all is known that is of all, and the same is counted.
use Rattle.std.proofs.Common.{◌≡◌, ◌≤◌, IfOk, ap, length, ◌∙◌, subst, sym, arith}
use Rattle.std.proofs.lemmas.Result.{IfOk-weaker}
use Rattle.jc_types.specs.declared.statuses.JobStatus.{JobStatus}
use Rattle.jc_types.specs.declared.syncs.CountIn.{CountIn}
use Rattle.jc_states.specs.PodLists.{IsRising}
use Rattle.jc_account.proofs.NotedFacts.{some-counted, some-few, some-small, some-tidy, some-totals}
use Rattle.jc_account.proofs.accounts.count_noted.Goals as goal

pub count_job-requires-clause-by_index : goal.count_job-requires-clause-by_index
count_job-requires-clause-by_index c =
    some-tidy c.args.job.now c.args.pods.now _ _ _
    (c.as_slice-succeeded.ensures ∙ ap (λ (s : JobStatus). s.uncounted_succeeded) c.deref.ensures)
    (c.as_slice-failed.ensures ∙ ap (λ (s : JobStatus). s.uncounted_failed) c.deref-2.ensures)
    (c.as_slice.ensures.value ∙ c.in_ok-noted.ensures.pods) c.requires.by_index

pub count_job-requires-clause-totals : goal.count_job-requires-clause-totals
count_job-requires-clause-totals c =
    some-totals c.args.job.now c.args.pods.now _ _ _
    (c.as_slice-succeeded.ensures ∙ ap (λ (s : JobStatus). s.uncounted_succeeded) c.deref.ensures)
    (c.as_slice-failed.ensures ∙ ap (λ (s : JobStatus). s.uncounted_failed) c.deref-2.ensures)
    (c.as_slice.ensures.value ∙ c.in_ok-noted.ensures.pods) c.requires.totals

pub count_job-requires-clause-rising : goal.count_job-requires-clause-rising
count_job-requires-clause-rising c = subst IsRising (sym c.as_slice.ensures.value) c.in_ok-noted.ensures.rising

pub count_job-requires-clause-indexes : goal.count_job-requires-clause-indexes
count_job-requires-clause-indexes c =
    some-small c.args.job.now c.args.pods.now _ _ _
    (c.as_slice-succeeded.ensures ∙ ap (λ (s : JobStatus). s.uncounted_succeeded) c.deref.ensures)
    (c.as_slice-failed.ensures ∙ ap (λ (s : JobStatus). s.uncounted_failed) c.deref-2.ensures)
    (c.as_slice.ensures.value ∙ c.in_ok-noted.ensures.pods) c.requires.indexes

pub count_job-requires-clause-few_pods : goal.count_job-requires-clause-few_pods
count_job-requires-clause-few_pods c =
    let few =
    some-few c.args.job.now c.args.pods.now _ _ _
    (c.as_slice-succeeded.ensures ∙ ap (λ (s : JobStatus). s.uncounted_succeeded) c.deref.ensures)
    (c.as_slice-failed.ensures ∙ ap (λ (s : JobStatus). s.uncounted_failed) c.deref-2.ensures)
    (c.as_slice.ensures.value ∙ c.in_ok-noted.ensures.pods)
    in omega (arith, few, c.requires.few_pods)

pub returns-clause-counted : goal.returns-clause-counted
returns-clause-counted c =
    subst (λ (counted : CountIn). IfOk c.count_job.result (λ r. r ≡ counted))
    (some-counted c.args.job.now c.args.pods.now _ _ _
    (c.as_slice-succeeded.ensures ∙ ap (λ (s : JobStatus). s.uncounted_succeeded) c.deref.ensures)
    (c.as_slice-failed.ensures ∙ ap (λ (s : JobStatus). s.uncounted_failed) c.deref-2.ensures)
    (c.as_slice.ensures.value ∙ c.in_ok-noted.ensures.pods))
    c.count_job.ensures.counted

pub returns-clause-few_failed : goal.returns-clause-few_failed
returns-clause-few_failed c =
    let few =
    some-few c.args.job.now c.args.pods.now _ _ _
    (c.as_slice-succeeded.ensures ∙ ap (λ (s : JobStatus). s.uncounted_succeeded) c.deref.ensures)
    (c.as_slice-failed.ensures ∙ ap (λ (s : JobStatus). s.uncounted_failed) c.deref-2.ensures)
    (c.as_slice.ensures.value ∙ c.in_ok-noted.ensures.pods)
    in IfOk-weaker c.count_job.result (λ (r : CountIn). r.new_failed ≤ length c.as_slice.result.now) (λ r. r.new_failed ≤ length c.args.pods.now)
    (λ r h. omega (arith, few, h)) c.count_job.ensures.few_failed
