-- What is filled in, in parts.
use Rattle.std.proofs.Common.{◌≡◌, ℕ, List, [], Some, None, ap, sym, ◌∙◌}
use Rattle.jc_types.specs.declared.objects.Job.{Job}
use Rattle.jc_types.specs.declared.objects.Pod.{Pod}
use Rattle.jc_types.specs.declared.statuses.IndexCount.{IndexCount}
use Rattle.jc_types.specs.declared.syncs.CountIn.{CountIn}
use Rattle.jc_perindex.specs.Failures.{failed_set, failing_by, failing_in, failures_by, failures_in, filled_counts, newly_failed, raised}

module _ (job : Job) (own : List Pod) (counted : CountIn) (failed : List ℕ) (counts : List IndexCount) where
  -- Both parts are what they are to be.
  both : failed ≡ failing_in job counted.completed own counted.judged_failed → counts ≡ failures_in job own counted.judged_failed
      → record counted { failed_indexes = failed; index_failures = counts } ≡ filled_counts job own counted
  both f g =
      ap (λ (xs : List ℕ). record counted { failed_indexes = xs; index_failures = counts }) f
      ∙ ap (λ (xs : List IndexCount). record counted { failed_indexes = failing_in job counted.completed own counted.judged_failed; index_failures = xs }) g

  -- Without a limit for each index there is nothing.
  pub filled-none : job.spec.per_index ≡ None → failed ≡ [] → counts ≡ []
      → record counted { failed_indexes = failed; index_failures = counts } ≡ filled_counts job own counted
  unfolding failures_in failing_in
  filled-none none f g =
      both (f ∙ ap (λ o. failing_by o job counted.completed (newly_failed own counted.judged_failed)) (sym none))
      (g ∙ ap (λ o. failures_by o job (newly_failed own counted.judged_failed)) (sym none))

  pub filled-some : (limit : ℕ) → job.spec.per_index ≡ Some limit
      → failed ≡ failed_set job limit counted.completed (raised job.spec.failure job.status.index_failures (newly_failed own counted.judged_failed))
      → counts ≡ raised job.spec.failure job.status.index_failures (newly_failed own counted.judged_failed)
      → record counted { failed_indexes = failed; index_failures = counts } ≡ filled_counts job own counted
  unfolding failures_in failing_in
  filled-some limit some f g =
      both (f ∙ ap (λ o. failing_by o job counted.completed (newly_failed own counted.judged_failed)) (sym some))
      (g ∙ ap (λ o. failures_by o job (newly_failed own counted.judged_failed)) (sym some))
