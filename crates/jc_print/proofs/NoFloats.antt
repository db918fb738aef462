-- No number of a status is a float, so the text of its value is exact.
use Rattle.std.proofs.Common.{◌≡◌, List, Bool, true, false, refl}
use Rattle.serde_json.specs.Data.{Members, no_members}
use Rattle.serde_json.specs.Written.{has_float, members_have_float}
use Rattle.jc_types.specs.declared.numbers.Uid.{Uid}
use Rattle.jc_types.specs.declared.statuses.Condition.{Condition}
use Rattle.jc_types.specs.declared.statuses.IndexCount.{IndexCount}
use Rattle.jc_types.specs.declared.statuses.JobStatus.{JobStatus}
use Rattle.jc_print.specs.PrintedStatuses.{moment_data, uid_data, condition_data, uncounted_data, unless_false, index_count_data, with_pods, with_totals, with_failures, with_times, with_lists, status_data}
use Rattle.jc_print.proofs.CleanMembers.{IsClean, with_clean, given_clean, list_clean, some_clean}

condition_clean : (condition : Condition) → has_float (condition_data condition) ≡ false
unfolding condition_data
condition_clean condition = with_clean _ _ _ refl (with_clean _ _ _ refl (with_clean _ _ _ refl (with_clean _ _ _ refl refl)))

mark_clean : (b : Bool) → IsClean (unless_false b)
mark_clean true = refl
mark_clean false = tt

index_count_clean : (count : IndexCount) → has_float (index_count_data count) ≡ false
unfolding index_count_data
index_count_clean count = with_clean _ _ _ refl (with_clean _ _ _ (mark_clean count.fail) (with_clean _ _ _ refl refl))

uncounted_clean : (failed succeeded : List Uid) → has_float (uncounted_data failed succeeded) ≡ false
unfolding uncounted_data
uncounted_clean failed succeeded =
    with_clean _ _ _ (some_clean _ _ (list_clean uid_data succeeded (λ u. refl)))
    (with_clean _ _ _ (some_clean _ _ (list_clean uid_data failed (λ u. refl))) refl)

pods_clean : (status : JobStatus) (ms : Members) → members_have_float ms ≡ false → members_have_float (with_pods status ms) ≡ false
unfolding with_pods
pods_clean status ms rest =
    with_clean _ _ _ (some_clean _ _ refl) (with_clean _ _ _ (some_clean _ _ refl) (with_clean _ _ ms (some_clean _ _ refl) rest))

totals_clean : (status : JobStatus) (ms : Members) → members_have_float ms ≡ false → members_have_float (with_totals status ms) ≡ false
unfolding with_totals
totals_clean status ms rest =
    with_clean _ _ _ (some_clean _ _ refl) (with_clean _ _ _ (some_clean _ _ refl) (with_clean _ _ ms (some_clean _ _ refl) rest))

failures_clean : (status : JobStatus) (ms : Members) → members_have_float ms ≡ false → members_have_float (with_failures status ms) ≡ false
unfolding with_failures
failures_clean status ms rest =
    with_clean _ _ _ (some_clean _ _ (list_clean index_count_data status.index_failures index_count_clean))
    (with_clean _ _ ms (some_clean _ _ refl) rest)

times_clean : (status : JobStatus) (ms : Members) → members_have_float ms ≡ false → members_have_float (with_times status ms) ≡ false
unfolding with_times
times_clean status ms rest =
    with_clean _ _ _ (given_clean moment_data status.start (λ m. refl)) (with_clean _ _ ms (given_clean moment_data status.completion (λ m. refl)) rest)

lists_clean : (status : JobStatus) (ms : Members) → members_have_float ms ≡ false → members_have_float (with_lists status ms) ≡ false
unfolding with_lists
lists_clean status ms rest =
    with_clean _ _ _ (some_clean _ _ (uncounted_clean status.uncounted_failed status.uncounted_succeeded))
    (with_clean _ _ ms (some_clean _ _ (list_clean condition_data status.conditions condition_clean)) rest)

pub status_has_no_float : (status : JobStatus) → has_float (status_data status) ≡ false
unfolding status_data
status_has_no_float status =
    lists_clean status _ (times_clean status _ (failures_clean status _ (totals_clean status _ (pods_clean status no_members refl))))
