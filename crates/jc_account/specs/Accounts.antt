-- What a sync counts in and out (KEP-2307). A UID is listed once its pod is judged, in the list of its
-- outcome then, and leaves the list for the total once the pod has lost its finalizer. `own` are the Job's
-- own pods among those that the sync sees.
--     left own uids                how many leave
--     is_stayed job pods uids u    the listed UID stays
--     new_uids job pods outcome    the UIDs of the pods that are judged now with this outcome
--     ShareNone uids others        no UID is in both lists
--     HasListsApart job            the two lists of the Job's status ascend, and share no UID
--     stays_completed job n        the completed index stays
--     is_completed_now job pods n  a newly judged success completes the index
--     completed_in job own         the completed indexes afterwards
--     counted_in job pods          lists, totals and set afterwards, the pods to release, what is new, and what is left
--     counted_out status released  the status once the released pods have lost their finalizer
--     SameButCounts old new        the statuses differ in totals and lists of uncounted UIDs alone
use Rattle.std.specs.Prelude.{◌≡◌, ℕ, ◌+◌, nat_lt, Bool, false, not, ◌&&◌, ◌||◌, List, [], length, filter, count_by, unwrap_or}
use Rattle.std.specs.List.{list_any}
use Rattle.jc_ranges.specs.Sets.{has}
use Rattle.jc_types.specs.declared.numbers.Uid.{Uid}
use Rattle.jc_types.specs.declared.objects.Job.{Job}
use Rattle.jc_types.specs.declared.objects.Pod.{Pod}
use Rattle.jc_types.specs.declared.statuses.JobStatus.{JobStatus}
use Rattle.jc_types.specs.declared.syncs.CountIn.{CountIn}
use Rattle.jc_states.specs.Bases.{own_pods}
use Rattle.jc_states.specs.Conditions.{has_end}
use Rattle.jc_states.specs.Indexes.{has_index}
use Rattle.jc_states.specs.UidLists.{Ascends, is_in, merge, uids_of}
use Rattle.jc_failpol.specs.declared.outcomes.Outcome.{Outcome}
use Rattle.jc_failpol.specs.declared.outcomes.Outcome.TheVariants.{Succeeded, Failed}
use Rattle.jc_account.specs.Judged.{has_tracked, left_with, newly, stayed, to_release}
use Rattle.jc_account.specs.Modes.{completed_after, gain, listing, succeeded_after}

-- How many listed UIDs leave: their pod is not tracked, or not there.
abbrev pub left : List Pod → List Uid → ℕ
left own uids = count_by (λ u. not (has_tracked own u)) uids

-- A listed UID that stays.
abbrev pub is_stayed : Job → List Pod → List Uid → Uid → Bool
is_stayed job pods uids u = is_in u uids && has_tracked (own_pods job pods) u

-- The UIDs of the pods that are judged now with this outcome.
abbrev pub new_uids : Job → List Pod → Outcome → List Uid
new_uids job pods outcome = uids_of (newly job (own_pods job pods) outcome)

-- No UID is in both lists.
abbrev pub ShareNone : List Uid → List Uid → Type 0
ShareNone uids others = (u : Uid) → (is_in u uids && is_in u others) ≡ false

-- The two lists of the Job's status ascend, and share no UID.
pub record HasListsApart (job : Job) : Type 0 where
  pub succeeded : Ascends job.status.uncounted_succeeded
  pub failed : Ascends job.status.uncounted_failed
  pub apart : ShareNone job.status.uncounted_succeeded job.status.uncounted_failed

-- The completed index stays: where the Job has not ended, it has to be below the completions.
abbrev pub stays_completed : Job → ℕ → Bool
stays_completed job n =
    has n job.status.completed
    && (has_end job.status.conditions || nat_lt n (unwrap_or job.spec.completions 0))

-- A newly judged success completes the index, which is below the completions.
abbrev pub is_completed_now : Job → List Pod → ℕ → Bool
is_completed_now job pods n =
    nat_lt n (unwrap_or job.spec.completions 0)
    && list_any (has_index n) (newly job (own_pods job pods) Succeeded)

-- The completed indexes afterwards.
abbrev pub completed_in : Job → List Pod → List ℕ
completed_in job own =
    completed_after job.spec.mode (has_end job.status.conditions) (unwrap_or job.spec.completions 0) job.status.completed
    (newly job own Succeeded)

-- What is counted in, of the Job's own pods. What is said of failed indexes is filled in afterwards.
abbrev pub counted_of : Job → List Pod → CountIn
counted_of job own = record {
  uncounted_succeeded =
      merge (stayed own job.status.uncounted_succeeded) (listing job.spec.mode (newly job own Succeeded));
  uncounted_failed = merge (stayed own job.status.uncounted_failed) (uids_of (newly job own Failed));
  succeeded =
      succeeded_after job.spec.mode (job.status.succeeded + left own job.status.uncounted_succeeded)
      (completed_in job own);
  failed = job.status.failed + left own job.status.uncounted_failed;
  completed = completed_in job own;
  failed_indexes = [];
  index_failures = [];
  releases = uids_of (to_release job own);
  new_succeeded = gain job.spec.mode (newly job own Succeeded) job.status.completed (completed_in job own);
  new_failed = length (newly job own Failed);
  judged_failed = uids_of (newly job own Failed);
  left_succeeded = length (left_with job own Succeeded);
  left_failed = length (left_with job own Failed);
}

-- What is counted in, of all pods that the sync sees.
unfoldable pub counted_in : Job → List Pod → CountIn
counted_in job pods = counted_of job (own_pods job pods)

-- The UIDs that are not among the released ones.
abbrev pub unreleased : List Uid → List Uid → List Uid
unreleased released uids = filter (λ u. not (is_in u released)) uids

-- How many are among the released ones.
abbrev pub released_of : List Uid → List Uid → ℕ
released_of released uids = count_by (λ u. is_in u released) uids

-- The status once the released pods have lost their finalizer: each that was listed leaves its list and
-- raises its total.
unfoldable pub counted_out : JobStatus → List Uid → JobStatus
counted_out status released = record status {
  succeeded = status.succeeded + released_of released status.uncounted_succeeded;
  failed = status.failed + released_of released status.uncounted_failed;
  uncounted_succeeded = unreleased released status.uncounted_succeeded;
  uncounted_failed = unreleased released status.uncounted_failed;
}

-- The statuses differ in totals and lists of uncounted UIDs alone.
abbrev pub SameButCounts : JobStatus → JobStatus → Type 0
SameButCounts old new = (record new {
  succeeded = old.succeeded;
  failed = old.failed;
  uncounted_succeeded = old.uncounted_succeeded;
  uncounted_failed = old.uncounted_failed;
}) ≡ old
