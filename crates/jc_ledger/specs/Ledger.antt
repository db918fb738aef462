-- The ledger of a Job (KEP-2307): which of its pods the writes of its status have judged. It knows no
-- uncounted lists, no totals, no queues and no retries, and it is one pass over any history and its log.
--     Record                          a judged pod: as it was seen, its outcome, where it was seen, the write
--     record_of u records             the record of the pod of the UID
--     judged_uids records             the UIDs of the judged pods
--     has_record records u            the pod of the UID has one
--     is_held spec records pod        the pod is tracked, and has a record that had it join a list
--     space job records pods          how many UIDs may join the lists
--     fresh job records pods          the pods that are still to be judged
--     chosen job records pods         those of them that a write judges
--     judged_as outcome records       the records with the outcome
--     Ledger                          the records of a Job, the indexes of its successes, and those that failed
--     fails_of failure records        how often pods of each index have failed
--     verdicts_of ledger              how many records have each outcome, and how many indexes there are
--     is_within spec index            the index is below the number of completions
--     within spec indexes             those of the indexes that are
--     kept job indexes                those that stay in a set
--     was_judged_failed records u            the pod of the UID was judged Failed
--     successes job records pods      the pods whose indexes are done
--     records_after, done_after, failed_after   its parts after a write whose sync saw the pods
--     entered job pods seen at ledger the ledger after it
--     Judging                         a write that judges: the Job that its sync saw, where, and its version
--     judging_of d past log           that of the deed
--     ledger_of j deeds log           the ledger of the Job of the UID
use Rattle.std.specs.Prelude.{ℕ, ◌-◌, nat_lt, Bool, true, false, not, ◌&&◌, List, [], ◌∷◌, ◌++◌, map, filter, length, find, if◌then◌else◌, Option, Some, None, is_some, option_map, option_and_then}
use Rattle.std.specs.Option.{option_map_or, unwrap_or}
use Rattle.jc_types.specs.declared.limits.TheConstants.{MOST_UNCOUNTED}
use Rattle.jc_types.specs.declared.numbers.Uid.{Uid}
use Rattle.jc_types.specs.declared.objects.Entry.{Entry}
use Rattle.jc_types.specs.declared.objects.Job.{Job}
use Rattle.jc_types.specs.declared.objects.Pod.{Pod}
use Rattle.jc_types.specs.declared.replies.Request.{Request}
use Rattle.jc_types.specs.declared.replies.Request.TheVariants as request
use Rattle.jc_types.specs.declared.policies.FailurePolicy.{FailurePolicy}
use Rattle.jc_types.specs.declared.specifications.JobSpec.{JobSpec}
use Rattle.jc_types.specs.declared.statuses.IndexCount.{IndexCount}
use Rattle.jc_log.specs.Deeds.{Deed}
use Rattle.jc_types.specs.Keys.{same_uid}
use Rattle.jc_log.specs.Log.{upto, job_in, pods_of}
use Rattle.jc_states.specs.Conditions.{has_end}
use Rattle.jc_states.specs.Pods.{is_tracked}
use Rattle.jc_states.specs.UidLists.{join}
use Rattle.jc_failpol.specs.declared.outcomes.Outcome.{Outcome}
use Rattle.jc_failpol.specs.declared.outcomes.Outcome.TheVariants.{Failed, Succeeded}
use Rattle.jc_failpol.specs.Outcomes.{outcome_of, same_outcome}
use Rattle.jc_account.specs.Judged.{has_come_to, is_fresh}
use Rattle.jc_account.specs.Modes.{indexes_of, kept_indexes}
use Rattle.jc_account.specs.Rooms.{joins_list, judged_within}
use Rattle.jc_perindex.specs.Failures.{has_failed as fails_index, raised}
use Rattle.jc_ledger.specs.declared.counts.Verdicts.{Verdicts}
use Rattle.jc_ledger.specs.Syncs.{Began, request_of, step_sync, appends}

-- A judged pod: as it stood among the first `seen` entries, its outcome there, and the version of the
-- write that judged it.
pub record Record : Type 0 where
  pub pod : Pod
  pub outcome : Outcome
  pub seen : ℕ
  pub at : ℕ

-- The record of the pod of the UID.
abbrev pub record_of : Uid → List Record → Option Record
record_of u records = find (λ (r : Record). same_uid r.pod.uid u) records

-- The UIDs of the judged pods.
abbrev pub judged_uids : List Record → List Uid
judged_uids records = map (λ (r : Record). r.pod.uid) records

-- The pod of the UID has a record.
abbrev pub has_record : List Record → Uid → Bool
has_record records u = is_some (record_of u records)

-- The pod is tracked, and was judged so that its UID joined a list: it is no success of an Indexed Job.
abbrev pub is_held : JobSpec → List Record → Pod → Bool
is_held spec records pod =
    is_tracked pod
    && option_map_or (λ (r : Record). joins_list spec.mode r.outcome) (record_of pod.uid records) false

-- How many UIDs may join the two lists: one less for each tracked pod that was judged so before.
abbrev pub space : Job → List Record → List Pod → ℕ
space job records pods = MOST_UNCOUNTED - length (filter (is_held job.spec records) pods)

-- The pods that are still to be judged.
abbrev pub fresh : Job → List Record → List Pod → List Pod
fresh job records pods = filter (is_fresh job.spec (has_record records)) pods

-- The pods that a write judges: of those that are still to be judged, as many as there is room for.
abbrev pub chosen : Job → List Record → List Pod → List Pod
chosen job records pods = judged_within job.spec (space job records pods) (fresh job records pods)

-- The record of a pod that a write judges.
abbrev pub recorded : Job → ℕ → ℕ → Pod → Record
recorded job seen at pod =
    record { pod = pod; outcome = outcome_of job.spec pod; seen = seen; at = at }

-- The records with the outcome.
abbrev pub judged_as : Outcome → List Record → List Record
judged_as outcome records = filter (λ (r : Record). same_outcome r.outcome outcome) records

-- The records of a Job, the set of the indexes of the pods that have succeeded, and the indexes that have
-- failed.
pub record Ledger : Type 0 where
  pub records : List Record
  pub done : List ℕ
  pub failed : List ℕ

-- The pods that were judged Failed.
abbrev pub failed_pods : List Record → List Pod
failed_pods records = map (λ (r : Record). r.pod) (judged_as Failed records)

-- How often pods of each index were judged Failed, in ascending index, and whether one of them failed it by
-- the failure policy.
abbrev pub fails_of : Option FailurePolicy → List Record → List IndexCount
fails_of failure records = raised failure [] (failed_pods records)

-- How many records have each outcome, and how many indexes there are.
abbrev pub verdicts_of : Ledger → Verdicts
verdicts_of ledger = record {
  succeeded = length (judged_as Succeeded ledger.records);
  failed = length (judged_as Failed ledger.records);
  indexes = length ledger.done;
}

-- The index is below the number of completions.
abbrev pub is_within : JobSpec → ℕ → Bool
is_within spec index = nat_lt index (unwrap_or spec.completions 0)

-- Those of the indexes that are.
abbrev pub within : JobSpec → List ℕ → List ℕ
within spec indexes = filter (is_within spec) indexes

-- Those that stay in a set: where an end stands all do, else those that are.
abbrev pub kept : Job → List ℕ → List ℕ
kept job indexes =
    kept_indexes (has_end job.status.conditions) (unwrap_or job.spec.completions 0) indexes

-- The pod was judged Failed.
abbrev pub was_judged_failed : List Record → Uid → Bool
was_judged_failed records u =
    option_map_or (λ (r : Record). same_outcome r.outcome Failed) (record_of u records) false

-- The pod is tracked and has succeeded, and was not judged Failed.
abbrev pub is_success : Job → List Record → Pod → Bool
is_success job records pod = has_come_to job Succeeded pod && not (was_judged_failed records pod.uid)

-- The pods whose indexes are done.
abbrev pub successes : Job → List Record → List Pod → List Pod
successes job records pods = filter (is_success job records) pods

-- The records after a write of version `at`: they take those that are chosen. The pods are all of the Job's
-- that its sync saw, as they stood among the first `seen` entries.
abbrev pub records_after : Job → List Pod → ℕ → ℕ → List Record → List Record
records_after job pods seen at records =
    records ++ map (recorded job seen at) (chosen job records pods)

-- The indexes that are done after it: of those before stay those below the number of completions, or all
-- where an end stood; and all successes add theirs that are below.
abbrev pub done_after : Job → List Pod → Ledger → List ℕ
done_after job pods ledger =
    join (kept job ledger.done) (within job.spec (indexes_of (successes job ledger.records pods)))

-- The indexes that have failed, where these are done and pods have failed so often: of a Job without a limit
-- for each none, and of one that had ended those of before.
abbrev pub failed_after : Option ℕ → Job → List ℕ → List IndexCount → List ℕ → List ℕ
failed_after None job done fails before = []
failed_after (Some limit) job done fails before =
    if has_end job.status.conditions then before
    else map (λ (count : IndexCount). count.index)
    (filter (fails_index limit (unwrap_or job.spec.completions 0) done) fails)

-- The ledger after a write.
abbrev pub entered : Job → List Pod → ℕ → ℕ → Ledger → Ledger
entered job pods seen at ledger = record {
  records = records_after job pods seen at ledger.records;
  done = done_after job pods ledger;
  failed =
      failed_after job.spec.per_index job (done_after job pods ledger)
      (fails_of job.spec.failure (records_after job pods seen at ledger.records)) ledger.failed;
}

-- A write of a status by a sync: the Job that the sync saw, among how many entries it saw the pods, and the
-- version that the write got.
pub record Judging : Type 0 where
  pub job : Job
  pub seen : ℕ
  pub at : ℕ

-- That of a write of the version, if its sync saw a Job.
abbrev pub judging_at : ℕ → List Entry → Began → Option Judging
judging_at v log began =
    option_map (λ job. record { job = job; seen = began.pods_at; at = v })
    (job_in began.key (upto began.jobs_at log))

-- It is a write of the status.
abbrev pub is_status : Option Request → Bool
is_status (Some request.Status) = true
is_status other = false

-- The write of a status that the deed is: a step that made one and appended an entry, also where the
-- reply was lost.
abbrev pub judging_of : Deed → List Deed → List Entry → Option Judging
judging_of d past log =
    if is_status (request_of d.reply) && appends d past
    then option_and_then (judging_at d.length.0 log) (step_sync d past)
    else None

-- The ledger of the Job of the UID after a write: one for this Job judges its pods.
abbrev pub judged_by : Uid → List Entry → Option Judging → Ledger → Ledger
judged_by j log None ledger = ledger
judged_by j log (Some judging) ledger =
    if same_uid judging.job.uid j
    then entered judging.job (pods_of j (upto judging.seen log)) judging.seen judging.at ledger
    else ledger

-- The ledger of the Job of the UID.
abbrev pub ledger_of : Uid → List Deed → List Entry → Ledger
ledger_of j [] log = record { records = []; done = []; failed = [] }
ledger_of j (d ∷ past) log = judged_by j log (judging_of d past log) (ledger_of j past log)
