-- The JSON value that a Job's status is printed as. A number that is 0, an empty list, an empty set and an absent
-- moment are left out.
use Rattle.std.specs.Prelude.{ℕ, List, Bool, true, false, ◌==◌, ◌&&◌, codes, length, map, option_map, Option, Some, None, if◌then◌else◌}
use Rattle.std.specs.Int.{to_be_bytes, w128}
use Rattle.serde_json.specs.Data.{Data, boolean, string, object, Members, no_members}
use Rattle.uuid.specs.Text.{hyphenated_text, lower}
use Rattle.jc_moment.specs.Text.{moment_text}
use Rattle.jc_ranges.specs.Texts.{ranges_text}
use Rattle.jc_types.specs.declared.numbers.Uid.{Uid}
use Rattle.jc_types.specs.declared.statuses.CondKind.{CondKind}
use Rattle.jc_types.specs.declared.statuses.CondKind.TheVariants.{Suspended, FailureTarget, SuccessCriteriaMet, Failed, Complete}
use Rattle.jc_types.specs.declared.statuses.Condition.{Condition}
use Rattle.jc_types.specs.declared.statuses.IndexCount.{IndexCount}
use Rattle.jc_types.specs.declared.statuses.JobStatus.{JobStatus}
use Rattle.jc_types.specs.declared.statuses.Reason.{Reason}
use Rattle.jc_types.specs.declared.statuses.Reason.TheVariants.{BackoffLimitExceeded, DeadlineExceeded, PodFailurePolicy, SuccessPolicy, CompletionsReached, JobSuspended, JobResumed, MaxFailedIndexesExceeded, FailedIndexes}
use Rattle.jc_print.specs.PrintedMembers.{with_json_member, number_data, unless_zero, unless_empty}

abbrev pub kind_word : CondKind → List ℕ
kind_word Suspended = codes "Suspended"
kind_word FailureTarget = codes "FailureTarget"
kind_word SuccessCriteriaMet = codes "SuccessCriteriaMet"
kind_word Failed = codes "Failed"
kind_word Complete = codes "Complete"

abbrev pub reason_word : Reason → List ℕ
reason_word BackoffLimitExceeded = codes "BackoffLimitExceeded"
reason_word DeadlineExceeded = codes "DeadlineExceeded"
reason_word PodFailurePolicy = codes "PodFailurePolicy"
reason_word SuccessPolicy = codes "SuccessPolicy"
reason_word CompletionsReached = codes "CompletionsReached"
reason_word JobSuspended = codes "JobSuspended"
reason_word JobResumed = codes "JobResumed"
reason_word MaxFailedIndexesExceeded = codes "MaxFailedIndexesExceeded"
reason_word FailedIndexes = codes "FailedIndexes"

abbrev pub status_word : Bool → List ℕ
status_word true = codes "True"
status_word false = codes "False"

-- ---- parts

abbrev pub moment_data : ℕ → Data
moment_data moment = string (moment_text moment)

abbrev pub uid_data : Uid → Data
uid_data uid = string (hyphenated_text lower (to_be_bytes w128 uid.0))

-- the text of a set, or nothing for the empty one
abbrev pub unless_no_index : List ℕ → Option Data
unless_no_index set = if length set == 0 then None else Some (string (ranges_text set))

abbrev pub with_kind : Condition → Members → Members
with_kind condition ms = with_json_member (codes "type") (Some (string (kind_word condition.kind)))
    (with_json_member (codes "status") (Some (string (status_word condition.status))) ms)

unfoldable pub condition_data : Condition → Data
condition_data condition = object (with_kind condition
    (with_json_member (codes "reason") (Some (string (reason_word condition.reason)))
    (with_json_member (codes "lastTransitionTime") (Some (moment_data condition.since)) no_members)))

-- true, or nothing
abbrev pub unless_false : Bool → Option Data
unless_false b = if b then Some (boolean true) else None

-- how often pods of an index have failed (KEP-3850)
unfoldable pub index_count_data : IndexCount → Data
index_count_data count = object (with_json_member (codes "index") (Some (number_data count.index))
    (with_json_member (codes "fail") (unless_false count.fail)
    (with_json_member (codes "count") (Some (number_data count.failures)) no_members)))

unfoldable pub uncounted_data : List Uid → List Uid → Data
uncounted_data failed succeeded =
    object (with_json_member (codes "succeeded") (unless_empty (map uid_data succeeded))
    (with_json_member (codes "failed") (unless_empty (map uid_data failed)) no_members))

-- nothing where both lists are empty
abbrev pub given_uncounted : List Uid → List Uid → Option Data
given_uncounted failed succeeded =
    if length failed == 0 && length succeeded == 0 then None else Some (uncounted_data failed succeeded)

-- ---- the status

unfoldable pub with_pods : JobStatus → Members → Members
with_pods status ms = with_json_member (codes "terminating") (unless_zero status.terminating)
    (with_json_member (codes "ready") (unless_zero status.ready)
    (with_json_member (codes "active") (unless_zero status.active) ms))

unfoldable pub with_totals : JobStatus → Members → Members
with_totals status ms = with_json_member (codes "succeeded") (unless_zero status.succeeded)
    (with_json_member (codes "failed") (unless_zero status.failed)
    (with_json_member (codes "completedIndexes") (unless_no_index status.completed) ms))

unfoldable pub with_failures : JobStatus → Members → Members
with_failures status ms =
    with_json_member (codes "indexFailures") (unless_empty (map index_count_data status.index_failures))
    (with_json_member (codes "failedIndexes") (unless_no_index status.failed_indexes) ms)

unfoldable pub with_times : JobStatus → Members → Members
with_times status ms = with_json_member (codes "startTime") (option_map moment_data status.start)
    (with_json_member (codes "completionTime") (option_map moment_data status.completion) ms)

unfoldable pub with_lists : JobStatus → Members → Members
with_lists status ms =
    with_json_member (codes "uncountedTerminatedPods") (given_uncounted status.uncounted_failed status.uncounted_succeeded)
    (with_json_member (codes "conditions") (unless_empty (map condition_data status.conditions)) ms)

unfoldable pub status_data : JobStatus → Data
status_data status =
    object (with_lists status (with_times status
    (with_failures status (with_totals status (with_pods status no_members)))))
