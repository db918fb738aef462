-- What `verdicts` counts, and the words by which one pass over a history and its log comes to it.
--     IsNumbered script history       each command event's number is a place in the script
--     deeds_of script events          the deeds of events, newest first
--     sync_at d past                  the sync whose write of a status the deed is
--     Row, row_of record              what a count keeps of a record
--     outcome_in rows u               what the pod of the UID was judged, by the rows
--     EndsAt last known               no pod of a greater UID was judged
--     has_joined_list spec known pod  the pod is tracked, and was judged so that it joined a list
--     space_by spec known pods        how many UIDs may join the lists
--     waiting spec known pods         the pods that are still to be judged
--     fresh_row spec known pod        the row of a pod that is still to be judged
--     rows_for spec known pods        the rows of the pods that are judged where pods were judged so
--     new_rows spec rows pods         the rows of the pods that a write judges
--     fresh_rows job rows log seen    those that it judges of the Job's pods among the first entries
--     success_indexes job known pods the indexes of pods that have succeeded
--     done_by job known done pods     the indexes that are done after a write
--     done_once_seen ..               those after one whose sync saw the first entries
--     IsCount rows done ledger        the rows and the indexes are those of the ledger
--     judging_as past job seen        the write of the event judges the pods of the Job so
--     ledger_after ..                 the ledger after one more event
--     before_place places at log      how many entries come before the one at the place of this number
--     stays known pod                 a write may have to look at the pod
--     kept_pods known j log           the pods of the Job for which that is so
--     HasSeen j log known pods n      so many places were taken, and the pods are those of the Job
--                                     then that stay
use Rattle.std.specs.Prelude.{◌≡◌, ℕ, ◌-◌, ◌<◌, ◌≤◌, ◌&&◌, ◌||◌, Bool, false, All, List, map, filter, find, get_or, reverse, take, length, if◌then◌else◌, Option, Some, None, is_some, not, option_and_then, option_map}
use Rattle.std.specs.List.{filter_map}
use Rattle.std.specs.Option.{option_map_or}
use Rattle.jc_types.specs.declared.actions.Command.{Command}
use Rattle.jc_types.specs.declared.actions.Script.{Script}
use Rattle.jc_types.specs.declared.limits.TheConstants.{MOST_UNCOUNTED}
use Rattle.jc_types.specs.declared.numbers.Uid.{Uid}
use Rattle.jc_types.specs.declared.objects.Entry.{Entry}
use Rattle.jc_types.specs.declared.objects.Job.{Job}
use Rattle.jc_types.specs.declared.objects.Pod.{Pod}
use Rattle.jc_types.specs.declared.runs.Event.{Event}
use Rattle.jc_types.specs.declared.runs.Event.TheVariants as event
use Rattle.jc_types.specs.declared.runs.History.{History}
use Rattle.jc_types.specs.declared.runs.Past.{Past}
use Rattle.jc_types.specs.declared.specifications.JobSpec.{JobSpec}
use Rattle.jc_log.specs.Deeds.{Deed, deed}
use Rattle.jc_types.specs.Keys.{same_uid}
use Rattle.jc_log.specs.Log.{pods_of}
use Rattle.jc_log.specs.Tables.{at}
use Rattle.jc_states.specs.Pods.{is_active, is_tracked}
use Rattle.jc_failpol.specs.declared.outcomes.Outcome.{Outcome}
use Rattle.jc_states.specs.UidLists.{join}
use Rattle.jc_failpol.specs.declared.outcomes.Outcome.TheVariants.{Failed, Succeeded}
use Rattle.jc_failpol.specs.Outcomes.{outcome_of, same_outcome}
use Rattle.jc_verdicts.specs.LogPlaces.{touching_places}
use Rattle.jc_account.specs.declared.judgements.Judgement.{Judgement as Row}
use Rattle.jc_ledger.specs.Syncs.{Began, request_of, step_sync, appends}
use Rattle.jc_account.specs.Judged.{has_come_to, is_fresh}
use Rattle.jc_account.specs.Rooms.{joins_list, judged_within}
use Rattle.jc_ledger.specs.Ledger.{Record, Ledger, Judging, is_status, is_within, judging_of, judged_by, kept}

-- The number of a command event is a place among the commands.
abbrev pub IsPlace : List Command → Event → Type 0
IsPlace commands (event.Command lane number) = number < length commands
IsPlace commands (event.System system) = Unit {0}

-- Each command event's number is a place in the script.
abbrev pub IsNumbered : Script → History → Type 0
IsNumbered script history = All (λ (past : Past). IsPlace script.commands past.event) history.events.items

-- The deeds of events, newest first.
abbrev pub deeds_of : Script → List Past → List Deed
deeds_of script events = reverse (map (deed script) events)

-- The sync whose accepted write of a status the deed is.
abbrev pub sync_at : Deed → List Deed → Option Began
sync_at d past = if is_status (request_of d.reply) && appends d past then step_sync d past else None

-- ---- what a count keeps

-- What a count keeps of a record.
abbrev pub row_of : Record → Row
row_of r = record { uid = r.pod.uid; outcome = r.outcome; index = r.pod.index }

-- The row of a pod that a write judges.
abbrev pub row_for : JobSpec → Pod → Row
row_for spec pod = record { uid = pod.uid; outcome = outcome_of spec pod; index = pod.index }

-- The row has the UID.
abbrev pub is_row_of : Uid → Row → Bool
is_row_of u row = same_uid row.uid u

-- What the pod of the UID was judged, by the rows.
abbrev pub outcome_in : List Row → Uid → Option Outcome
outcome_in rows u = option_map (λ (row : Row). row.outcome) (find (is_row_of u) rows)

-- No pod of a greater UID was judged, where pods were judged so.
abbrev pub EndsAt : Uid → (Uid → Option Outcome) → Type 0
EndsAt last known = (u : Uid) → last.0 < u.0 → known u ≡ None

-- The pod is tracked, and was judged so that it joined a list, where pods were judged so.
abbrev pub has_joined_list : JobSpec → (Uid → Option Outcome) → Pod → Bool
has_joined_list spec known pod =
    is_tracked pod && option_map_or (λ outcome. joins_list spec.mode outcome) (known pod.uid) false

-- How many UIDs may join the lists, where pods were judged so.
abbrev pub space_by : JobSpec → (Uid → Option Outcome) → List Pod → ℕ
space_by spec known pods = MOST_UNCOUNTED - length (filter (has_joined_list spec known) pods)

-- The pods that are still to be judged, where pods were judged so.
abbrev pub waiting : JobSpec → (Uid → Option Outcome) → List Pod → List Pod
waiting spec known pods = filter (is_fresh spec (λ u. is_some (known u))) pods

-- The row of a pod that is still to be judged, where pods were judged so.
abbrev pub fresh_row : JobSpec → (Uid → Option Outcome) → Pod → Option Row
fresh_row spec known pod =
    if is_fresh spec (λ u. is_some (known u)) pod then Some (row_for spec pod) else None

-- The rows of the pods that are judged, where pods were judged so.
abbrev pub rows_for : JobSpec → (Uid → Option Outcome) → List Pod → List Row
rows_for spec known pods =
    map (row_for spec) (judged_within spec (space_by spec known pods) (waiting spec known pods))

-- The rows of the pods that a write judges.
abbrev pub new_rows : JobSpec → List Row → List Pod → List Row
new_rows spec rows pods = rows_for spec (outcome_in rows) pods

-- The rows of the Job's pods that a write judges whose sync saw the first entries.
abbrev pub fresh_rows : Job → List Row → List Entry → ℕ → List Row
fresh_rows job rows log seen = new_rows job.spec rows (pods_of job.uid (reverse (take seen log)))

-- The pod is tracked and has succeeded, and was not judged Failed, where pods were judged so.
abbrev pub is_success_by : Job → (Uid → Option Outcome) → Pod → Bool
is_success_by job known pod =
    has_come_to job Succeeded pod
    && not (option_map_or (λ outcome. same_outcome outcome Failed) (known pod.uid) false)

-- The index of such a pod, if it is below the number of completions.
abbrev pub success_index : Job → (Uid → Option Outcome) → Pod → Option ℕ
success_index job known pod =
    if is_success_by job known pod
    then option_and_then (λ index. if is_within job.spec index then Some index else None) pod.index
    else None

-- Those of the pods.
abbrev pub success_indexes : Job → (Uid → Option Outcome) → List Pod → List ℕ
success_indexes job known pods = filter_map (success_index job known) pods

-- The indexes that are done after a write that saw the pods, where pods were judged so.
abbrev pub done_by : Job → (Uid → Option Outcome) → List ℕ → List Pod → List ℕ
done_by job known done pods = join (kept job done) (success_indexes job known pods)

-- Those after a write whose sync saw the first entries.
abbrev pub done_once_seen : Job → List Row → List ℕ → List Entry → ℕ → List ℕ
done_once_seen job rows done log seen =
    done_by job (outcome_in rows) done (pods_of job.uid (reverse (take seen log)))

-- The rows and the indexes are those of the ledger.
pub record IsCount (rows : List Row) (done : List ℕ) (ledger : Ledger) : Type 0 where
  pub rows_are : rows ≡ map row_of ledger.records
  pub done_is : done ≡ ledger.done

-- The write of the event judges the pods of the Job among the first entries.
abbrev pub judging_as : Past → Job → ℕ → Judging
judging_as past job seen = record { job = job; seen = seen; at = past.length.0 }

-- The ledger of the Job of the UID after one more event, where it was this one. The log stands oldest first.
abbrev pub ledger_after : Script → List Past → Past → Uid → List Entry → Ledger → Ledger
ledger_after script before past j log ledger =
    judged_by j (reverse log) (judging_of (deed script past) (deeds_of script before) (reverse log))
    ledger

-- How many entries come before the one at the place of this number; all where there is none.
abbrev pub before_place : List ℕ → ℕ → List Entry → ℕ
before_place places at log = get_or places at (length log)

-- The pod has the finalizer, and is not active or was judged: where that is not so, a write does
-- not judge it, and it takes no room.
abbrev pub stays : List (Uid × Outcome) → Pod → Bool
stays known pod = is_tracked pod && (not (is_active pod) || is_some (at same_uid known pod.uid))

-- The pods of the Job for which that is so.
abbrev pub kept_pods : List (Uid × Outcome) → Uid → List Entry → List Pod
kept_pods known j log = filter (stays known) (pods_of j log)

-- So many of the places at which the pods of the Job change were taken, and the pods are those of
-- the Job after the entries before the next one that stay.
pub record HasSeen (j : Uid) (log : List Entry) (known : List (Uid × Outcome)) (pods : List Pod) (n : ℕ) : Type 0 where
  pub within : n ≤ length (touching_places j log)
  pub pods_are : pods ≡ kept_pods known j (reverse (take (before_place (touching_places j log) n log) log))
