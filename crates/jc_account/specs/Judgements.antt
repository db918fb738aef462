-- The pods that a sync judges, as rows of what is judged of each. Where the pods ascend by UID, there is room for those
-- below the first for which there is none.
--     judgement_of job pod           the row of the pod
--     judgement_if_new job pod       the row of a pod that is to be judged
--     judgements job own             the rows of the pods that are to be judged
--     has_room_for first u              the UID is below the first for which there is no room
--     is_fit mode first outcome u    there is room for a pod with this outcome
--     first_beyond mode room rows    the first UID for which there is no room, where there is room for so many
--     rows_within mode first rows    the rows of the pods that are judged now
--     rows_beyond mode first rows    those of the pods that are left over
--     rows_with outcome rows         those with this outcome
--     first_left job own             the first UID for which there is no room, of the pods
--     has_place first spec pod       the pod has ended, and there is room for it or it takes none
--     is_to_go first job pod           the finalizer of the pod is to go, by that UID
--     uids_judged outcome rows       the UIDs of those with this outcome
--     index_judged row              the index of one that has succeeded
--     indexes_judged rows            the indexes of those that have succeeded
--     completed_judged mode ended n completed rows    the completed indexes afterwards, where n completions are wanted
--     HasSmall row                   its index, where it has one, is one that a set of indexes can hold
use Rattle.std.specs.Prelude.{ℕ, ◌≤◌, nat_lt, Bool, true, not, ◌&&◌, ◌||◌, List, map, filter, slice_get, if◌then◌else◌, Option, Some, None, IfSome, option_map}
use Rattle.std.specs.List.{filter_map}
use Rattle.jc_ranges.specs.declared.bounds.TheConstants.{GREATEST_INDEX}
use Rattle.jc_types.specs.declared.numbers.Uid.{Uid}
use Rattle.jc_types.specs.declared.objects.Job.{Job}
use Rattle.jc_types.specs.declared.objects.Pod.{Pod}
use Rattle.jc_types.specs.declared.specifications.JobSpec.{JobSpec}
use Rattle.jc_types.specs.declared.specifications.Mode.{Mode}
use Rattle.jc_types.specs.declared.specifications.Mode.TheVariants.{NonIndexed, Indexed}
use Rattle.jc_states.specs.Listed.{is_listed}
use Rattle.jc_states.specs.Pods.{is_tracked}
use Rattle.jc_states.specs.UidLists.{join}
use Rattle.jc_failpol.specs.declared.outcomes.Outcome.{Outcome}
use Rattle.jc_failpol.specs.declared.outcomes.Outcome.TheVariants.{Alive, Succeeded}
use Rattle.jc_failpol.specs.Outcomes.{is_verdict, outcome_of, same_outcome}
use Rattle.jc_account.specs.declared.judgements.Judgement.{Judgement}
use Rattle.jc_account.specs.Judged.{candidates, is_candidate, room}
use Rattle.jc_account.specs.Modes.{kept_indexes}
use Rattle.jc_account.specs.Rooms.{joins_list, takes_room}

-- What is judged of the pod.
abbrev pub judgement_of : Job → Pod → Judgement
judgement_of job pod = record { uid = pod.uid; outcome = outcome_of job.spec pod; index = pod.index }

-- What would be judged of the Job's own pod, if it is to be judged.
abbrev pub judgement_if_new : Job → Pod → Option Judgement
judgement_if_new job pod = if is_candidate job pod then Some (judgement_of job pod) else None

-- What would be judged of the Job's own pods that are to be judged.
abbrev pub judgements : Job → List Pod → List Judgement
judgements job own = map (judgement_of job) (candidates job own)

-- The UID is below the first for which there is no room; there is room for each where there is none.
abbrev pub has_room_for : Option Uid → Uid → Bool
has_room_for None u = true
has_room_for (Some first) u = nat_lt u.0 first.0

-- There is room for a pod with this outcome and UID.
abbrev pub is_fit : Mode → Option Uid → Outcome → Uid → Bool
is_fit mode first outcome u = not (joins_list mode outcome) || has_room_for first u

-- The first UID for which there is no room, where there is room for so many that join a list.
abbrev pub first_beyond : Mode → ℕ → List Judgement → Option Uid
first_beyond mode room rows = option_map (λ row. row.uid) (slice_get (filter (λ row. joins_list mode row.outcome) rows) room)

-- The rows of the pods that are judged now.
abbrev pub rows_within : Mode → Option Uid → List Judgement → List Judgement
rows_within mode first rows = filter (λ row. is_fit mode first row.outcome row.uid) rows

-- Those of the pods that are left over.
abbrev pub rows_beyond : Mode → Option Uid → List Judgement → List Judgement
rows_beyond mode first rows = filter (λ row. not (is_fit mode first row.outcome row.uid)) rows

-- Those with this outcome.
abbrev pub rows_with : Outcome → List Judgement → List Judgement
rows_with outcome rows = filter (λ row. same_outcome row.outcome outcome) rows

-- The first UID for which there is no room among the Job's own pods.
abbrev pub first_left : Job → List Pod → Option Uid
first_left job own =
    option_map (λ pod. pod.uid) (slice_get (filter (takes_room job.spec) (candidates job own)) (room job own))

-- The pod is left over, where this is the first UID for which there is no room.
abbrev pub is_left_by : Option Uid → Job → Pod → Bool
is_left_by first job pod =
    is_candidate job pod && not (is_fit job.spec.mode first (outcome_of job.spec pod) pod.uid)

-- The pod has ended and there is room for it, or it takes none, where this is the first UID for which there is no room.
abbrev pub has_place : Option Uid → JobSpec → Pod → Bool
has_place first spec pod =
    not (same_outcome (outcome_of spec pod) Alive)
    && not (is_verdict (outcome_of spec pod) && not (is_fit spec.mode first (outcome_of spec pod) pod.uid))

-- The finalizer of the pod is to go, where this is the first UID for which there is no room.
abbrev pub is_to_go : Option Uid → Job → Pod → Bool
is_to_go first job pod =
    is_tracked pod
    && ((not (same_outcome (outcome_of job.spec pod) Alive) && not (is_left_by first job pod)) || is_listed job.status pod.uid)

-- The UIDs of those with this outcome.
abbrev pub uids_judged : Outcome → List Judgement → List Uid
uids_judged outcome rows = map (λ row. row.uid) (rows_with outcome rows)

-- The index of one that has succeeded.
abbrev pub index_judged : Judgement → Option ℕ
index_judged row = if same_outcome row.outcome Succeeded then row.index else None

-- The indexes of those that have succeeded.
abbrev pub indexes_judged : List Judgement → List ℕ
indexes_judged rows = filter_map index_judged rows

-- The completed indexes afterwards: those of a Job that is not Indexed stay as they are.
abbrev pub completed_judged : Mode → Bool → ℕ → List ℕ → List Judgement → List ℕ
completed_judged NonIndexed ended completions completed rows = completed
completed_judged Indexed ended completions completed rows =
    join (kept_indexes ended completions completed) (filter (λ n. nat_lt n completions) (indexes_judged rows))

-- The index, where there is one, is one that a set of indexes can hold.
abbrev pub HasSmall : Judgement → Type 0
HasSmall row = IfSome row.index (λ index. index ≤ GREATEST_INDEX)
