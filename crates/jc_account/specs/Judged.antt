-- Which pods of a Job a sync judges, and which lose their finalizer (KEP-2307). `own` are the Job's own
-- pods among those that the sync sees.
--     has_verdict job pod          the pod is tracked, and has succeeded or failed
--     is_fresh spec is_judged pod  it has, and was not judged
--     is_candidate job pod         it has, and is not listed
--     candidates job own           those that are to be judged
--     is_tracked_as u pod          the pod is tracked and has the UID
--     has_tracked own u            a tracked pod has the UID
--     stayed own uids              the listed UIDs that stay: of tracked pods
--     is_staying job pod           the pod is tracked and listed
--     staying job own              those that are listed and stay so
--     room job own                 how many UIDs may join the lists
--     fits job own pod             there is room for the pod
--     judged_now job own           the pods that are judged now
--     left_over job own            those that are left over for a later sync
--     newly job own o, left_with job own o    those of these with this outcome
--     has_come_to job o pod        the pod is tracked and has this outcome
--     is_new job o pod             it has, and is not listed
--     is_left_over job own pod     the pod is to be judged, and there is no room for it
--     is_to_release job own pod    the pod is tracked, and is listed, or has ended and is not left over
--     to_release job own           those whose finalizer is to go
use Rattle.std.specs.Prelude.{ℕ, ◌+◌, ◌-◌, Bool, not, ◌&&◌, ◌||◌, List, filter, length}
use Rattle.std.specs.List.{list_any}
use Rattle.jc_types.specs.declared.limits.TheConstants.{MOST_UNCOUNTED}
use Rattle.jc_types.specs.declared.numbers.Uid.{Uid}
use Rattle.jc_types.specs.declared.objects.Job.{Job}
use Rattle.jc_types.specs.declared.objects.Pod.{Pod}
use Rattle.jc_types.specs.declared.specifications.JobSpec.{JobSpec}
use Rattle.jc_types.specs.Keys.{same_uid}
use Rattle.jc_states.specs.Pods.{is_tracked}
use Rattle.jc_failpol.specs.declared.outcomes.Outcome.{Outcome}
use Rattle.jc_failpol.specs.declared.outcomes.Outcome.TheVariants.{Alive}
use Rattle.jc_failpol.specs.Outcomes.{is_verdict, outcome_of, same_outcome}
use Rattle.jc_states.specs.Listed.{is_listed}
use Rattle.jc_account.specs.Rooms.{has_room, judged_within, left_beyond}

-- The pod is tracked, and has succeeded or failed.
abbrev pub has_verdict : Job → Pod → Bool
has_verdict job pod = is_tracked pod && is_verdict (outcome_of job.spec pod)

-- The pod is still to be judged: it is tracked, has succeeded or failed, and was not judged.
abbrev pub is_fresh : JobSpec → (Uid → Bool) → Pod → Bool
is_fresh spec is_judged pod =
    is_tracked pod && (is_verdict (outcome_of spec pod) && not (is_judged pod.uid))

-- The pod is to be judged: what was judged before is listed as long as the pod is tracked.
abbrev pub is_candidate : Job → Pod → Bool
is_candidate job pod = is_fresh job.spec (is_listed job.status) pod

-- The pods that are to be judged: all that have a verdict and are not listed.
abbrev pub candidates : Job → List Pod → List Pod
candidates job own = filter (is_candidate job) own

-- The pod is tracked and has the UID.
abbrev pub is_tracked_as : Uid → Pod → Bool
is_tracked_as u pod = is_tracked pod && same_uid pod.uid u

-- A tracked pod has the UID.
abbrev pub has_tracked : List Pod → Uid → Bool
has_tracked own u = list_any (is_tracked_as u) own

-- The listed UIDs that stay, whatever has become of their pods but for the finalizer.
abbrev pub stayed : List Pod → List Uid → List Uid
stayed own uids = filter (has_tracked own) uids

-- The pod is tracked and its UID is in one of the lists.
abbrev pub is_staying : Job → Pod → Bool
is_staying job pod = is_tracked pod && is_listed job.status pod.uid

-- The pods that are listed and stay so.
abbrev pub staying : Job → List Pod → List Pod
staying job own = filter (is_staying job) own

-- How many UIDs may join the two lists, beside those that stay listed.
abbrev pub room : Job → List Pod → ℕ
room job own = MOST_UNCOUNTED - length (staying job own)

-- There is room for the pod.
abbrev pub fits : Job → List Pod → Pod → Bool
fits job own pod = has_room job.spec (room job own) (candidates job own) pod

-- The pods that are judged now: of those that are to be judged, as many as there is room for.
abbrev pub judged_now : Job → List Pod → List Pod
judged_now job own = judged_within job.spec (room job own) (candidates job own)

-- Those that are left over for a later sync.
abbrev pub left_over : Job → List Pod → List Pod
left_over job own = left_beyond job.spec (room job own) (candidates job own)

-- The pods that are judged now with this outcome.
abbrev pub newly : Job → List Pod → Outcome → List Pod
newly job own outcome = filter (λ pod. same_outcome (outcome_of job.spec pod) outcome) (judged_now job own)

-- The pods with this outcome that are left over.
abbrev pub left_with : Job → List Pod → Outcome → List Pod
left_with job own outcome = filter (λ pod. same_outcome (outcome_of job.spec pod) outcome) (left_over job own)

-- The pod is tracked and has this outcome.
abbrev pub has_come_to : Job → Outcome → Pod → Bool
has_come_to job outcome pod = is_tracked pod && same_outcome (outcome_of job.spec pod) outcome

-- The pod has this outcome, and its UID is in neither list.
abbrev pub is_new : Job → Outcome → Pod → Bool
is_new job outcome pod = has_come_to job outcome pod && not (is_listed job.status pod.uid)

-- The pod is to be judged, and there is no room for it.
abbrev pub is_left_over : Job → List Pod → Pod → Bool
is_left_over job own pod = is_candidate job pod && not (fits job own pod)

-- The finalizer of the pod is to go: the pod has it, and either is listed or has ended and is not left over. So does
-- that of a pod whose failure is ignored, and of one whose index is completed already.
abbrev pub is_to_release : Job → List Pod → Pod → Bool
is_to_release job own pod =
    is_tracked pod
    && ((not (same_outcome (outcome_of job.spec pod) Alive) && not (is_left_over job own pod)) || is_listed job.status pod.uid)

-- The pods whose finalizer is to go.
abbrev pub to_release : Job → List Pod → List Pod
to_release job own = filter (is_to_release job own) own
