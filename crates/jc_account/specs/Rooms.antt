-- How many pods a sync judges (KEP-2307): the two lists of uncounted UIDs stay short however many pods end at once.
-- Of pods that are to be judged, those that join no list are all judged, and of the others those with the least UIDs,
-- as many as there is room for.
--     joins_list mode outcome         a pod that is judged so joins a list
--     takes_room spec pod             a pod with this outcome does
--     precedes uid q                  q has a smaller UID
--     has_room spec room pods pod     there is room for it among the pods that are to be judged
--     judged_within spec room pods    those of them that are judged
--     left_beyond spec room pods      those that are left over
use Rattle.std.specs.Prelude.{ℕ, nat_lt, Bool, true, not, ◌||◌, List, filter, length}
use Rattle.jc_types.specs.declared.numbers.Uid.{Uid}
use Rattle.jc_types.specs.declared.objects.Pod.{Pod}
use Rattle.jc_types.specs.declared.specifications.JobSpec.{JobSpec}
use Rattle.jc_types.specs.declared.specifications.Mode.{Mode}
use Rattle.jc_types.specs.declared.specifications.Mode.TheVariants.{NonIndexed, Indexed}
use Rattle.jc_failpol.specs.declared.outcomes.Outcome.{Outcome}
use Rattle.jc_failpol.specs.declared.outcomes.Outcome.TheVariants.{Succeeded}
use Rattle.jc_failpol.specs.Outcomes.{outcome_of, same_outcome}

-- A pod that is judged so joins a list: each but a success of an Indexed Job.
abbrev pub joins_list : Mode → Outcome → Bool
joins_list NonIndexed outcome = true
joins_list Indexed outcome = not (same_outcome outcome Succeeded)

-- The pod joins a list once it is judged.
abbrev pub takes_room : JobSpec → Pod → Bool
takes_room spec pod = joins_list spec.mode (outcome_of spec pod)

-- The pod q has a smaller UID.
abbrev pub precedes : Uid → Pod → Bool
precedes uid q = nat_lt q.uid.0 uid.0

-- There is room for the pod among those that are to be judged: it takes none, or fewer pods that do have a smaller UID.
abbrev pub has_room : JobSpec → ℕ → List Pod → Pod → Bool
has_room spec room pods pod =
    not (takes_room spec pod) || nat_lt (length (filter (precedes pod.uid) (filter (takes_room spec) pods))) room

-- Those of them that are judged, where there is room for so many.
abbrev pub judged_within : JobSpec → ℕ → List Pod → List Pod
judged_within spec room pods = filter (has_room spec room pods) pods

-- Those that are left over.
abbrev pub left_beyond : JobSpec → ℕ → List Pod → List Pod
left_beyond spec room pods = filter (λ pod. not (has_room spec room pods pod)) pods
