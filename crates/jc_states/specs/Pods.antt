-- What state a pod is in (core/v1, batch/v1, KEP-2307).
--     is_final phase           Succeeded or Failed
--     is_pending phase         Pending
--     is_open pod              it is pending or running
--     is_marked pod            it is marked for deletion
--     is_active pod            open and not marked
--     is_ending pod            open and marked
--     is_tracked pod           it has the finalizer
--     is_tracked_active pod    active and tracked
--     goes pod                 marked, ended and without its finalizer: it is taken away
--     is_true truth            the status of a condition is true
--     says_ready condition     it is `Ready`, and true
--     is_ready pod             it is active, and its condition `Ready` is true
--     active_pods pods, tracked_active_pods pods, ending_pods pods    those among the pods
use Rattle.std.specs.Prelude.{Bool, true, false, not, ◌&&◌, List, filter, is_some, codes, bytes_eq}
use Rattle.std.specs.List.{list_any}
use Rattle.jc_types.specs.declared.objects.Phase.{Phase}
use Rattle.jc_types.specs.declared.objects.Phase.TheVariants.{Pending, Running, Succeeded, Failed}
use Rattle.jc_types.specs.declared.objects.Pod.{Pod}
use Rattle.jc_types.specs.declared.policies.Pattern.{Pattern}
use Rattle.jc_types.specs.declared.policies.Truth.{Truth}
use Rattle.jc_types.specs.declared.policies.Truth.TheVariants as truth

-- The phases that a pod never leaves.
abbrev pub is_final : Phase → Bool
is_final Pending = false
is_final Running = false
is_final Succeeded = true
is_final Failed = true

-- The phase of a pod that has not begun.
abbrev pub is_pending : Phase → Bool
is_pending Pending = true
is_pending Running = false
is_pending Succeeded = false
is_pending Failed = false

-- It is pending or running.
abbrev pub is_open : Pod → Bool
is_open pod = not (is_final pod.phase)

-- It is marked for deletion.
abbrev pub is_marked : Pod → Bool
is_marked pod = is_some pod.marked

-- It is open and not marked.
abbrev pub is_active : Pod → Bool
is_active pod = is_open pod && not (is_marked pod)

-- It has the finalizer.
abbrev pub is_tracked : Pod → Bool
is_tracked pod = pod.tracked

-- It is marked, has ended and has no finalizer: a write that makes it so takes it away.
abbrev pub goes : Pod → Bool
goes pod = is_marked pod && (not pod.tracked && is_final pod.phase)

-- Marked for deletion, and still open.
abbrev pub is_ending : Pod → Bool
is_ending pod = is_open pod && is_marked pod

-- The status of a condition is true.
abbrev pub is_true : Truth → Bool
is_true truth.True = true
is_true truth.False = false
is_true truth.Unknown = false

-- The condition `Ready` of a pod is true.
abbrev pub says_ready : Pattern → Bool
says_ready condition = bytes_eq condition.kind (codes "Ready") && is_true condition.truth

-- The pod is active and ready.
abbrev pub is_ready : Pod → Bool
is_ready pod = is_active pod && list_any says_ready pod.conditions

-- It is active and has the finalizer.
abbrev pub is_tracked_active : Pod → Bool
is_tracked_active pod = is_active pod && is_tracked pod

-- Those that are active.
abbrev pub active_pods : List Pod → List Pod
active_pods pods = filter is_active pods

-- Those that are active and have the finalizer.
abbrev pub tracked_active_pods : List Pod → List Pod
tracked_active_pods pods = filter is_tracked_active pods

-- Those that are marked and still open.
abbrev pub ending_pods : List Pod → List Pod
ending_pods pods = filter is_ending pods
