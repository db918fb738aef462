-- How many writes of a pod are left, at most, where its end is one that comes.
--     first_restarts pod              how often its first container has restarted
--     restarts_left most pod end      restarts of that container that are left; after failures up to a bound
--     left_to_end most pod end        writes of the node that are left; one that stops it, where it has no end
--     left_while_open most pod end    the same, and its mark
--     pod_left most fates pod         the same, and the write that takes its finalizer
--     ComesTo most fates pod          where its container restarts after a failure, it has restarted less often
use Rattle.std.specs.Prelude.{◌≡◌, ℕ, ◌+◌, ◌-◌, ◌^◌, ◌<◌, ◌≤◌, true, false, List, pos, if◌then◌else◌, Option, Some, None, is_some}
use Rattle.std.specs.Option.{option_map_or}
use Rattle.std.specs.Ordering.{int_eq}
use Rattle.jc_types.specs.declared.actions.End.{End}
use Rattle.jc_types.specs.declared.objects.Container.{Container}
use Rattle.jc_types.specs.declared.objects.KeyNames.{KeyNames as Key}
use Rattle.jc_types.specs.declared.objects.Pod.{Pod}
use Rattle.jc_finish.specs.Decisions.{restarts_on_failure}
use Rattle.jc_history.specs.Nodes.{first_container, pod_end}
use Rattle.jc_states.specs.Pods.{is_active, is_marked, is_open, is_pending}

-- How often its first container has restarted.
abbrev pub first_restarts : Pod → ℕ
first_restarts pod =
    option_map_or (λ (container : Container). container.restarts) (first_container pod.containers) 0

-- Restarts that are left, where one after a failure comes only up to the bound.
abbrev pub restarts_left : ℕ → Pod → End → ℕ
restarts_left most pod end =
    if restarts_on_failure pod.restart then (end.restarts + most) - first_restarts pod else 0

-- Writes of the node that are left: it starts, restarts and ends the pod, or stops it.
abbrev pub left_to_end : ℕ → Pod → Option End → ℕ
left_to_end most pod None = 1
left_to_end most pod (Some end) = (if is_pending pod.phase then 1 else 0) + restarts_left most pod end + 1

-- The same, and its mark.
abbrev pub left_while_open : ℕ → Pod → Option End → ℕ
left_while_open most pod end = if is_marked pod then 1 else left_to_end most pod end + 1

-- The same, and the write that takes its finalizer.
abbrev pub pod_left : ℕ → (Key → Option (List End)) → Pod → ℕ
pod_left most fates pod =
    (if pod.tracked then 1 else 0)
    + (if is_open pod then left_while_open most pod (pod_end fates pod) else 0)

-- Where the containers of the pod restart after a failure: if its end is one, and the pod is active, it has a container, the
-- first has restarted less often than the bound, and one restart more can be counted; if it is none, its restarts can be.
pub record ComesTo (most : ℕ) (fates : Key → Option (List End)) (pod : Pod) : Type 0 where
  pub fails : (end : End) → is_active pod ≡ true → pod_end fates pod ≡ Some end → restarts_on_failure pod.restart ≡ true
      → int_eq end.exit (pos 0) ≡ false
      → (is_some (first_container pod.containers) ≡ true) × (first_restarts pod < most) × (first_restarts pod < 2 ^ 32 - 1)
  pub few : (end : End) → pod_end fates pod ≡ Some end → restarts_on_failure pod.restart ≡ true
      → int_eq end.exit (pos 0) ≡ true → end.restarts ≤ 2 ^ 32 - 1
