-- The open ones among pods.
--     open_numbers pods       the numbers of their UIDs, in the order of the pods
--     KnowsOpen numbers pods  these are the numbers of the open pods, and the pods are in ascending UID
--     CanReplace pod there    there is a pod, and it has not ended where the new one is open
use Rattle.std.specs.Prelude.{◌≡◌, ℕ, true, List, filter, map, Option, Some, None}
use Rattle.jc_types.specs.declared.objects.Pod.{Pod}
use Rattle.jc_states.specs.PodLists.{IsRising}
use Rattle.jc_states.specs.Pods.{is_open}

-- The numbers of the UIDs of the open ones, in the order of the pods.
abbrev pub open_numbers : List Pod → List ℕ
open_numbers pods = map (λ pod. pod.uid.0) (filter is_open pods)

-- These are the numbers of the open pods, and the pods are in ascending UID.
pub record KnowsOpen (numbers : List ℕ) (pods : List Pod) : Type 0 where
  pub rising : IsRising pods
  pub numbered : numbers ≡ open_numbers pods

-- There is a pod that the new one may stand for: one that has ended does not open again.
abbrev pub CanReplace : Pod → Option Pod → Type 0
CanReplace pod None = ⊥
CanReplace pod (Some old) = is_open pod ≡ true → is_open old ≡ true
