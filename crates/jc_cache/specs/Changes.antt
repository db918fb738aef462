-- Changes of pods, which may wait before they are made. A change of a UID is the pod that it has from then
-- on, or none where its pod goes.
--     IsOf u change              a pod that is written has the UID
--     with_change u change pods  the pods after one change
--     all_changed rows pods      the pods after the changes of all rows, one after the other
--     HasRoomFor change pods     a pod that is put can be counted
--     AreNamed rows              each change is of the UID under which it stands
--     KeepsChanges rows pods n   what is kept of pods and of the changes that wait
use Rattle.std.specs.Prelude.{◌≡◌, ℕ, ◌-◌, ◌<◌, ◌^◌, List, [], ◌∷◌, Option, None, Some, length}
use Rattle.std.specs.List.{IsDistinct}
use Rattle.std.specs.Map.{keys_of}
use Rattle.jc_types.specs.declared.numbers.Uid.{Uid}
use Rattle.jc_types.specs.declared.objects.Pod.{Pod}
use Rattle.jc_types.specs.Keys.{same_uid}
use Rattle.jc_states.specs.PodLists.{IsRising, put_pod, drop_pod}

-- A pod that is written has the UID.
abbrev pub IsOf : Uid → Option Pod → Type 0
IsOf u None = Unit {0}
IsOf u (Some pod) = pod.uid ≡ u

-- The pods after one change.
abbrev pub with_change : Uid → Option Pod → List Pod → List Pod
with_change u None pods = drop_pod u pods
with_change u (Some pod) pods = put_pod pod pods

-- The pods after the changes of all rows, one after the other.
abbrev pub all_changed : List (Uid × Option Pod) → List Pod → List Pod
all_changed [] pods = pods
all_changed (row ∷ rows) pods = all_changed rows (with_change row.0 row.1 pods)

-- A pod that is put is counted in 32 bits with the others.
abbrev pub HasRoomFor : Option Pod → List Pod → Type 0
HasRoomFor None pods = Unit {0}
HasRoomFor (Some pod) pods = length pods < 2 ^ 32 - 1

-- Each change is of the UID under which it stands.
abbrev pub AreNamed : List (Uid × Option Pod) → Type 0
AreNamed [] = Unit {0}
AreNamed (row ∷ rows) = IsOf row.0 row.1 × AreNamed rows

-- What is kept of pods and of the changes that wait: the pods ascend, each change is of the UID under which it
-- stands, none stands under the UID of another, and after all of them there are so many pods.
pub record KeepsChanges (rows : List (Uid × Option Pod)) (pods : List Pod) (count : ℕ) : Type 0 where
  pub rising : IsRising pods
  pub named : AreNamed rows
  pub once : IsDistinct same_uid (keys_of rows)
  pub counted : count ≡ length (all_changed rows pods)
