-- The rows of a table of pods.
--     pods_in_rows rows     the pods of the rows, in their order
--     pod_rows pods         a row for each pod, under the number of its UID
--     IsInOrder rows        each pod stands in the row of its UID, and the pods are in ascending UID
use Rattle.std.specs.Prelude.{◌≡◌, ℕ, List, map}
use Rattle.jc_types.specs.declared.objects.Pod.{Pod}
use Rattle.jc_states.specs.PodLists.{IsRising}

-- The pods of the rows.
abbrev pub pods_in_rows : List (ℕ × Pod) → List Pod
pods_in_rows rows = map (λ row. row.1) rows

-- A row for each pod, under the number of its UID.
abbrev pub pod_rows : List Pod → List (ℕ × Pod)
pod_rows pods = map (λ pod. (pod.uid.0, pod)) pods

-- Each pod stands in the row of its UID, and the pods are in ascending UID.
abbrev pub IsInOrder : List (ℕ × Pod) → Type 0
IsInOrder rows = (rows ≡ pod_rows (pods_in_rows rows)) × IsRising (pods_in_rows rows)
