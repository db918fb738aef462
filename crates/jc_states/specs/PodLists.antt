-- Lists of pods in ascending UID, as tables of pods keep them.
--     put_pod pod pods       with the pod in its place: instead of that of its UID, or before the
--                            first of a greater one
--     drop_pod u pods        without the pod of the UID
--     place_from u pods      the place of the first pod whose UID is at least u
--     RisesFrom low pods     they are in ascending UID, none twice, and none below the bound
--     IsRising pods          they are in ascending UID, none twice
use Rattle.std.specs.Prelude.{ℕ, suc, ◌+◌, ◌≤◌, ◌==◌, nat_lt, not, List, [], ◌∷◌, filter, if◌then◌else◌}
use Rattle.jc_types.specs.declared.numbers.Uid.{Uid}
use Rattle.jc_types.specs.declared.objects.Pod.{Pod}
use Rattle.jc_types.specs.Keys.{same_uid}

-- With the pod before the first of a greater UID, or in the place of that of its own.
abbrev pub put_pod : Pod → List Pod → List Pod
put_pod pod [] = pod ∷ []
put_pod pod (q ∷ pods) =
    if nat_lt pod.uid.0 q.uid.0 then pod ∷ q ∷ pods
    else if pod.uid.0 == q.uid.0 then pod ∷ pods
    else q ∷ put_pod pod pods

-- Without the pod of the UID.
abbrev pub drop_pod : Uid → List Pod → List Pod
drop_pod u pods = filter (λ pod. not (same_uid pod.uid u)) pods

-- The place of the first pod whose UID is at least this one; past the last pod where there is none.
abbrev pub place_from : Uid → List Pod → ℕ
place_from u [] = 0
place_from u (pod ∷ pods) = if nat_lt pod.uid.0 u.0 then suc (place_from u pods) else 0

-- The pods are in ascending UID, none twice, and none below the bound.
abbrev pub RisesFrom : ℕ → List Pod → Type 0
RisesFrom low [] = Unit {0}
RisesFrom low (pod ∷ pods) = (low ≤ pod.uid.0) × RisesFrom (pod.uid.0 + 1) pods

-- The pods are in ascending UID, none twice.
abbrev pub IsRising : List Pod → Type 0
IsRising pods = RisesFrom 0 pods
