-- Which completion indexes the active pods of an owner hold (KEP-2214).
--     holders_of owner n pods     the owner's active pods that have the finalizer and the index n
--     has_index_in first last p   the pod has an index from the first up to the last
--     holds_index owner n pod     the pod is one of these
--     held_by owner rows          the indexes in the row of the owner, and none where there is no row
--     held_in owner n rows        how many pods of the owner hold the index in the rows
--     AreHeld pods rows           the rows count the pods that hold an index
use Rattle.std.specs.Prelude.{◌≡◌, ℕ, ◌&&◌, nat_le, Bool, false, List, [], filter, length, unwrap_or}
use Rattle.std.specs.Map.{lookup}
use Rattle.std.specs.Option.{option_map_or}
use Rattle.jc_types.specs.declared.numbers.Uid.{Uid}
use Rattle.jc_types.specs.declared.objects.Pod.{Pod}
use Rattle.jc_types.specs.Keys.{same_uid}
use Rattle.jc_states.specs.Held.{times}
use Rattle.jc_states.specs.Indexes.{has_index}
use Rattle.jc_states.specs.Pods.{is_tracked_active, tracked_active_pods}
use Rattle.jc_states.specs.Tallies.{pods_for}

-- The active pods of the owner that have the finalizer and this index.
abbrev pub holders_of : Uid → ℕ → List Pod → List Pod
holders_of owner n pods = filter (has_index n) (tracked_active_pods (pods_for owner pods))

-- The pod has an index from the first up to the last.
abbrev pub has_index_in : ℕ → ℕ → Pod → Bool
has_index_in first last pod = option_map_or (λ index. nat_le first index && nat_le index last) pod.index false

-- The pod is an active one of the owner that has the finalizer and this index.
abbrev pub holds_index : Uid → ℕ → Pod → Bool
holds_index owner n pod = same_uid pod.owner_uid owner && (is_tracked_active pod && has_index n pod)

-- The indexes in the row of the owner; where there is no row, none.
abbrev pub held_by : Uid → List (Uid × List ℕ) → List ℕ
held_by owner rows = unwrap_or (lookup (same_uid owner) rows) []

-- How many pods of the owner hold the index in the rows.
abbrev pub held_in : Uid → ℕ → List (Uid × List ℕ) → ℕ
held_in owner n rows = times n (held_by owner rows)

-- The rows say of each owner and each index how many of the pods hold it.
abbrev pub AreHeld : List Pod → List (Uid × List ℕ) → Type 0
AreHeld pods rows = (owner : Uid) → (n : ℕ) → held_in owner n rows ≡ length (holders_of owner n pods)
