-- What the steps of the computation give.
--     has_older holder uid     the holder of an index has a UID below that one
--     is_spare_by mode needless holder p    the pod is spare, by the oldest holder of each index
--     Rank, rank_of mode p     the place of a pod in the order in which pods go
--     is_below_rank a b        the pod of rank b goes before the one of rank a
--     AreOldest tracked holder    the holders of the indexes are the oldest of these pods
--     ranks_in .., gone_by ..  the ranks of the pods that are not spare, and those that go as they were seen
--     is_last least rank       the rank is not below the least of those that go
--     goes_by ..               the pod goes, by the oldest holder of each index and the least rank that goes
use Rattle.std.specs.Prelude.{◌≡◌, ℕ, nat_lt, Bool, true, false, not, ◌||◌, if◌then◌else◌, List, map, filter, Option, Some, None}
use Rattle.std.specs.List.{list_any}
use Rattle.std.specs.Option.{option_map_or}
use Rattle.jc_types.specs.declared.numbers.Uid.{Uid}
use Rattle.jc_types.specs.declared.numbers.Version.{Version}
use Rattle.jc_types.specs.declared.objects.Pod.{Pod}
use Rattle.jc_types.specs.declared.specifications.Mode.{Mode}
use Rattle.jc_types.specs.declared.specifications.Mode.TheVariants.{NonIndexed, Indexed}
use Rattle.jc_states.specs.Pods.{is_pending}
use Rattle.jc_manage.specs.declared.ranks.Rank.{Rank}
use Rattle.jc_manage.specs.declared.ranks.Rank.TheVariants.{Index, Running, Pending}
use Rattle.jc_manage.specs.LetGoes.{is_below, is_earlier, seen}

-- The holder of an index, where there is one, has a UID below that one.
abbrev pub has_older : Option Uid → ℕ → Bool
has_older None uid = false
has_older (Some holder) uid = nat_lt holder.0 uid

-- The pod of an Indexed Job is spare, where these are the oldest holders of the indexes.
abbrev pub is_spare_by : Mode → (ℕ → Bool) → (ℕ → Option Uid) → Pod → Bool
is_spare_by NonIndexed needless holder p = false
is_spare_by Indexed needless holder p =
    option_map_or needless p.index false || option_map_or (λ index. has_older (holder index) p.uid.0) p.index false

-- The rank of a pod.
abbrev pub rank_of : Mode → Pod → Rank
rank_of Indexed pod = Index pod.index
rank_of NonIndexed pod = if is_pending pod.phase then Pending pod.uid else Running pod.uid

-- The pod of the second rank goes before the one of the first.
abbrev pub is_below_rank : Rank → Rank → Bool
is_below_rank (Index m) (Index n) = is_below m n
is_below_rank (Index m) (Running v) = true
is_below_rank (Index m) (Pending v) = true
is_below_rank (Running u) (Index n) = false
is_below_rank (Running u) (Running v) = nat_lt u.0 v.0
is_below_rank (Running u) (Pending v) = true
is_below_rank (Pending u) (Index n) = false
is_below_rank (Pending u) (Running v) = false
is_below_rank (Pending u) (Pending v) = nat_lt u.0 v.0

-- The rank is not below the least of those that go.
abbrev pub is_last : Option Rank → Rank → Bool
is_last least rank = option_map_or (λ other. not (is_below_rank rank other)) least false

-- The pod goes: it is spare, or its rank is not below the least of those that go.
abbrev pub goes_by : Mode → (ℕ → Bool) → (ℕ → Option Uid) → Option Rank → Pod → Bool
goes_by mode needless holder least p =
    is_spare_by mode needless holder p || is_last least (rank_of mode p)

-- The holders of the indexes are the oldest of these pods.
abbrev pub AreOldest : List Pod → (ℕ → Option Uid) → Type 0
AreOldest tracked holder =
    (index uid : ℕ) → has_older (holder index) uid ≡ list_any (is_earlier index uid) tracked

-- The ranks of those that are not spare.
abbrev pub ranks_in : Mode → (ℕ → Bool) → (ℕ → Option Uid) → List Pod → List Rank
ranks_in mode needless holder tracked =
    map (λ pod. rank_of mode pod) (filter (λ pod. not (is_spare_by mode needless holder pod)) tracked)

-- Those that go, as they were seen.
abbrev pub gone_by : Mode → (ℕ → Bool) → (ℕ → Option Uid) → Option Rank → List Pod → List (Uid × Version)
gone_by mode needless holder least tracked =
    map (λ pod. seen pod) (filter (λ pod. goes_by mode needless holder least pod) tracked)
