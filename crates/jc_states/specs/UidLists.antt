-- Words on lists of UIDs and of indexes.
--     is_in u uids            the UID is in the list
--     with_uid u uids         with the UID before the first greater one, or as it was where it
--                             is there
--     without_uid u uids      without the UID
--     merge uids more         with each of the others
--     AscendsFrom, Ascends    the UIDs are in ascending order, none twice
--     uids_of pods            the UIDs of the pods
--     join indexes more       the set of indexes with each of the others
use Rattle.std.specs.Prelude.{ℕ, ◌+◌, ◌≤◌, ◌==◌, nat_lt, not, Bool, List, [], ◌∷◌, filter, map, if◌then◌else◌}
use Rattle.std.specs.List.{list_any}
use Rattle.jc_ranges.specs.Sets.{with_member}
use Rattle.jc_types.specs.declared.numbers.Uid.{Uid}
use Rattle.jc_types.specs.declared.objects.Pod.{Pod}
use Rattle.jc_types.specs.Keys.{same_uid}

-- The UID is in the list.
abbrev pub is_in : Uid → List Uid → Bool
is_in u uids = list_any (λ v. same_uid v u) uids

-- With the UID before the first greater one; as it was where it is there.
abbrev pub with_uid : Uid → List Uid → List Uid
with_uid u [] = u ∷ []
with_uid u (v ∷ uids) =
    if nat_lt u.0 v.0 then u ∷ v ∷ uids
    else if u.0 == v.0 then v ∷ uids
    else v ∷ with_uid u uids

-- Without the UID.
abbrev pub without_uid : Uid → List Uid → List Uid
without_uid u uids = filter (λ v. not (same_uid v u)) uids

-- With each of the others.
abbrev pub merge : List Uid → List Uid → List Uid
merge uids [] = uids
merge uids (u ∷ more) = with_uid u (merge uids more)

-- The UIDs are in ascending order, none twice, and none below the bound.
abbrev pub AscendsFrom : ℕ → List Uid → Type 0
AscendsFrom low [] = Unit {0}
AscendsFrom low (u ∷ uids) = (low ≤ u.0) × AscendsFrom (u.0 + 1) uids

-- The UIDs are in ascending order, none twice.
abbrev pub Ascends : List Uid → Type 0
Ascends uids = AscendsFrom 0 uids

-- The UIDs of the pods.
abbrev pub uids_of : List Pod → List Uid
uids_of pods = map (λ pod. pod.uid) pods

-- The set of indexes with each of the others.
abbrev pub join : List ℕ → List ℕ → List ℕ
join indexes [] = indexes
join indexes (index ∷ more) = with_member index (join indexes more)
