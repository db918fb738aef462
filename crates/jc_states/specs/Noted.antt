-- At which pods a sync of an owner's Job has to look.
--     is_at_odds pod                  it is tracked and not active, or active and not tracked
--     needs_look owner uids more pod  it is at odds, or another owner's, or its UID is in one of the lists
--     is_calm pods u                  a pod of the UID is among them, and is not at odds
--     with_note pod numbers           the numbers with that of the pod's UID where it is at odds, and without it where
--                                     not
--     odd_numbers pods                the numbers of the UIDs of the pods at odds, in their order
--     KeepsNotes pods rows numbers holders    what a list of pods keeps beside the pods
use Rattle.std.specs.Prelude.{◌≡◌, ℕ, Bool, false, not, ◌||◌, List, filter, find, map, if◌then◌else◌}
use Rattle.std.specs.BTreeMap.{is_at}
use Rattle.std.specs.BTreeSet.{insert_key}
use Rattle.std.specs.Option.{option_map_or}
use Rattle.std.specs.Ordering.{nat_cmp}
use Rattle.std.specs.Set.{remove_key}
use Rattle.jc_types.specs.declared.numbers.Uid.{Uid}
use Rattle.jc_types.specs.declared.objects.Pod.{Pod}
use Rattle.jc_types.specs.Keys.{same_uid}
use Rattle.jc_states.specs.declared.tallies.Tally.{Tally}
use Rattle.jc_states.specs.Holders.{AreHeld}
use Rattle.jc_states.specs.Pods.{is_active, is_tracked}
use Rattle.jc_states.specs.Tallies.{KeepsTallies}
use Rattle.jc_states.specs.UidLists.{is_in}

-- Its finalizer and its state are at odds: it has the finalizer though it is not active, or is active without it.
-- Such a pod is to be counted, released or marked.
abbrev pub is_at_odds : Pod → Bool
is_at_odds pod = if is_tracked pod then not (is_active pod) else is_active pod

-- The pod is at odds, or was made for another owner, or its UID is in one of the lists.
abbrev pub needs_look : Uid → List Uid → List Uid → Pod → Bool
needs_look owner uids more pod =
    is_at_odds pod || (not (same_uid pod.owner_uid owner) || (is_in pod.uid uids || is_in pod.uid more))

-- A pod of the UID is among them, and is not at odds.
abbrev pub is_calm : List Pod → Uid → Bool
is_calm pods u = option_map_or (λ pod. not (is_at_odds pod)) (find (λ pod. same_uid pod.uid u) pods) false

-- The numbers with that of the pod's UID where it is at odds, and without it where not.
abbrev pub with_note : Pod → List ℕ → List ℕ
with_note pod numbers =
    if is_at_odds pod then insert_key nat_cmp numbers pod.uid.0 else remove_key (is_at (nat_cmp pod.uid.0)) numbers

-- The numbers of the UIDs of the pods at odds, in the order of the pods.
abbrev pub odd_numbers : List Pod → List ℕ
odd_numbers pods = map (λ pod. pod.uid.0) (filter is_at_odds pods)

-- What a list of pods keeps beside the pods: the rows are their tallies, the numbers are those of the
-- UIDs of the pods at odds, in their order, and the holders count the pods that hold each index.
pub record KeepsNotes (pods : List Pod) (rows : List (Uid × Tally)) (numbers : List ℕ) (holders : List (Uid × List ℕ)) : Type 0 where
  pub tallies : KeepsTallies pods rows
  pub odd : numbers ≡ odd_numbers pods
  pub held : AreHeld pods holders
