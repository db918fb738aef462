-- Which pods a Job stops (batch/v1, KEP-2307, KEP-2214). `own` are the Job's own pods, `tracked` those of them that
-- are active and tracked.
--     marks target own                    the pods that are marked for deletion at once
--     is_needless completions counted n   no pod of the index is of use: it is done, or past the completions
--     is_spare mode needless tracked p    the pod's index is one of these, or another holds it by right
--     remaining mode needless tracked     those that are not spare
--     goes_before mode q p                where there are too many, q goes before p
--     is_one_of n mode pods p             p is one of the first n of the pods to go
--     own_tracked job pods                the Job's own pods that are active and tracked
--     surplus mode needless wanted tracked    those of them that are spare or too many
--     seen_uids rows                      the UIDs of pods that were seen
--     let_goes ..                         the pods whose finalizer goes first, each with its version
use Rattle.std.specs.Prelude.{ℕ, ◌-◌, nat_le, nat_lt, Bool, true, false, not, ◌&&◌, ◌||◌, if◌then◌else◌, List, [], map, filter, length, count_by, Option, Some, None, unwrap_or}
use Rattle.std.specs.List.{list_any}
use Rattle.std.specs.Option.{option_map_or}
use Rattle.jc_types.specs.declared.numbers.Uid.{Uid}
use Rattle.jc_types.specs.declared.numbers.Version.{Version}
use Rattle.jc_types.specs.declared.objects.Job.{Job}
use Rattle.jc_types.specs.declared.objects.Pod.{Pod}
use Rattle.jc_types.specs.declared.specifications.Mode.{Mode}
use Rattle.jc_types.specs.declared.specifications.Mode.TheVariants.{NonIndexed, Indexed}
use Rattle.jc_types.specs.declared.syncs.CountIn.{CountIn}
use Rattle.jc_states.specs.Bases.{own_pods}
use Rattle.jc_states.specs.Pods.{is_active, is_tracked, is_pending, tracked_active_pods}
use Rattle.jc_types.specs.Equality.{same_bool}
use Rattle.jc_states.specs.UidLists.{uids_of}
use Rattle.jc_states.specs.Indexes.{has_index}
use Rattle.jc_manage.specs.Creations.{is_done_index, job_wants}

-- The Job's own pods that are active and tracked.
abbrev pub own_tracked : Job → List Pod → List Pod
own_tracked job pods = tracked_active_pods (own_pods job pods)

-- The pod is marked at once: it is active and has no finalizer, or the Job's end is decided.
abbrev pub is_to_mark : Bool → Pod → Bool
is_to_mark target pod = is_active pod && (target || not (is_tracked pod))

abbrev pub marks : Bool → List Pod → List Uid
marks target own = uids_of (filter (is_to_mark target) own)

-- q has the index and a UID below that one.
abbrev pub is_earlier : ℕ → ℕ → Pod → Bool
is_earlier index uid q = has_index index q && nat_lt q.uid.0 uid

-- A pod of smaller UID among them holds the index of p.
abbrev pub is_doubled : List Pod → Pod → Bool
is_doubled tracked p = option_map_or (λ index. list_any (is_earlier index p.uid.0) tracked) p.index false

-- No pod of the index is of use: it is completed or has failed, or it is not below the completions.
abbrev pub is_needless : ℕ → CountIn → ℕ → Bool
is_needless completions counted n = is_done_index counted n || nat_le completions n

-- The pod of an Indexed Job is of no use: none of its index is, or an older pod holds it.
abbrev pub is_spare : Mode → (ℕ → Bool) → List Pod → Pod → Bool
is_spare NonIndexed needless tracked p = false
is_spare Indexed needless tracked p = option_map_or needless p.index false || is_doubled tracked p

abbrev pub remaining : Mode → (ℕ → Bool) → List Pod → List Pod
remaining mode needless tracked = filter (λ p. not (is_spare mode needless tracked p)) tracked

-- The first index is below the second; none is below each.
abbrev pub is_below : Option ℕ → Option ℕ → Bool
is_below None None = false
is_below None (Some n) = true
is_below (Some m) None = false
is_below (Some m) (Some n) = nat_lt m n

-- q goes before p: of an Indexed Job the greater index goes first; else a pending pod before one that runs, and then
-- the greater UID.
abbrev pub goes_before : Mode → Pod → Pod → Bool
goes_before Indexed q p = is_below p.index q.index
goes_before NonIndexed q p =
    if same_bool (is_pending q.phase) (is_pending p.phase) then nat_lt p.uid.0 q.uid.0 else is_pending q.phase

-- Fewer than n of the pods go before p.
abbrev pub is_one_of : ℕ → Mode → List Pod → Pod → Bool
is_one_of n mode pods p = nat_lt (count_by (λ q. goes_before mode q p) pods) n

-- The pod goes, where so many are wanted: it is spare, or one of the first to go of those that are not and are too
-- many.
abbrev pub is_let_go : Mode → (ℕ → Bool) → ℕ → List Pod → Pod → Bool
is_let_go mode needless wanted tracked p =
    is_spare mode needless tracked p
    || is_one_of (length (remaining mode needless tracked) - wanted) mode (remaining mode needless tracked) p

-- Those that go, where so many are wanted.
abbrev pub surplus : Mode → (ℕ → Bool) → ℕ → List Pod → List Pod
surplus mode needless wanted tracked = filter (is_let_go mode needless wanted tracked) tracked

-- A pod as it was seen.
abbrev pub seen : Pod → Uid × Version
seen pod = (pod.uid, pod.version)

-- Those of the active tracked pods that go. All of them where the Job is suspended; none where its end is decided,
-- since they are marked then.
abbrev pub going : Bool → Job → List Pod → CountIn → List Pod
going target job own counted =
    if target then []
    else if job.spec.suspend then tracked_active_pods own
    else
    surplus job.spec.mode (is_needless (unwrap_or job.spec.completions 0) counted) (job_wants job own counted)
    (tracked_active_pods own)

abbrev pub let_goes : Bool → Job → List Pod → CountIn → List (Uid × Version)
let_goes target job own counted = map seen (going target job own counted)

-- The UIDs of pods that were seen.
abbrev pub seen_uids : List (Uid × Version) → List Uid
seen_uids rows = map (λ row. row.0) rows
