-- The laws on what is counted.
use Rattle.std.proofs.Common.{◌≡◌, ℕ, ◌+◌, ◌<◌, ◌≤◌, nat_lt, Bool, true, false, not, ◌&&◌, ◌||◌, List, [], filter, length, unwrap_or, refl, ap, sym, ◌∙◌, subst, ◌⊎◌, inl, inr, arith, true≢false}
use Rattle.std.specs.List.{All, AllByRecursion as Each, list_any}
use Rattle.std.proofs.lemmas.Bool.{or_left, or_right, or_cases, and_parts, and_from, or_parts as neither}
use Rattle.std.proofs.lemmas.List.{length-map}
use Rattle.jc_ranges.specs.Sets.{has}
use Rattle.jc_types.specs.declared.limits.TheConstants.{MOST_UNCOUNTED}
use Rattle.jc_types.specs.declared.numbers.Uid.{Uid}
use Rattle.jc_types.specs.declared.objects.Job.{Job}
use Rattle.jc_types.specs.declared.objects.Pod.{Pod}
use Rattle.jc_types.specs.declared.specifications.Mode.{Mode}
use Rattle.jc_types.specs.declared.specifications.Mode.TheVariants.{Indexed, NonIndexed}
use Rattle.jc_types.specs.declared.statuses.JobStatus.{JobStatus}
use Rattle.jc_states.specs.Bases.{is_own, own_pods}
use Rattle.jc_states.specs.Conditions.{has_end}
use Rattle.jc_types.specs.Keys.{same_uid}
use Rattle.jc_states.specs.PodLists.{IsRising}
use Rattle.jc_states.specs.Pods.{is_tracked}
use Rattle.jc_states.specs.UidLists.{Ascends, is_in, merge, uids_of}
use Rattle.jc_types.proofs.KeyFacts.{same_uid-eq}
use Rattle.jc_types.proofs.ListFacts.{filter_filter, filter_none, weaker_in}
use Rattle.jc_states.proofs.PodListFacts.{rises_filter}
use Rattle.jc_states.proofs.UidListFacts.{ascends_filter, ascends_merge, each_from_zero, has-join, is_in-filter, is_in-merge, length-merge, uids_of-ascends}
use Rattle.jc_failpol.specs.declared.outcomes.Outcome.{Outcome}
use Rattle.jc_failpol.specs.declared.outcomes.Outcome.TheVariants.{Alive, Succeeded, Failed, Ignored}
use Rattle.jc_failpol.specs.Outcomes.{is_verdict, outcome_of, same_outcome}
use Rattle.jc_account.specs.Accounts.{completed_in, counted_in, counted_out, left, new_uids, unreleased, ShareNone}
use Rattle.jc_states.specs.Listed.{is_listed}
use Rattle.jc_account.specs.Judged.{candidates, fits, has_come_to, has_tracked, has_verdict, is_candidate, is_left_over, is_new, is_staying, is_to_release, judged_now, left_over, left_with, newly, room, stayed, staying, to_release}
use Rattle.jc_account.specs.Rooms.{joins_list, precedes, takes_room}
use Rattle.jc_account.specs.Modes.{completed_after, gain, gained, indexes_below, indexes_of, kept_indexes, listing, succeeded_after}
use Rattle.jc_states.specs.Indexes.{has_index}
use Rattle.jc_account.proofs.StayingFacts.{staying-length}
use Rattle.jc_account.proofs.ListedFacts.{among_apart, among_passing, apart_from, each, each_in, has-indexes, none_passes, one_passes_both}
use Rattle.jc_account.proofs.IndexFacts.{has-kept, has-within, joined-below}
use Rattle.jc_account.proofs.JudgementFacts.{newly-few, newly-is}
use Rattle.jc_account.proofs.Owned.{filter-least}
use Rattle.jc_account.proofs.RoomFacts.{within-few, kinds-pass}
use Rattle.jc_account.proofs.Totals.{merge-few, stayed_and_left, unreleased_and_released}

-- ---- outcomes

-- A failure is not alive.
not_alive : (a : Outcome) → same_outcome a Failed ≡ true → not (same_outcome a Alive) ≡ true
not_alive Alive h = h
not_alive Succeeded h = refl
not_alive Failed h = refl
not_alive Ignored h = refl

succeeded_not_alive : (a : Outcome) → same_outcome a Succeeded ≡ true → not (same_outcome a Alive) ≡ true
succeeded_not_alive Alive h = h
succeeded_not_alive Succeeded h = refl
succeeded_not_alive Failed h = refl
succeeded_not_alive Ignored h = refl

-- ---- newly judged

-- The UIDs of those of the pods that are to be judged that pass a test.
candidate-member : (u : Uid) (job : Job) (own : List Pod) (test : Pod → Bool)
    → is_in u (uids_of (filter test (candidates job own))) ≡ (not (is_listed job.status u) && list_any (λ pod. (has_verdict job pod && test pod) && same_uid pod.uid u) own)
candidate-member u job own test =
    ap (λ pods. is_in u (uids_of pods)) (filter_filter test (is_candidate job) own)
    ∙ among_passing u (λ pod. is_candidate job pod && test pod) own
    ∙ (λ i. list_any (λ pod. order (is_tracked pod) (is_verdict (outcome_of job.spec pod)) (not (is_listed job.status pod.uid)) (test pod) i && same_uid pod.uid u) own)
    ∙ among_apart u (λ pod. has_verdict job pod && test pod) (λ v. not (is_listed job.status v)) own
  where
    order : (t v n f : Bool) → ((t && (v && n)) && f) ≡ (((t && v) && f) && n)
    order false v n f = refl
    order true false n f = refl
    order true true true true = refl
    order true true true false = refl
    order true true false true = refl
    order true true false false = refl

-- The UIDs of the pods that are judged now.
pub judged-member : (u : Uid) (job : Job) (own : List Pod)
    → is_in u (uids_of (judged_now job own)) ≡ (not (is_listed job.status u) && list_any (λ pod. (has_verdict job pod && fits job own pod) && same_uid pod.uid u) own)
judged-member u job own = candidate-member u job own (fits job own)

-- Those of the pods that are left over.
pub left-member : (u : Uid) (job : Job) (own : List Pod)
    → is_in u (uids_of (left_over job own)) ≡ (not (is_listed job.status u) && list_any (λ pod. (has_verdict job pod && not (fits job own pod)) && same_uid pod.uid u) own)
left-member u job own = candidate-member u job own (λ pod. not (fits job own pod))

pub newly-member : (u : Uid) (job : Job) (own : List Pod) (outcome : Outcome) → is_verdict outcome ≡ true
    → is_in u (uids_of (newly job own outcome)) ≡ (not (is_listed job.status u) && list_any (λ pod. (has_come_to job outcome pod && fits job own pod) && same_uid pod.uid u) own)
newly-member u job own outcome v =
    ap (λ pods. is_in u (uids_of pods)) (newly-is job own outcome v)
    ∙ among_passing u (λ pod. is_new job outcome pod && fits job own pod) own
    ∙ (λ i. list_any (λ pod. order (has_come_to job outcome pod) (not (is_listed job.status pod.uid)) (fits job own pod) i && same_uid pod.uid u) own)
    ∙ among_apart u (λ pod. has_come_to job outcome pod && fits job own pod) (λ v. not (is_listed job.status v)) own
  where
    order : (c n f : Bool) → ((c && n) && f) ≡ ((c && f) && n)
    order false n f = refl
    order true true true = refl
    order true true false = refl
    order true false true = refl
    order true false false = refl

pub newly-order : (job : Job) (pods : List Pod) (outcome : Outcome) → IsRising pods → Ascends (new_uids job pods outcome)
newly-order job pods outcome rises =
    uids_of-ascends 0 (newly job (own_pods job pods) outcome)
    (rises_filter 0 (λ pod. same_outcome (outcome_of job.spec pod) outcome) (judged_now job (own_pods job pods))
    (rises_filter 0 (fits job (own_pods job pods)) (candidates job (own_pods job pods))
    (rises_filter 0 (is_candidate job) (own_pods job pods) (rises_filter 0 (is_own job) pods rises))))

-- As many are judged as there is room for.
pub newly-room : (job : Job) (pods : List Pod) → IsRising pods → length (filter (takes_room job.spec) (judged_now job (own_pods job pods))) ≤ room job (own_pods job pods)
newly-room job pods rises =
    let own = own_pods job pods in
    within-few job.spec (room job own) 0 (candidates job own) (rises_filter 0 (is_candidate job) own (rises_filter 0 (is_own job) pods rises))

pub staying-member : (u : Uid) (job : Job) (own : List Pod) → is_in u (uids_of (staying job own)) ≡ (is_listed job.status u && has_tracked own u)
staying-member u job own = among_passing u (is_staying job) own ∙ among_apart u is_tracked (is_listed job.status) own

-- None of them is listed.
not_listed : (u : Uid) (job : Job) (own : List Pod) (outcome : Outcome) → is_verdict outcome ≡ true → is_in u (uids_of (newly job own outcome)) ≡ true → is_listed job.status u ≡ false
not_listed u job own outcome v h =
    by (is_listed job.status u) (list_any (λ pod. (has_come_to job outcome pod && fits job own pod) && same_uid pod.uid u) own) (sym (newly-member u job own outcome v) ∙ h)
  where
    by : (l some : Bool) → (not l && some) ≡ true → l ≡ false
    by true some e = absurd (true≢false (sym e))
    by false some e = refl

-- ---- lists

pub failed-in : (u : Uid) (job : Job) (pods : List Pod) → is_in u (counted_in job pods).uncounted_failed ≡ ((is_in u job.status.uncounted_failed && has_tracked (own_pods job pods) u) || is_in u (uids_of (newly job (own_pods job pods) Failed)))
unfolding counted_in
failed-in u job pods =
    let own = own_pods job pods in
    is_in-merge u (stayed own job.status.uncounted_failed) (uids_of (newly job own Failed))
    ∙ ap (λ b. b || is_in u (uids_of (newly job own Failed))) (is_in-filter u (has_tracked own) job.status.uncounted_failed)

-- The list of successes, by the mode.
list_at : (job : Job) (pods : List Pod) (mode : Mode) → job.spec.mode ≡ mode → (counted_in job pods).uncounted_succeeded ≡ merge (stayed (own_pods job pods) job.status.uncounted_succeeded) (listing mode (newly job (own_pods job pods) Succeeded))
unfolding counted_in
list_at job pods mode at =
    ap (λ m. merge (stayed (own_pods job pods) job.status.uncounted_succeeded) (listing m (newly job (own_pods job pods) Succeeded))) at

pub succeeded-in : (u : Uid) (job : Job) (pods : List Pod) → job.spec.mode ≡ NonIndexed
    → is_in u (counted_in job pods).uncounted_succeeded
    ≡ ((is_in u job.status.uncounted_succeeded && has_tracked (own_pods job pods) u) || is_in u
    (uids_of (newly job (own_pods job pods) Succeeded)))
succeeded-in u job pods at =
    let own = own_pods job pods in
    ap (is_in u) (list_at job pods NonIndexed at)
    ∙ is_in-merge u (stayed own job.status.uncounted_succeeded) (uids_of (newly job own Succeeded))
    ∙ ap (λ b. b || is_in u (uids_of (newly job own Succeeded))) (is_in-filter u (has_tracked own) job.status.uncounted_succeeded)

pub indexed-in : (job : Job) (pods : List Pod) → job.spec.mode ≡ Indexed → (counted_in job pods).uncounted_succeeded ≡ stayed (own_pods job pods) job.status.uncounted_succeeded
indexed-in job pods at = list_at job pods Indexed at

pub empty-in : (job : Job) (pods : List Pod) → job.spec.mode ≡ Indexed → job.status.uncounted_succeeded ≡ [] → (counted_in job pods).uncounted_succeeded ≡ []
empty-in job pods at none = indexed-in job pods at ∙ ap (stayed (own_pods job pods)) none

pub failed-order : (job : Job) (pods : List Pod) → Ascends job.status.uncounted_failed → Ascends (counted_in job pods).uncounted_failed
unfolding counted_in
failed-order job pods rises =
    let own = own_pods job pods in
    ascends_merge 0 (stayed own job.status.uncounted_failed) (uids_of (newly job own Failed))
    (ascends_filter 0 (has_tracked own) job.status.uncounted_failed rises) (each_from_zero (uids_of (newly job own Failed)))

pub succeeded-order : (job : Job) (pods : List Pod) → Ascends job.status.uncounted_succeeded → Ascends (counted_in job pods).uncounted_succeeded
unfolding counted_in
succeeded-order job pods rises =
    let own = own_pods job pods in
    ascends_merge 0 (stayed own job.status.uncounted_succeeded) (listing job.spec.mode (newly job own Succeeded))
    (ascends_filter 0 (has_tracked own) job.status.uncounted_succeeded rises) (each_from_zero (listing job.spec.mode (newly job own Succeeded)))

-- A list with the newly judged is as long as both, where none of these is in it.
longer : (job : Job) (pods : List Pod) (outcome : Outcome) (uids : List Uid) → is_verdict outcome ≡ true → IsRising pods → ((u : Uid) → is_listed job.status u ≡ false → is_in u uids ≡ false)
    → length (merge (stayed (own_pods job pods) uids) (uids_of (newly job (own_pods job pods) outcome))) ≡ length (stayed (own_pods job pods) uids) + length (newly job (own_pods job pods) outcome)
longer job pods outcome uids v rises unlisted =
    let own = own_pods job pods in
    let more = uids_of (newly job own outcome) in
    let out : Each (λ u. is_in u (stayed own uids) ≡ false) more =
    each_in (λ u. is_in u (stayed own uids) ≡ false) more
    (λ u h. is_in-filter u (has_tracked own) uids ∙ ap (λ b. b && has_tracked own u) (unlisted u (not_listed u job own outcome v h))) in
    let sum = length-merge (stayed own uids) more (apart_from 0 (stayed own uids) more (newly-order job pods outcome rises) out) in
    sum ∙ ap (λ n. length (stayed own uids) + n) (length-map (newly job own outcome) (λ (pod : Pod). pod.uid))

pub failed-length : (job : Job) (pods : List Pod) → IsRising pods → length (counted_in job pods).uncounted_failed ≡ length (stayed (own_pods job pods) job.status.uncounted_failed) + length (newly job (own_pods job pods) Failed)
unfolding counted_in
failed-length job pods rises =
    longer job pods Failed job.status.uncounted_failed refl rises
    (λ u h. (neither (is_in u job.status.uncounted_succeeded) (is_in u job.status.uncounted_failed) h).1)

pub succeeded-length : (job : Job) (pods : List Pod) → job.spec.mode ≡ NonIndexed → IsRising pods
    → length (counted_in job pods).uncounted_succeeded
    ≡ length (stayed (own_pods job pods) job.status.uncounted_succeeded) + length
    (newly job (own_pods job pods) Succeeded)
succeeded-length job pods at rises =
    ap length (list_at job pods NonIndexed at)
    ∙ longer job pods Succeeded job.status.uncounted_succeeded refl rises
    (λ u h. (neither (is_in u job.status.uncounted_succeeded) (is_in u job.status.uncounted_failed) h).0)

-- ---- totals

pub failed-total : (job : Job) (pods : List Pod) → (counted_in job pods).failed ≡ job.status.failed + left (own_pods job pods) job.status.uncounted_failed
unfolding counted_in
failed-total job pods = refl

pub succeeded-total : (job : Job) (pods : List Pod) → job.spec.mode ≡ NonIndexed → (counted_in job pods).succeeded ≡ job.status.succeeded + left (own_pods job pods) job.status.uncounted_succeeded
unfolding counted_in
succeeded-total job pods at =
    ap (λ m. succeeded_after m (job.status.succeeded + left (own_pods job pods) job.status.uncounted_succeeded) (completed_in job (own_pods job pods))) at

pub indexed-total : (job : Job) (pods : List Pod) → job.spec.mode ≡ Indexed → (counted_in job pods).succeeded ≡ length (counted_in job pods).completed
unfolding counted_in
indexed-total job pods at =
    ap (λ m. succeeded_after m (job.status.succeeded + left (own_pods job pods) job.status.uncounted_succeeded) (completed_in job (own_pods job pods))) at

pub failed-sum : (job : Job) (pods : List Pod) → IsRising pods → (counted_in job pods).failed + length (counted_in job pods).uncounted_failed ≡ job.status.failed + length job.status.uncounted_failed + length (newly job (own_pods job pods) Failed)
failed-sum job pods rises =
    omega (arith, failed-total job pods, failed-length job pods rises, stayed_and_left (own_pods job pods) job.status.uncounted_failed)

pub succeeded-sum : (job : Job) (pods : List Pod) → job.spec.mode ≡ NonIndexed → IsRising pods
    → (counted_in job pods).succeeded + length (counted_in job pods).uncounted_succeeded
    ≡ job.status.succeeded + length job.status.uncounted_succeeded + length (newly job (own_pods job pods) Succeeded)
succeeded-sum job pods at rises =
    omega (arith, succeeded-total job pods at, succeeded-length job pods at rises, stayed_and_left (own_pods job pods) job.status.uncounted_succeeded)

pub new-failed : (job : Job) (pods : List Pod) → (counted_in job pods).new_failed ≡ length (newly job (own_pods job pods) Failed)
unfolding counted_in
new-failed job pods = refl

pub judged-failed : (job : Job) (pods : List Pod) → (counted_in job pods).judged_failed ≡ new_uids job pods Failed
unfolding counted_in
judged-failed job pods = refl

pub new-succeeded : (job : Job) (pods : List Pod) → job.spec.mode ≡ NonIndexed → (counted_in job pods).new_succeeded ≡ length (newly job (own_pods job pods) Succeeded)
unfolding counted_in
new-succeeded job pods at =
    ap (λ m. gain m (newly job (own_pods job pods) Succeeded) job.status.completed (completed_in job (own_pods job pods))) at

pub new-indexes : (job : Job) (pods : List Pod) → job.spec.mode ≡ Indexed → (counted_in job pods).new_succeeded ≡ gained job.status.completed (counted_in job pods).completed
unfolding counted_in
new-indexes job pods at =
    ap (λ m. gain m (newly job (own_pods job pods) Succeeded) job.status.completed (completed_in job (own_pods job pods))) at

pub few-failed : (job : Job) (pods : List Pod) → (counted_in job pods).new_failed ≤ length pods
few-failed job pods =
    omega (
      arith,
      new-failed job pods,
      length-map (newly job (own_pods job pods) Failed) (λ (pod : Pod). pod.uid),
      newly-few job pods Failed,
    )

pub left-failed : (job : Job) (pods : List Pod) → (counted_in job pods).left_failed ≡ length (left_with job (own_pods job pods) Failed)
unfolding counted_in
left-failed job pods = refl

pub left-succeeded : (job : Job) (pods : List Pod) → (counted_in job pods).left_succeeded ≡ length (left_with job (own_pods job pods) Succeeded)
unfolding counted_in
left-succeeded job pods = refl

-- Of an Indexed Job no success is left over, since it joins no list.
pub left-indexed : (job : Job) (pods : List Pod) → job.spec.mode ≡ Indexed → (counted_in job pods).left_succeeded ≡ 0
left-indexed job pods at = left-succeeded job pods ∙ ap length none
  where
    own : List Pod
    own = own_pods job pods

    none : left_with job own Succeeded ≡ []
    none =
        filter_filter (λ pod. same_outcome (outcome_of job.spec pod) Succeeded) (λ pod. not (fits job own pod)) (candidates job own)
        ∙ filter_none (λ pod. not (fits job own pod) && same_outcome (outcome_of job.spec pod) Succeeded) (candidates job own)
        (each (λ pod. (not (fits job own pod) && same_outcome (outcome_of job.spec pod) Succeeded) ≡ false) one (candidates job own))
      where
        one : (pod : Pod) → (not (fits job own pod) && same_outcome (outcome_of job.spec pod) Succeeded) ≡ false
        one pod =
            ap (λ m. not (not (joins_list m (outcome_of job.spec pod)) || nat_lt (length (filter (precedes pod.uid) (filter (takes_room job.spec) (candidates job own)))) (room job own)) && same_outcome (outcome_of job.spec pod) Succeeded) at
            ∙ by (same_outcome (outcome_of job.spec pod) Succeeded) (nat_lt (length (filter (precedes pod.uid) (filter (takes_room job.spec) (candidates job own)))) (room job own))
          where
            by : (s l : Bool) → (not (not (not s) || l) && s) ≡ false
            by true l = refl
            by false true = refl
            by false false = refl

-- ---- indexes

pub indexes-in : (n : ℕ) (job : Job) (pods : List Pod) → job.spec.mode ≡ Indexed
    → has n (counted_in job pods).completed
    ≡ ((has n job.status.completed && (has_end job.status.conditions || nat_lt n (unwrap_or job.spec.completions 0))) ||
    (nat_lt n (unwrap_or job.spec.completions 0) && list_any (has_index n) (newly job (own_pods job pods) Succeeded)))
unfolding counted_in
indexes-in n job pods at =
    let new = newly job (own_pods job pods) Succeeded in
    let ended = has_end job.status.conditions in
    let wanted = unwrap_or job.spec.completions 0 in
    let more : List ℕ = indexes_below wanted new in
    ap (λ m. has n (completed_after m ended wanted job.status.completed new)) at
    ∙ has-join n (kept_indexes ended wanted job.status.completed) more
    ∙ ap (λ b. b || has n more) (has-kept n wanted ended job.status.completed)
    ∙ ap (λ b. (has n job.status.completed && (ended || nat_lt n wanted)) || b) (has-within n wanted (indexes_of new) ∙ ap (λ b. nat_lt n wanted && b) (has-indexes n new))

-- As long as the Job has not ended they are below its completions.
pub indexes-below : (job : Job) (pods : List Pod) → job.spec.mode ≡ Indexed → has_end job.status.conditions ≡ false → All (λ n. n < unwrap_or job.spec.completions 0) (counted_in job pods).completed
unfolding counted_in
indexes-below job pods at open_still =
    let new = newly job (own_pods job pods) Succeeded in
    let wanted = unwrap_or job.spec.completions 0 in
    subst (All (λ n. n < wanted))
    (sym (ap (λ m. completed_after m (has_end job.status.conditions) wanted job.status.completed new) at ∙ ap (λ e. completed_after Indexed e wanted job.status.completed new) open_still))
    (joined-below wanted job.status.completed (indexes_of new))

pub plain-set : (job : Job) (pods : List Pod) → job.spec.mode ≡ NonIndexed → (counted_in job pods).completed ≡ job.status.completed
unfolding counted_in
plain-set job pods at =
    ap (λ m. completed_after m (has_end job.status.conditions) (unwrap_or job.spec.completions 0) job.status.completed (newly job (own_pods job pods) Succeeded)) at

-- ---- releases

pub release-member : (u : Uid) (job : Job) (pods : List Pod) → is_in u (counted_in job pods).releases ≡ list_any (λ pod. is_to_release job (own_pods job pods) pod && same_uid pod.uid u) (own_pods job pods)
unfolding counted_in
release-member u job pods = among_passing u (is_to_release job (own_pods job pods)) (own_pods job pods)

pub release-order : (job : Job) (pods : List Pod) → IsRising pods → Ascends (counted_in job pods).releases
unfolding counted_in
release-order job pods rises =
    uids_of-ascends 0 (to_release job (own_pods job pods))
    (rises_filter 0 (is_to_release job (own_pods job pods)) (own_pods job pods) (rises_filter 0 (is_own job) pods rises))

-- A listed UID of a tracked pod is released.
listed_released : (u : Uid) (job : Job) (pods : List Pod) → is_listed job.status u ≡ true → has_tracked (own_pods job pods) u ≡ true → is_in u (counted_in job pods).releases ≡ true
listed_released u job pods listed tracked =
    release-member u job pods
    ∙ weaker_in (λ pod. is_tracked pod && same_uid pod.uid u) (λ pod. is_to_release job own pod && same_uid pod.uid u) own
    (each (λ pod. (is_tracked pod && same_uid pod.uid u) ≡ true → (is_to_release job own pod && same_uid pod.uid u) ≡ true) at own) tracked
  where
    own : List Pod
    own = own_pods job pods

    at : (pod : Pod) → (is_tracked pod && same_uid pod.uid u) ≡ true → (is_to_release job own pod && same_uid pod.uid u) ≡ true
    at pod h =
        let parts = and_parts (is_tracked pod) (same_uid pod.uid u) h in
        let here : is_listed job.status pod.uid ≡ true = ap (is_listed job.status) (same_uid-eq pod.uid u parts.1) ∙ listed in
        let ended = not (same_outcome (outcome_of job.spec pod) Alive) && not (is_left_over job own pod) in
        and_from (is_to_release job own pod) (same_uid pod.uid u)
        (and_from (is_tracked pod) (ended || is_listed job.status pod.uid) parts.0 (or_right ended (is_listed job.status pod.uid) here)) parts.1

-- A newly judged pod is released.
newly_released : (u : Uid) (job : Job) (pods : List Pod) (outcome : Outcome) → is_verdict outcome ≡ true
    → ((a : Outcome) → same_outcome a outcome ≡ true → not (same_outcome a Alive) ≡ true)
    → is_in u (uids_of (newly job (own_pods job pods) outcome)) ≡ true → is_in u (counted_in job pods).releases ≡ true
newly_released u job pods outcome v ended h =
    release-member u job pods
    ∙ weaker_in (λ pod. (is_new job outcome pod && fits job own pod) && same_uid pod.uid u) (λ pod. is_to_release job own pod && same_uid pod.uid u) own
    (each (λ pod. ((is_new job outcome pod && fits job own pod) && same_uid pod.uid u) ≡ true → (is_to_release job own pod && same_uid pod.uid u) ≡ true) at own)
    (sym (among_passing u (λ pod. is_new job outcome pod && fits job own pod) own) ∙ sym (ap (λ ps. is_in u (uids_of ps)) (newly-is job own outcome v)) ∙ h)
  where
    own : List Pod
    own = own_pods job pods

    at : (pod : Pod) → ((is_new job outcome pod && fits job own pod) && same_uid pod.uid u) ≡ true → (is_to_release job own pod && same_uid pod.uid u) ≡ true
    at pod h =
        let parts = and_parts (is_new job outcome pod && fits job own pod) (same_uid pod.uid u) h in
        let new = and_parts (is_new job outcome pod) (fits job own pod) parts.0 in
        let come = (and_parts (has_come_to job outcome pod) (not (is_listed job.status pod.uid)) new.0).0 in
        let both = and_parts (is_tracked pod) (same_outcome (outcome_of job.spec pod) outcome) come in
        let over = not (same_outcome (outcome_of job.spec pod) Alive) && not (is_left_over job own pod) in
        and_from (is_to_release job own pod) (same_uid pod.uid u)
        (and_from (is_tracked pod) (over || is_listed job.status pod.uid) both.0
        (or_left over (is_listed job.status pod.uid)
        (and_from (not (same_outcome (outcome_of job.spec pod) Alive)) (not (is_left_over job own pod)) (ended (outcome_of job.spec pod) both.1)
        (fit (is_candidate job pod) (fits job own pod) new.1)))) parts.1
      where
        fit : (c f : Bool) → f ≡ true → not (c && not f) ≡ true
        fit true true e = refl
        fit false f e = refl
        fit true false e = absurd (true≢false (sym e))

-- What is in the list of failures afterwards was there and stays, or is newly judged.
pub failed-cases : (u : Uid) (job : Job) (pods : List Pod) → is_in u (counted_in job pods).uncounted_failed ≡ true
    → ((is_in u job.status.uncounted_failed && has_tracked (own_pods job pods) u) ≡ true) ⊎ (is_in u (uids_of (newly job (own_pods job pods) Failed)) ≡ true)
failed-cases u job pods h =
    or_cases (is_in u job.status.uncounted_failed && has_tracked (own_pods job pods) u) (is_in u (uids_of (newly job (own_pods job pods) Failed))) (sym (failed-in u job pods) ∙ h)

-- The same of the list of successes, in both modes.
pub succeeded-cases : (u : Uid) (job : Job) (pods : List Pod) → is_in u (counted_in job pods).uncounted_succeeded ≡ true
    → ((is_in u job.status.uncounted_succeeded && has_tracked (own_pods job pods) u) ≡ true) ⊎ (is_in u (uids_of (newly job (own_pods job pods) Succeeded)) ≡ true)
succeeded-cases u job pods h = by job.spec.mode refl
  where
    by : (mode : Mode) → job.spec.mode ≡ mode
        → ((is_in u job.status.uncounted_succeeded && has_tracked (own_pods job pods) u) ≡ true) ⊎ (is_in u (uids_of (newly job (own_pods job pods) Succeeded)) ≡ true)
    by NonIndexed at =
        or_cases (is_in u job.status.uncounted_succeeded && has_tracked (own_pods job pods) u) (is_in u (uids_of (newly job (own_pods job pods) Succeeded))) (sym (succeeded-in u job pods at) ∙ h)
    by Indexed at =
        inl (sym (is_in-filter u (has_tracked (own_pods job pods)) job.status.uncounted_succeeded) ∙ sym (ap (is_in u) (indexed-in job pods at)) ∙ h)

pub failed-released : (u : Uid) (job : Job) (pods : List Pod) → is_in u (counted_in job pods).uncounted_failed ≡ true → is_in u (counted_in job pods).releases ≡ true
failed-released u job pods h =
    elim (failed-cases u job pods h) [
      | inl stays ↦
          let parts = and_parts (is_in u job.status.uncounted_failed) (has_tracked (own_pods job pods) u) stays in
          listed_released u job pods (or_right (is_in u job.status.uncounted_succeeded) (is_in u job.status.uncounted_failed) parts.0) parts.1
      | inr new ↦ newly_released u job pods Failed refl not_alive new
    ]

pub succeeded-released : (u : Uid) (job : Job) (pods : List Pod) → is_in u (counted_in job pods).uncounted_succeeded ≡ true → is_in u (counted_in job pods).releases ≡ true
succeeded-released u job pods h =
    elim (succeeded-cases u job pods h) [
      | inl stays ↦
          let parts = and_parts (is_in u job.status.uncounted_succeeded) (has_tracked (own_pods job pods) u) stays in
          listed_released u job pods (or_left (is_in u job.status.uncounted_succeeded) (is_in u job.status.uncounted_failed) parts.0) parts.1
      | inr new ↦ newly_released u job pods Succeeded refl succeeded_not_alive new
    ]

-- ---- no UID in both lists

-- No pod has two outcomes.
one_outcome : (job : Job) (pod : Pod) → (has_come_to job Succeeded pod && has_come_to job Failed pod) ≡ false
one_outcome job pod = by (is_tracked pod) (outcome_of job.spec pod)
  where
    by : (t : Bool) (a : Outcome) → ((t && same_outcome a Succeeded) && (t && same_outcome a Failed)) ≡ false
    by true Alive = refl
    by true Succeeded = refl
    by true Failed = refl
    by true Ignored = refl
    by false a = refl

-- Of rising pods none is newly judged twice.
judged_once : (u : Uid) (job : Job) (pods : List Pod) → IsRising pods → is_in u (uids_of (newly job (own_pods job pods) Succeeded)) ≡ true → is_in u (uids_of (newly job (own_pods job pods) Failed)) ≡ true → ⊥
judged_once u job pods rises s f =
    let own = own_pods job pods in
    let here = λ (outcome : Outcome) (pod : Pod). has_come_to job outcome pod && fits job own pod in
    let come = λ (outcome : Outcome) (v : is_verdict outcome ≡ true) (h : is_in u (uids_of (newly job own outcome)) ≡ true).
    (and_parts (not (is_listed job.status u)) (list_any (λ pod. here outcome pod && same_uid pod.uid u) own) (sym (newly-member u job own outcome v) ∙ h)).1 in
    let both = one_passes_both 0 u (here Succeeded) (here Failed) own (rises_filter 0 (is_own job) pods rises) (come Succeeded refl s) (come Failed refl f) in
    true≢false (sym both ∙ none_passes (λ pod. (here Succeeded pod && here Failed pod) && same_uid pod.uid u)
    (λ pod. ap (λ b. b && same_uid pod.uid u)
    (apart (has_come_to job Succeeded pod) (has_come_to job Failed pod) (fits job own pod) (one_outcome job pod))) own)
  where
    apart : (s f fit : Bool) → (s && f) ≡ false → ((s && fit) && (f && fit)) ≡ false
    apart true false true h = refl
    apart true false false h = refl
    apart true true fit h = absurd (true≢false h)
    apart false f fit h = refl

pub lists-apart : (u : Uid) (job : Job) (pods : List Pod) → IsRising pods
    → (is_in u job.status.uncounted_succeeded && is_in u job.status.uncounted_failed) ≡ false
    → (is_in u (counted_in job pods).uncounted_succeeded && is_in u (counted_in job pods).uncounted_failed) ≡ false
lists-apart u job pods rises before = by (is_in u (counted_in job pods).uncounted_succeeded) refl (is_in u (counted_in job pods).uncounted_failed) refl
  where
    listed_not_new : (outcome : Outcome) → is_verdict outcome ≡ true → is_listed job.status u ≡ true → is_in u (uids_of (newly job (own_pods job pods) outcome)) ≡ true → ⊥
    listed_not_new outcome v listed new = true≢false (sym listed ∙ not_listed u job (own_pods job pods) outcome v new)

    never : is_in u (counted_in job pods).uncounted_succeeded ≡ true → is_in u (counted_in job pods).uncounted_failed ≡ true → ⊥
    never s f =
        elim (succeeded-cases u job pods s) [
          | inl stays ↦
              let was = (and_parts (is_in u job.status.uncounted_succeeded) (has_tracked (own_pods job pods) u) stays).0 in
              elim (failed-cases u job pods f) [
                | inl keeps ↦
                    let is = (and_parts (is_in u job.status.uncounted_failed) (has_tracked (own_pods job pods) u) keeps).0 in
                    true≢false (sym (and_from (is_in u job.status.uncounted_succeeded) (is_in u job.status.uncounted_failed) was is) ∙ before)
                | inr new ↦ listed_not_new Failed refl (or_left (is_in u job.status.uncounted_succeeded) (is_in u job.status.uncounted_failed) was) new
              ]
          | inr new ↦
              elim (failed-cases u job pods f) [
                | inl keeps ↦
                    let is = (and_parts (is_in u job.status.uncounted_failed) (has_tracked (own_pods job pods) u) keeps).0 in
                    listed_not_new Succeeded refl (or_right (is_in u job.status.uncounted_succeeded) (is_in u job.status.uncounted_failed) is) new
                | inr too ↦ judged_once u job pods rises new too
              ]
        ]

    by : (a : Bool) → is_in u (counted_in job pods).uncounted_succeeded ≡ a → (b : Bool) → is_in u (counted_in job pods).uncounted_failed ≡ b → (a && b) ≡ false
    by true s true f = absurd (never s f)
    by true s false f = refl
    by false s b f = refl

-- ---- the lists stay short

-- What is newly judged and joins a list takes room.
judged_room : (job : Job) (own : List Pod) → length (listing job.spec.mode (newly job own Succeeded)) + length (newly job own Failed) ≤ length (filter (takes_room job.spec) (judged_now job own))
judged_room job own = by job.spec.mode
  where
    same : Outcome → Pod → Bool
    same outcome pod = same_outcome (outcome_of job.spec pod) outcome

    not_both : (a : Outcome) → (same_outcome a Succeeded && same_outcome a Failed) ≡ false
    not_both Alive = refl
    not_both Succeeded = refl
    not_both Failed = refl
    not_both Ignored = refl

    failed_takes : (a : Outcome) → (false || same_outcome a Failed) ≡ true → joins_list Indexed a ≡ true
    failed_takes Alive h = refl
    failed_takes Succeeded h = absurd (true≢false (sym h))
    failed_takes Failed h = refl
    failed_takes Ignored h = refl

    by : (mode : Mode) → length (listing mode (newly job own Succeeded)) + length (newly job own Failed) ≤ length (filter (λ pod. joins_list mode (outcome_of job.spec pod)) (judged_now job own))
    by NonIndexed =
        omega (
          arith,
          length-map (newly job own Succeeded) (λ (pod : Pod). pod.uid),
          kinds-pass (λ pod. same_outcome (outcome_of job.spec pod) Succeeded) (λ pod. same_outcome (outcome_of job.spec pod) Failed) (λ pod. true) (λ pod. not_both (outcome_of job.spec pod)) (λ pod h. refl) (judged_now job own),
        )
    by Indexed =
        omega (
          arith,
          kinds-pass (λ (pod : Pod). false) (λ pod. same_outcome (outcome_of job.spec pod) Failed) (λ pod. joins_list Indexed (outcome_of job.spec pod)) (λ pod. refl) (λ pod. failed_takes (outcome_of job.spec pod)) (judged_now job own),
        )

pub lists-short : (job : Job) (pods : List Pod) → IsRising pods → Ascends job.status.uncounted_succeeded → Ascends job.status.uncounted_failed → ShareNone job.status.uncounted_succeeded job.status.uncounted_failed
    → length job.status.uncounted_succeeded + length job.status.uncounted_failed ≤ MOST_UNCOUNTED
    → length (counted_in job pods).uncounted_succeeded + length (counted_in job pods).uncounted_failed ≤ MOST_UNCOUNTED
unfolding counted_in
lists-short job pods rises order_s order_f apart before =
    let own = own_pods job pods in
    let status = job.status in
    let s : length (merge (stayed own status.uncounted_succeeded) (listing job.spec.mode (newly job own Succeeded))) ≤ length (stayed own status.uncounted_succeeded) + length (listing job.spec.mode (newly job own Succeeded)) =
    merge-few (stayed own status.uncounted_succeeded) (listing job.spec.mode (newly job own Succeeded)) in
    let f : length (merge (stayed own status.uncounted_failed) (uids_of (newly job own Failed))) ≤ length (stayed own status.uncounted_failed) + length (uids_of (newly job own Failed)) =
    merge-few (stayed own status.uncounted_failed) (uids_of (newly job own Failed)) in
    let n : length (uids_of (newly job own Failed)) ≡ length (newly job own Failed) = length-map (newly job own Failed) (λ (pod : Pod). pod.uid) in
    let fewer : length (listing job.spec.mode (newly job own Succeeded)) + length (newly job own Failed) ≤ room job own = omega (arith, judged_room job own, newly-room job pods rises) in
    let same = staying-length job pods rises order_s order_f apart in
    omega (arith, s, f, n, fewer, same, before, filter-least (has_tracked own) status.uncounted_succeeded, filter-least (has_tracked own) status.uncounted_failed)

-- ---- counted out

pub failed-out : (u : Uid) (status : JobStatus) (released : List Uid) → is_in u (counted_out status released).uncounted_failed ≡ (is_in u status.uncounted_failed && not (is_in u released))
unfolding counted_out
failed-out u status released = is_in-filter u (λ v. not (is_in v released)) status.uncounted_failed

pub succeeded-out : (u : Uid) (status : JobStatus) (released : List Uid) → is_in u (counted_out status released).uncounted_succeeded ≡ (is_in u status.uncounted_succeeded && not (is_in u released))
unfolding counted_out
succeeded-out u status released = is_in-filter u (λ v. not (is_in v released)) status.uncounted_succeeded

pub failed-out-order : (status : JobStatus) (released : List Uid) → Ascends status.uncounted_failed → Ascends (counted_out status released).uncounted_failed
unfolding counted_out
failed-out-order status released rises = ascends_filter 0 (λ v. not (is_in v released)) status.uncounted_failed rises

pub succeeded-out-order : (status : JobStatus) (released : List Uid) → Ascends status.uncounted_succeeded → Ascends (counted_out status released).uncounted_succeeded
unfolding counted_out
succeeded-out-order status released rises = ascends_filter 0 (λ v. not (is_in v released)) status.uncounted_succeeded rises

pub failed-out-sum : (status : JobStatus) (released : List Uid) → (counted_out status released).failed + length (counted_out status released).uncounted_failed ≡ status.failed + length status.uncounted_failed
unfolding counted_out
failed-out-sum status released = omega (arith, unreleased_and_released released status.uncounted_failed)

pub succeeded-out-sum : (status : JobStatus) (released : List Uid) → (counted_out status released).succeeded + length (counted_out status released).uncounted_succeeded ≡ status.succeeded + length status.uncounted_succeeded
unfolding counted_out
succeeded-out-sum status released = omega (arith, unreleased_and_released released status.uncounted_succeeded)

pub others-out : (status : JobStatus) (released : List Uid) → (record (counted_out status released) {
  succeeded = status.succeeded;
  failed = status.failed;
  uncounted_succeeded = status.uncounted_succeeded;
  uncounted_failed = status.uncounted_failed;
}) ≡ status
unfolding counted_out
others-out status released = refl

-- Of a list whose UIDs are all released nothing is left.
all_out : (released uids : List Uid) → ((u : Uid) → is_in u uids ≡ true → is_in u released ≡ true) → unreleased released uids ≡ []
all_out released uids all =
    filter_none (λ u. not (is_in u released)) uids (each_in (λ u. not (is_in u released) ≡ false) uids (λ u h. ap not (all u h)))

pub failed-list-empty : (job : Job) (pods : List Pod) (status : JobStatus) → status.uncounted_failed ≡ (counted_in job pods).uncounted_failed → (counted_out status (counted_in job pods).releases).uncounted_failed ≡ []
unfolding counted_out
failed-list-empty job pods status is =
    all_out (counted_in job pods).releases status.uncounted_failed (λ u h. failed-released u job pods (sym (ap (is_in u) is) ∙ h))

pub succeeded-list-empty : (job : Job) (pods : List Pod) (status : JobStatus) → status.uncounted_succeeded ≡ (counted_in job pods).uncounted_succeeded → (counted_out status (counted_in job pods).releases).uncounted_succeeded ≡ []
unfolding counted_out
succeeded-list-empty job pods status is =
    all_out (counted_in job pods).releases status.uncounted_succeeded (λ u h. succeeded-released u job pods (sym (ap (is_in u) is) ∙ h))

pub failed-all-out : (job : Job) (pods : List Pod) (status : JobStatus) → status.uncounted_failed ≡ (counted_in job pods).uncounted_failed → (counted_out status (counted_in job pods).releases).failed ≡ status.failed + length status.uncounted_failed
failed-all-out job pods status is =
    omega (arith, failed-out-sum status (counted_in job pods).releases, ap length (failed-list-empty job pods status is))

pub succeeded-all-out : (job : Job) (pods : List Pod) (status : JobStatus) → status.uncounted_succeeded
    ≡ (counted_in job pods).uncounted_succeeded → (counted_out status (counted_in job pods).releases).succeeded
    ≡ status.succeeded + length status.uncounted_succeeded
succeeded-all-out job pods status is =
    omega (arith, succeeded-out-sum status (counted_in job pods).releases, ap length (succeeded-list-empty job pods status is))
