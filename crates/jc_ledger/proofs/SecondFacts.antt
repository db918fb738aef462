-- The second status of a sync is written: what was counted in and released is counted out. No record joins
-- but of successes of an Indexed Job whose index is completed already.
use Rattle.std.proofs.Common.{◌≡◌, ℕ, zero, suc, ◌+◌, ◌≤◌, Bool, leb, take, true, false, cond, not, ◌&&◌, List, [], ◌∷◌, ◌++◌, length, filter, map, Option, Some, None, is_some, refl, sym, ap, ◌∙◌, subst, inl, inr, arith, true≢false}
use Rattle.std.specs.Prelude.{IfSome, IsSome}
use Rattle.std.specs.List.{AllByRecursion as Each}
use Rattle.std.proofs.lemmas.Bool.{and_from, and_parts, false_from_ne_true, not-true, not_from_false, or_cases, or_left, or_right, leb-true, leb-false}
use Rattle.std.proofs.lemmas.List.{append-nil, length-take-le, take_all}
use Rattle.std.specs.Option.{option_map_or, unwrap_or}
use Rattle.std.proofs.lemmas.Option.{IfSome_then}
use Rattle.jc_ranges.specs.Sets.{IsIncreasing, has}
use Rattle.jc_types.specs.declared.numbers.Uid.{Uid}
use Rattle.jc_types.specs.declared.objects.Entry.{Entry}
use Rattle.jc_types.specs.declared.objects.Entry.TheVariants.{JobPut}
use Rattle.jc_types.specs.declared.objects.Job.{Job}
use Rattle.jc_types.specs.declared.objects.Pod.{Pod}
use Rattle.jc_types.specs.declared.specifications.Mode.{Mode}
use Rattle.jc_types.specs.declared.statuses.IndexCount.{IndexCount}
use Rattle.jc_types.specs.declared.specifications.Mode.TheVariants.{NonIndexed, Indexed}
use Rattle.jc_states.specs.Bases.{is_own, own_pods}
use Rattle.jc_states.specs.PodLists.{IsRising, RisesFrom}
use Rattle.jc_log.specs.Log.{upto, entry_at, job_in, life, Live, is_lost}
use Rattle.jc_states.specs.Pods.{is_tracked}
use Rattle.jc_states.specs.Conditions.{has_end}
use Rattle.jc_states.specs.UidLists.{Ascends, is_in, join, uids_of}
use Rattle.jc_states.specs.ObjectChanges.{JobStep}
use Rattle.jc_log.specs.Writes.{Legal}
use Rattle.jc_types.proofs.ListFacts.{Each-weaker, Each-both, Each-filter, Each-passes, Each-take, filter_all, filter_filter, filter_none}
use Rattle.jc_states.proofs.PodListFacts.{rises_filter}
use Rattle.jc_states.proofs.UidListFacts.{has-join, is_in-filter, passes_in}
use Rattle.jc_log.proofs.WriteFacts.{Stored-from_legal, lost_on}
use Rattle.jc_failpol.specs.declared.outcomes.Outcome.{Outcome}
use Rattle.jc_failpol.specs.declared.outcomes.Outcome.TheVariants.{Succeeded, Failed}
use Rattle.jc_failpol.specs.Outcomes.{is_verdict, outcome_of, same_outcome}
use Rattle.jc_account.specs.Accounts.{counted_in}
use Rattle.jc_states.specs.Listed.{is_listed}
use Rattle.jc_account.specs.Judged.{candidates, has_come_to, has_tracked, is_candidate, is_fresh, is_new, is_staying, newly, room}
use Rattle.jc_account.specs.Modes.{indexes_of}
use Rattle.jc_account.proofs.AccountFacts.{failed-in, failed-list-empty, failed-out-sum, failed-released, indexed-in, succeeded-in, succeeded-list-empty, succeeded-out-sum, succeeded-released}
use Rattle.jc_account.proofs.IndexFacts.{has-within, each-join as each_join}
use Rattle.jc_account.proofs.ListedFacts.{among_passing, each}
use Rattle.jc_ledger.specs.EventKinds.{CountsIn, CountsOut}
use Rattle.jc_ledger.specs.Ledger.{failed_after, failed_pods, fails_of, is_within, kept, within, Record, record_of, was_judged_failed, has_record, is_held, is_success, space, fresh, chosen, Ledger, successes, entered}
use Rattle.jc_account.specs.Rooms.{has_room, joins_list, takes_room}
use Rattle.jc_perindex.specs.Failures.{failed_set, failing_by, failures_by, has_failed as fails_index, newly_failed, raised}
use Rattle.jc_ledger.specs.Once.{SaysFails}
use Rattle.jc_ledger.specs.Tied.{made_as, HasOrderedLists, IsListing, IsCurrent, TiesJob}
use Rattle.jc_ledger.proofs.AgreementFacts.{failed_joins, has_joined, listed_joined}
use Rattle.jc_ledger.proofs.DoneFacts.{indexes-each, join-known}
use Rattle.jc_ledger.proofs.FailFacts.{failing-in, failures-in, says-counts}
use Rattle.jc_ledger.proofs.FirstFacts.{completed-in}
use Rattle.jc_ledger.proofs.MadeFacts.{outcome-step}
use Rattle.jc_ledger.proofs.PutFacts.{IsChosen, Puts, index_in}
use Rattle.jc_ledger.proofs.RoomFacts.{Each-none, joining-first, judged-joining, newly-free, parts_few}
use Rattle.jc_account.proofs.RoomFacts.{unfiltered as Each-kept}
use Rattle.jc_ledger.proofs.RecordFacts.{Found, Old, New, failed_pods-more, record_of-found, judged_as-more}

-- A pod of the Job, as it stood among the first n entries.
abbrev pub StoodOwn : Job → List Entry → ℕ → Pod → Type 0
StoodOwn made log n pod = (life pod.uid (upto n log) ≡ Live pod) × (pod.owner_uid ≡ made.uid)

-- What the law has, over plain variables: `current` is there with the status that the sync knows, and `new`
-- is put.
pub record IsSecond (made : Job) (log : List Entry) (ledger : Ledger) (job : Job) (pods : List Pod) (seen_at : ℕ) (current new : Job) : Type 0 where
  pub legal : Legal (JobPut new ∷ log)
  pub is_made : made_as made.uid log ≡ Some made
  pub ties : TiesJob made log ledger
  pub rising : IsIncreasing ledger.done
  pub there : job_in made.key log ≡ Some current
  pub stands : entry_at current.version.0 log ≡ Some (JobPut current)
  pub within : seen_at ≤ length log
  pub job_step : JobStep made job
  pub current_step : JobStep made current
  pub new_step : JobStep made new
  pub rises : IsRising pods
  pub own : Each (StoodOwn made log seen_at) (own_pods job pods)
  pub counted : CountsIn job pods current.status
  pub counts : CountsOut current.status (counted_in job pods).releases new.status
  pub released : (u : Uid) → is_in u (counted_in job pods).releases ≡ true → is_lost (life u log) ≡ true

module _ (made : Job) (log : List Entry) (ledger : Ledger) (job : Job) (pods : List Pod) (seen_at : ℕ) (current new : Job) (h : IsSecond made log ledger job pods seen_at current new) where
  abbrev own : List Pod
  own = own_pods job pods

  -- ---- what is there

  listing : IsListing ledger.records current.version.0 current.status
  listing = h.ties.listed current.version.0 current h.stands h.current_step.uid

  tidy : HasOrderedLists current
  tidy = h.ties.tidy current.version.0 current h.stands h.current_step.uid

  now : IsCurrent log ledger current
  now = h.ties.now current h.there h.current_step.uid

  -- All have one mode.
  mode_of_new : new.spec.mode ≡ job.spec.mode
  mode_of_new = h.new_step.mode ∙ sym h.job_step.mode

  mode_of_current : current.spec.mode ≡ job.spec.mode
  mode_of_current = h.current_step.mode ∙ sym h.job_step.mode

  -- Nothing is left in the lists.
  none_failed : new.status.uncounted_failed ≡ []
  none_failed = h.counts.uncounted_failed ∙ failed-list-empty job pods current.status h.counted.uncounted_failed

  none_succeeded : new.status.uncounted_succeeded ≡ []
  none_succeeded = h.counts.uncounted_succeeded ∙ succeeded-list-empty job pods current.status h.counted.uncounted_succeeded

  -- Each total with its list stays what it was.
  failed_stays : new.status.failed + length new.status.uncounted_failed ≡ current.status.failed + length current.status.uncounted_failed
  failed_stays =
      let sum = failed-out-sum current.status (counted_in job pods).releases in
      omega (arith, sum, h.counts.failed, ap length h.counts.uncounted_failed)

  succeeded_stays : new.status.succeeded + length new.status.uncounted_succeeded ≡ current.status.succeeded + length current.status.uncounted_succeeded
  succeeded_stays =
      let sum = succeeded-out-sum current.status (counted_in job pods).releases in
      omega (arith, sum, h.counts.succeeded, ap length h.counts.uncounted_succeeded)

  -- ---- what is listed has a record, and is released

  listed_record : (u : Uid) → is_listed current.status u ≡ true → is_some (record_of u ledger.records) ≡ true
  listed_record u l =
      elim (or_cases (is_in u current.status.uncounted_succeeded) (is_in u current.status.uncounted_failed) l) [
        | inl s ↦ ap is_some (listing.succeeded u s).is_found
        | inr f ↦ ap is_some (listing.failed u f).is_found
      ]

  listed_lost : (u : Uid) → is_listed current.status u ≡ true → is_lost (life u log) ≡ true
  listed_lost u l =
      elim (or_cases (is_in u current.status.uncounted_succeeded) (is_in u current.status.uncounted_failed) l) [
        | inl s ↦ h.released u (succeeded-released u job pods (sym (ap (is_in u) h.counted.uncounted_succeeded) ∙ s))
        | inr f ↦ h.released u (failed-released u job pods (sym (ap (is_in u) h.counted.uncounted_failed) ∙ f))
      ]

  -- ---- what the sync counted in is listed

  in_failed : (u : Uid) → is_in u (counted_in job pods).uncounted_failed ≡ true → is_listed current.status u ≡ true
  in_failed u f =
      or_right (is_in u current.status.uncounted_succeeded) (is_in u current.status.uncounted_failed) (ap (is_in u) h.counted.uncounted_failed ∙ f)

  in_succeeded : (u : Uid) → is_in u (counted_in job pods).uncounted_succeeded ≡ true → is_listed current.status u ≡ true
  in_succeeded u s =
      or_left (is_in u current.status.uncounted_succeeded) (is_in u current.status.uncounted_failed) (ap (is_in u) h.counted.uncounted_succeeded ∙ s)

  -- What was listed stays so where its pod is tracked.
  stays_listed : (u : Uid) → is_listed job.status u ≡ true → has_tracked own u ≡ true → is_listed current.status u ≡ true
  stays_listed u l t =
      elim (or_cases (is_in u job.status.uncounted_succeeded) (is_in u job.status.uncounted_failed) l) [
        | inl s ↦ in_succeeded u (stays_succeeded s job.spec.mode refl)
        | inr f ↦
            in_failed u
            (failed-in u job pods
            ∙ or_left (is_in u job.status.uncounted_failed && has_tracked own u) (is_in u (uids_of (newly job own Failed)))
            (and_from (is_in u job.status.uncounted_failed) (has_tracked own u) f t))
      ]
    where
      stays_succeeded : is_in u job.status.uncounted_succeeded ≡ true → (mode : Mode) → job.spec.mode ≡ mode → is_in u (counted_in job pods).uncounted_succeeded ≡ true
      stays_succeeded s NonIndexed at =
          succeeded-in u job pods at
          ∙ or_left (is_in u job.status.uncounted_succeeded && has_tracked own u) (is_in u (uids_of (newly job own Succeeded)))
          (and_from (is_in u job.status.uncounted_succeeded) (has_tracked own u) s t)
      stays_succeeded s Indexed at =
          ap (is_in u) (indexed-in job pods at)
          ∙ is_in-filter u (has_tracked own) job.status.uncounted_succeeded
          ∙ and_from (is_in u job.status.uncounted_succeeded) (has_tracked own u) s t

  -- What is newly judged is listed, but for successes of an Indexed Job.
  new_failed : (u : Uid) → is_in u (uids_of (newly job own Failed)) ≡ true → is_listed current.status u ≡ true
  new_failed u n =
      in_failed u (failed-in u job pods ∙ or_right (is_in u job.status.uncounted_failed && has_tracked own u) (is_in u (uids_of (newly job own Failed))) n)

  new_succeeded : (u : Uid) → job.spec.mode ≡ NonIndexed → is_in u (uids_of (newly job own Succeeded)) ≡ true → is_listed current.status u ≡ true
  new_succeeded u at n =
      in_succeeded u (succeeded-in u job pods at ∙ or_right (is_in u job.status.uncounted_succeeded && has_tracked own u) (is_in u (uids_of (newly job own Succeeded))) n)

  -- ---- the pods that the write judges

  -- What a pod is among, by its tests.
  abbrev IsAmong : Pod → Type 0
  IsAmong pod =
      (is_tracked pod ≡ true → is_in pod.uid (uids_of (filter is_tracked own)) ≡ true)
      × (job.spec.mode ≡ Indexed → is_new job Succeeded pod ≡ true → IfSome pod.index (λ n. has n (indexes_of (newly job own Succeeded)) ≡ true))

  among : Each IsAmong own
  among =
      let tracked = λ (pod : Pod). is_tracked pod ≡ true → is_in pod.uid (uids_of (filter is_tracked own)) ≡ true in
      let index = λ (pod : Pod). is_new job Succeeded pod ≡ true → IfSome pod.index (λ n. has n (indexes_of (filter (is_new job Succeeded) own)) ≡ true) in
      Each-weaker (λ pod. tracked pod × index pod) IsAmong
      (λ pod b. (
        b.0,
        λ at. subst (λ ps. is_new job Succeeded pod ≡ true
            → IfSome pod.index (λ n. has n (indexes_of ps) ≡ true))
            (sym (newly-free job own Succeeded refl (ap (λ m. joins_list m Succeeded) at))) b.1,
      )) own
      (Each-both tracked index own (passes_in is_tracked own) (index_in (is_new job Succeeded) own))

  -- The parts of the test of a pod that is still to be judged.
  fresh_tracked : (pod : Pod) → is_fresh job.spec (has_record ledger.records) pod ≡ true → is_tracked pod ≡ true
  fresh_tracked pod f = (and_parts (is_tracked pod) (is_verdict (outcome_of job.spec pod) && not (is_some (record_of pod.uid ledger.records))) f).0

  fresh_verdict : (pod : Pod) → is_fresh job.spec (has_record ledger.records) pod ≡ true → is_verdict (outcome_of job.spec pod) ≡ true
  fresh_verdict pod f =
      (and_parts (is_verdict (outcome_of job.spec pod)) (not (is_some (record_of pod.uid ledger.records)))
      (and_parts (is_tracked pod) (is_verdict (outcome_of job.spec pod) && not (is_some (record_of pod.uid ledger.records))) f).1).0

  fresh_new : (pod : Pod) → is_fresh job.spec (has_record ledger.records) pod ≡ true → is_some (record_of pod.uid ledger.records) ≡ false
  fresh_new pod f =
      not-true (is_some (record_of pod.uid ledger.records))
      (and_parts (is_verdict (outcome_of job.spec pod)) (not (is_some (record_of pod.uid ledger.records)))
      (and_parts (is_tracked pod) (is_verdict (outcome_of job.spec pod) && not (is_some (record_of pod.uid ledger.records))) f).1).1

  -- Such a pod is not listed now,
  not_listed_now : (pod : Pod) → is_fresh job.spec (has_record ledger.records) pod ≡ true → is_listed current.status pod.uid ≡ true → ⊥
  not_listed_now pod f l = true≢false (sym (listed_record pod.uid l) ∙ fresh_new pod f)

  -- and was not when the sync began: it was to be judged there.
  was_candidate : (pod : Pod) → IsAmong pod → is_fresh job.spec (has_record ledger.records) pod ≡ true → is_candidate job pod ≡ true
  was_candidate pod a f =
      let tracked : has_tracked own pod.uid ≡ true = sym (among_passing pod.uid is_tracked own) ∙ a.0 (fresh_tracked pod f) in
      let unlisted = false_from_ne_true (is_listed job.status pod.uid) (λ l. not_listed_now pod f (stays_listed pod.uid l tracked)) in
      and_from (is_tracked pod) (is_verdict (outcome_of job.spec pod) && not (is_listed job.status pod.uid)) (fresh_tracked pod f)
      (and_from (is_verdict (outcome_of job.spec pod)) (not (is_listed job.status pod.uid)) (fresh_verdict pod f) (not_from_false (is_listed job.status pod.uid) unlisted))

  -- ---- none of them joins a list

  -- The pods that were to be judged when the sync began, and would have joined a list.
  abbrev would_join : Pod → Bool
  would_join pod = is_candidate job pod && takes_room job.spec pod

  abbrev wanted : List Pod
  wanted = take (room job own) (filter would_join own)

  -- Those of them that were judged then are listed now.
  was_newly : (outcome : Outcome) → joins_list job.spec.mode outcome ≡ true → newly job own outcome ≡ filter (λ pod. same_outcome (outcome_of job.spec pod) outcome) wanted
  was_newly outcome joins =
      judged-joining job.spec (room job own) (candidates job own) 0 outcome (rises_filter 0 (is_candidate job) own (rises_filter 0 (is_own job) pods h.rises)) joins
      ∙ ap (λ ps. filter (λ pod. same_outcome (outcome_of job.spec pod) outcome) (take (room job own) ps)) (filter_filter (takes_room job.spec) (is_candidate job) own)

  wanted_listed : Each (λ pod. is_listed current.status pod.uid ≡ true) wanted
  wanted_listed =
      let failed = λ (pod : Pod). same_outcome (outcome_of job.spec pod) Failed in
      let succeeded = λ (pod : Pod). same_outcome (outcome_of job.spec pod) Succeeded in
      let P = λ (pod : Pod). would_join pod ≡ true in
      let Q = λ (pod : Pod). failed pod ≡ true → is_in pod.uid (uids_of (filter failed wanted)) ≡ true in
      let R = λ (pod : Pod). succeeded pod ≡ true → is_in pod.uid (uids_of (filter succeeded wanted)) ≡ true in
      Each-weaker (λ pod. P pod × (Q pod × R pod)) (λ pod. is_listed current.status pod.uid ≡ true) (λ pod b. at pod b.0 b.1.0 b.1.1) wanted
      (Each-both P (λ pod. Q pod × R pod) wanted (Each-take P (room job own) (filter would_join own) (Each-passes would_join own))
      (Each-both Q R wanted (passes_in failed wanted) (passes_in succeeded wanted)))
    where
      success : (pod : Pod) → (mode : Mode) → job.spec.mode ≡ mode → joins_list mode (outcome_of job.spec pod) ≡ true → same_outcome (outcome_of job.spec pod) Succeeded ≡ true
          → (same_outcome (outcome_of job.spec pod) Succeeded ≡ true → is_in pod.uid (uids_of (filter (λ p. same_outcome (outcome_of job.spec p) Succeeded) wanted)) ≡ true)
          → is_listed current.status pod.uid ≡ true
      success pod NonIndexed at joins s r =
          new_succeeded pod.uid at (ap (λ ps. is_in pod.uid (uids_of ps)) (was_newly Succeeded (ap (λ m. joins_list m Succeeded) at)) ∙ r s)
      success pod Indexed at joins s r = absurd (true≢false (sym joins ∙ ap not s))

      at : (pod : Pod) → would_join pod ≡ true
          → (same_outcome (outcome_of job.spec pod) Failed ≡ true → is_in pod.uid (uids_of (filter (λ p. same_outcome (outcome_of job.spec p) Failed) wanted)) ≡ true)
          → (same_outcome (outcome_of job.spec pod) Succeeded ≡ true → is_in pod.uid (uids_of (filter (λ p. same_outcome (outcome_of job.spec p) Succeeded) wanted)) ≡ true)
          → is_listed current.status pod.uid ≡ true
      at pod w q r =
          let both = and_parts (is_candidate job pod) (takes_room job.spec pod) w in
          let parts = and_parts (is_tracked pod) (is_verdict (outcome_of job.spec pod) && not (is_listed job.status pod.uid)) both.0 in
          elim (or_cases (same_outcome (outcome_of job.spec pod) Succeeded) (same_outcome (outcome_of job.spec pod) Failed) (and_parts (is_verdict (outcome_of job.spec pod)) (not (is_listed job.status pod.uid)) parts.1).0) [
            | inl s ↦ success pod job.spec.mode refl both.1 s r
            | inr f ↦ new_failed pod.uid (ap (λ ps. is_in pod.uid (uids_of ps)) (was_newly Failed (failed_joins job.spec.mode)) ∙ q f)
          ]

  -- A pod that is tracked and listed now takes the place of one.
  listed_held : (pod : Pod) → is_tracked pod ≡ true → is_listed current.status pod.uid ≡ true → is_held job.spec ledger.records pod ≡ true
  listed_held pod tracked l =
      and_from (is_tracked pod) (has_joined job.spec.mode ledger.records pod.uid) tracked
      (listed_joined ledger.records current.version.0 current.status job.spec.mode listing (λ at. tidy.none (mode_of_current ∙ at)) pod.uid l)

  -- Where there was room for all of them, each is listed now, and none is still to be judged.
  none_if_all : length (filter would_join own) ≤ room job own → filter (takes_room job.spec) (fresh job ledger.records own) ≡ []
  none_if_all all =
      let test = is_fresh job.spec (has_record ledger.records) in
      let listed = λ (pod : Pod). would_join pod ≡ true → is_listed current.status pod.uid ≡ true in
      let each : Each listed own =
      Each-kept (λ pod. is_listed current.status pod.uid ≡ true) would_join own
      (subst (Each (λ pod. is_listed current.status pod.uid ≡ true)) (take_all (room job own) (filter would_join own) all) wanted_listed) in
      filter_filter (takes_room job.spec) test own
      ∙ filter_none (λ pod. test pod && takes_room job.spec pod) own
      (Each-weaker (λ pod. listed pod × IsAmong pod) (λ pod. (test pod && takes_room job.spec pod) ≡ false) (λ pod b. at pod b.0 b.1) own (Each-both listed IsAmong own each among))
    where
      at : (pod : Pod) → (would_join pod ≡ true → is_listed current.status pod.uid ≡ true) → IsAmong pod → (is_fresh job.spec (has_record ledger.records) pod && takes_room job.spec pod) ≡ false
      at pod l a =
          false_from_ne_true (is_fresh job.spec (has_record ledger.records) pod && takes_room job.spec pod)
          (λ b.
          let both = and_parts (is_fresh job.spec (has_record ledger.records) pod) (takes_room job.spec pod) b in
          not_listed_now pod both.0 (l (and_from (is_candidate job pod) (takes_room job.spec pod) (was_candidate pod a both.0) both.1)))

  -- Where there was not, the places that those take and that the others kept are all.
  full_if_not : room job own ≤ length (filter would_join own) → space job ledger.records own ≡ 0
  full_if_not more =
      let held = is_held job.spec ledger.records in
      let Q = λ (pod : Pod). is_tracked pod ≡ true → is_in pod.uid (uids_of (filter is_tracked own)) ≡ true in
      let taken = length-take-le (room job own) (filter would_join own) more in
      let few = parts_few (is_staying job) would_join held (room job own) own
      (Each-weaker IsAmong (λ pod. is_staying job pod ≡ true → held pod ≡ true) (λ pod a s. stays_held pod a s) own among)
      (each (λ pod. (is_staying job pod && would_join pod) ≡ false) (λ pod. apart (is_tracked pod) (is_listed job.status pod.uid) (is_verdict (outcome_of job.spec pod)) (takes_room job.spec pod)) own)
      (Each-weaker (λ pod. (would_join pod ≡ true) × (is_listed current.status pod.uid ≡ true)) (λ pod. held pod ≡ true)
      (λ pod b. listed_held pod (and_parts (is_tracked pod) (is_verdict (outcome_of job.spec pod) && not (is_listed job.status pod.uid)) (and_parts (is_candidate job pod) (takes_room job.spec pod) b.0).0).0 b.1) wanted
      (Each-both (λ pod. would_join pod ≡ true) (λ pod. is_listed current.status pod.uid ≡ true) wanted (Each-take (λ pod. would_join pod ≡ true) (room job own) (filter would_join own) (Each-passes would_join own)) wanted_listed)) in
      omega (arith, taken, few)
    where
      stays_held : (pod : Pod) → IsAmong pod → is_staying job pod ≡ true → is_held job.spec ledger.records pod ≡ true
      stays_held pod a s =
          let both = and_parts (is_tracked pod) (is_listed job.status pod.uid) s in
          listed_held pod both.0 (stays_listed pod.uid both.1 (sym (among_passing pod.uid is_tracked own) ∙ a.0 both.0))

      apart : (t l v r : Bool) → ((t && l) && ((t && (v && not l)) && r)) ≡ false
      apart true true true r = refl
      apart true true false r = refl
      apart true false v r = refl
      apart false l v r = refl

  -- The pods that the write judges.
  abbrev judges : List Pod
  judges = chosen job ledger.records own

  fresh_rises : RisesFrom 0 (fresh job ledger.records own)
  fresh_rises = rises_filter 0 (is_fresh job.spec (has_record ledger.records)) own (rises_filter 0 (is_own job) pods h.rises)

  -- None of them would join a list.
  no_room : take (space job ledger.records own) (filter (takes_room job.spec) (fresh job ledger.records own)) ≡ []
  no_room = by (leb (length (filter would_join own)) (room job own)) refl
    where
      none : (n : ℕ) → take {A = Pod} n [] ≡ []
      none zero = refl
      none (suc n) = refl

      by : (b : Bool) → leb (length (filter would_join own)) (room job own) ≡ b → take (space job ledger.records own) (filter (takes_room job.spec) (fresh job ledger.records own)) ≡ []
      by true e =
          ap (take (space job ledger.records own)) (none_if_all (leb-true (length (filter would_join own)) (room job own) e)) ∙ none (space job ledger.records own)
      by false e =
          let more = leb-false (length (filter would_join own)) (room job own) e in
          ap (λ n. take n (filter (takes_room job.spec) (fresh job ledger.records own))) (full_if_not (omega (arith, more)))

  none_joins : Each (λ pod. takes_room job.spec pod ≡ false) judges
  none_joins =
      Each-none (takes_room job.spec) judges (joining-first job.spec (space job ledger.records own) (fresh job ledger.records own) 0 fresh_rises ∙ no_room)

  -- None has an outcome that does.
  none_with : (outcome : Outcome) → joins_list job.spec.mode outcome ≡ true → filter (λ pod. same_outcome (outcome_of job.spec pod) outcome) judges ≡ []
  none_with outcome joins =
      judged-joining job.spec (space job ledger.records own) (fresh job ledger.records own) 0 outcome fresh_rises joins
      ∙ ap (filter (λ pod. same_outcome (outcome_of job.spec pod) outcome)) no_room

  abbrev IsJudgedNow : Pod → Type 0
  IsJudgedNow pod = StoodOwn made log seen_at pod × IsAmong pod × (is_fresh job.spec (has_record ledger.records) pod ≡ true) × (takes_room job.spec pod ≡ false)

  each_judged : Each IsJudgedNow judges
  each_judged =
      let both = λ (pod : Pod). StoodOwn made log seen_at pod × IsAmong pod in
      let test = is_fresh job.spec (has_record ledger.records) in
      let unjudged = fresh job ledger.records own in
      let Q = λ (pod : Pod). both pod × (test pod ≡ true) in
      Each-weaker (λ pod. Q pod × (takes_room job.spec pod ≡ false)) IsJudgedNow (λ pod b. (b.0.0.0, b.0.0.1, b.0.1, b.1)) judges
      (Each-both Q (λ pod. takes_room job.spec pod ≡ false) judges
      (Each-filter Q (has_room job.spec (space job ledger.records own) unjudged) unjudged
      (Each-both both (λ pod. test pod ≡ true) unjudged (Each-filter both test own (Each-both (StoodOwn made log seen_at) IsAmong own h.own among)) (Each-passes test own)))
      none_joins)

  each_chosen : Each (IsChosen made log ledger.records seen_at) judges
  each_chosen = Each-weaker IsJudgedNow (IsChosen made log ledger.records seen_at) is judges each_judged
    where
      is : (pod : Pod) → IsJudgedNow pod → IsChosen made log ledger.records seen_at pod
      is pod j = record {
        stood = j.0.0;
        tracked = fresh_tracked pod j.2;
        owner = j.0.1;
        verdict = ap is_verdict (sym (outcome-step made job pod h.job_step)) ∙ fresh_verdict pod j.2;
        fresh = fresh_new pod j.2;
      }

  -- None of them has failed,
  no_failed : filter (λ pod. same_outcome (outcome_of job.spec pod) Failed) judges ≡ []
  no_failed = none_with Failed (failed_joins job.spec.mode)

  -- and none has succeeded where the Job is not Indexed.
  no_succeeded : job.spec.mode ≡ NonIndexed → filter (λ pod. same_outcome (outcome_of job.spec pod) Succeeded) judges ≡ []
  no_succeeded at = none_with Succeeded (ap (λ m. joins_list m Succeeded) at)

  -- ---- the set of indexes stays

  -- The set of an Indexed Job is what was counted in.
  done_is : job.spec.mode ≡ Indexed → ledger.done ≡ join (kept job job.status.completed) (within job.spec (indexes_of (newly job own Succeeded)))
  done_is at = sym (now.completed (mode_of_current ∙ at)) ∙ h.counted.completed ∙ completed-in job pods at

  -- All of it stays.
  done_kept : job.spec.mode ≡ Indexed → kept job ledger.done ≡ ledger.done
  done_kept at = by (has_end job.status.conditions) refl
    where
      below : has_end job.status.conditions ≡ false → Each (λ n. is_within job.spec n ≡ true) ledger.done
      below e =
          let P = λ (n : ℕ). is_within job.spec n ≡ true in
          let old = job.status.completed in
          let new = indexes_of (newly job own Succeeded) in
          subst (Each P) (sym (done_is at))
          (each_join P (kept job old) (within job.spec new) (subst (Each P) (sym (ap (λ b. cond b old (within job.spec old)) e)) (Each-passes (is_within job.spec) old)) (Each-passes (is_within job.spec) new))

      by : (b : Bool) → has_end job.status.conditions ≡ b → kept job ledger.done ≡ ledger.done
      by true e = ap (λ b. cond b ledger.done (within job.spec ledger.done)) e
      by false e =
          ap (λ b. cond b ledger.done (within job.spec ledger.done)) e ∙ filter_all (is_within job.spec) ledger.done (below e)

  -- Of an Indexed Job what is listed now was judged Failed.
  listed_failed : job.spec.mode ≡ Indexed → (u : Uid) → is_listed current.status u ≡ true → was_judged_failed ledger.records u ≡ true
  listed_failed at u l =
      elim (or_cases (is_in u current.status.uncounted_succeeded) (is_in u current.status.uncounted_failed) l) [
        | inl s ↦ absurd (true≢false (sym s ∙ ap (is_in u) (tidy.none (mode_of_current ∙ at))))
        | inr f ↦
            let j = listing.failed u f in
            ap (λ (o : Option Record). option_map_or (λ (r : Record). same_outcome r.outcome Failed) o false) j.is_found ∙ ap (λ o. same_outcome o Failed) j.as_such
      ]

  -- So a success is one that was new when the sync began,
  success_new : job.spec.mode ≡ Indexed → (pod : Pod) → IsAmong pod → is_success job ledger.records pod ≡ true → is_new job Succeeded pod ≡ true
  success_new at pod a s =
      let parts = and_parts (has_come_to job Succeeded pod) (not (was_judged_failed ledger.records pod.uid)) s in
      let tracked = (and_parts (is_tracked pod) (same_outcome (outcome_of job.spec pod) Succeeded) parts.0).0 in
      let listed : is_listed job.status pod.uid ≡ true → ⊥ =
      λ l.
      true≢false
      (sym (listed_failed at pod.uid (stays_listed pod.uid l (sym (among_passing pod.uid is_tracked own) ∙ a.0 tracked)))
      ∙ not-true (was_judged_failed ledger.records pod.uid) parts.1) in
      and_from (has_come_to job Succeeded pod) (not (is_listed job.status pod.uid)) parts.0
      (not_from_false (is_listed job.status pod.uid) (false_from_ne_true (is_listed job.status pod.uid) listed))

  -- and its index, if it is below the number of completions, is in the set.
  index_done : job.spec.mode ≡ Indexed → (n : ℕ) → has n (indexes_of (newly job own Succeeded)) ≡ true → is_within job.spec n ≡ true → has n ledger.done ≡ true
  index_done at n i below =
      ap (has n) (done_is at)
      ∙ has-join n (kept job job.status.completed) (within job.spec (indexes_of (newly job own Succeeded)))
      ∙ or_right (has n (kept job job.status.completed)) (has n (within job.spec (indexes_of (newly job own Succeeded))))
      (has-within n (unwrap_or job.spec.completions 0) (indexes_of (newly job own Succeeded)) ∙ and_from (is_within job.spec n) (has n (indexes_of (newly job own Succeeded))) below i)

  -- The set stays.
  done_stays : job.spec.mode ≡ Indexed → (entered job own seen_at (suc (length log)) ledger).done ≡ ledger.done
  done_stays at =
      let test = is_success job ledger.records in
      let some = successes job ledger.records own in
      let P = λ (n : ℕ). is_within job.spec n ≡ true → has n ledger.done ≡ true in
      let Q = λ (n : ℕ). is_within job.spec n ≡ true in
      let each : Each P (indexes_of some) =
      indexes-each P some
      (Each-weaker (λ pod. IsAmong pod × (test pod ≡ true)) (λ pod. IfSome pod.index P)
      (λ pod b. IfSome_then pod.index (b.0.1 at (success_new at pod b.0 b.1)) (λ n i. index_done at n i)) some
      (Each-both IsAmong (λ pod. test pod ≡ true) some (Each-filter IsAmong test own among) (Each-passes test own))) in
      let more = within job.spec (indexes_of some) in
      ap (λ xs. join xs more) (done_kept at)
      ∙ join-known ledger.done more h.rising
      (Each-weaker (λ n. P n × Q n) (λ n. has n ledger.done ≡ true) (λ n b. b.0 b.1) more (Each-both P Q more (Each-filter P (is_within job.spec) (indexes_of some) each) (Each-passes (is_within job.spec) (indexes_of some))))

  -- ---- failures by index

  -- The failures stay.
  fails_stay : fails_of job.spec.failure (entered job own seen_at (suc (length log)) ledger).records ≡ fails_of job.spec.failure ledger.records
  fails_stay =
      ap (raised job.spec.failure [])
      (failed_pods-more ledger.records job seen_at (suc (length log)) judges ∙ ap (λ ps. failed_pods ledger.records ++ ps) no_failed ∙ append-nil (failed_pods ledger.records))

  says_new : SaysFails new.spec.per_index new (entered job own seen_at (suc (length log)) ledger)
  says_new =
      subst (λ (o : Option ℕ). SaysFails o new after) (sym (h.new_step.per_index ∙ sym h.job_step.per_index))
      (by job.spec.per_index refl (subst (λ (o : Option ℕ). SaysFails o current ledger) (h.current_step.per_index ∙ sym h.job_step.per_index) now.by_index))
    where
      after : Ledger
      after = entered job own seen_at (suc (length log)) ledger

      by : (o : Option ℕ) → job.spec.per_index ≡ o → SaysFails o current ledger → SaysFails o new after
      by None e was = (h.counts.index_failures ∙ was.0, h.counts.failed_indexes ∙ was.1)
      by (Some limit) e was =
          let uids = (counted_in job pods).judged_failed in
          let fails = fails_of job.spec.failure ledger.records in
          let indexed : job.spec.mode ≡ Indexed = h.job_step.mode ∙ h.ties.limited (subst IsSome (sym (sym h.job_step.per_index ∙ e)) refl) in
          let policy : current.spec.failure ≡ job.spec.failure = h.current_step.failure ∙ sym h.job_step.failure in
          let said : current.status.index_failures ≡ fails = was.0 ∙ ap (λ failure. fails_of failure ledger.records) policy in
          let raised_then : raised job.spec.failure job.status.index_failures (newly_failed own uids) ≡ fails =
          sym (ap (λ o. failures_by o job (newly_failed own uids)) e) ∙ sym (failures-in job own uids) ∙ sym h.counted.index_failures ∙ said in
          let done : (counted_in job pods).completed ≡ ledger.done = sym h.counted.completed ∙ now.completed (mode_of_current ∙ indexed) in
          let set : List ℕ = map (λ (count : IndexCount). count.index) (filter (fails_index limit (unwrap_or job.spec.completions 0) ledger.done) fails) in
          let failed_is : ledger.failed ≡ cond (has_end job.status.conditions) job.status.failed_indexes set =
          sym was.1 ∙ h.counted.failed_indexes ∙ failing-in job (counted_in job pods).completed own uids
          ∙ ap (λ o. failing_by o job (counted_in job pods).completed (newly_failed own uids)) e
          ∙ ap (λ counts. failed_set job limit (counted_in job pods).completed counts) raised_then
          ∙ ap (λ d. failed_set job limit d fails) done in (
            h.counts.index_failures ∙ was.0 ∙ ap (λ failure. fails_of failure ledger.records) policy ∙ sym fails_stay
                ∙ ap (λ failure. fails_of failure after.records) (h.job_step.failure ∙ sym h.new_step.failure),
            h.counts.failed_indexes ∙ was.1
                ∙ either (has_end job.status.conditions) job.status.failed_indexes set failed_is
                ∙ ap (λ d. cond (has_end job.status.conditions) ledger.failed (map (λ (count : IndexCount). count.index) (filter (fails_index limit (unwrap_or job.spec.completions 0) d) fails))) (sym (done_stays indexed))
                ∙ ap (λ counts. cond (has_end job.status.conditions) ledger.failed (map (λ (count : IndexCount). count.index) (filter (fails_index limit (unwrap_or job.spec.completions 0) after.done) counts))) (sym fails_stay)
                ∙ ap (λ o. failed_after o job after.done (fails_of job.spec.failure after.records) ledger.failed) (sym e),
          )
        where
          either : (b : Bool) (old set : List ℕ) → ledger.failed ≡ cond b old set → ledger.failed ≡ cond b ledger.failed set
          either true old set h = refl
          either false old set h = h

  -- ---- the entry

  -- A judged pod that is no longer listed has lost its finalizer.
  lost_now : (u : Uid) (r : Record) → Found IsJudgedNow u ledger.records job seen_at (suc (length log)) r → joins_list new.spec.mode r.outcome ≡ true → is_lost (life u log) ≡ true
  lost_now u r (Old e) l = by (is_listed current.status u) refl
    where
      by : (b : Bool) → is_listed current.status u ≡ b → is_lost (life u log) ≡ true
      by true t = listed_lost u t
      by false t =
          lost_on u current.version.0 log (Stored-from_legal log h.legal.1)
          (now.lost u r e (ap (λ m. joins_list m r.outcome) (mode_of_current ∙ sym mode_of_new) ∙ l) t)
  lost_now u r (New none pod uid j is) l =
      absurd (true≢false (sym (ap (λ m. joins_list m (outcome_of job.spec pod)) (sym mode_of_new) ∙ ap (λ (x : Record). joins_list new.spec.mode x.outcome) (sym is) ∙ l) ∙ j.3))

  -- The new status has ordered lists.
  tidy_new : HasOrderedLists new
  tidy_new = record {
    failed = subst Ascends (sym none_failed) tt;
    succeeded = subst Ascends (sym none_succeeded) tt;
    apart = λ u. ap (λ us. is_in u us && is_in u new.status.uncounted_failed) none_succeeded;
    few = omega (arith, ap length none_succeeded, ap length none_failed);
    none = λ at. none_succeeded;
    size = λ at.
        (let was = tidy.size (mode_of_current ∙ sym mode_of_new ∙ at) in
        let none = tidy.none (mode_of_current ∙ sym mode_of_new ∙ at) in
        let set : new.status.completed ≡ current.status.completed = h.counts.completed in
        omega (arith, succeeded_stays, was, ap length none, ap length none_succeeded, ap length set));
    plain = λ at. h.counts.completed ∙ tidy.plain (mode_of_current ∙ sym mode_of_new ∙ at);
    counts = says-counts new.spec.per_index new (entered job own seen_at (suc (length log)) ledger) says_new;
  }

  -- The entry keeps what ties the ledger.
  pub second-puts : Puts made log ledger (entered job own seen_at (suc (length log)) ledger) job own seen_at current new
  second-puts =
      let at = suc (length log) in
      record {
        legal = h.legal;
        is_made = h.is_made;
        ties = h.ties;
        there = h.there;
        uid = h.current_step.uid;
        key = h.new_step.key;
        seen = h.within;
        step = h.job_step;
        records = refl;
        each = each_chosen;
        tidy = tidy_new;
        listed = record {
          failed = λ u i. absurd (true≢false (sym i ∙ ap (is_in u) none_failed));
          succeeded = λ u i. absurd (true≢false (sym i ∙ ap (is_in u) none_succeeded));
        };
        lost = λ u r f l unlisted. lost_now u r (record_of-found IsJudgedNow u ledger.records job seen_at at judges r each_judged f) l;
        failed =
            (let more = judged_as-more Failed ledger.records job seen_at at judges in
            omega (arith, failed_stays, now.failed, more, ap length no_failed));
        succeeded = λ plain.
            (let more = judged_as-more Succeeded ledger.records job seen_at at judges in
            let was = now.succeeded (mode_of_current ∙ sym mode_of_new ∙ plain) in
            omega (arith, succeeded_stays, was, more, ap length (no_succeeded (sym mode_of_new ∙ plain))));
        completed = λ indexed.
            h.counts.completed ∙ now.completed (mode_of_current ∙ sym mode_of_new ∙ indexed) ∙ sym (done_stays (sym mode_of_new ∙ indexed));
        by_index = says_new;
      }
