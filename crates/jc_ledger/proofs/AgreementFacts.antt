-- Where the Job is as the sync saw it, the tracked pods that are judged are those that it lists, and a write
-- judges just the pods that are newly judged by what the sync counts in.
use Rattle.std.proofs.Common.{◌≡◌, ℕ, ◌≤◌, Bool, true, false, not, ◌&&◌, List, [], filter, length, take, ◌-◌, Option, Some, None, refl, sym, ap, ◌∙◌, subst, arith, true≢false, inl, inr}
use Rattle.std.specs.Prelude.{is_some}
use Rattle.std.specs.Option.{option_map_or}
use Rattle.std.proofs.Math.Bool.{and-false}
use Rattle.std.proofs.lemmas.Bool.{or_cases}
use Rattle.jc_types.specs.declared.limits.TheConstants.{MOST_UNCOUNTED}
use Rattle.jc_types.specs.declared.numbers.Uid.{Uid}
use Rattle.jc_types.specs.declared.objects.Entry.{Entry}
use Rattle.jc_types.specs.declared.objects.Job.{Job}
use Rattle.jc_types.specs.declared.objects.Pod.{Pod}
use Rattle.jc_types.specs.declared.specifications.Mode.{Mode}
use Rattle.jc_types.specs.declared.specifications.Mode.TheVariants.{NonIndexed, Indexed}
use Rattle.jc_types.specs.declared.statuses.JobStatus.{JobStatus}
use Rattle.jc_types.specs.Keys.{same_uid}
use Rattle.jc_log.specs.Log.{Live, upto, job_in, life, is_lost, pods_in, pods_of}
use Rattle.jc_states.specs.Bases.{is_own, own_pods}
use Rattle.jc_states.specs.PodLists.{RisesFrom}
use Rattle.jc_states.specs.UidLists.{is_in}
use Rattle.jc_states.specs.ObjectChanges.{JobStep}
use Rattle.jc_log.specs.Writes.{Stored}
use Rattle.jc_types.proofs.KeyFacts.{same_uid-eq, same_uid-itself}
use Rattle.jc_types.proofs.ListFacts.{Each-weaker, filter_all, filter_filter, filter_same, find_passes}
use Rattle.jc_log.proofs.PlaceFacts.{job_in-entry}
use Rattle.jc_log.proofs.PodFacts.{pods_in-rises, pods_of-live}
use Rattle.jc_log.proofs.WriteFacts.{kept_to, Kept, lost_stays}
use Rattle.jc_failpol.specs.declared.outcomes.Outcome.{Outcome}
use Rattle.jc_failpol.specs.declared.outcomes.Outcome.TheVariants.{Alive, Succeeded, Failed, Ignored}
use Rattle.jc_failpol.specs.Outcomes.{is_verdict, outcome_of, same_outcome}
use Rattle.jc_failpol.proofs.Settled.{success_stays}
use Rattle.jc_states.proofs.PodListFacts.{rises_filter}
use Rattle.jc_states.specs.Listed.{is_listed}
use Rattle.jc_account.specs.Judged.{candidates, has_come_to, is_candidate, is_fresh, is_new, is_staying, newly, room}
use Rattle.jc_ledger.specs.Ledger.{Record, record_of, was_judged_failed, has_record, is_held, is_success, space, fresh, chosen, successes, Ledger}
use Rattle.jc_account.specs.Rooms.{joins_list, takes_room}
use Rattle.jc_ledger.specs.Tied.{HasOrderedLists, IsListing, IsCurrent, TiesJob}
use Rattle.jc_ledger.proofs.MadeFacts.{outcome-step}
use Rattle.jc_ledger.proofs.OwnFacts.{own-live}
use Rattle.jc_ledger.proofs.RoomFacts.{judged-joining, newly-free}

-- The Job is as the sync saw it, and the pods that the sync saw are not older than it.
pub record Agreeing (made : Job) (log : List Entry) (ledger : Ledger) (job : Job) (y : ℕ) : Type 0 where
  pub stored : Stored log
  pub ties : TiesJob made log ledger
  pub there : job_in made.key log ≡ Some job
  pub uid : job.uid ≡ made.uid
  pub step : JobStep made job
  pub reached : job.version.0 ≤ y

module _ (made : Job) (log : List Entry) (ledger : Ledger) (job : Job) (y : ℕ) (a : Agreeing made log ledger job y) where
  -- What is known of the Job.
  pub now_of : IsCurrent log ledger job
  now_of = a.ties.now job a.there a.uid

  pub tidy_of : HasOrderedLists job
  tidy_of = a.ties.tidy job.version.0 job (job_in-entry made.key log job a.stored a.there) a.uid

  pub listing_of : IsListing ledger.records job.version.0 job.status
  listing_of = a.ties.listed job.version.0 job (job_in-entry made.key log job a.stored a.there) a.uid

  -- What is listed has a record.
  pub listed_has : (u : Uid) → is_listed job.status u ≡ true → is_some (record_of u ledger.records) ≡ true
  listed_has u h =
      elim (or_cases (is_in u job.status.uncounted_succeeded) (is_in u job.status.uncounted_failed) h) [
        | inl s ↦ ap is_some (listing_of.succeeded u s).is_found
        | inr f ↦ ap is_some (listing_of.failed u f).is_found
      ]

  -- A record was seen before the sync saw the pods.
  pub seen_before : (u : Uid) (r : Record) → record_of u ledger.records ≡ Some r → r.seen ≤ y
  seen_before u r h = omega (arith, (a.ties.sound u r h).before, now_of.seen u r h, a.reached)

  -- The pod of a record, under its UID.
  pub stood_of : (u : Uid) (r : Record) → record_of u ledger.records ≡ Some r → life u (upto r.seen log) ≡ Live r.pod
  stood_of u r h =
      let is = same_uid-eq r.pod.uid u (find_passes (λ (s : Record). same_uid s.pod.uid u) ledger.records r h) in
      ap (λ v. life v (upto r.seen log)) (sym is) ∙ (a.ties.sound u r h).stood

  -- A pod that was judged Succeeded has succeeded where the sync sees it.
  pub success_kept : (u : Uid) (r : Record) (pod : Pod) → record_of u ledger.records ≡ Some r → r.outcome ≡ Succeeded → life u (upto y log) ≡ Live pod → outcome_of job.spec pod ≡ Succeeded
  success_kept u r pod h o live =
      let kept = kept_to (λ p. outcome_of made.spec p ≡ Succeeded) (λ old new step q. success_stays made.spec.replacement made.spec.failure old new step q) u r.seen y log a.stored
      (seen_before u r h) r.pod (stood_of u r h) ((a.ties.sound u r h).judged ∙ o) in
      outcome-step made job pod a.step ∙ subst (Kept (λ p. outcome_of made.spec p ≡ Succeeded)) live kept

  -- A judged pod that is not listed had lost its finalizer where the sync sees it.
  pub lost_by : (u : Uid) (r : Record) → record_of u ledger.records ≡ Some r → joins_list job.spec.mode r.outcome ≡ true → is_listed job.status u ≡ false → is_lost (life u (upto y log)) ≡ true
  lost_by u r h l out = lost_stays u job.version.0 y log a.stored a.reached (now_of.lost u r h l out)

-- ---- agreement

-- What was judged and joined no list is a success of an Indexed Job.
pub unlistable : (mode : Mode) (o : Outcome) → is_verdict o ≡ true → joins_list mode o ≡ false → (mode ≡ Indexed) × (o ≡ Succeeded)
unlistable NonIndexed o v h = absurd (true≢false h)
unlistable Indexed Alive v h = absurd (true≢false h)
unlistable Indexed Succeeded v h = (refl, refl)
unlistable Indexed Failed v h = absurd (true≢false h)
unlistable Indexed Ignored v h = absurd (true≢false h)

-- A failure joins a list.
pub failed_joins : (mode : Mode) → joins_list mode Failed ≡ true
failed_joins NonIndexed = refl
failed_joins Indexed = refl

-- The record of a UID had it join a list.
abbrev pub has_joined : Mode → List Record → Uid → Bool
has_joined mode records u = option_map_or (λ (r : Record). joins_list mode r.outcome) (record_of u records) false

-- So has that of a listed UID.
pub listed_joined : (records : List Record) (v : ℕ) (status : JobStatus) (mode : Mode) → IsListing records v status → (mode ≡ Indexed → status.uncounted_succeeded ≡ [])
    → (u : Uid) → is_listed status u ≡ true → has_joined mode records u ≡ true
listed_joined records v status mode listing none u h =
    elim (or_cases (is_in u status.uncounted_succeeded) (is_in u status.uncounted_failed) h) [
      | inl s ↦ success mode none s
      | inr f ↦ let j = listing.failed u f in from mode j.found j.is_found ∙ ap (joins_list mode) j.as_such ∙ failed_joins mode
    ]
  where
    from : (mode : Mode) (r : Record) → record_of u records ≡ Some r → has_joined mode records u ≡ joins_list mode r.outcome
    from mode r e = ap (λ (o : Option Record). option_map_or (λ (x : Record). joins_list mode x.outcome) o false) e

    success : (mode : Mode) → (mode ≡ Indexed → status.uncounted_succeeded ≡ []) → is_in u status.uncounted_succeeded ≡ true → has_joined mode records u ≡ true
    success NonIndexed none s = let j = listing.succeeded u s in from NonIndexed j.found j.is_found
    success Indexed none s = absurd (true≢false (sym s ∙ ap (is_in u) (none refl)))

-- A tracked pod has a record just where it is listed, but for a success of an Indexed Job that was judged.
pub data Agrees (ledger : Ledger) (job : Job) (u : Uid) : Type 0 where
  Listed : is_some (record_of u ledger.records) ≡ is_listed job.status u → Agrees ledger job u
  Old : (r : Record) → record_of u ledger.records ≡ Some r → r.outcome ≡ Succeeded → job.spec.mode ≡ Indexed → Agrees ledger job u

-- For a tracked pod that the sync saw, listed and judged are one.
pub agree : (made : Job) (log : List Entry) (ledger : Ledger) (job : Job) (y : ℕ) → Agreeing made log ledger job y → (u : Uid) (pod : Pod) → life u (upto y log) ≡ Live pod → pod.tracked ≡ true → Agrees ledger job u
agree made log ledger job y a u pod live tracked = by (is_listed job.status u) refl (record_of u ledger.records) refl
  where
    found : (r : Record) → record_of u ledger.records ≡ Some r → is_listed job.status u ≡ false → (b : Bool) → joins_list job.spec.mode r.outcome ≡ b → Agrees ledger job u
    found r h out true l =
        absurd (true≢false (sym (lost_by made log ledger job y a u r h l out) ∙ ap is_lost live ∙ ap not tracked))
    found r h out false l = let is = unlistable job.spec.mode r.outcome (a.ties.sound u r h).verdict l in Old r h is.1 is.0

    by : (b : Bool) → is_listed job.status u ≡ b → (o : Option Record) → record_of u ledger.records ≡ o → Agrees ledger job u
    by true l o h = Listed (listed_has made log ledger job y a u l ∙ sym l)
    by false l None h = Listed (ap is_some h ∙ sym l)
    by false l (Some r) h = found r h l (joins_list job.spec.mode r.outcome) refl

-- ---- the same pods are picked

-- What was judged was judged Failed or Succeeded.
other_verdict : (o : Outcome) → is_verdict o ≡ true → same_outcome o Failed ≡ not (same_outcome o Succeeded)
other_verdict Alive v = absurd (true≢false (sym v))
other_verdict Succeeded v = refl
other_verdict Failed v = refl
other_verdict Ignored v = absurd (true≢false (sym v))

module _ (made : Job) (log : List Entry) (ledger : Ledger) (job : Job) (y : ℕ) (a : Agreeing made log ledger job y) where
  abbrev own : List Pod
  own = pods_of made.uid (upto y log)

  -- The pods rise.
  own_rises : RisesFrom 0 own
  own_rises = rises_filter 0 (λ pod. same_uid pod.owner_uid made.uid) (pods_in (upto y log)) (pods_in-rises (upto y log))

  fresh_rises : RisesFrom 0 (fresh job ledger.records own)
  fresh_rises = rises_filter 0 (is_fresh job.spec (has_record ledger.records)) own own_rises

  -- They are the Job's.
  own_own : own_pods job own ≡ own
  own_own =
      filter_all (is_own job) own
      (Each-weaker (λ pod. (life pod.uid (upto y log) ≡ Live pod) × (pod.owner_uid ≡ made.uid)) (λ pod. is_own job pod ≡ true)
      (λ pod q. ap (λ u. same_uid u job.uid) (q.1 ∙ sym a.uid) ∙ same_uid-itself job.uid) own (own-live made.uid (upto y log)))

  -- ---- there is as much room

  -- A UID that has joined a list is listed as long as its pod is tracked.
  joined_listed : (pod : Pod) → life pod.uid (upto y log) ≡ Live pod → pod.tracked ≡ true → has_joined job.spec.mode ledger.records pod.uid ≡ is_listed job.status pod.uid
  joined_listed pod live tracked = by (is_listed job.status pod.uid) refl (record_of pod.uid ledger.records) refl
    where
      lost : (r : Record) → record_of pod.uid ledger.records ≡ Some r → is_listed job.status pod.uid ≡ false → (b : Bool) → joins_list job.spec.mode r.outcome ≡ b → b ≡ false
      lost r h out true l =
          absurd (true≢false (sym (lost_by made log ledger job y a pod.uid r h l out) ∙ ap is_lost live ∙ ap not tracked))
      lost r h out false l = refl

      by : (b : Bool) → is_listed job.status pod.uid ≡ b → (o : Option Record) → record_of pod.uid ledger.records ≡ o → has_joined job.spec.mode ledger.records pod.uid ≡ is_listed job.status pod.uid
      by true l o h =
          listed_joined ledger.records job.version.0 job.status job.spec.mode (listing_of made log ledger job y a) (tidy_of made log ledger job y a).none pod.uid l ∙ sym l
      by false l None h = ap (λ (o : Option Record). option_map_or (λ (r : Record). joins_list job.spec.mode r.outcome) o false) h ∙ sym l
      by false l (Some r) h =
          ap (λ (o : Option Record). option_map_or (λ (x : Record). joins_list job.spec.mode x.outcome) o false) h
          ∙ lost r h l (joins_list job.spec.mode r.outcome) refl ∙ sym l

  held_staying : (pod : Pod) → life pod.uid (upto y log) ≡ Live pod → (t : Bool) → pod.tracked ≡ t → is_held job.spec ledger.records pod ≡ is_staying job pod
  held_staying pod live true t = ap (λ b. pod.tracked && b) (joined_listed pod live t)
  held_staying pod live false t = ap (λ b. b && has_joined job.spec.mode ledger.records pod.uid) t ∙ sym (ap (λ b. b && is_listed job.status pod.uid) t)

  -- So as many UIDs may join the lists by the ledger as by the status.
  same_space : space job ledger.records own ≡ room job own
  same_space =
      ap (λ (pods : List Pod). MOST_UNCOUNTED - length pods)
      (filter_same (is_held job.spec ledger.records) (is_staying job) own
      (Each-weaker (λ pod. life pod.uid (upto y log) ≡ Live pod) (λ pod. is_held job.spec ledger.records pod ≡ is_staying job pod) (λ pod live. held_staying pod live pod.tracked refl) own (pods_of-live made.uid (upto y log))))

  -- ---- the same pods are still to be judged

  -- The pods that are still to be judged and join a list are the same.
  same_joining : filter (takes_room job.spec) (fresh job ledger.records own) ≡ filter (takes_room job.spec) (candidates job own)
  same_joining =
      filter_filter (takes_room job.spec) (is_fresh job.spec (has_record ledger.records)) own
      ∙ filter_same (λ pod. is_fresh job.spec (has_record ledger.records) pod && takes_room job.spec pod) (λ pod. is_candidate job pod && takes_room job.spec pod) own
      (Each-weaker (λ pod. life pod.uid (upto y log) ≡ Live pod) (λ pod. (is_fresh job.spec (has_record ledger.records) pod && takes_room job.spec pod) ≡ (is_candidate job pod && takes_room job.spec pod))
      (λ pod live. at pod live pod.tracked refl) own (pods_of-live made.uid (upto y log)))
      ∙ sym (filter_filter (takes_room job.spec) (is_candidate job) own)
    where
      same : (pod : Pod) → is_some (record_of pod.uid ledger.records) ≡ is_listed job.status pod.uid
          → (is_fresh job.spec (has_record ledger.records) pod && takes_room job.spec pod) ≡ (is_candidate job pod && takes_room job.spec pod)
      same pod e = ap (λ b. (pod.tracked && (is_verdict (outcome_of job.spec pod) && not b)) && takes_room job.spec pod) e

      neither : (pod : Pod) → takes_room job.spec pod ≡ false → (is_fresh job.spec (has_record ledger.records) pod && takes_room job.spec pod) ≡ (is_candidate job pod && takes_room job.spec pod)
      neither pod e =
          ap (λ b. is_fresh job.spec (has_record ledger.records) pod && b) e ∙ and-false (is_fresh job.spec (has_record ledger.records) pod)
          ∙ sym (ap (λ b. is_candidate job pod && b) e ∙ and-false (is_candidate job pod))

      by : (pod : Pod) → life pod.uid (upto y log) ≡ Live pod → Agrees ledger job pod.uid
          → (is_fresh job.spec (has_record ledger.records) pod && takes_room job.spec pod) ≡ (is_candidate job pod && takes_room job.spec pod)
      by pod live (Listed e) = same pod e
      by pod live (Old r h o mode) =
          neither pod (ap (λ m. joins_list m (outcome_of job.spec pod)) mode ∙ ap (joins_list Indexed) (success_kept made log ledger job y a pod.uid r pod h o live))

      at : (pod : Pod) → life pod.uid (upto y log) ≡ Live pod → (t : Bool) → pod.tracked ≡ t
          → (is_fresh job.spec (has_record ledger.records) pod && takes_room job.spec pod) ≡ (is_candidate job pod && takes_room job.spec pod)
      at pod live true t = by pod live (agree made log ledger job y a pod.uid pod live t)
      at pod live false t =
          ap (λ b. (b && (is_verdict (outcome_of job.spec pod) && not (is_some (record_of pod.uid ledger.records)))) && takes_room job.spec pod) t
          ∙ sym (ap (λ b. (b && (is_verdict (outcome_of job.spec pod) && not (is_listed job.status pod.uid))) && takes_room job.spec pod) t)

  -- Those among the chosen pods with an outcome that joins a list are the new ones.
  same_chosen : (outcome : Outcome) → joins_list job.spec.mode outcome ≡ true → filter (λ pod. same_outcome (outcome_of job.spec pod) outcome) (chosen job ledger.records own) ≡ newly job own outcome
  same_chosen outcome joins =
      let same = λ (pod : Pod). same_outcome (outcome_of job.spec pod) outcome in
      judged-joining job.spec (space job ledger.records own) (fresh job ledger.records own) 0 outcome fresh_rises joins
      ∙ ap (λ n. filter same (take n (filter (takes_room job.spec) (fresh job ledger.records own)))) same_space
      ∙ ap (λ pods. filter same (take (room job own) pods)) same_joining
      ∙ sym (judged-joining job.spec (room job own) (candidates job own) 0 outcome (rises_filter 0 (is_candidate job) own own_rises) joins)

  -- The failures among the chosen pods are the new ones.
  pub failed-chosen : filter (λ pod. same_outcome (outcome_of job.spec pod) Failed) (chosen job ledger.records (pods_of made.uid (upto y log))) ≡ newly job (pods_of made.uid (upto y log)) Failed
  failed-chosen = same_chosen Failed (failed_joins job.spec.mode)

  -- The successes among them are the new ones, where the Job is not Indexed.
  pub succeeded-chosen : job.spec.mode ≡ NonIndexed
      → filter (λ pod. same_outcome (outcome_of job.spec pod) Succeeded) (chosen job ledger.records (pods_of made.uid (upto y log))) ≡ newly job (pods_of made.uid (upto y log)) Succeeded
  succeeded-chosen plain = same_chosen Succeeded (ap (λ m. joins_list m Succeeded) plain)

  -- ---- the same indexes are done

  -- Of an Indexed Job what was judged Failed is listed as long as its pod is tracked.
  failed_listed : job.spec.mode ≡ Indexed → (pod : Pod) → life pod.uid (upto y log) ≡ Live pod → pod.tracked ≡ true → was_judged_failed ledger.records pod.uid ≡ is_listed job.status pod.uid
  failed_listed indexed pod live tracked =
      by (record_of pod.uid ledger.records) refl
      ∙ sym (ap (λ m. has_joined m ledger.records pod.uid) indexed) ∙ joined_listed pod live tracked
    where
      by : (o : Option Record) → record_of pod.uid ledger.records ≡ o → was_judged_failed ledger.records pod.uid ≡ has_joined Indexed ledger.records pod.uid
      by None h =
          ap (λ (o : Option Record). option_map_or (λ (r : Record). same_outcome r.outcome Failed) o false) h
          ∙ sym (ap (λ (o : Option Record). option_map_or (λ (r : Record). joins_list Indexed r.outcome) o false) h)
      by (Some r) h =
          ap (λ (o : Option Record). option_map_or (λ (x : Record). same_outcome x.outcome Failed) o false) h
          ∙ other_verdict r.outcome (a.ties.sound pod.uid r h).verdict
          ∙ sym (ap (λ (o : Option Record). option_map_or (λ (x : Record). joins_list Indexed x.outcome) o false) h)

  -- So its successes are the new ones.
  pub successes-new : job.spec.mode ≡ Indexed → successes job ledger.records (pods_of made.uid (upto y log)) ≡ newly job (pods_of made.uid (upto y log)) Succeeded
  successes-new indexed =
      filter_same (is_success job ledger.records) (is_new job Succeeded) own
      (Each-weaker (λ pod. life pod.uid (upto y log) ≡ Live pod) (λ pod. is_success job ledger.records pod ≡ is_new job Succeeded pod) (λ pod live. at pod live pod.tracked refl) own
      (pods_of-live made.uid (upto y log)))
      ∙ sym (newly-free job own Succeeded refl (ap (λ m. joins_list m Succeeded) indexed))
    where
      at : (pod : Pod) → life pod.uid (upto y log) ≡ Live pod → (t : Bool) → pod.tracked ≡ t → is_success job ledger.records pod ≡ is_new job Succeeded pod
      at pod live true t = ap (λ b. has_come_to job Succeeded pod && not b) (failed_listed indexed pod live t)
      at pod live false t =
          ap (λ b. (b && same_outcome (outcome_of job.spec pod) Succeeded) && not (was_judged_failed ledger.records pod.uid)) t
          ∙ sym (ap (λ b. (b && same_outcome (outcome_of job.spec pod) Succeeded) && not (is_listed job.status pod.uid)) t)
