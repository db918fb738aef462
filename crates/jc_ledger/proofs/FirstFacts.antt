-- The first status of a sync is written: what it saw is counted in, and the pods that are newly judged are
-- those that the ledger judges.
use Rattle.std.proofs.Common.{◌≡◌, ℕ, suc, ◌+◌, ◌≤◌, Bool, true, false, cond, not, ◌&&◌, ◌||◌, List, [], ◌∷◌, ◌++◌, length, map, filter, Option, Some, None, is_some, refl, sym, ap, ◌∙◌, subst, inl, inr, arith, true≢false}
use Rattle.std.specs.Prelude.{IsSome}
use Rattle.std.specs.List.{AllByRecursion as Each}
use Rattle.std.specs.Option.{unwrap_or}
use Rattle.std.proofs.lemmas.Bool.{and_from, and_parts, not-true, or_cases, or_left, or_right}
use Rattle.jc_types.specs.declared.numbers.Uid.{Uid}
use Rattle.jc_types.specs.declared.objects.Entry.{Entry}
use Rattle.jc_types.specs.declared.objects.Entry.TheVariants.{JobPut}
use Rattle.jc_types.specs.declared.objects.Job.{Job}
use Rattle.jc_types.specs.declared.objects.Pod.{Pod}
use Rattle.jc_types.specs.declared.specifications.Mode.{Mode}
use Rattle.jc_types.specs.declared.specifications.Mode.TheVariants.{NonIndexed, Indexed}
use Rattle.jc_states.specs.Bases.{own_pods}
use Rattle.jc_types.specs.declared.statuses.IndexCount.{IndexCount}
use Rattle.jc_types.specs.Keys.{same_uid}
use Rattle.jc_log.specs.Log.{Life, Never, Live, Gone, upto, life, is_lost, pods_of}
use Rattle.jc_states.specs.PodLists.{IsRising}
use Rattle.jc_states.specs.Conditions.{has_end}
use Rattle.jc_states.specs.UidLists.{Ascends, is_in, join, uids_of}
use Rattle.jc_states.specs.ObjectChanges.{JobStep}
use Rattle.jc_log.specs.Writes.{Legal}
use Rattle.jc_types.proofs.KeyFacts.{same_uid-eq}
use Rattle.jc_types.proofs.ListFacts.{Each-weaker, Each-both, Each-filter, Each-passes, find_passes}
use Rattle.jc_log.proofs.PodFacts.{pods_of-live}
use Rattle.jc_states.proofs.UidListFacts.{Found as Passing, passes_in, some_in}
use Rattle.jc_log.proofs.WriteFacts.{lost_on}
use Rattle.jc_failpol.specs.declared.outcomes.Outcome.{Outcome}
use Rattle.jc_failpol.specs.declared.outcomes.Outcome.TheVariants.{Succeeded, Failed}
use Rattle.jc_failpol.specs.Outcomes.{is_verdict, outcome_of, same_outcome}
use Rattle.jc_failpol.proofs.OutcomeFacts.{outcome-exact}
use Rattle.jc_account.proofs.JudgementFacts.{newly-is}
use Rattle.jc_account.specs.Accounts.{counted_in}
use Rattle.jc_states.specs.Listed.{is_listed}
use Rattle.jc_account.specs.Judged.{fits, has_come_to, has_tracked, is_fresh, is_new, newly}
use Rattle.jc_account.specs.Modes.{completed_after, indexes_of}
use Rattle.jc_account.proofs.AccountFacts.{empty-in, failed-cases, failed-in, failed-order, failed-sum, indexed-total, lists-apart, lists-short, plain-set, succeeded-cases, succeeded-in, succeeded-order, succeeded-sum}
use Rattle.jc_ledger.specs.EventKinds.{CountsIn}
use Rattle.jc_ledger.specs.Ledger.{failed_after, failed_pods, fails_of, kept, within, Record, record_of, recorded, has_record, space, fresh, chosen, judged_as, Ledger, entered}
use Rattle.jc_account.specs.Rooms.{has_room, joins_list}
use Rattle.jc_perindex.specs.Failures.{failed_set, failing_by, failures_by, has_failed as fails_index, newly_failed, raised}
use Rattle.jc_ledger.specs.Once.{IsJudged, SaysFails}
use Rattle.jc_ledger.specs.Tied.{made_as, HasOrderedLists}
use Rattle.jc_ledger.proofs.AgreementFacts.{Agreeing, now_of, tidy_of, listing_of, seen_before, stood_of, failed-chosen, succeeded-chosen, successes-new}
use Rattle.jc_ledger.proofs.MadeFacts.{outcome-step}
use Rattle.jc_ledger.proofs.OwnFacts.{own-live, untracked-lost}
use Rattle.jc_ledger.proofs.PutFacts.{IsChosen, Puts}
use Rattle.jc_ledger.proofs.FailFacts.{failing-in, failures-in, judged-failed-pods, raised-more, says-counts}
use Rattle.jc_ledger.proofs.RoomFacts.{is_newly}
use Rattle.jc_ledger.proofs.RecordFacts.{Found, Old, New, record_of-found, IsJudged-more, IsJudged-new, failed_pods-more, judged_as-more}

-- A UID of some pods is one of all.
in_whole : (u : Uid) (test : Pod → Bool) (pods : List Pod) → is_in u (uids_of (filter test pods)) ≡ true → is_in u (uids_of pods) ≡ true
in_whole u test [] h = h
in_whole u test (pod ∷ pods) h = by (test pod) (in_whole u test pods) h
  where
    either : (is_in u (uids_of (filter test pods)) ≡ true → is_in u (uids_of pods) ≡ true) → (s : Bool) → (s || is_in u (uids_of (filter test pods))) ≡ true → (s || is_in u (uids_of pods)) ≡ true
    either ih true g = refl
    either ih false g = ih g

    by : (b : Bool) → (is_in u (uids_of (filter test pods)) ≡ true → is_in u (uids_of pods) ≡ true) → is_in u (uids_of (cond b (pod ∷ filter test pods) (filter test pods))) ≡ true → is_in u (uids_of (pod ∷ pods)) ≡ true
    by true ih g = either ih (same_uid pod.uid u) g
    by false ih g = or_right (same_uid pod.uid u) (is_in u (uids_of pods)) (ih g)

-- There is none where none is found.
none_from : (o : Option Record) → is_some o ≡ false → o ≡ None
none_from None h = refl
none_from (Some r) h = absurd (true≢false h)

-- One life is of one pod.
one_pod : (l : Life) (pod other : Pod) → l ≡ Live pod → l ≡ Live other → pod ≡ other
one_pod l pod other h g = ap (λ (x : Life). pod_of x) (sym h ∙ g)
  where
    pod_of : Life → Pod
    pod_of Never = pod
    pod_of (Live p) = p
    pod_of Gone = pod

-- The completed indexes of an Indexed Job, as a list.
pub completed-in : (job : Job) (pods : List Pod) → job.spec.mode ≡ Indexed → (counted_in job pods).completed
    ≡ join (kept job job.status.completed) (within job.spec (indexes_of (newly job (own_pods job pods) Succeeded)))
unfolding counted_in
completed-in job pods at =
    ap (λ m. completed_after m (has_end job.status.conditions) (unwrap_or job.spec.completions 0) job.status.completed (newly job (own_pods job pods) Succeeded)) at

-- A success that joins a list is one of a Job that is not Indexed.
joining_success : (mode : Mode) (o : Outcome) → is_verdict o ≡ true → same_outcome o Failed ≡ false → joins_list mode o ≡ true → (mode ≡ NonIndexed) × (same_outcome o Succeeded ≡ true)
joining_success mode o v f l = by mode l (only (same_outcome o Succeeded) (same_outcome o Failed) v f)
  where
    only : (s t : Bool) → (s || t) ≡ true → t ≡ false → s ≡ true
    only true t h g = refl
    only false t h g = absurd (true≢false (sym h ∙ g))

    by : (mode : Mode) → joins_list mode o ≡ true → same_outcome o Succeeded ≡ true → (mode ≡ NonIndexed) × (same_outcome o Succeeded ≡ true)
    by NonIndexed l s = (refl, s)
    by Indexed l s = absurd (true≢false (sym l ∙ ap not s))

-- What the law has, over plain variables: `job` is there as the sync saw it, and `new` is put.
pub record IsFirst (made : Job) (log : List Entry) (ledger : Ledger) (job : Job) (pods : List Pod) (y : ℕ) (new : Job) : Type 0 where
  pub agrees : Agreeing made log ledger job y
  pub legal : Legal (JobPut new ∷ log)
  pub is_made : made_as made.uid log ≡ Some made
  pub own : own_pods job pods ≡ pods_of made.uid (upto y log)
  pub rises : IsRising pods
  pub within : y ≤ length log
  pub counts : CountsIn job pods new.status
  pub new_step : JobStep made new

module _ (made : Job) (log : List Entry) (ledger : Ledger) (job : Job) (pods : List Pod) (y : ℕ) (new : Job) (h : IsFirst made log ledger job pods y new) where
  abbrev own : List Pod
  own = pods_of made.uid (upto y log)

  abbrev test : Pod → Bool
  test = is_fresh job.spec (has_record ledger.records)

  abbrev unjudged : List Pod
  unjudged = fresh job ledger.records own

  abbrev picks : Pod → Bool
  picks = has_room job.spec (space job ledger.records own) unjudged

  abbrev picked : List Pod
  picked = chosen job ledger.records own

  -- What each own pod has, each that the write judges has, and is still to be judged.
  each_picked : (P : Pod → Type 0) → Each P own → Each (λ pod. P pod × (test pod ≡ true)) picked
  each_picked P all =
      Each-filter (λ pod. P pod × (test pod ≡ true)) picks unjudged
      (Each-both P (λ pod. test pod ≡ true) unjudged (Each-filter P test own all) (Each-passes test own))

  abbrev after : Ledger
  after = entered job own y (suc (length log)) ledger

  -- Both have one mode.
  mode_of_new : new.spec.mode ≡ job.spec.mode
  mode_of_new = h.new_step.mode ∙ sym h.agrees.step.mode

  -- ---- the pods that the write judges

  chosen_at : (pod : Pod) → ((life pod.uid (upto y log) ≡ Live pod) × (pod.owner_uid ≡ made.uid)) × (is_fresh job.spec (has_record ledger.records) pod ≡ true) → IsChosen made log ledger.records y pod
  chosen_at pod q =
      let first = and_parts pod.tracked (is_verdict (outcome_of job.spec pod) && not (is_some (record_of pod.uid ledger.records))) q.1 in
      let rest = and_parts (is_verdict (outcome_of job.spec pod)) (not (is_some (record_of pod.uid ledger.records))) first.1 in
      record {
        stood = q.0.0;
        tracked = first.0;
        owner = q.0.1;
        verdict = ap is_verdict (sym (outcome-step made job pod h.agrees.step)) ∙ rest.0;
        fresh = not-true (is_some (record_of pod.uid ledger.records)) rest.1;
      }

  each_chosen : Each (IsChosen made log ledger.records y) picked
  each_chosen =
      let P = λ (pod : Pod). (life pod.uid (upto y log) ≡ Live pod) × (pod.owner_uid ≡ made.uid) in
      Each-weaker (λ pod. P pod × (test pod ≡ true)) (IsChosen made log ledger.records y) chosen_at picked (each_picked P (own-live made.uid (upto y log)))

  picked_live : Each (λ pod. life pod.uid (upto y log) ≡ Live pod) picked
  picked_live =
      let P = λ (pod : Pod). life pod.uid (upto y log) ≡ Live pod in
      Each-weaker (λ pod. P pod × (test pod ≡ true)) P (λ pod q. q.0) picked (each_picked P (pods_of-live made.uid (upto y log)))

  -- ---- what is listed is judged

  -- A new pod is judged by this write.
  new_judged : (outcome : Outcome) (u : Uid) → is_verdict outcome ≡ true → filter (λ pod. same_outcome (outcome_of job.spec pod) outcome) picked ≡ newly job own outcome
      → is_in u (uids_of (newly job own outcome)) ≡ true → IsJudged after.records u outcome (suc (length log))
  new_judged outcome u verdict same new_in =
      let has_it = λ (pod : Pod). same_outcome (outcome_of job.spec pod) outcome in
      let in_picked : is_in u (uids_of picked) ≡ true = in_whole u has_it picked (ap (λ ps. is_in u (uids_of ps)) same ∙ new_in) in
      let fresh = some_in (λ pod. life pod.uid (upto y log) ≡ Live pod) test u own (pods_of-live made.uid (upto y log)) (in_whole u picks unjudged in_picked) in
      let one = some_in (λ pod. life pod.uid (upto y log) ≡ Live pod) (is_newly job own outcome) u own (pods_of-live made.uid (upto y log)) (sym (ap (λ ps. is_in u (uids_of ps)) (newly-is job own outcome verdict)) ∙ new_in) in
      IsJudged-new u ledger.records job y (suc (length log)) picked outcome (no_record fresh)
      (Each-weaker (λ pod. (same_uid pod.uid u ≡ true) × (life pod.uid (upto y log) ≡ Live pod)) (λ pod. outcome_of job.spec pod ≡ outcome) (λ pod q. as_one one pod q.0 q.1)
      (filter (λ pod. same_uid pod.uid u) picked)
      (Each-both (λ pod. same_uid pod.uid u ≡ true) (λ pod. life pod.uid (upto y log) ≡ Live pod) (filter (λ pod. same_uid pod.uid u) picked)
      (Each-passes (λ pod. same_uid pod.uid u) picked)
      (Each-filter (λ pod. life pod.uid (upto y log) ≡ Live pod) (λ pod. same_uid pod.uid u) picked picked_live)))
      in_picked
    where
      no_record : Passing (λ pod. life pod.uid (upto y log) ≡ Live pod) test u → record_of u ledger.records ≡ None
      no_record f =
          let first = and_parts f.pod.tracked (is_verdict (outcome_of job.spec f.pod) && not (is_some (record_of f.pod.uid ledger.records))) f.passes in
          let rest = and_parts (is_verdict (outcome_of job.spec f.pod)) (not (is_some (record_of f.pod.uid ledger.records))) first.1 in
          ap (λ v. record_of v ledger.records) (sym f.uid) ∙ none_from (record_of f.pod.uid ledger.records) (not-true (is_some (record_of f.pod.uid ledger.records)) rest.1)

      as_one : Passing (λ pod. life pod.uid (upto y log) ≡ Live pod) (is_newly job own outcome) u → (pod : Pod) → same_uid pod.uid u ≡ true → life pod.uid (upto y log) ≡ Live pod → outcome_of job.spec pod ≡ outcome
      as_one f pod s live =
          let new = (and_parts (is_new job outcome f.pod) (fits job own f.pod) f.passes).0 in
          let come = (and_parts (has_come_to job outcome f.pod) (not (is_listed job.status f.pod.uid)) new).0 in
          let same = (and_parts f.pod.tracked (same_outcome (outcome_of job.spec f.pod) outcome) come).1 in
          let uid : pod.uid ≡ f.pod.uid = same_uid-eq pod.uid u s ∙ sym f.uid in
          let is : pod ≡ f.pod = one_pod (life pod.uid (upto y log)) pod f.pod live (ap (λ v. life v (upto y log)) uid ∙ f.has) in
          ap (outcome_of job.spec) is ∙ (outcome-exact (outcome_of job.spec f.pod) outcome).0 same

  -- What was judged before stays so.
  old_judged : (outcome : Outcome) (u : Uid) → IsJudged ledger.records u outcome job.version.0 → IsJudged after.records u outcome (suc (length log))
  old_judged outcome u =
      IsJudged-more u ledger.records (map (recorded job y (suc (length log))) picked) outcome job.version.0 (suc (length log)) (omega (arith, h.agrees.reached, h.within))

  listed_failed : (u : Uid) → is_in u new.status.uncounted_failed ≡ true → IsJudged after.records u Failed (suc (length log))
  listed_failed u g =
      elim (failed-cases u job pods (sym (ap (is_in u) h.counts.uncounted_failed) ∙ g)) [
        | inl stays ↦ old_judged Failed u ((listing_of made log ledger job y h.agrees).failed u (and_parts (is_in u job.status.uncounted_failed) (has_tracked (own_pods job pods) u) stays).0)
        | inr fresh ↦ new_judged Failed u refl (failed-chosen made log ledger job y h.agrees) (ap (λ ps. is_in u (uids_of (newly job ps Failed))) (sym h.own) ∙ fresh)
      ]

  listed_succeeded : (u : Uid) → is_in u new.status.uncounted_succeeded ≡ true → IsJudged after.records u Succeeded (suc (length log))
  listed_succeeded u g = by job.spec.mode refl
    where
      by : (mode : Mode) → job.spec.mode ≡ mode → IsJudged after.records u Succeeded (suc (length log))
      by Indexed at =
          absurd (true≢false (sym g ∙ ap (is_in u) (h.counts.uncounted_succeeded ∙ empty-in job pods at ((tidy_of made log ledger job y h.agrees).none at))))
      by NonIndexed at =
          elim (succeeded-cases u job pods (sym (ap (is_in u) h.counts.uncounted_succeeded) ∙ g)) [
            | inl stays ↦ old_judged Succeeded u ((listing_of made log ledger job y h.agrees).succeeded u (and_parts (is_in u job.status.uncounted_succeeded) (has_tracked (own_pods job pods) u) stays).0)
            | inr fresh ↦ new_judged Succeeded u refl (succeeded-chosen made log ledger job y h.agrees at) (ap (λ ps. is_in u (uids_of (newly job ps Succeeded))) (sym h.own) ∙ fresh)
          ]

  -- ---- what is not listed is lost

  -- A new failure is listed, and a new success where the Job is not Indexed.
  failed_listed : (u : Uid) → is_in u (uids_of (newly job own Failed)) ≡ true → is_listed new.status u ≡ true
  failed_listed u g =
      or_right (is_in u new.status.uncounted_succeeded) (is_in u new.status.uncounted_failed)
      (ap (is_in u) h.counts.uncounted_failed
      ∙ failed-in u job pods
      ∙ or_right (is_in u job.status.uncounted_failed && has_tracked (own_pods job pods) u) (is_in u (uids_of (newly job (own_pods job pods) Failed))) (ap (λ ps. is_in u (uids_of (newly job ps Failed))) h.own ∙ g))

  succeeded_listed : job.spec.mode ≡ NonIndexed → (u : Uid) → is_in u (uids_of (newly job own Succeeded)) ≡ true → is_listed new.status u ≡ true
  succeeded_listed at u g =
      or_left (is_in u new.status.uncounted_succeeded) (is_in u new.status.uncounted_failed)
      (ap (is_in u) h.counts.uncounted_succeeded
      ∙ succeeded-in u job pods at
      ∙ or_right (is_in u job.status.uncounted_succeeded && has_tracked (own_pods job pods) u) (is_in u (uids_of (newly job (own_pods job pods) Succeeded))) (ap (λ ps. is_in u (uids_of (newly job ps Succeeded))) h.own ∙ g))

  -- What was listed stays so where its pod is tracked.
  stays_listed : (u : Uid) → is_listed job.status u ≡ true → has_tracked own u ≡ true → is_listed new.status u ≡ true
  stays_listed u l t =
      let tracked : has_tracked (own_pods job pods) u ≡ true = ap (λ ps. has_tracked ps u) h.own ∙ t in
      elim (or_cases (is_in u job.status.uncounted_succeeded) (is_in u job.status.uncounted_failed) l) [
        | inl s ↦ or_left (is_in u new.status.uncounted_succeeded) (is_in u new.status.uncounted_failed) (ap (is_in u) h.counts.uncounted_succeeded ∙ successes_stay s tracked job.spec.mode refl)
        | inr f ↦
            or_right (is_in u new.status.uncounted_succeeded) (is_in u new.status.uncounted_failed)
            (ap (is_in u) h.counts.uncounted_failed
            ∙ failed-in u job pods
            ∙ or_left (is_in u job.status.uncounted_failed && has_tracked (own_pods job pods) u) (is_in u (uids_of (newly job (own_pods job pods) Failed)))
            (and_from (is_in u job.status.uncounted_failed) (has_tracked (own_pods job pods) u) f tracked))
      ]
    where
      successes_stay : is_in u job.status.uncounted_succeeded ≡ true → has_tracked (own_pods job pods) u ≡ true → (mode : Mode) → job.spec.mode ≡ mode → is_in u (counted_in job pods).uncounted_succeeded ≡ true
      successes_stay s tracked NonIndexed at =
          succeeded-in u job pods at
          ∙ or_left (is_in u job.status.uncounted_succeeded && has_tracked (own_pods job pods) u) (is_in u (uids_of (newly job (own_pods job pods) Succeeded)))
          (and_from (is_in u job.status.uncounted_succeeded) (has_tracked (own_pods job pods) u) s tracked)
      successes_stay s tracked Indexed at = absurd (true≢false (sym s ∙ ap (is_in u) ((tidy_of made log ledger job y h.agrees).none at)))

  -- A pod that the write judges is listed, if it is listable.
  abbrev IsListedNow : Pod → Type 0
  IsListedNow pod = joins_list new.spec.mode (outcome_of job.spec pod) ≡ true → is_listed new.status pod.uid ≡ true

  picked_listed : Each IsListedNow picked
  picked_listed =
      let as_failed = λ (pod : Pod). same_outcome (outcome_of job.spec pod) Failed in
      let as_succeeded = λ (pod : Pod). same_outcome (outcome_of job.spec pod) Succeeded in
      let P = λ (pod : Pod). as_failed pod ≡ true → is_in pod.uid (uids_of (filter as_failed picked)) ≡ true in
      let Q = λ (pod : Pod). as_succeeded pod ≡ true → is_in pod.uid (uids_of (filter as_succeeded picked)) ≡ true in
      let R = λ (pod : Pod). is_fresh job.spec (has_record ledger.records) pod ≡ true in
      Each-weaker (λ pod. P pod × (Q pod × R pod)) IsListedNow (λ pod q. at pod q.0 q.1.0 q.1.1 (as_failed pod) refl) picked
      (Each-both P (λ pod. Q pod × R pod) picked (passes_in as_failed picked)
      (Each-both Q R picked (passes_in as_succeeded picked) (Each-filter R picks unjudged (Each-passes test own))))
    where
      at : (pod : Pod)
          → (same_outcome (outcome_of job.spec pod) Failed ≡ true → is_in pod.uid (uids_of (filter (λ p. same_outcome (outcome_of job.spec p) Failed) picked)) ≡ true)
          → (same_outcome (outcome_of job.spec pod) Succeeded ≡ true → is_in pod.uid (uids_of (filter (λ p. same_outcome (outcome_of job.spec p) Succeeded) picked)) ≡ true)
          → is_fresh job.spec (has_record ledger.records) pod ≡ true → (b : Bool) → same_outcome (outcome_of job.spec pod) Failed ≡ b → IsListedNow pod
      at pod f s fresh true b l =
          failed_listed pod.uid (sym (ap (λ ps. is_in pod.uid (uids_of ps)) (failed-chosen made log ledger job y h.agrees)) ∙ f b)
      at pod f s fresh false b l =
          let first = and_parts pod.tracked (is_verdict (outcome_of job.spec pod) && not (is_some (record_of pod.uid ledger.records))) fresh in
          let rest = and_parts (is_verdict (outcome_of job.spec pod)) (not (is_some (record_of pod.uid ledger.records))) first.1 in
          let is = joining_success new.spec.mode (outcome_of job.spec pod) rest.0 b l in
          let plain : job.spec.mode ≡ NonIndexed = sym mode_of_new ∙ is.0 in
          succeeded_listed plain pod.uid (sym (ap (λ ps. is_in pod.uid (uids_of ps)) (succeeded-chosen made log ledger job y h.agrees plain)) ∙ s is.1)

  -- A pod that was judged before and is not listed any more.
  old_lost : (u : Uid) (r : Record) → record_of u ledger.records ≡ Some r → joins_list new.spec.mode r.outcome ≡ true → is_listed new.status u ≡ false → is_lost (life u log) ≡ true
  old_lost u r found l out = by (is_listed job.status u) refl (has_tracked own u) refl
    where
      by : (b : Bool) → is_listed job.status u ≡ b → (t : Bool) → has_tracked own u ≡ t → is_lost (life u log) ≡ true
      by true b true t = absurd (true≢false (sym (stays_listed u b t) ∙ out))
      by true b false t =
          lost_on u y log h.agrees.stored
          (untracked-lost made.uid u r.seen y log r.pod h.agrees.stored (seen_before made log ledger job y h.agrees u r found) (stood_of made log ledger job y h.agrees u r found)
          (same_uid-eq r.pod.uid u (find_passes (λ (s : Record). same_uid s.pod.uid u) ledger.records r found)) (h.agrees.ties.sound u r found).owner t)
      by false b t s =
          lost_on u job.version.0 log h.agrees.stored ((now_of made log ledger job y h.agrees).lost u r found (ap (λ m. joins_list m r.outcome) (sym mode_of_new) ∙ l) b)

  all_lost : (u : Uid) (r : Record) → record_of u after.records ≡ Some r → joins_list new.spec.mode r.outcome ≡ true → is_listed new.status u ≡ false → is_lost (life u log) ≡ true
  all_lost u r found = by (record_of-found IsListedNow u ledger.records job y (suc (length log)) picked r picked_listed found)
    where
      by : Found IsListedNow u ledger.records job y (suc (length log)) r → joins_list new.spec.mode r.outcome ≡ true → is_listed new.status u ≡ false → is_lost (life u log) ≡ true
      by (Old was) l out = old_lost u r was l out
      by (New none pod uid listed is) l out =
          absurd (true≢false (sym (listed (ap (λ (s : Record). joins_list new.spec.mode s.outcome) (sym is) ∙ l)) ∙ ap (is_listed new.status) uid ∙ out))

  -- ---- totals, lists and indexes

  total_failed : new.status.failed + length new.status.uncounted_failed ≡ length (judged_as Failed after.records)
  total_failed =
      let sum = failed-sum job pods h.rises in
      let before = (now_of made log ledger job y h.agrees).failed in
      let more = judged_as-more Failed ledger.records job y (suc (length log)) picked in
      let same = ap length (failed-chosen made log ledger job y h.agrees) in
      let at = ap (λ ps. length (newly job ps Failed)) h.own in
      omega (arith, sum, before, more, same, at, h.counts.failed, ap length h.counts.uncounted_failed)

  total_succeeded : new.spec.mode ≡ NonIndexed → new.status.succeeded + length new.status.uncounted_succeeded ≡ length (judged_as Succeeded after.records)
  total_succeeded mode =
      let plain : job.spec.mode ≡ NonIndexed = sym mode_of_new ∙ mode in
      let sum = succeeded-sum job pods plain h.rises in
      let before = (now_of made log ledger job y h.agrees).succeeded plain in
      let more = judged_as-more Succeeded ledger.records job y (suc (length log)) picked in
      let same = ap length (succeeded-chosen made log ledger job y h.agrees plain) in
      let at = ap (λ ps. length (newly job ps Succeeded)) h.own in
      omega (arith, sum, before, more, same, at, h.counts.succeeded, ap length h.counts.uncounted_succeeded)

  all_completed : new.spec.mode ≡ Indexed → new.status.completed ≡ after.done
  all_completed mode =
      let indexed : job.spec.mode ≡ Indexed = sym mode_of_new ∙ mode in
      h.counts.completed
      ∙ completed-in job pods indexed
      ∙ ap (λ ps. join (kept job job.status.completed) (within job.spec (indexes_of (newly job ps Succeeded)))) h.own
      ∙ ap (λ xs. join (kept job xs) (within job.spec (indexes_of (newly job own Succeeded)))) ((now_of made log ledger job y h.agrees).completed indexed)
      ∙ ap (λ ps. join (kept job ledger.done) (within job.spec (indexes_of ps))) (sym (successes-new made log ledger job y h.agrees indexed))

  -- ---- failures by index

  -- The failures by the ledger after the write.
  fails_new : fails_of job.spec.failure after.records ≡ raised job.spec.failure (fails_of job.spec.failure ledger.records) (newly job own Failed)
  fails_new =
      ap (raised job.spec.failure []) (failed_pods-more ledger.records job y (suc (length log)) picked ∙ ap (λ ps. failed_pods ledger.records ++ ps) (failed-chosen made log ledger job y h.agrees))
      ∙ sym (raised-more job.spec.failure (failed_pods ledger.records) (newly job own Failed))

  -- The pods that the sync counted as failed.
  newly_own : newly_failed (own_pods job pods) (counted_in job pods).judged_failed ≡ newly job own Failed
  newly_own = judged-failed-pods job pods h.rises ∙ ap (λ ps. newly job ps Failed) h.own

  says_new : SaysFails new.spec.per_index new after
  says_new =
      subst (λ (o : Option ℕ). SaysFails o new after) (sym (h.new_step.per_index ∙ sym h.agrees.step.per_index))
      (by job.spec.per_index refl (now_of made log ledger job y h.agrees).by_index)
    where
      by : (o : Option ℕ) → job.spec.per_index ≡ o → SaysFails o job ledger → SaysFails o new after
      by None e was = (
        h.counts.index_failures ∙ failures-in job (own_pods job pods) (counted_in job pods).judged_failed ∙ ap (λ o. failures_by o job (newly_failed (own_pods job pods) (counted_in job pods).judged_failed)) e,
        h.counts.failed_indexes ∙ failing-in job (counted_in job pods).completed (own_pods job pods) (counted_in job pods).judged_failed
            ∙ ap (λ o. failing_by o job (counted_in job pods).completed (newly_failed (own_pods job pods) (counted_in job pods).judged_failed)) e,
      )
      by (Some limit) e was =
          let uids = (counted_in job pods).judged_failed in
          let completed = (counted_in job pods).completed in
          let same : raised job.spec.failure job.status.index_failures (newly_failed (own_pods job pods) uids) ≡ fails_of job.spec.failure after.records =
          ap (λ ps. raised job.spec.failure job.status.index_failures ps) newly_own ∙ ap (λ cs. raised job.spec.failure cs (newly job own Failed)) was.0 ∙ sym fails_new in
          let indexed : job.spec.mode ≡ Indexed = h.agrees.step.mode ∙ h.agrees.ties.limited (subst IsSome (sym (sym h.agrees.step.per_index ∙ e)) refl) in
          let done : completed ≡ after.done = sym h.counts.completed ∙ all_completed (mode_of_new ∙ indexed) in (
            h.counts.index_failures ∙ failures-in job (own_pods job pods) uids ∙ ap (λ o. failures_by o job (newly_failed (own_pods job pods) uids)) e ∙ same
                ∙ ap (λ failure. fails_of failure after.records) (h.agrees.step.failure ∙ sym h.new_step.failure),
            h.counts.failed_indexes ∙ failing-in job completed (own_pods job pods) uids ∙ ap (λ o. failing_by o job completed (newly_failed (own_pods job pods) uids)) e
                ∙ ap (λ counts. failed_set job limit completed counts) same
                ∙ ap (λ set. failed_set job limit set (fails_of job.spec.failure after.records)) done
                ∙ ap (λ old. cond (has_end job.status.conditions) old (map (λ (count : IndexCount). count.index) (filter (fails_index limit (unwrap_or job.spec.completions 0) after.done) (fails_of job.spec.failure after.records)))) was.1
                ∙ ap (λ o. failed_after o job after.done (fails_of job.spec.failure after.records) ledger.failed) (sym e),
          )

  tidy_new : HasOrderedLists new
  tidy_new =
      let tidy = tidy_of made log ledger job y h.agrees in
      record {
        failed = subst Ascends (sym h.counts.uncounted_failed) (failed-order job pods tidy.failed);
        succeeded = subst Ascends (sym h.counts.uncounted_succeeded) (succeeded-order job pods tidy.succeeded);
        apart = λ u.
            ap (λ us. is_in u us && is_in u new.status.uncounted_failed) h.counts.uncounted_succeeded
            ∙ ap (λ us. is_in u (counted_in job pods).uncounted_succeeded && is_in u us) h.counts.uncounted_failed
            ∙ lists-apart u job pods h.rises (tidy.apart u);
        few = omega (arith, ap length h.counts.uncounted_succeeded, ap length h.counts.uncounted_failed, lists-short job pods h.rises tidy.succeeded tidy.failed tidy.apart tidy.few);
        none = λ m. let at : job.spec.mode ≡ Indexed = sym mode_of_new ∙ m in h.counts.uncounted_succeeded ∙ empty-in job pods at (tidy.none at);
        size = λ m. let at : job.spec.mode ≡ Indexed = sym mode_of_new ∙ m in h.counts.succeeded ∙ indexed-total job pods at ∙ ap length (sym h.counts.completed);
        plain = λ m. let at : job.spec.mode ≡ NonIndexed = sym mode_of_new ∙ m in h.counts.completed ∙ plain-set job pods at ∙ tidy.plain at;
        counts = says-counts new.spec.per_index new after says_new;
      }

  -- The entry puts the new Job over the one that is there, and judges those pods.
  pub first_puts : Puts made log ledger after job own y job new
  first_puts = record {
    legal = h.legal;
    is_made = h.is_made;
    ties = h.agrees.ties;
    there = h.agrees.there;
    uid = h.agrees.uid;
    key = h.new_step.key;
    seen = h.within;
    step = h.agrees.step;
    records = refl;
    each = each_chosen;
    tidy = tidy_new;
    listed = record { failed = listed_failed; succeeded = listed_succeeded };
    lost = all_lost;
    failed = total_failed;
    succeeded = total_succeeded;
    completed = all_completed;
    by_index = says_new;
  }
