-- A sync counts the same of the pods at which it has to look as of all.
use Rattle.std.proofs.Common.{◌≡◌, ◌+◌, ◌-◌, ◌≤◌, Bool, true, not, ◌&&◌, ◌||◌, inl, inr, List, [], filter, length, unwrap_or, ap, sym, ◌∙◌, subst, arith}
use Rattle.std.specs.List.{All}
use Rattle.std.proofs.lemmas.Bool.{and_parts, or_cases, or_left, or_right}
use Rattle.std.proofs.lemmas.List.Elements.{All-filter}
use Rattle.jc_types.specs.declared.limits.TheConstants.{MOST_UNCOUNTED}
use Rattle.jc_types.specs.declared.numbers.Uid.{Uid}
use Rattle.jc_types.specs.declared.objects.Job.{Job}
use Rattle.jc_types.specs.declared.objects.Pod.{Pod}
use Rattle.jc_types.specs.Keys.{same_uid}
use Rattle.jc_types.proofs.KeyFacts.{same_uid-eq}
use Rattle.jc_types.proofs.ListFacts.{any_within, filter_same, filter_within}
use Rattle.jc_states.specs.Bases.{CountsByIndex, TotalsFit, own_pods}
use Rattle.jc_states.specs.Conditions.{has_end}
use Rattle.jc_states.specs.Indexes.{HasSmallIndex}
use Rattle.jc_states.specs.Listed.{is_listed}
use Rattle.jc_states.specs.Noted.{needs_look}
use Rattle.jc_states.specs.Pods.{is_tracked}
use Rattle.jc_states.specs.UidLists.{is_in, merge, uids_of}
use Rattle.jc_states.proofs.AtOddsFacts.{noted-listed, noted-odds, own-part, tidy-part, totals-part}
use Rattle.jc_states.proofs.PodListFacts.{length-filter-le}
use Rattle.jc_failpol.specs.declared.outcomes.Outcome.{Outcome}
use Rattle.jc_failpol.specs.declared.outcomes.Outcome.TheVariants.{Alive, Failed, Succeeded}
use Rattle.jc_failpol.specs.Outcomes.{is_verdict, outcome_of, same_outcome}
use Rattle.jc_failpol.proofs.EndedFacts.{ended-odds, verdict-ended}
use Rattle.jc_account.specs.Accounts.{counted_in, counted_of, left}
use Rattle.jc_account.specs.Judged.{candidates, has_tracked, is_candidate, is_left_over, is_staying, is_to_release, is_tracked_as, room, stayed, to_release}
use Rattle.jc_account.specs.Modes.{completed_after, gain, listing, succeeded_after}
use Rattle.jc_account.specs.Rooms.{has_room, judged_within, left_beyond}
use Rattle.jc_account.proofs.ListedFacts.{each_in}
use Rattle.jc_account.proofs.Totals.{stayed_and_left}

-- The pod is one at which a sync of the Job has to look.
abbrev pub is_noted_of : Job → Pod → Bool
is_noted_of job pod = needs_look job.uid job.status.uncounted_succeeded job.status.uncounted_failed pod

module _ (job : Job) where
  -- It looks at a listed one,
  listed-noted : (pod : Pod) → is_listed job.status pod.uid ≡ true → is_noted_of job pod ≡ true
  listed-noted pod = noted-listed job.uid job.status.uncounted_succeeded job.status.uncounted_failed pod

  -- at one that has come to something,
  ended-noted : (pod : Pod) → is_tracked pod ≡ true → not (same_outcome (outcome_of job.spec pod) Alive) ≡ true → is_noted_of job pod ≡ true
  ended-noted pod t e =
      noted-odds job.uid job.status.uncounted_succeeded job.status.uncounted_failed pod (ended-odds job.spec pod t e)

  -- so at each that is to be judged,
  candidate-noted : (pod : Pod) → is_candidate job pod ≡ true → is_noted_of job pod ≡ true
  candidate-noted pod h =
      let tracked = and_parts (is_tracked pod) (is_verdict (outcome_of job.spec pod) && not (is_listed job.status pod.uid)) h in
      let verdict = and_parts (is_verdict (outcome_of job.spec pod)) (not (is_listed job.status pod.uid)) tracked.1 in
      ended-noted pod tracked.0 (verdict-ended (outcome_of job.spec pod) verdict.0)

  -- at each that stays listed,
  staying-noted : (pod : Pod) → is_staying job pod ≡ true → is_noted_of job pod ≡ true
  staying-noted pod h = listed-noted pod (and_parts (is_tracked pod) (is_listed job.status pod.uid) h).1

  -- at each whose finalizer is to go,
  release-noted : (own : List Pod) (pod : Pod) → is_to_release job own pod ≡ true → is_noted_of job pod ≡ true
  release-noted own pod h =
      let ended = not (same_outcome (outcome_of job.spec pod) Alive) in
      let fits = not (is_left_over job own pod) in
      let tracked = and_parts (is_tracked pod) ((ended && fits) || is_listed job.status pod.uid) h in
      elim (or_cases (ended && fits) (is_listed job.status pod.uid) tracked.1) [
        | inl e ↦ ended-noted pod tracked.0 (and_parts ended fits e).0
        | inr l ↦ listed-noted pod l
      ]

  -- and at the pod of each listed UID.
  tracked-noted : (u : Uid) → is_listed job.status u ≡ true → (pod : Pod) → is_tracked_as u pod ≡ true → is_noted_of job pod ≡ true
  tracked-noted u l pod h =
      let is = same_uid-eq pod.uid u (and_parts (is_tracked pod) (same_uid pod.uid u) h).1 in
      listed-noted pod (ap (is_listed job.status) is ∙ l)

module _ (job : Job) (own : List Pod) where
  same-candidates : candidates job (filter (is_noted_of job) own) ≡ candidates job own
  same-candidates = filter_within (is_candidate job) (is_noted_of job) (candidate-noted job) own

  same-room : room job (filter (is_noted_of job) own) ≡ room job own
  same-room = ap (λ pods. MOST_UNCOUNTED - length pods) (filter_within (is_staying job) (is_noted_of job) (staying-noted job) own)

  same-release : to_release job (filter (is_noted_of job) own) ≡ to_release job own
  same-release =
      (λ i. filter (λ pod. is_tracked pod && ((not (same_outcome (outcome_of job.spec pod) Alive) && not
      (is_candidate job pod && not (has_room job.spec (same-room i) (same-candidates i) pod))) || is_listed job.status
      pod.uid)) (filter (is_noted_of job) own))
      ∙ filter_within (is_to_release job own) (is_noted_of job) (release-noted job own) own

  same-stayed : (uids : List Uid) → ((u : Uid) → is_in u uids ≡ true → is_listed job.status u ≡ true) → stayed (filter (is_noted_of job) own) uids ≡ stayed own uids
  same-stayed uids listed =
      filter_same (has_tracked (filter (is_noted_of job) own)) (has_tracked own) uids
      (each_in (λ u. has_tracked (filter (is_noted_of job) own) u ≡ has_tracked own u) uids
      (λ u h. any_within (is_tracked_as u) (is_noted_of job) (tracked-noted job u (listed u h)) own))

  same-left : (uids : List Uid) → ((u : Uid) → is_in u uids ≡ true → is_listed job.status u ≡ true) → left (filter (is_noted_of job) own) uids ≡ left own uids
  same-left uids listed =
      omega (arith, stayed_and_left (filter (is_noted_of job) own) uids, stayed_and_left own uids, ap length (same-stayed uids listed))

  in-succeeded : (u : Uid) → is_in u job.status.uncounted_succeeded ≡ true → is_listed job.status u ≡ true
  in-succeeded u h = or_left (is_in u job.status.uncounted_succeeded) (is_in u job.status.uncounted_failed) h

  in-failed : (u : Uid) → is_in u job.status.uncounted_failed ≡ true → is_listed job.status u ≡ true
  in-failed u h = or_right (is_in u job.status.uncounted_succeeded) (is_in u job.status.uncounted_failed) h

  -- What is counted of the Job's own pods depends on these parts.
  same-counted : counted_of job (filter (is_noted_of job) own) ≡ counted_of job own
  same-counted =
      λ i.
      let judged = judged_within job.spec (same-room i) (same-candidates i) in
      let over = left_beyond job.spec (same-room i) (same-candidates i) in
      let with = λ (outcome : Outcome) (pods : List Pod). filter (λ pod. same_outcome (outcome_of job.spec pod) outcome) pods in
      let completed =
      completed_after job.spec.mode (has_end job.status.conditions) (unwrap_or job.spec.completions 0) job.status.completed
      (with Succeeded judged) in
      record {
        uncounted_succeeded =
            merge (same-stayed job.status.uncounted_succeeded in-succeeded i) (listing job.spec.mode (with Succeeded judged));
        uncounted_failed = merge (same-stayed job.status.uncounted_failed in-failed i) (uids_of (with Failed judged));
        succeeded =
            succeeded_after job.spec.mode (job.status.succeeded + same-left job.status.uncounted_succeeded in-succeeded i) completed;
        failed = job.status.failed + same-left job.status.uncounted_failed in-failed i;
        completed = completed;
        failed_indexes = [];
        index_failures = [];
        releases = uids_of (same-release i);
        new_succeeded = gain job.spec.mode (with Succeeded judged) job.status.completed completed;
        new_failed = length (with Failed judged);
        judged_failed = uids_of (with Failed judged);
        left_succeeded = length (with Succeeded over);
        left_failed = length (with Failed over);
      }

-- What is counted in of the pods to look at is what is counted in of all.
pub counted-noted : (job : Job) (pods : List Pod) → counted_in job (filter (is_noted_of job) pods) ≡ counted_in job pods
unfolding counted_in
counted-noted job pods = ap (counted_of job) (own-part job (is_noted_of job) pods) ∙ same-counted job (own_pods job pods)

-- What is to look at for a sync of the Job: it counts the same of these, and what counting asks of all pods holds of them.
module _ (job : Job) (pods some : List Pod) (us vs : List Uid) (of_s : us ≡ job.status.uncounted_succeeded) (of_f : vs ≡ job.status.uncounted_failed)
    (are : some ≡ filter (needs_look job.uid us vs) pods) where
  some-is : some ≡ filter (is_noted_of job) pods
  some-is = are ∙ (λ i. filter (needs_look job.uid (of_s i) (of_f i)) pods)

  pub some-tidy : CountsByIndex job pods → CountsByIndex job some
  some-tidy tidy = subst (CountsByIndex job) (sym some-is) (tidy-part job (is_noted_of job) pods tidy)

  pub some-totals : TotalsFit job pods → TotalsFit job some
  some-totals fit = subst (TotalsFit job) (sym some-is) (totals-part job (is_noted_of job) pods fit)

  pub some-small : All HasSmallIndex pods → All HasSmallIndex some
  some-small small = subst (All HasSmallIndex) (sym some-is) (All-filter (is_noted_of job) HasSmallIndex pods small)

  pub some-few : length some ≤ length pods
  some-few = omega (arith, ap length some-is, length-filter-le (is_noted_of job) pods)

  pub some-counted : counted_in job some ≡ counted_in job pods
  some-counted = ap (counted_in job) some-is ∙ counted-noted job pods
