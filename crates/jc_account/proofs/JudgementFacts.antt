-- The rows of the pods that are judged now, against the pods.
use Rattle.std.proofs.Common.{◌≡◌, ℕ, suc, ◌+◌, ◌<◌, ◌≤◌, nat_lt, add-one, Bool, true, false, not, cond, ◌&&◌, List, [], ◌∷◌, map, filter, length, get_or, drop, drop-cons, Option, Some, None, unwrap_or, refl, ap, ◌∙◌, arith, true≢false, sym}
use Rattle.std.specs.List.{All, cons_option, filter_map}
use Rattle.std.proofs.Math.Bool.{and-false, and-true}
use Rattle.std.proofs.lemmas.Bool.{lt-ltb}
use Rattle.std.proofs.lemmas.List.{length-map}
use Rattle.std.proofs.lemmas.List.Elements.{All-from_recursion, filter_agree, recursion_from_All}
use Rattle.jc_types.specs.declared.numbers.Uid.{Uid}
use Rattle.jc_types.specs.declared.objects.Job.{Job}
use Rattle.jc_types.specs.declared.objects.Pod.{Pod}
use Rattle.jc_types.specs.declared.specifications.JobSpec.{JobSpec}
use Rattle.jc_types.specs.declared.specifications.Mode.{Mode}
use Rattle.jc_types.specs.declared.specifications.Mode.TheVariants.{NonIndexed, Indexed}
use Rattle.jc_types.proofs.ListFacts.{Each-filter, Each-map, filter_filter, filter_none}
use Rattle.jc_states.specs.Bases.{is_own, own_pods}
use Rattle.jc_states.specs.Conditions.{has_end}
use Rattle.jc_states.specs.Indexes.{HasSmallIndex}
use Rattle.jc_states.specs.Listed.{is_listed}
use Rattle.jc_states.specs.PodLists.{IsRising, RisesFrom}
use Rattle.jc_states.specs.Pods.{is_tracked}
use Rattle.jc_states.specs.UidLists.{join, uids_of}
use Rattle.jc_states.proofs.PodListFacts.{rises_filter}
use Rattle.jc_failpol.specs.declared.outcomes.Outcome.{Outcome}
use Rattle.jc_failpol.specs.declared.outcomes.Outcome.TheVariants.{Alive, Succeeded, Failed, Ignored}
use Rattle.jc_failpol.specs.Outcomes.{is_verdict, outcome_of, same_outcome}
use Rattle.jc_account.specs.Accounts.{completed_in, new_uids}
use Rattle.jc_account.specs.Judged.{candidates, fits, is_candidate, is_new, judged_now, left_with, newly, room}
use Rattle.jc_account.specs.declared.judgements.Judgement.{Judgement}
use Rattle.jc_account.specs.Judgements.{completed_judged, first_beyond, first_left, HasSmall, index_judged, indexes_judged, judgement_if_new, judgement_of, judgements, rows_beyond, rows_with, rows_within, uids_judged}
use Rattle.jc_account.specs.Modes.{completed_after, indexes_of, kept_indexes}
use Rattle.jc_account.proofs.ListedFacts.{each}
use Rattle.jc_account.proofs.Owned.{filter-least}
use Rattle.jc_account.proofs.RoomFacts.{first-rows, kind-split, rows-judged, rows-left}

-- The rows of the pods that are to be judged.
pub rows-new : (job : Job) (pods : List Pod) → filter_map (judgement_if_new job) pods ≡ judgements job pods
rows-new job [] = refl
rows-new job (pod ∷ pods) = by (is_candidate job pod) (rows-new job pods)
  where
    by : (b : Bool) → filter_map (judgement_if_new job) pods ≡ judgements job pods
        → cons_option (cond b (Some (judgement_of job pod)) None) (filter_map (judgement_if_new job) pods)
        ≡ map (judgement_of job) (cond b (pod ∷ candidates job pods) (candidates job pods))
    by true h = ap (λ rows. judgement_of job pod ∷ rows) h
    by false h = h

-- The UIDs of the rows with an outcome are those of the pods.
uids-rows : (job : Job) (outcome : Outcome) (pods : List Pod) → uids_judged outcome (map (judgement_of job) pods) ≡ uids_of (filter (λ pod. same_outcome (outcome_of job.spec pod) outcome) pods)
uids-rows job outcome [] = refl
uids-rows job outcome (pod ∷ pods) = by (same_outcome (outcome_of job.spec pod) outcome) (uids-rows job outcome pods)
  where
    rows : List Uid
    rows = uids_judged outcome (map (judgement_of job) pods)

    by : (b : Bool) → rows ≡ uids_of (filter (λ p. same_outcome (outcome_of job.spec p) outcome) pods)
        → map (λ row. row.uid) (cond b (judgement_of job pod ∷ filter (λ row. same_outcome row.outcome outcome) (map (judgement_of job) pods)) (filter (λ row. same_outcome row.outcome outcome) (map (judgement_of job) pods)))
        ≡ uids_of (cond b (pod ∷ filter (λ p. same_outcome (outcome_of job.spec p) outcome) pods) (filter (λ p. same_outcome (outcome_of job.spec p) outcome) pods))
    by true h = ap (λ us. pod.uid ∷ us) h
    by false h = h

-- The indexes of the rows that have succeeded are those of the pods.
indexes-rows : (job : Job) (pods : List Pod) → indexes_judged (map (judgement_of job) pods) ≡ indexes_of (filter (λ pod. same_outcome (outcome_of job.spec pod) Succeeded) pods)
indexes-rows job [] = refl
indexes-rows job (pod ∷ pods) = by (same_outcome (outcome_of job.spec pod) Succeeded) (indexes-rows job pods)
  where
    by : (b : Bool) → indexes_judged (map (judgement_of job) pods) ≡ indexes_of (filter (λ p. same_outcome (outcome_of job.spec p) Succeeded) pods)
        → cons_option (cond b pod.index None) (indexes_judged (map (judgement_of job) pods))
        ≡ indexes_of (cond b (pod ∷ filter (λ p. same_outcome (outcome_of job.spec p) Succeeded) pods) (filter (λ p. same_outcome (outcome_of job.spec p) Succeeded) pods))
    by true h = ap (cons_option pod.index) h
    by false h = h

-- The index of a success below a number comes before those of the later rows.
pub index-next : (c n i j : ℕ) (rows : List Judgement) (d : Judgement) → i + 1 ≡ j → i < length rows → Some n ≡ index_judged (get_or rows i d) → n < c
    → filter (λ k. nat_lt k c) (indexes_judged (drop i rows)) ≡ n ∷ filter (λ k. nat_lt k c) (indexes_judged (drop j rows))
index-next c n i j rows d next within has below =
    ap (λ rs. filter (λ k. nat_lt k c) (indexes_judged rs)) (drop-cons rows i d within)
    ∙ ap (λ o. filter (λ k. nat_lt k c) (cons_option o (indexes_judged (drop (suc i) rows)))) (sym has)
    ∙ ap (λ b. cond b (n ∷ filter (λ k. nat_lt k c) (indexes_judged (drop (suc i) rows))) (filter (λ k. nat_lt k c) (indexes_judged (drop (suc i) rows)))) (lt-ltb n c below)
    ∙ ap (λ j. n ∷ filter (λ k. nat_lt k c) (indexes_judged (drop j rows))) (sym (add-one i) ∙ next)

module _ (job : Job) (pods : List Pod) where
  -- The rows of the pods that are judged now.
  abbrev pub rows_now : List Judgement
  rows_now = map (judgement_of job) (judged_now job (own_pods job pods))

  pub uids-newly : (outcome : Outcome) → uids_judged outcome rows_now ≡ new_uids job pods outcome
  uids-newly outcome = uids-rows job outcome (judged_now job (own_pods job pods))

  indexes-newly : indexes_judged rows_now ≡ indexes_of (newly job (own_pods job pods) Succeeded)
  indexes-newly = indexes-rows job (judged_now job (own_pods job pods))

  pub completed-newly : completed_judged job.spec.mode (has_end job.status.conditions) (unwrap_or job.spec.completions 0) job.status.completed rows_now ≡ completed_in job (own_pods job pods)
  completed-newly = by job.spec.mode
    where
      by : (mode : Mode) → completed_judged mode (has_end job.status.conditions) (unwrap_or job.spec.completions 0) job.status.completed rows_now
          ≡ completed_after mode (has_end job.status.conditions) (unwrap_or job.spec.completions 0) job.status.completed (newly job (own_pods job pods) Succeeded)
      by NonIndexed = refl
      by Indexed =
          ap (λ ns. join (kept_indexes (has_end job.status.conditions) (unwrap_or job.spec.completions 0) job.status.completed) (filter (λ n. nat_lt n (unwrap_or job.spec.completions 0)) ns))
          indexes-newly

  -- No more are judged and left over than there are pods.
  pub newly-few : (outcome : Outcome) → length (new_uids job pods outcome) + length (left_with job (own_pods job pods) outcome) ≤ length pods
  newly-few outcome =
      let own = own_pods job pods in
      let same = λ (pod : Pod). same_outcome (outcome_of job.spec pod) outcome in
      omega (
        arith,
        length-map (newly job own outcome) (λ (pod : Pod). pod.uid),
        kind-split same (fits job own) (candidates job own),
        filter-least same (candidates job own),
        filter-least (is_candidate job) own,
        filter-least (is_own job) pods,
      )

  -- No more rows are there than pods.
  pub rows-few : length (judgements job (own_pods job pods)) ≤ length pods
  rows-few =
      omega (
        arith,
        length-map (candidates job (own_pods job pods)) (judgement_of job),
        filter-least (is_candidate job) (own_pods job pods),
        filter-least (is_own job) pods,
      )

  -- Their indexes are as small as those of the pods.
  pub rows-small : All HasSmallIndex pods → All HasSmall rows_now
  rows-small small =
      All-from_recursion HasSmall rows_now
      (Each-map (judgement_of job) HasSmall (judged_now job (own_pods job pods))
      (Each-filter HasSmallIndex (fits job (own_pods job pods)) (candidates job (own_pods job pods))
      (Each-filter HasSmallIndex (is_candidate job) (own_pods job pods)
      (Each-filter HasSmallIndex (is_own job) pods (recursion_from_All HasSmallIndex pods small)))))

-- ---- what is computed over rows is what is said of the pods

-- The first UID for which there is no room, of the rows.
pub first-is : (job : Job) (pods : List Pod) (rises : IsRising pods) (spec : JobSpec) (first : Option Uid) (n : ℕ) (rows : List Judgement)
    → spec ≡ job.spec → n ≡ room job (own_pods job pods) → rows ≡ judgements job (own_pods job pods)
    → first ≡ first_beyond spec.mode n rows → first ≡ first_left job (own_pods job pods)
first-is job pods rises spec first n rows at is_room are is =
    is ∙ ap (λ (s : JobSpec). first_beyond s.mode n rows) at
    ∙ ap (λ k. first_beyond job.spec.mode k rows) is_room
    ∙ ap (first_beyond job.spec.mode (room job (own_pods job pods))) are
    ∙ first-rows job (own_pods job pods) 0 (rises_filter 0 (is_own job) pods rises)

module _ (job : Job) (pods : List Pod) (rises : IsRising pods) (spec : JobSpec) (at : spec ≡ job.spec) (first : Option Uid) (is_first : first ≡ first_left job (own_pods job pods))
    (rows : List Judgement) (are : rows ≡ judgements job (own_pods job pods)) where
  up : RisesFrom 0 (own_pods job pods)
  up = rises_filter 0 (is_own job) pods rises

  -- The rows of the pods that are judged now.
  pub judged-is : (judged : List Judgement) → judged ≡ rows_within spec.mode first rows → judged ≡ rows_now job pods
  judged-is judged is =
      is ∙ ap (λ (s : JobSpec). rows_within s.mode first rows) at
      ∙ ap (λ f. rows_within job.spec.mode f rows) is_first
      ∙ ap (rows_within job.spec.mode (first_left job (own_pods job pods))) are
      ∙ rows-judged job (own_pods job pods) 0 up

  -- How many pods with an outcome are left over.
  pub left-is : (outcome : Outcome) (n : ℕ) → n ≡ length (rows_with outcome (rows_beyond spec.mode first rows)) → n ≡ length (left_with job (own_pods job pods) outcome)
  left-is outcome n is =
      is ∙ ap (λ (s : JobSpec). length (rows_with outcome (rows_beyond s.mode first rows))) at
      ∙ ap (λ f. length (rows_with outcome (rows_beyond job.spec.mode f rows))) is_first
      ∙ ap (λ rs. length (rows_with outcome (rows_beyond job.spec.mode (first_left job (own_pods job pods)) rs))) are
      ∙ rows-left job (own_pods job pods) 0 up outcome

-- No more are judged and left over than there are pods.
pub judged-few : (job : Job) (pods : List Pod) (outcome : Outcome) (uids : List Uid) (n : ℕ) → uids ≡ new_uids job pods outcome → n ≡ length (left_with job (own_pods job pods) outcome) → length uids + n ≤ length pods
judged-few job pods outcome uids n are is = omega (arith, ap length are, is, newly-few job pods outcome)

-- A pod that is to be judged has one of two outcomes.
new-pod : (t : Bool) (o want : Outcome) (listed fit : Bool) → is_verdict want ≡ true → (((t && (is_verdict o && not listed)) && fit) && same_outcome o want) ≡ (((t && same_outcome o want) && not listed) && fit)
new-pod t o Alive listed fit v = absurd (true≢false (sym v))
new-pod t o Ignored listed fit v = absurd (true≢false (sym v))
new-pod false o want listed fit v = refl
new-pod true Alive Succeeded listed fit v = refl
new-pod true Alive Failed listed fit v = refl
new-pod true Succeeded Succeeded listed fit v = and-true (not listed && fit)
new-pod true Succeeded Failed listed fit v = and-false (not listed && fit)
new-pod true Failed Succeeded listed fit v = and-false (not listed && fit)
new-pod true Failed Failed listed fit v = and-true (not listed && fit)
new-pod true Ignored Succeeded listed fit v = refl
new-pod true Ignored Failed listed fit v = refl

-- The pods that are judged now with an outcome are the new ones of this outcome for which there is room.
pub newly-is : (job : Job) (own : List Pod) (outcome : Outcome) → is_verdict outcome ≡ true → newly job own outcome ≡ filter (λ pod. is_new job outcome pod && fits job own pod) own
newly-is job own outcome v =
    ap (filter (λ pod. same_outcome (outcome_of job.spec pod) outcome)) (filter_filter (fits job own) (is_candidate job) own)
    ∙ filter_filter (λ pod. same_outcome (outcome_of job.spec pod) outcome) (λ pod. is_candidate job pod && fits job own pod) own
    ∙ filter_agree (λ pod. (is_candidate job pod && fits job own pod) && same_outcome (outcome_of job.spec pod) outcome) (λ pod. is_new job outcome pod && fits job own pod)
    (λ pod. new-pod (is_tracked pod) (outcome_of job.spec pod) outcome (is_listed job.status pod.uid) (fits job own pod) v) own

-- A pod that is to be judged has no other outcome.
old-pod : (t : Bool) (o want : Outcome) (listed : Bool) → is_verdict want ≡ false → ((t && (is_verdict o && not listed)) && same_outcome o want) ≡ false
old-pod t o Succeeded listed v = absurd (true≢false v)
old-pod t o Failed listed v = absurd (true≢false v)
old-pod false o want listed v = refl
old-pod true Alive want listed v = refl
old-pod true Ignored want listed v = refl
old-pod true Succeeded Alive listed v = and-false (not listed)
old-pod true Succeeded Ignored listed v = and-false (not listed)
old-pod true Failed Alive listed v = and-false (not listed)
old-pod true Failed Ignored listed v = and-false (not listed)

-- With an outcome that is no verdict none is judged.
pub newly-none : (job : Job) (own : List Pod) (outcome : Outcome) → is_verdict outcome ≡ false → newly job own outcome ≡ []
newly-none job own outcome v =
    filter_filter (λ pod. same_outcome (outcome_of job.spec pod) outcome) (fits job own) (candidates job own)
    ∙ filter_filter (λ pod. fits job own pod && same_outcome (outcome_of job.spec pod) outcome) (is_candidate job) own
    ∙ filter_none (λ pod. is_candidate job pod && (fits job own pod && same_outcome (outcome_of job.spec pod) outcome)) own
    (each (λ pod. (is_candidate job pod && (fits job own pod && same_outcome (outcome_of job.spec pod) outcome)) ≡ false)
    (λ pod. by (is_candidate job pod) (fits job own pod) (same_outcome (outcome_of job.spec pod) outcome) (old-pod (is_tracked pod) (outcome_of job.spec pod) outcome (is_listed job.status pod.uid) v)) own)
  where
    by : (c f s : Bool) → (c && s) ≡ false → (c && (f && s)) ≡ false
    by true true s h = h
    by true false s h = refl
    by false f s h = refl
