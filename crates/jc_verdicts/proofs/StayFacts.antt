-- At which pods of a book a write has to look: those that stay. Of the others none is judged, and none takes room.
use Rattle.std.proofs.Common.{◌≡◌, ◌-◌, Bool, true, false, cond, not, ◌&&◌, ◌||◌, List, [], ◌∷◌, map, filter, find, length, Option, Some, None, is_some, refl, sym, ap, ◌∙◌, true≢false}
use Rattle.std.specs.Option.{option_map, option_map_or, option_or}
use Rattle.std.proofs.lemmas.Bool.{and_from, and_parts, or_left, or_right}
use Rattle.jc_types.specs.declared.limits.TheConstants.{MOST_UNCOUNTED}
use Rattle.jc_types.specs.declared.numbers.Uid.{Uid}
use Rattle.jc_types.specs.declared.objects.Job.{Job}
use Rattle.jc_types.specs.declared.objects.Pod.{Pod}
use Rattle.jc_types.specs.declared.specifications.JobSpec.{JobSpec}
use Rattle.jc_types.specs.Keys.{same_uid}
use Rattle.jc_types.proofs.ListFacts.{Each-both, Each-filter, Each-passes, Each-weaker, filter_same, filter_within}
use Rattle.jc_log.specs.Tables.{at}
use Rattle.jc_states.specs.Noted.{is_at_odds}
use Rattle.jc_states.specs.PodLists.{IsRising}
use Rattle.jc_states.specs.Pods.{is_active, is_tracked}
use Rattle.jc_states.specs.UidLists.{is_in, uids_of}
use Rattle.jc_states.proofs.PodListFacts.{pod_among, rises-found}
use Rattle.jc_states.proofs.UidListFacts.{Found, some_in}
use Rattle.jc_failpol.specs.declared.outcomes.Outcome.{Outcome}
use Rattle.jc_failpol.specs.declared.outcomes.Outcome.TheVariants.{Failed, Succeeded}
use Rattle.jc_failpol.specs.Outcomes.{is_verdict, outcome_of, same_outcome}
use Rattle.jc_failpol.proofs.EndedFacts.{ended-odds, verdict-ended}
use Rattle.jc_account.specs.declared.judgements.Judgement.{Judgement as Row}
use Rattle.jc_account.specs.Judged.{has_come_to, is_fresh}
use Rattle.jc_account.specs.Modes.{indexes_of}
use Rattle.jc_account.specs.Rooms.{has_room, joins_list, judged_within}
use Rattle.jc_ledger.specs.Ledger.{within}
use Rattle.jc_verdicts.specs.Verdicts.{has_joined_list, is_row_of, is_success_by, outcome_in, row_for, rows_for, space_by, stays, success_indexes, waiting}
use Rattle.jc_verdicts.proofs.VerdictRows.{indexes_are}

-- A tracked pod that is at odds is not active.
idle : (pod : Pod) → is_tracked pod ≡ true → is_at_odds pod ≡ true → not (is_active pod) ≡ true
idle pod tracked odds = by (is_tracked pod) tracked odds
  where
    by : (t : Bool) → t ≡ true → cond t (not (is_active pod)) (is_active pod) ≡ true → not (is_active pod) ≡ true
    by true e o = o
    by false e o = absurd (true≢false (sym e))

-- ---- what is judged is not active

-- The rows of pods have an outcome for their UIDs.
outcome_uids : (spec : JobSpec) (u : Uid) (pods : List Pod) → is_some (outcome_in (map (row_for spec) pods) u) ≡ is_in u (uids_of pods)
outcome_uids spec u [] = refl
outcome_uids spec u (pod ∷ pods) = by (same_uid pod.uid u) (outcome_uids spec u pods)
  where
    by : (b : Bool) → is_some (outcome_in (map (row_for spec) pods) u) ≡ is_in u (uids_of pods)
        → is_some (option_map (λ (row : Row). row.outcome) (cond b (Some (row_for spec pod)) (find (is_row_of u) (map (row_for spec) pods)))) ≡ (b || is_in u (uids_of pods))
    by true ih = refl
    by false ih = ih

-- A pod that is still to be judged is at odds.
fresh-odds : (spec : JobSpec) (judged : Uid → Bool) (pod : Pod) → is_fresh spec judged pod ≡ true → is_at_odds pod ≡ true
fresh-odds spec judged pod h =
    let parts = and_parts (is_tracked pod) (is_verdict (outcome_of spec pod) && not (judged pod.uid)) h in
    ended-odds spec pod parts.0
    (verdict-ended (outcome_of spec pod) (and_parts (is_verdict (outcome_of spec pod)) (not (judged pod.uid)) parts.1).0)

module _ (known : List (Uid × Outcome)) where
  -- A tracked pod at odds stays.
  odds-stay : (pod : Pod) → is_tracked pod ≡ true → is_at_odds pod ≡ true → stays known pod ≡ true
  odds-stay pod tracked odds =
      and_from (is_tracked pod) (not (is_active pod) || is_some (at same_uid known pod.uid)) tracked
      (or_left (not (is_active pod)) (is_some (at same_uid known pod.uid)) (idle pod tracked odds))

  -- A pod that is still to be judged stays.
  fresh-stays : (spec : JobSpec) (pod : Pod) → is_fresh spec (λ u. is_some (at same_uid known u)) pod ≡ true → stays known pod ≡ true
  fresh-stays spec pod h =
      odds-stay pod (and_parts (is_tracked pod) (is_verdict (outcome_of spec pod) && not (is_some (at same_uid known pod.uid))) h).0
      (fresh-odds spec (λ u. is_some (at same_uid known u)) pod h)

  -- A pod that joined a list stays.
  held-stays : (spec : JobSpec) (pod : Pod) → has_joined_list spec (at same_uid known) pod ≡ true → stays known pod ≡ true
  held-stays spec pod held =
      and_from (is_tracked pod) (not (is_active pod) || is_some (at same_uid known pod.uid)) parts.0
      (or_right (not (is_active pod)) (is_some (at same_uid known pod.uid)) (by (at same_uid known pod.uid) parts.1))
    where
      parts : (is_tracked pod ≡ true) × (option_map_or (λ outcome. joins_list spec.mode outcome) (at same_uid known pod.uid) false ≡ true)
      parts = and_parts (is_tracked pod) (option_map_or (λ outcome. joins_list spec.mode outcome) (at same_uid known pod.uid) false) held

      by : (o : Option Outcome) → option_map_or (λ outcome. joins_list spec.mode outcome) o false ≡ true → is_some o ≡ true
      by (Some outcome) joins = refl
      by None joins = absurd (true≢false (sym joins))

  -- A pod that has succeeded stays.
  success-stays : (job : Job) (pod : Pod) → is_success_by job (at same_uid known) pod ≡ true → stays known pod ≡ true
  success-stays job pod h =
      let come = and_parts (has_come_to job Succeeded pod) (not (option_map_or (λ outcome. same_outcome outcome Failed) (at same_uid known pod.uid) false)) h in
      let parts = and_parts (is_tracked pod) (same_outcome (outcome_of job.spec pod) Succeeded) come.0 in
      odds-stay pod parts.0
      (ended-odds job.spec pod parts.0
      (verdict-ended (outcome_of job.spec pod)
      (or_left (same_outcome (outcome_of job.spec pod) Succeeded) (same_outcome (outcome_of job.spec pod) Failed) parts.1)))

  -- The rows of what is judged of those that stay are those of what is judged of all.
  pub rows-kept_pods : (spec : JobSpec) (pods : List Pod) → rows_for spec (at same_uid known) (filter (stays known) pods) ≡ rows_for spec (at same_uid known) pods
  rows-kept_pods spec pods =
      ap (λ (ps : List Pod). map (row_for spec) (judged_within spec (space_by spec (at same_uid known) (filter (stays known) pods)) ps))
      (filter_within (is_fresh spec (λ u. is_some (at same_uid known u))) (stays known) (fresh-stays spec) pods)
      ∙ ap (λ (ps : List Pod). map (row_for spec) (judged_within spec (MOST_UNCOUNTED - length ps) (waiting spec (at same_uid known) pods)))
      (filter_within (has_joined_list spec (at same_uid known)) (stays known) (held-stays spec) pods)

  -- So are the indexes of the successes.
  pub indexes-kept_pods : (job : Job) (pods : List Pod) → success_indexes job (at same_uid known) (filter (stays known) pods) ≡ success_indexes job (at same_uid known) pods
  indexes-kept_pods job pods =
      sym (indexes_are job (at same_uid known) (filter (stays known) pods))
      ∙ ap (λ ps. within job.spec (indexes_of ps)) (filter_within (is_success_by job (at same_uid known)) (stays known) (success-stays job) pods)
      ∙ indexes_are job (at same_uid known) pods

module _ (known : List (Uid × Outcome)) (pods : List Pod) (rises : IsRising pods) where
  -- None of the pods that are judged now is active: the same ones stay after it.
  pub judged-stay : (spec : JobSpec) (more : List (Uid × Outcome)) (new : List Row) → new ≡ rows_for spec (at same_uid known) pods
      → ((u : Uid) → at same_uid more u ≡ option_or (at same_uid known u) (outcome_in new u)) → filter (stays more) pods ≡ filter (stays known) pods
  judged-stay spec more new are notes =
      filter_same (stays more) (stays known) pods
      (Each-weaker (λ pod. pod_among pod.uid pods ≡ Some pod) (λ pod. stays more pod ≡ stays known pod) one pods (rises-found 0 pods rises))
    where
      found : (u : Uid) → is_some (outcome_in new u) ≡ true
          → Found (λ pod. (pod_among pod.uid pods ≡ Some pod) × (is_fresh spec (λ v. is_some (at same_uid known v)) pod ≡ true))
          (has_room spec (space_by spec (at same_uid known) pods) (waiting spec (at same_uid known) pods)) u
      found u s =
          some_in (λ pod. (pod_among pod.uid pods ≡ Some pod) × (is_fresh spec (λ v. is_some (at same_uid known v)) pod ≡ true))
          (has_room spec (space_by spec (at same_uid known) pods) (waiting spec (at same_uid known) pods)) u (waiting spec (at same_uid known) pods)
          (Each-both (λ pod. pod_among pod.uid pods ≡ Some pod) (λ pod. is_fresh spec (λ v. is_some (at same_uid known v)) pod ≡ true) (waiting spec (at same_uid known) pods)
          (Each-filter (λ pod. pod_among pod.uid pods ≡ Some pod) (is_fresh spec (λ v. is_some (at same_uid known v))) pods (rises-found 0 pods rises))
          (Each-passes (is_fresh spec (λ v. is_some (at same_uid known v))) pods))
          (sym (outcome_uids spec u (judged_within spec (space_by spec (at same_uid known) pods) (waiting spec (at same_uid known) pods)))
          ∙ ap (λ rows. is_some (outcome_in rows u)) (sym are) ∙ s)

      odd : (pod : Pod) → pod_among pod.uid pods ≡ Some pod → is_some (outcome_in new pod.uid) ≡ true → is_at_odds pod ≡ true
      odd pod there s =
          let other = found pod.uid s in
          ap (λ o. option_map_or is_at_odds o false) (sym there ∙ ap (λ u. pod_among u pods) (sym other.uid) ∙ other.has.0)
          ∙ fresh-odds spec (λ v. is_some (at same_uid known v)) other.pod other.has.1

      one : (pod : Pod) → pod_among pod.uid pods ≡ Some pod → stays more pod ≡ stays known pod
      one pod there =
          ap (λ o. is_tracked pod && (not (is_active pod) || is_some o)) (notes pod.uid)
          ∙ by (is_tracked pod) refl (not (is_active pod)) refl (at same_uid known pod.uid) (outcome_in new pod.uid) refl
        where
          by : (t : Bool) → is_tracked pod ≡ t → (a : Bool) → not (is_active pod) ≡ a → (k n : Option Outcome) → outcome_in new pod.uid ≡ n → (t && (a || is_some (option_or k n))) ≡ (t && (a || is_some k))
          by false t a i k n e = refl
          by true t true i k n e = refl
          by true t false i (Some k) n e = refl
          by true t false i None None e = refl
          by true t false i None (Some n) e = absurd (true≢false (sym (idle pod t (odd pod there (ap is_some e))) ∙ i))
