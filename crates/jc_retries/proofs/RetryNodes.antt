-- What the node does to a pod never raises how many pods may still be made where pods fail.
use Rattle.std.proofs.Common.{◌≡◌, ℕ, ◌+◌, ◌-◌, ◌≤◌, nat_lt, Bool, true, false, cond, not, ◌&&◌, ◌||◌, List, ◌∷◌, ◌++◌, Option, Some, pos, refl, sym, ap, ◌∙◌, arith, true≢false}
use Rattle.std.specs.Option.{option_map_or}
use Rattle.std.proofs.lemmas.Bool.{and_right}
use Rattle.std.specs.Ordering.{int_eq}
use Rattle.jc_types.specs.declared.actions.End.{End}
use Rattle.jc_types.specs.declared.objects.Entry.{Entry}
use Rattle.jc_types.specs.declared.objects.Job.{Job}
use Rattle.jc_types.specs.declared.objects.KeyNames.{KeyNames as Key}
use Rattle.jc_types.specs.declared.objects.Phase.TheVariants as phase
use Rattle.jc_types.specs.declared.objects.Pod.{Pod}
use Rattle.jc_log.specs.Requests.{with_report}
use Rattle.jc_states.specs.Conditions.{has_target}
use Rattle.jc_states.specs.Listed.{is_listed}
use Rattle.jc_states.specs.Pods.{is_final, is_marked, is_open, is_pending, is_tracked, is_tracked_active}
use Rattle.jc_failpol.specs.declared.outcomes.Outcome.{Outcome}
use Rattle.jc_failpol.specs.declared.outcomes.Outcome.TheVariants as outcome
use Rattle.jc_failpol.specs.Outcomes.{is_failed, is_verdict, outcome_of, same_outcome}
use Rattle.jc_account.specs.Judged.{is_candidate}
use Rattle.jc_history.specs.Nodes.{NodeAct, Stop, Start, Again, Finish, act_on, change_by, end_at, pod_end}
use Rattle.jc_making.specs.Making.{IsCounted}
use Rattle.jc_making.proofs.Lists.{one_if, passing-mid}
use Rattle.jc_making.proofs.NodeFacts.{again-unmet, bare-idle, bare-unmet, by-act, failure-unmet, finished-idle, is-active, marked-idle, started-unmet, stays-active, stopped-unmet, success-unmet, unlisted}
use Rattle.jc_making.proofs.PodFacts.{unmet}
use Rattle.jc_retries.specs.Retries.{creations_allowed, failures_left, has_failed_for_good, ignored_left, is_ignored_end, may_be_retried, pods_failed, will_be_ignored}
use Rattle.jc_retries.proofs.FailureFacts.{open-unfailed}
use Rattle.jc_retries.proofs.OutcomeFacts.{again-keeps, counts-or-ignored, finish-is, start-keeps}
use Rattle.jc_retries.proofs.Spending.{spends}

-- The pod is a new failure.
abbrev is_new_failure : Job → Pod → Bool
is_new_failure job p = is_candidate job p && has_failed_for_good job p

-- One that has not failed is none.
unfailed : (job : Job) (p : Pod) → is_failed p.phase ≡ false → is_new_failure job p ≡ false
unfailed job p e = ap (λ b. is_candidate job p && (b && same_outcome (outcome_of job.spec p) outcome.Failed)) e ∙ and_right (is_candidate job p) false refl

-- A tracked pod whose failure counts is one, where it is not listed.
fails-anew : (job : Job) (p : Pod) → is_tracked p ≡ true → is_listed job.status p.uid ≡ false → is_failed p.phase ≡ true → same_outcome (outcome_of job.spec p) outcome.Failed ≡ true → is_new_failure job p ≡ true
fails-anew job p t l f o =
    (λ i. (t i && (is_verdict (outcome_of job.spec p) && not (l i))) && (f i && same_outcome (outcome_of job.spec p) outcome.Failed)) ∙ by (outcome_of job.spec p) o
  where
    by : (v : Outcome) → same_outcome v outcome.Failed ≡ true → ((is_verdict v && true) && same_outcome v outcome.Failed) ≡ true
    by outcome.Alive e = absurd (true≢false (sym e))
    by outcome.Succeeded e = absurd (true≢false (sym e))
    by outcome.Failed e = refl
    by outcome.Ignored e = absurd (true≢false (sym e))

module _ (ends : List End) (made : ℕ) (job : Job) (front back : List Pod) where
  failed-mid : (p : Pod) → pods_failed job (front ++ p ∷ back) ≡ one_if (is_new_failure job p) + pods_failed job (front ++ back)
  failed-mid p = let mid = passing-mid (is_candidate job) (has_failed_for_good job) front back p in omega (arith, mid)

  ignored-mid : (p : Pod) → ignored_left ends made job (front ++ p ∷ back) ≡ one_if (is_tracked_active p && will_be_ignored ends job p) + ignored_left ends made job (front ++ back)
  ignored-mid p = let mid = passing-mid is_tracked_active (will_be_ignored ends job) front back p in omega (arith, mid)

  -- A pod without its finalizer counts for nothing.
  pub gone-allowed : (p : Pod) → is_tracked p ≡ false → creations_allowed ends made job (front ++ p ∷ back) ≡ creations_allowed ends made job (front ++ back)
  gone-allowed p e =
      λ i. cond ((has_target job.status.conditions || job.spec.suspend) || nat_lt job.spec.backoff_limit (failed i)) 0
      (bare-unmet job front back p e i + (((job.spec.backoff_limit + 1) - failed i) + ignored i))
    where
      failed : pods_failed job (front ++ p ∷ back) ≡ pods_failed job (front ++ back)
      failed =
          let mid = failed-mid p in
          let none = ap (λ b. one_if ((b && (is_verdict (outcome_of job.spec p) && not (is_listed job.status p.uid))) && has_failed_for_good job p)) e in
          omega (arith, mid, none)

      ignored : ignored_left ends made job (front ++ p ∷ back) ≡ ignored_left ends made job (front ++ back)
      ignored = let mid = ignored-mid p in let none = ap (λ b. one_if (b && will_be_ignored ends job p)) (bare-idle p e) in omega (arith, mid, none)

  module _ (fates : Key → Option (List End)) (log : List Entry) (pod : Pod) (counted : IsCounted job (front ++ pod ∷ back)) (fated : pod_end fates pod ≡ end_at pod.serial ends) where
    abbrev then : NodeAct → Pod
    then act = with_report log pod (change_by pod act)

    abbrev was : List Pod
    was = front ++ pod ∷ back

    abbrev are : NodeAct → List Pod
    are act = front ++ then act ∷ back

    abbrev Falls : NodeAct → Type 0
    Falls act = creations_allowed ends made job (are act) ≤ creations_allowed ends made job was

    -- It is enough that no fewer have failed, and that no more may be made unless more had failed than the limit allows.
    lower : (act : NodeAct) → pods_failed job was ≤ pods_failed job (are act) → (pods_failed job was ≤ job.spec.backoff_limit → may_be_retried ends made job (are act) ≤ may_be_retried ends made job was) → Falls act
    lower act more less =
        spends (has_target job.status.conditions || job.spec.suspend) job.spec.backoff_limit (pods_failed job was) (pods_failed job (are act))
        (may_be_retried ends made job was) (may_be_retried ends made job (are act)) more less

    bare : is_tracked pod ≡ false → (act : NodeAct) → Falls act
    bare e act = let first = gone-allowed (then act) e in let second = gone-allowed pod e in omega (arith, first, second)

    module _ (opened : is_open pod ≡ true) where
      -- It has not failed before.
      failed-before : pods_failed job was ≡ pods_failed job (front ++ back)
      failed-before = let mid = failed-mid pod in let none = ap one_if (unfailed job pod (open-unfailed pod.phase (not-open (is_final pod.phase) opened))) in omega (arith, mid, none)
        where
          not-open : (b : Bool) → not b ≡ true → b ≡ false
          not-open true e = absurd (true≢false (sym e))
          not-open false e = refl

      stops : is_marked pod ≡ true → Falls Stop
      stops marked =
          let same = stopped-unmet job front back log pod opened marked in
          let before = failed-before in
          let behind = failed-mid (then Stop) in
          let first = ignored-mid pod in
          let idle = ap (λ b. one_if (b && will_be_ignored ends job pod)) (marked-idle job front back log pod marked) in
          let second : ignored_left ends made job (are Stop) ≡ 0 + ignored_left ends made job (front ++ back) = ignored-mid (then Stop) in
          lower Stop (omega (arith, before, behind)) (λ few. omega (arith, same, before, behind, first, idle, second))

      module _ (unmarked : is_marked pod ≡ false) (tracked : is_tracked pod ≡ true) where
        active : is_tracked_active pod ≡ true
        active = is-active job front back log pod counted opened unmarked tracked

        ignored-before : ignored_left ends made job was ≡ one_if (will_be_ignored ends job pod) + ignored_left ends made job (front ++ back)
        ignored-before = let mid = ignored-mid pod in let on = ap (λ b. one_if (b && will_be_ignored ends job pod)) active in omega (arith, mid, on)

        -- A pod that goes on is to end as before.
        goes-on : (act : NodeAct) → is_failed (then act).phase ≡ false → is_tracked_active (then act) ≡ true → unmet job (are act) ≡ unmet job was
            → ((end : End) → is_ignored_end job.spec end (then act) ≡ is_ignored_end job.spec end pod) → Falls act
        goes-on act alive on same keeps =
            let before = failed-before in
            let behind = failed-mid (then act) in
            let none = ap one_if (unfailed job (then act) alive) in
            let first = ignored-before in
            let second = ignored-mid (then act) in
            let still = ap (λ b. one_if (b && will_be_ignored ends job (then act))) on in
            let as_was : one_if (will_be_ignored ends job (then act)) ≡ one_if (will_be_ignored ends job pod) = (λ i. one_if (option_map_or (λ end. keeps end i) (end_at pod.serial ends) false)) in
            lower act (omega (arith, before, behind, none)) (λ few. omega (arith, same, before, behind, none, first, second, still, as_was))

        starts : is_pending pod.phase ≡ true → Falls Start
        starts e =
            goes-on Start refl (stays-active job front back log pod counted opened unmarked tracked) (started-unmet job front back log pod counted opened unmarked tracked)
            (λ end. start-keeps job.spec end log pod e)

        again : is_pending pod.phase ≡ false → Falls Again
        again e =
            goes-on Again refl (stays-active job front back log pod counted opened unmarked tracked) (again-unmet job front back log pod counted opened unmarked tracked)
            (λ end. again-keeps job.spec end log pod e)

        module _ (began : is_pending pod.phase ≡ false) (end : End) (is : pod_end fates pod ≡ Some end) where
          abbrev gone : Pod
          gone = then (Finish end)

          failed-behind : pods_failed job (are (Finish end)) ≡ one_if (is_new_failure job gone) + pods_failed job (front ++ back)
          failed-behind = failed-mid gone

          ignored-behind : ignored_left ends made job (are (Finish end)) ≡ ignored_left ends made job (front ++ back)
          ignored-behind =
              let mid = ignored-mid gone in
              let idle = ap (λ b. one_if (b && will_be_ignored ends job gone)) (finished-idle job front back log pod counted opened unmarked tracked end) in
              omega (arith, mid, idle)

          succeeds : int_eq end.exit (pos 0) ≡ true → Falls (Finish end)
          succeeds e =
              let before = failed-before in
              let behind = failed-behind in
              let none = ap one_if (unfailed job gone (λ i. is_failed (cond (e i) phase.Succeeded phase.Failed))) in
              let first = ignored-before in
              let second = ignored-behind in
              lower (Finish end) (omega (arith, before, behind, none))
              (λ few. success-unmet job front back log pod counted opened unmarked tracked end e (failures_left job was + ignored_left ends made job was)
              (failures_left job (are (Finish end)) + ignored_left ends made job (are (Finish end))) (omega (arith, before, behind, none, first, second)))

          module _ (e : int_eq end.exit (pos 0) ≡ false) where
            has-failed : is_failed gone.phase ≡ true
            has-failed = λ i. is_failed (cond (e i) phase.Succeeded phase.Failed)

            -- It is counted, or it was to be ignored.
            counts-now : same_outcome (outcome_of job.spec gone) outcome.Ignored ≡ false → Falls (Finish end)
            counts-now not_ignored =
                let before = failed-before in
                let behind = failed-behind in
                let one = ap one_if (fails-anew job gone tracked (unlisted job front back log pod counted opened unmarked tracked) has-failed (counts-or-ignored job.spec gone has-failed not_ignored)) in
                let first = ignored-before in
                let second = ignored-behind in
                lower (Finish end) (omega (arith, before, behind, one))
                (λ few. failure-unmet job front back log pod counted opened unmarked tracked end e (failures_left job was + ignored_left ends made job was)
                (failures_left job (are (Finish end)) + ignored_left ends made job (are (Finish end))) (omega (arith, few, before, behind, one, first, second)))

            ignored-now : same_outcome (outcome_of job.spec gone) outcome.Ignored ≡ true → Falls (Finish end)
            ignored-now ignored =
                let before = failed-before in
                let behind = failed-behind in
                let first = ignored-before in
                let second = ignored-behind in
                let one = ap one_if (ap (λ o. option_map_or (λ end. is_ignored_end job.spec end pod) o false) (sym fated ∙ is) ∙ finish-is job.spec end log pod began ∙ ignored) in
                lower (Finish end) (omega (arith, before, behind))
                (λ few. failure-unmet job front back log pod counted opened unmarked tracked end e (failures_left job was + ignored_left ends made job was)
                (failures_left job (are (Finish end)) + ignored_left ends made job (are (Finish end))) (omega (arith, few, before, behind, first, second, one)))

            fails : Falls (Finish end)
            fails = by (same_outcome (outcome_of job.spec gone) outcome.Ignored) refl
              where
                by : (b : Bool) → same_outcome (outcome_of job.spec gone) outcome.Ignored ≡ b → Falls (Finish end)
                by true h = ignored-now h
                by false h = counts-now h

          finishes : Falls (Finish end)
          finishes = by (int_eq end.exit (pos 0)) refl
            where
              by : (b : Bool) → int_eq end.exit (pos 0) ≡ b → Falls (Finish end)
              by true e = succeeds e
              by false e = fails e

    -- Each act of the node leaves as many or fewer.
    pub retries-fall : (act : NodeAct) → act_on fates pod ≡ Some act → Falls act
    retries-fall = by-act fates pod Falls bare stops starts again finishes
