-- What a pod has come to does not go by its version and by restarts of its containers: so starts and restarts change nothing
-- of whether its failure is to be ignored, and a pod that fails is one whose failure was to be ignored, or it counts.
use Rattle.std.proofs.Common.{◌≡◌, ℕ, ℤ, pos, Bool, true, false, cond, ◌&&◌, ◌||◌, List, [], ◌∷◌, map, Option, Some, None, is_some, position, unwrap_or, refl, sym, ap, ◌∙◌, subst, true≢false}
use Rattle.std.specs.Option.{option_map, option_to_list}
use Rattle.jc_types.specs.declared.actions.ContainerChange.{ContainerChange}
use Rattle.jc_types.specs.declared.actions.End.{End}
use Rattle.jc_types.specs.declared.objects.Container.{Container}
use Rattle.jc_types.specs.declared.objects.Entry.{Entry}
use Rattle.jc_types.specs.declared.objects.Phase.{Phase}
use Rattle.jc_types.specs.declared.objects.Phase.TheVariants as phase
use Rattle.jc_types.specs.declared.objects.Pod.{Pod}
use Rattle.jc_types.specs.declared.policies.FailurePolicy.{FailurePolicy}
use Rattle.jc_types.specs.declared.policies.FailureRule.{FailureRule}
use Rattle.jc_types.specs.declared.policies.Operator.{Operator}
use Rattle.jc_types.specs.declared.policies.Pattern.{Pattern}
use Rattle.jc_types.specs.declared.policies.Requirement.{Requirement}
use Rattle.jc_types.specs.declared.policies.Requirement.TheVariants.{ExitCodes, Conditions}
use Rattle.jc_types.specs.declared.specifications.JobSpec.{JobSpec}
use Rattle.jc_types.specs.Equality.{same_text}
use Rattle.jc_log.specs.Requests.{changed_by, changed_container, given_exit, with_report}
use Rattle.jc_states.specs.Pods.{is_marked, is_pending}
use Rattle.jc_failpol.specs.declared.outcomes.Outcome.TheVariants.{Alive, Succeeded, Failed, Ignored}
use Rattle.jc_failpol.specs.Outcomes.{counts_marked, failure_of, is_failed, is_ignore, is_succeeded, outcome_of, same_outcome}
use Rattle.jc_failpol.specs.Rules.{action_at, action_of, code_meets, exit_is_failure, has_code, is_named, matches, shows}
use Rattle.jc_history.specs.Nodes.{Again, Finish, Start, change_by, exits, finishes, first_container, once_more, start_change, with_exit}
use Rattle.jc_retries.specs.Retries.{ended_by, is_ignored_end}

-- ---- containers that differ in restarts alone

abbrev pub Near : Container → Container → Type 0
Near c d = (c.name ≡ d.name) × ((c.init ≡ d.init) × (c.exit ≡ d.exit))

abbrev pub Alike : List Container → List Container → Type 0
Alike [] [] = Unit {0}
Alike [] (d ∷ ds) = ⊥
Alike (c ∷ cs) [] = ⊥
Alike (c ∷ cs) (d ∷ ds) = Near c d × Alike cs ds

alike-self : (cs : List Container) → Alike cs cs
alike-self [] = tt
alike-self (c ∷ cs) = ((refl, (refl, refl)), alike-self cs)

codes-same : (only : Option (List ℕ)) (operator : Operator) (values : List ℤ) (cs ds : List Container) → Alike cs ds → has_code only operator values cs ≡ has_code only operator values ds
codes-same only operator values [] [] h = refl
codes-same only operator values [] (d ∷ ds) h = absurd h
codes-same only operator values (c ∷ cs) [] h = absurd h
codes-same only operator values (c ∷ cs) (d ∷ ds) h =
    λ i. ((exit_is_failure (h.0.1.1 i) && is_named only (h.0.0 i)) && code_meets operator values (h.0.1.1 i)) || codes-same only operator values cs ds h.1 i

shows-same : (cs ds : List Container) (conditions : List Pattern) → Alike cs ds → (r : Requirement) → shows cs conditions r ≡ shows ds conditions r
shows-same cs ds conditions h (ExitCodes only operator values) = codes-same only operator values cs ds h
shows-same cs ds conditions h (Conditions patterns) = refl

action-same : (policy : FailurePolicy) (p q : Pod) → Alike p.containers q.containers → p.conditions ≡ q.conditions → action_of policy p ≡ action_of policy q
action-same policy p q h same = λ i. action_at policy.rules (position (λ rule. each rule i) policy.rules)
  where
    each : (rule : FailureRule) → matches rule p ≡ matches rule q
    each rule = shows-same p.containers q.containers p.conditions h rule.requirement ∙ ap (λ conditions. shows q.containers conditions rule.requirement) same

failure-same : (o : Option FailurePolicy) (p q : Pod) → Alike p.containers q.containers → p.conditions ≡ q.conditions → failure_of o p ≡ failure_of o q
failure-same None p q h same = refl
failure-same (Some policy) p q h same = ap (λ a. cond (is_ignore a) Ignored Failed) (action-same policy p q h same)

outcome-same : (spec : JobSpec) (p q : Pod) → p.phase ≡ q.phase → p.marked ≡ q.marked → Alike p.containers q.containers → p.conditions ≡ q.conditions → outcome_of spec p ≡ outcome_of spec q
outcome-same spec p q phase marked h conditions =
    λ i. cond (is_succeeded (phase i)) Succeeded (cond (is_failed (phase i) || (counts_marked spec.replacement && is_some (marked i))) (failure-same spec.failure p q h conditions i) Alive)

-- ---- changes of such containers

near-changed : (change : ContainerChange) (c d : Container) → Near c d → Near (changed_by c change) (changed_by d change)
near-changed change c d near = by (same_text c.name change.name) (same_text d.name change.name) (λ i. same_text (near.0 i) change.name)
  where
    with_change : Container → Container
    with_change it = record it { exit = given_exit change.exit it.exit; restarts = unwrap_or change.restarts it.restarts }

    by : (a b : Bool) → a ≡ b → Near (cond a (with_change c) c) (cond b (with_change d) d)
    by true true e = (near.0, (near.1.0, λ i. given_exit change.exit (near.1.1 i)))
    by true false e = absurd (true≢false e)
    by false true e = absurd (true≢false (sym e))
    by false false e = near

near-all : (changes : List ContainerChange) (c d : Container) → Near c d → Near (changed_container changes c) (changed_container changes d)
near-all [] c d near = near
near-all (change ∷ changes) c d near = near-all changes (changed_by c change) (changed_by d change) (near-changed change c d near)

alike-all : (changes : List ContainerChange) (cs ds : List Container) → Alike cs ds → Alike (map (changed_container changes) cs) (map (changed_container changes) ds)
alike-all changes [] [] h = tt
alike-all changes [] (d ∷ ds) h = absurd h
alike-all changes (c ∷ cs) [] h = absurd h
alike-all changes (c ∷ cs) (d ∷ ds) h = (near-all changes c d h.0, alike-all changes cs ds h.1)

-- They end with the same codes.
zeros-same : (cs ds : List Container) → Alike cs ds → map (with_exit (pos 0)) cs ≡ map (with_exit (pos 0)) ds
zeros-same [] [] h = refl
zeros-same [] (d ∷ ds) h = absurd h
zeros-same (c ∷ cs) [] h = absurd h
zeros-same (c ∷ cs) (d ∷ ds) h = λ i. record { name = h.0.0 i; exit = Some (pos 0); restarts = None } ∷ zeros-same cs ds h.1 i

exits-same : (exit : ℤ) (cs ds : List Container) → Alike cs ds → exits exit cs ≡ exits exit ds
exits-same exit [] [] h = refl
exits-same exit [] (d ∷ ds) h = absurd h
exits-same exit (c ∷ cs) [] h = absurd h
exits-same exit (c ∷ cs) (d ∷ ds) h =
    λ i. cond (h.0.1.0 i) (record { name = h.0.0 i; exit = Some (pos 0); restarts = None } ∷ exits-same exit cs ds h.1 i)
    (record { name = h.0.0 i; exit = Some exit; restarts = None } ∷ zeros-same cs ds h.1 i)

alike-ended : (exit : ℤ) (cs ds : List Container) → Alike cs ds → Alike (map (changed_container (exits exit cs)) cs) (map (changed_container (exits exit ds)) ds)
alike-ended exit cs ds h =
    subst (λ changes. Alike (map (changed_container (exits exit cs)) cs) (map (changed_container changes) ds)) (exits-same exit cs ds h) (alike-all (exits exit cs) cs ds h)

-- A restart leaves all but restarts.
near-again : (o : Option Container) (c : Container) → Near (changed_container (option_to_list (option_map once_more o)) c) c
near-again None c = (refl, (refl, refl))
near-again (Some first) c = by (same_text c.name first.name)
  where
    by : (b : Bool) → Near (cond b (record c { exit = c.exit; restarts = unwrap_or (once_more first).restarts c.restarts }) c) c
    by true = (refl, (refl, refl))
    by false = (refl, (refl, refl))

alike-again : (o : Option Container) (cs : List Container) → Alike (map (changed_container (option_to_list (option_map once_more o))) cs) cs
alike-again o [] = tt
alike-again o (c ∷ cs) = (near-again o c, alike-again o cs)

-- ---- how it is to end

module _ (spec : JobSpec) (end : End) (log : List Entry) (pod : Pod) where
  -- How a pod that has started ends, by its phase.
  ignored-from : (b : Bool) → is_pending pod.phase ≡ b
      → is_ignored_end spec end pod ≡ same_outcome (outcome_of spec (with_report [] (cond b (with_report [] pod start_change) pod) (finishes (cond b (with_report [] pod start_change) pod) end.exit end.condition))) Ignored
  ignored-from b e =
      ap (λ b. same_outcome (outcome_of spec (with_report [] (cond b (with_report [] pod start_change) pod) (finishes (cond b (with_report [] pod start_change) pod) end.exit end.condition))) Ignored) e

  -- Once it is started it is to end as before.
  pub start-keeps : is_pending pod.phase ≡ true → is_ignored_end spec end (with_report log pod (change_by pod Start)) ≡ is_ignored_end spec end pod
  start-keeps e = sym (ignored-from true e)

  -- So it is once a container has been restarted.
  pub again-keeps : is_pending pod.phase ≡ false → is_ignored_end spec end (with_report log pod (change_by pod Again)) ≡ is_ignored_end spec end pod
  again-keeps e =
      ap (λ o. same_outcome o Ignored)
      (outcome-same spec (ended_by end (with_report log pod (change_by pod Again))) (with_report [] pod (finishes pod end.exit end.condition)) refl refl
      (alike-ended end.exit (with_report log pod (change_by pod Again)).containers pod.containers (alike-again (first_container pod.containers) pod.containers)) refl)
      ∙ sym (ignored-from false e)

  -- And so it ends.
  pub finish-is : is_pending pod.phase ≡ false → is_ignored_end spec end pod ≡ same_outcome (outcome_of spec (with_report log pod (change_by pod (Finish end)))) Ignored
  finish-is e =
      ignored-from false e
      ∙ ap (λ o. same_outcome o Ignored)
      (outcome-same spec (with_report [] pod (finishes pod end.exit end.condition)) (with_report log pod (change_by pod (Finish end))) refl refl
      (alike-self (with_report log pod (change_by pod (Finish end))).containers) refl)

-- A failed pod counts, or its failure is ignored.
pub counts-or-ignored : (spec : JobSpec) (p : Pod) → is_failed p.phase ≡ true → same_outcome (outcome_of spec p) Ignored ≡ false → same_outcome (outcome_of spec p) Failed ≡ true
counts-or-ignored spec p failed not_ignored = by p.phase failed spec.failure not_ignored
  where
    by : (f : Phase) → is_failed f ≡ true → (o : Option FailurePolicy)
        → same_outcome (cond (is_succeeded f) Succeeded (cond (is_failed f || (counts_marked spec.replacement && is_marked p)) (failure_of o p) Alive)) Ignored ≡ false
        → same_outcome (cond (is_succeeded f) Succeeded (cond (is_failed f || (counts_marked spec.replacement && is_marked p)) (failure_of o p) Alive)) Failed ≡ true
    by phase.Pending e o h = absurd (true≢false (sym e))
    by phase.Running e o h = absurd (true≢false (sym e))
    by phase.Succeeded e o h = absurd (true≢false (sym e))
    by phase.Failed e None h = refl
    by phase.Failed e (Some policy) h = either (is_ignore (action_of policy p)) h
      where
        either : (b : Bool) → same_outcome (cond b Ignored Failed) Ignored ≡ false → same_outcome (cond b Ignored Failed) Failed ≡ true
        either true h = absurd (true≢false h)
        either false h = refl
