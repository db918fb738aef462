-- How the outcome of a pod changes from one state of the pod to the next.
use Rattle.std.proofs.Common.{◌≡◌, ◌≢◌, ◌⊎◌, inl, inr, Bool, true, false, cond, ◌&&◌, ◌||◌, Option, Some, None, IsSome, is_some, refl, sym, ap, ◌∙◌, true≢false}
use Rattle.jc_types.specs.declared.objects.Phase.{Phase}
use Rattle.jc_types.specs.declared.objects.Phase.TheVariants as phase
use Rattle.jc_types.specs.declared.objects.Pod.{Pod}
use Rattle.jc_types.specs.declared.policies.FailurePolicy.{FailurePolicy}
use Rattle.jc_types.specs.declared.specifications.Replacement.{Replacement}
use Rattle.jc_types.specs.declared.specifications.Replacement.TheVariants.{TerminatingOrFailed, FailedOnly}
use Rattle.jc_states.specs.Pods.{is_final, is_marked}
use Rattle.jc_states.specs.ObjectChanges.{PodStep}
use Rattle.jc_failpol.specs.declared.outcomes.Outcome.{Outcome}
use Rattle.jc_failpol.specs.declared.outcomes.Outcome.TheVariants.{Alive, Succeeded, Failed, Ignored}
use Rattle.jc_failpol.specs.Outcomes.{is_succeeded, is_failed, counts_marked, is_ignore, failure_of, judged}
use Rattle.jc_failpol.specs.Rules.{action_of, matching_place}

-- The outcome by the phase, by whether a mark counts and stands, and by what a failure would be.
abbrev pub by_phase : Phase → Bool → Outcome → Outcome
by_phase p marked failure = cond (is_succeeded p) Succeeded (cond (is_failed p || marked) failure Alive)

-- The outcomes of a failed pod.
abbrev pub is_failure : Outcome → Bool
is_failure Alive = false
is_failure Succeeded = false
is_failure Failed = true
is_failure Ignored = true

-- The outcome Succeeded.
abbrev pub is_success : Outcome → Bool
is_success Alive = false
is_success Succeeded = true
is_success Failed = false
is_success Ignored = false

-- What a failed pod has come to is a failure.
pub failure_fails : (failure : Option FailurePolicy) (pod : Pod) → is_failure (failure_of failure pod) ≡ true
failure_fails None pod = refl
failure_fails (Some policy) pod = by (is_ignore (action_of policy pod))
  where
    by : (b : Bool) → is_failure (cond b Ignored Failed) ≡ true
    by true = refl
    by false = refl

-- What has succeeded has the phase Succeeded.
pub phase_succeeded : (p : Phase) (marked : Bool) (o : Outcome) → is_failure o ≡ true → by_phase p marked o ≡ Succeeded → p ≡ phase.Succeeded
phase_succeeded phase.Succeeded marked o f h = refl
phase_succeeded phase.Failed marked o f h = absurd (true≢false (sym f ∙ ap is_failure h))
phase_succeeded phase.Pending true o f h = absurd (true≢false (sym f ∙ ap is_failure h))
phase_succeeded phase.Pending false o f h = cc
phase_succeeded phase.Running true o f h = absurd (true≢false (sym f ∙ ap is_failure h))
phase_succeeded phase.Running false o f h = cc

-- What has ended though no mark counts has a final phase.
pub phase_final : (p : Phase) (o : Outcome) → by_phase p false o ≢ Alive → is_final p ≡ true
phase_final phase.Pending o h = absurd (h refl)
phase_final phase.Running o h = absurd (h refl)
phase_final phase.Succeeded o h = refl
phase_final phase.Failed o h = refl

-- A success stays one.
pub success_stays : (r : Replacement) (f : Option FailurePolicy) (old new : Pod) → PodStep old new → judged r f old ≡ Succeeded → judged r f new ≡ Succeeded
success_stays r f old new step h =
    let was = phase_succeeded old.phase (counts_marked r && is_marked old) (failure_of f old) (failure_fails f old) h in
    let is : new.phase ≡ phase.Succeeded = step.phase (ap is_final was) ∙ was in
    ap (λ p. by_phase p (counts_marked r && is_marked new) (failure_of f new)) is

-- ---- where a pod is replaced only once it has ended

-- Equal containers and equal conditions show the same rules.
pub same_action : (policy : FailurePolicy) (old new : Pod) → new.containers ≡ old.containers → new.conditions ≡ old.conditions → action_of policy new ≡ action_of policy old
same_action policy old new c d =
    λ i. action_of policy (record new { containers = c i; conditions = d i })

-- And at the same place.
pub same_place : (policy : FailurePolicy) (old new : Pod) → new.containers ≡ old.containers → new.conditions ≡ old.conditions → matching_place policy new ≡ matching_place policy old
same_place policy old new c d =
    λ i. matching_place policy (record new { containers = c i; conditions = d i })

-- They make of a failure the same.
pub same_failure : (f : Option FailurePolicy) (old new : Pod) → new.containers ≡ old.containers → new.conditions ≡ old.conditions → failure_of f new ≡ failure_of f old
same_failure None old new c d = refl
same_failure (Some policy) old new c d = ap (λ a. cond (is_ignore a) Ignored Failed) (same_action policy old new c d)

-- What has ended has a final phase.
pub final_once_ended : (f : Option FailurePolicy) (pod : Pod) → judged FailedOnly f pod ≢ Alive → is_final pod.phase ≡ true
final_once_ended f pod h = phase_final pod.phase (failure_of f pod) h

-- What has ended keeps its outcome.
pub frozen : (f : Option FailurePolicy) (old new : Pod) → PodStep old new → judged FailedOnly f old ≢ Alive → judged FailedOnly f new ≡ judged FailedOnly f old
frozen f old new step h =
    let final = final_once_ended f old h in
    let p = step.phase final in
    let o = same_failure f old new (step.containers final) (step.conditions final) in
    λ i. by_phase (p i) false (o i)

-- ---- where a mark counts, there being no failure policy

-- A failure without a policy is Failed, and stays so until the pod succeeds after all.
pub marked_fails : (old new : Pod) → PodStep old new → judged TerminatingOrFailed None old ≡ Failed → (judged TerminatingOrFailed None new ≡ Failed) ⊎ (judged TerminatingOrFailed None new ≡ Succeeded)
marked_fails old new step h = by old.phase refl h
  where
    stays_marked : is_marked old ≡ true → (q : Phase) → (by_phase q (is_marked new) Failed ≡ Failed) ⊎ (by_phase q (is_marked new) Failed ≡ Succeeded)
    stays_marked m phase.Succeeded = inr refl
    stays_marked m phase.Failed = inl refl
    stays_marked m phase.Pending = inl (ap (λ b. by_phase phase.Pending b Failed) (ap is_some (step.marked m) ∙ m))
    stays_marked m phase.Running = inl (ap (λ b. by_phase phase.Running b Failed) (ap is_some (step.marked m) ∙ m))

    was_marked : (b : Bool) → cond b Failed Alive ≡ Failed → b ≡ true
    was_marked true g = refl
    was_marked false g = cc

    by : (p : Phase) → old.phase ≡ p → by_phase p (is_marked old) Failed ≡ Failed → (judged TerminatingOrFailed None new ≡ Failed) ⊎ (judged TerminatingOrFailed None new ≡ Succeeded)
    by phase.Succeeded e g = cc
    by phase.Failed e g = inl (ap (λ q. by_phase q (is_marked new) Failed) (step.phase (ap is_final e) ∙ e))
    by phase.Pending e g = stays_marked (was_marked (is_marked old) g) new.phase
    by phase.Running e g = stays_marked (was_marked (is_marked old) g) new.phase

-- ---- both

-- A failure stays one, or becomes a success.
pub failure_may : (r : Replacement) (f : Option FailurePolicy) → (IsSome f → r ≡ FailedOnly) → (old new : Pod) → PodStep old new → judged r f old ≡ Failed → (judged r f new ≡ Failed) ⊎ (judged r f new ≡ Succeeded)
failure_may FailedOnly f w old new step h = inl (frozen f old new step (λ alive. absurd (true≢false (ap is_failure (sym h ∙ alive)))) ∙ h)
failure_may TerminatingOrFailed None w old new step h = marked_fails old new step h
failure_may TerminatingOrFailed (Some policy) w old new step h = absurd (true≢false (ap counts_marked (w refl)))

-- It becomes a success only where a mark counts.
pub revised_when_marked : (r : Replacement) (f : Option FailurePolicy) (old new : Pod) → PodStep old new → judged r f old ≡ Failed → judged r f new ≡ Succeeded → r ≡ TerminatingOrFailed
revised_when_marked TerminatingOrFailed f old new step h g = refl
revised_when_marked FailedOnly f old new step h g =
    let kept = frozen f old new step (λ alive. absurd (true≢false (ap is_failure (sym h ∙ alive)))) in
    absurd (true≢false (ap is_failure (sym h ∙ sym kept ∙ g)))

-- Without a policy none is ignored.
pub ignored_by_policy : (r : Replacement) (f : Option FailurePolicy) (pod : Pod) → judged r f pod ≡ Ignored → IsSome f
ignored_by_policy r (Some policy) pod h = refl
ignored_by_policy r None pod h = by (is_succeeded pod.phase) (is_failed pod.phase || (counts_marked r && is_marked pod)) h
  where
    by : (s b : Bool) → cond s Succeeded (cond b Failed Alive) ≡ Ignored → IsSome {T = FailurePolicy} None
    by true b g = cc
    by false true g = cc
    by false false g = cc

-- What is ignored stays so.
pub ignored_stays : (r : Replacement) (f : Option FailurePolicy) → (IsSome f → r ≡ FailedOnly) → (old new : Pod) → PodStep old new → judged r f old ≡ Ignored → judged r f new ≡ Ignored
ignored_stays FailedOnly f w old new step h = frozen f old new step (λ alive. absurd (true≢false (ap is_failure (sym h ∙ alive)))) ∙ h
ignored_stays TerminatingOrFailed f w old new step h = absurd (true≢false (ap counts_marked (w (ignored_by_policy TerminatingOrFailed f old h))))

-- What has ended stays ended.
pub end_stays : (r : Replacement) (f : Option FailurePolicy) → (IsSome f → r ≡ FailedOnly) → (old new : Pod) → PodStep old new → judged r f old ≢ Alive → judged r f new ≢ Alive
end_stays r f w old new step h = by (judged r f old) refl
  where
    by : (o : Outcome) → judged r f old ≡ o → judged r f new ≢ Alive
    by Alive e = absurd (h e)
    by Succeeded e = λ alive. absurd (true≢false (ap is_success (sym (success_stays r f old new step e) ∙ alive)))
    by Ignored e = λ alive. absurd (true≢false (ap is_failure (sym (ignored_stays r f w old new step e) ∙ alive)))
    by Failed e =
        elim (failure_may r f w old new step e) [
          | inl stays ↦ λ alive. absurd (true≢false (ap is_failure (sym stays ∙ alive)))
          | inr becomes ↦ λ alive. absurd (true≢false (ap is_success (sym becomes ∙ alive)))
        ]
