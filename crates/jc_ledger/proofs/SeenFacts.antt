-- A pod as a sync saw it, and what it has come to by now.
use Rattle.std.proofs.Common.{◌≡◌, ◌≢◌, ℕ, Bool, true, false, not, ◌&&◌, List, find, Option, Some, None, IsSome, refl, sym, ap, ◌∙◌, subst, true≢false}
use Rattle.std.proofs.lemmas.Bool.{and_parts}
use Rattle.jc_types.specs.declared.numbers.Uid.{Uid}
use Rattle.jc_types.specs.declared.objects.Entry.{Entry}
use Rattle.jc_types.specs.declared.objects.Phase.{Phase}
use Rattle.jc_types.specs.declared.objects.Phase.TheVariants as phase
use Rattle.jc_types.specs.declared.objects.Pod.{Pod}
use Rattle.jc_types.specs.declared.policies.FailurePolicy.{FailurePolicy}
use Rattle.jc_types.specs.declared.specifications.JobSpec.{JobSpec}
use Rattle.jc_types.specs.declared.specifications.Replacement.{Replacement}
use Rattle.jc_types.specs.declared.specifications.Replacement.TheVariants.{TerminatingOrFailed, FailedOnly}
use Rattle.jc_states.specs.declared.bases.Basis.{Basis}
use Rattle.jc_types.specs.Keys.{same_key, same_uid}
use Rattle.jc_log.specs.Log.{upto, life, Never, Live, pods_in, pods_under}
use Rattle.jc_states.specs.Pods.{is_final, is_marked, is_active}
use Rattle.jc_states.specs.ObjectChanges.{PodStep}
use Rattle.jc_log.specs.Writes.{Stored}
use Rattle.jc_types.proofs.KeyFacts.{same_key-eq}
use Rattle.jc_types.proofs.ListFacts.{Each-filter, Each-passes, find_each}
use Rattle.jc_log.proofs.PodFacts.{pods_in-live}
use Rattle.jc_log.proofs.WriteFacts.{Kept, kept_on}
use Rattle.jc_failpol.specs.declared.outcomes.Outcome.{Outcome}
use Rattle.jc_failpol.specs.declared.outcomes.Outcome.TheVariants.{Alive, Succeeded}
use Rattle.jc_failpol.specs.FailJob.{is_failure, is_fail_job, policy_fails_job, fails_job}
use Rattle.jc_failpol.specs.Outcomes.{counts_marked, failure_of, judged, outcome_of}
use Rattle.jc_failpol.specs.Rules.{action_of}
use Rattle.jc_failpol.specs.Policies.{WaitsForEnd}
use Rattle.jc_failpol.proofs.Settled.{by_phase, phase_succeeded, failure_fails, final_once_ended, same_action, frozen}
use Rattle.jc_ledger.specs.Flights.{IsBasisOf}

-- What was there is known ever since.
pub known_since : (u : Uid) (m : ℕ) (log : List Entry) → Stored log → (old : Pod) → life u (upto m log) ≡ Live old → life u log ≡ Never → ⊥
known_since u m log all old was never =
    subst (Kept (λ p. Unit {0})) never (kept_on (λ p. Unit {0}) (λ a b s k. tt) u m log all old was tt)

-- ---- what a sync saw

-- The pod stood so among the entries that the sync saw, and was made for a Job of its key.
pub record Saw (log : List Entry) (basis : Basis) (seen : Pod) : Type 0 where
  pub stood : life seen.uid (upto basis.pods_at.0 log) ≡ Live seen
  pub owner : seen.owner ≡ basis.key

-- So it is of each pod of the basis.
pub saw : (log : List Entry) (basis : Basis) (seen : Pod) → IsBasisOf log basis → find (λ (p : Pod). same_uid p.uid seen.uid) basis.pods ≡ Some seen → Saw log basis seen
saw log basis seen is found = record {
  stood =
      find_each (λ p. life p.uid (upto basis.pods_at.0 log) ≡ Live p) (λ p. same_uid p.uid seen.uid) (pods_under basis.key (upto basis.pods_at.0 log)) seen
      (Each-filter (λ p. life p.uid (upto basis.pods_at.0 log) ≡ Live p) (λ p. same_key p.owner basis.key) (pods_in (upto basis.pods_at.0 log)) (pods_in-live (upto basis.pods_at.0 log)))
      there;
  owner =
      same_key-eq seen.owner basis.key
      (find_each (λ p. same_key p.owner basis.key ≡ true) (λ p. same_uid p.uid seen.uid) (pods_under basis.key (upto basis.pods_at.0 log)) seen
      (Each-passes (λ p. same_key p.owner basis.key) (pods_in (upto basis.pods_at.0 log)))
      there);
}
  where
    there : find (λ (p : Pod). same_uid p.uid seen.uid) (pods_under basis.key (upto basis.pods_at.0 log)) ≡ Some seen
    there = ap (find (λ (p : Pod). same_uid p.uid seen.uid)) (sym is.pods) ∙ found

-- ---- outcomes

-- A pod that is active is alive.
pub active_alive : (spec : JobSpec) (pod : Pod) → is_active pod ≡ true → outcome_of spec pod ≡ Alive
active_alive spec pod h = by pod.phase (is_marked pod) (counts_marked spec.replacement) (failure_of spec.failure pod) h
  where
    by : (p : Phase) (m c : Bool) (o : Outcome) → (not (is_final p) && not m) ≡ true → by_phase p (c && m) o ≡ Alive
    by phase.Pending false true o g = refl
    by phase.Pending false false o g = refl
    by phase.Pending true c o g = absurd (true≢false (sym g))
    by phase.Running false true o g = refl
    by phase.Running false false o g = refl
    by phase.Running true c o g = absurd (true≢false (sym g))
    by phase.Succeeded m c o g = absurd (true≢false (sym g))
    by phase.Failed m c o g = absurd (true≢false (sym g))

-- A pod that has succeeded has the phase.
pub succeeded_phase : (spec : JobSpec) (pod : Pod) → outcome_of spec pod ≡ Succeeded → pod.phase ≡ phase.Succeeded
succeeded_phase spec pod h =
    phase_succeeded pod.phase (counts_marked spec.replacement && is_marked pod) (failure_of spec.failure pod) (failure_fails spec.failure pod) h

-- A pod that fails its Job has failed it since it ended.
pub fails_early : (spec : JobSpec) (old new : Pod) → WaitsForEnd spec → PodStep old new → outcome_of spec old ≢ Alive → fails_job spec new ≡ true → fails_job spec old ≡ true
fails_early spec old new waits step ended fails = by spec.replacement spec.failure waits ended fails
  where
    by : (r : Replacement) (f : Option FailurePolicy) → (IsSome f → r ≡ FailedOnly) → judged r f old ≢ Alive → (is_failure (judged r f new) && policy_fails_job f new) ≡ true → (is_failure (judged r f old) && policy_fails_job f old) ≡ true
    by r None w e h = absurd (true≢false (sym (and_parts (is_failure (judged r None new)) false h).1))
    by FailedOnly (Some policy) w e h =
        let final = final_once_ended (Some policy) old e in
        let outcome = frozen (Some policy) old new step e in
        let action = same_action policy old new (step.containers final) (step.conditions final) in
        let same : (is_failure (judged FailedOnly (Some policy) new) && is_fail_job (action_of policy new)) ≡ (is_failure (judged FailedOnly (Some policy) old) && is_fail_job (action_of policy old)) =
        λ i. is_failure (outcome i) && is_fail_job (action i)
        in sym same ∙ h
    by TerminatingOrFailed (Some policy) w e h = absurd (true≢false (ap counts_marked (w refl)))
