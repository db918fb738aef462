-- A pod that has come to something is not active: so where it has the finalizer, it is at odds.
use Rattle.std.proofs.Common.{◌≡◌, Bool, true, false, cond, not, ◌&&◌, ◌||◌, refl, sym, true≢false}
use Rattle.jc_types.specs.declared.objects.Phase.{Phase}
use Rattle.jc_types.specs.declared.objects.Phase.TheVariants as phase
use Rattle.jc_types.specs.declared.objects.Pod.{Pod}
use Rattle.jc_types.specs.declared.specifications.JobSpec.{JobSpec}
use Rattle.jc_types.specs.declared.specifications.Replacement.{Replacement}
use Rattle.jc_types.specs.declared.specifications.Replacement.TheVariants.{TerminatingOrFailed, FailedOnly}
use Rattle.jc_states.specs.Noted.{is_at_odds}
use Rattle.jc_states.specs.Pods.{is_final, is_marked, is_tracked}
use Rattle.jc_states.proofs.AtOddsFacts.{odds-tracked}
use Rattle.jc_failpol.specs.declared.outcomes.Outcome.{Outcome}
use Rattle.jc_failpol.specs.declared.outcomes.Outcome.TheVariants.{Alive, Succeeded, Failed, Ignored}
use Rattle.jc_failpol.specs.Outcomes.{counts_marked, failure_of, is_failed, is_succeeded, is_verdict, outcome_of, same_outcome}

-- What is not alive has a final phase or a mark.
not_active : (r : Replacement) (p : Phase) (marked : Bool) (o : Outcome)
    → not (same_outcome (cond (is_succeeded p) Succeeded (cond (is_failed p || (counts_marked r && marked)) o Alive)) Alive) ≡ true
    → (not (is_final p) && not marked) ≡ false
not_active r phase.Succeeded marked o h = refl
not_active r phase.Failed marked o h = refl
not_active r phase.Pending true o h = refl
not_active r phase.Running true o h = refl
not_active TerminatingOrFailed phase.Pending false o h = absurd (true≢false (sym h))
not_active FailedOnly phase.Pending false o h = absurd (true≢false (sym h))
not_active TerminatingOrFailed phase.Running false o h = absurd (true≢false (sym h))
not_active FailedOnly phase.Running false o h = absurd (true≢false (sym h))

-- A tracked pod that has come to something is at odds.
pub ended-odds : (spec : JobSpec) (pod : Pod) → is_tracked pod ≡ true → not (same_outcome (outcome_of spec pod) Alive) ≡ true → is_at_odds pod ≡ true
ended-odds spec pod tracked ended =
    odds-tracked pod tracked (not_active spec.replacement pod.phase (is_marked pod) (failure_of spec.failure pod) ended)

-- What has succeeded or failed has come to something.
pub verdict-ended : (o : Outcome) → is_verdict o ≡ true → not (same_outcome o Alive) ≡ true
verdict-ended Alive h = absurd (true≢false (sym h))
verdict-ended Succeeded h = refl
verdict-ended Failed h = refl
verdict-ended Ignored h = refl
