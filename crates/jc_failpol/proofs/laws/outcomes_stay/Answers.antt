-- The lemmas on outcomes, at the policies of a specification.
use Rattle.std.proofs.Common.{◌≡◌, ◌≢◌, sym, subst, true}
use Rattle.jc_types.specs.declared.objects.Pod.{Pod}
use Rattle.jc_types.specs.declared.specifications.JobSpec.{JobSpec}
use Rattle.jc_types.specs.declared.specifications.Replacement.TheVariants.{FailedOnly}
use Rattle.jc_states.specs.Pods.{is_final}
use Rattle.jc_failpol.specs.declared.outcomes.Outcome.TheVariants.{Alive}
use Rattle.jc_failpol.specs.Outcomes.{judged, outcome_of}
use Rattle.jc_failpol.proofs.Settled.{success_stays, failure_may, revised_when_marked, ignored_stays, ignored_by_policy, frozen, final_once_ended, same_action, same_place, end_stays}
use Rattle.jc_failpol.proofs.laws.outcomes_stay.Goals as goal

-- What has ended by a specification that waits has a final phase.
ended : (spec : JobSpec) (pod : Pod) → spec.replacement ≡ FailedOnly → outcome_of spec pod ≢ Alive → is_final pod.phase ≡ true
ended spec pod only h = final_once_ended spec.failure pod (subst (λ r. judged r spec.failure pod ≢ Alive) only h)

pub returns : goal.returns
returns c = record {
  valid = λ spec valid some. (valid.failure some).1;
  same = λ spec other pod s i. judged (s.replacement i) (s.failure i) pod;
  job = λ old new pod s i. judged (s.replacement i) (s.failure i) pod;
  succeeded = λ spec old new step h. success_stays spec.replacement spec.failure old new step h;
  failed = λ spec old new w step h. failure_may spec.replacement spec.failure w old new step h;
  revised = λ spec old new step h g. revised_when_marked spec.replacement spec.failure old new step h g;
  ignored = λ spec old new w step h. ignored_stays spec.replacement spec.failure w old new step h;
  ended = λ spec old new w step h. end_stays spec.replacement spec.failure w old new step h;
  frozen =
      λ spec old new only step.
      subst (λ r. judged r spec.failure old ≢ Alive → judged r spec.failure new ≡ judged r spec.failure old) (sym only)
      (frozen spec.failure old new step);
  action =
      λ spec policy old new only step h.
      let final = ended spec old only h in same_action policy old new (step.containers final) (step.conditions final);
  place =
      λ spec policy old new only step h.
      let final = ended spec old only h in same_place policy old new (step.containers final) (step.conditions final);
  containers = λ spec old new only step h. step.containers (ended spec old only h);
  conditions = λ spec old new only step h. step.conditions (ended spec old only h);
  policy = λ spec pod h. ignored_by_policy spec.replacement spec.failure pod h;
  waits = λ spec pod w h. w (ignored_by_policy spec.replacement spec.failure pod h);
}
