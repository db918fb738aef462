-- Pods that go stand in the order of the Job's pods.
use Rattle.std.proofs.Common.{◌≡◌, Bool, true, false, cond, List, [], ◌∷◌, filter, map, refl, sym, ap, subst, unwrap_or}
use Rattle.jc_types.specs.declared.objects.Job.{Job}
use Rattle.jc_types.specs.declared.objects.Pod.{Pod}
use Rattle.jc_types.specs.declared.syncs.CountIn.{CountIn}
use Rattle.jc_states.specs.PodLists.{IsRising}
use Rattle.jc_states.specs.Pods.{is_tracked_active, tracked_active_pods}
use Rattle.jc_states.specs.UidLists.{Ascends, uids_of}
use Rattle.jc_states.proofs.PodListFacts.{rises_filter}
use Rattle.jc_states.proofs.UidListFacts.{uids_of-ascends}
use Rattle.jc_manage.specs.Creations.{job_wants}
use Rattle.jc_manage.specs.LetGoes.{going, is_let_go, is_needless, is_to_mark, let_goes, marks, seen, seen_uids, surplus}

pub marks-rise : (target : Bool) (own : List Pod) → IsRising own → Ascends (marks target own)
marks-rise target own rising =
    uids_of-ascends 0 (filter (is_to_mark target) own) (rises_filter 0 (is_to_mark target) own rising)

-- The pods that go rise as those that they are among.
going-rises : (target : Bool) (job : Job) (own : List Pod) (counted : CountIn) → IsRising own → IsRising (going target job own counted)
going-rises target job own counted rising = by target job.spec.suspend
  where
    active : List Pod
    active = tracked_active_pods own

    active-rises : IsRising active
    active-rises = rises_filter 0 is_tracked_active own rising

    by : (t s : Bool) → IsRising (cond t [] (cond s active (surplus job.spec.mode (is_needless (unwrap_or job.spec.completions 0) counted) (job_wants job own counted) active)))
    by true s = tt
    by false true = active-rises
    by false false = rises_filter 0 (is_let_go job.spec.mode (is_needless (unwrap_or job.spec.completions 0) counted) (job_wants job own counted) active) active active-rises

-- The UIDs of pods as they were seen are theirs.
seen-uids : (pods : List Pod) → seen_uids (map seen pods) ≡ uids_of pods
seen-uids [] = refl
seen-uids (pod ∷ pods) = ap (λ us. pod.uid ∷ us) (seen-uids pods)

pub let_goes-rise : (target : Bool) (job : Job) (own : List Pod) (counted : CountIn) → IsRising own → Ascends (seen_uids (let_goes target job own counted))
let_goes-rise target job own counted rising =
    subst Ascends (sym (seen-uids (going target job own counted)))
    (uids_of-ascends 0 (going target job own counted) (going-rises target job own counted rising))
