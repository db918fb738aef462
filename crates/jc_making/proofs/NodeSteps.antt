-- What the node does next is done to a pod that is there.
use Rattle.std.proofs.Common.{◌≡◌, List, [], ◌∷◌, Option, Some, None, refl, ap, subst}
use Rattle.std.proofs.lemmas.Option.{none-some as none_some, same_Some as some_is}
use Rattle.std.specs.List.{AllByRecursion as Each}
use Rattle.std.specs.Option.{option_map, option_or}
use Rattle.jc_types.specs.declared.actions.End.{End}
use Rattle.jc_types.specs.declared.objects.Entry.{Entry}
use Rattle.jc_types.specs.declared.objects.KeyNames.{KeyNames as Key}
use Rattle.jc_types.specs.declared.objects.Pod.{Pod}
use Rattle.jc_log.specs.Log.{Live, life, living, pod_in, pods_in}
use Rattle.jc_log.proofs.PodFacts.{pods_in-live}
use Rattle.jc_history.specs.Nodes.{NodeAct, act_on, node_step}
use Rattle.jc_history.specs.Notes.{newest}

-- The pod is there, and this befalls it.
pub record Befalls (log : List Entry) (fates : Key → Option (List End)) (pod : Pod) (act : NodeAct) : Type 0 where
  pub there : pod_in pod.uid log ≡ Some pod
  pub acts : act_on fates pod ≡ Some act

pub node-step-befalls : (log : List Entry) (fates : Key → Option (List End)) (step : Pod × NodeAct) → node_step log fates ≡ Some step → Befalls log fates step.0 step.1
node-step-befalls log fates step h = among (pods_in log) (pods_in-live log) h
  where
    among : (pods : List Pod) → Each (λ (pod : Pod). life pod.uid log ≡ Live pod) pods → newest (λ pod. option_map (λ act. (pod, act)) (act_on fates pod)) pods ≡ Some step → Befalls log fates step.0 step.1
    among [] all g = absurd (none_some step g)
    among (pod ∷ pods) all g = by (act_on fates pod) refl g (among pods all.1)
      where
        it : (act : NodeAct) → act_on fates pod ≡ Some act → (pod, act) ≡ step → Befalls log fates step.0 step.1
        it act is same = subst (λ (s : Pod × NodeAct). Befalls log fates s.0 s.1) same (record { there = ap living all.0; acts = is })

        by : (o : Option NodeAct) → act_on fates pod ≡ o → option_or (option_map (λ act. (pod, act)) o) (newest (λ pod. option_map (λ act. (pod, act)) (act_on fates pod)) pods) ≡ Some step
            → (newest (λ pod. option_map (λ act. (pod, act)) (act_on fates pod)) pods ≡ Some step → Befalls log fates step.0 step.1) → Befalls log fates step.0 step.1
        by None is e more = more e
        by (Some act) is e more = it act is (some_is (pod, act) step e)
