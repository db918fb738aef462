-- Which pod something befalls first, where the open ones are gone through in ascending UID.
use Rattle.std.proofs.Common.{◌≡◌, ℕ, ◌+◌, ◌<◌, ◌≤◌, nat_le, Bool, true, false, cond, not, ◌&&◌, List, [], ◌∷◌, length, find, Option, Some, None, is_some, refl, sym, ap, ◌∙◌, arith, option_map, true≢false}
use Rattle.std.specs.List.{AllByRecursion as Each}
use Rattle.std.specs.Option.{option_map_or, option_or}
use Rattle.std.proofs.lemmas.Bool.{leb-false, leb-true}
use Rattle.jc_types.specs.declared.actions.End.{End}
use Rattle.jc_types.specs.declared.objects.Entry.{Entry}
use Rattle.jc_types.specs.declared.objects.KeyNames.{KeyNames as Key}
use Rattle.jc_types.specs.declared.objects.Pod.{Pod}
use Rattle.jc_types.proofs.ListFacts.{Each-weaker, find_each, find_passes}
use Rattle.jc_states.specs.PodLists.{RisesFrom}
use Rattle.jc_states.specs.Pods.{is_marked, is_open}
use Rattle.jc_states.proofs.PodListFacts.{rises-each}
use Rattle.jc_log.specs.Log.{births, pods_in}
use Rattle.jc_log.specs.Writes.{Stored}
use Rattle.jc_log.proofs.CountFacts.{births_within}
use Rattle.jc_log.proofs.JobFacts.{pods_in-within}
use Rattle.jc_history.specs.Nodes.{NodeAct as Act, act_on, act_with, pod_end}
use Rattle.jc_history.specs.Nodes as does
use Rattle.jc_history.specs.Notes.{newest}
use Rattle.jc_node.specs.declared.acts.NodeAct.{NodeAct}
use Rattle.jc_node.specs.NodeSteps.{act_kind, step_of}

-- No UID of a pod is above the number of entries.
pub pods-within : (log : List Entry) → Stored log → Each (λ pod. pod.uid.0 ≤ length log) (pods_in log)
pods-within log stored =
    Each-weaker (λ pod. pod.uid.0 ≤ births log) (λ pod. pod.uid.0 ≤ length log) (λ pod h. omega (arith, h, births_within log))
    (pods_in log) (pods_in-within log stored)

-- The pod that is found is not below the number.
pub found-from : (from : ℕ) (pods : List Pod) (pod : Pod) → find (λ pod. nat_le from pod.uid.0 && is_open pod) pods ≡ Some pod → from ≤ pod.uid.0
found-from from pods pod h = by (nat_le from pod.uid.0) refl (find_passes (λ pod. nat_le from pod.uid.0 && is_open pod) pods pod h)
  where
    by : (b : Bool) → nat_le from pod.uid.0 ≡ b → (b && is_open pod) ≡ true → from ≤ pod.uid.0
    by true t both = leb-true from pod.uid.0 t
    by false t both = absurd (true≢false (sym both))

-- Its UID is one of the numbers of entries.
pub found-within : (log : List Entry) (from : ℕ) (pod : Pod) → Each (λ pod. pod.uid.0 ≤ length log) (pods_in log) → find (λ pod. nat_le from pod.uid.0 && is_open pod) (pods_in log) ≡ Some pod → pod.uid.0 ≤ length log
found-within log from pod within h = find_each (λ pod. pod.uid.0 ≤ length log) (λ pod. nat_le from pod.uid.0 && is_open pod) (pods_in log) pod within h

module _ (fates : Key → Option (List End)) where
  -- The pod with what befalls it.
  abbrev pub tells : Pod → Option (Pod × Act)
  tells pod = option_map (λ act. (pod, act)) (act_on fates pod)

  -- Nothing befalls the pods below the number.
  abbrev pub NothingBelow : ℕ → List Pod → Type 0
  NothingBelow from pods = Each (λ pod. pod.uid.0 < from → act_on fates pod ≡ None) pods

  -- Below 0 there is none.
  pub nothing_at_first : (pods : List Pod) → NothingBelow 0 pods
  nothing_at_first [] = tt
  nothing_at_first (pod ∷ pods) = (λ below. absurd (omega arith), nothing_at_first pods)

  -- Nothing befalls a pod that has ended.
  ended : (pod : Pod) → is_open pod ≡ false → act_on fates pod ≡ None
  ended pod h = ap (λ b. cond (not b) None (cond (is_marked pod) (Some does.Stop) (act_with pod (pod_end fates pod)))) h

  -- Nothing befalls a pod that is passed over.
  passed : (from : ℕ) (pod : Pod) → (pod.uid.0 < from → act_on fates pod ≡ None) → (nat_le from pod.uid.0 && is_open pod) ≡ false → act_on fates pod ≡ None
  passed from pod below h = by (nat_le from pod.uid.0) refl h
    where
      by : (b : Bool) → nat_le from pod.uid.0 ≡ b → (b && is_open pod) ≡ false → act_on fates pod ≡ None
      by true t h = ended pod h
      by false t h = below (leb-false from pod.uid.0 t)

  -- A pod that is found first.
  same_pod : (q pod : Pod) → Some q ≡ Some pod → q ≡ pod
  same_pod q pod h = ap (λ found. option_map_or (λ p. p) found q) h

  -- Where no open pod is found, nothing befalls any.
  pub first-none : (from : ℕ) (pods : List Pod) → NothingBelow from pods → find (λ pod. nat_le from pod.uid.0 && is_open pod) pods ≡ None → newest tells pods ≡ None
  first-none from [] below h = refl
  first-none from (q ∷ pods) below h = by (first-none from pods below.1) (nat_le from q.uid.0 && is_open q) refl h
    where
      by : (find (λ pod. nat_le from pod.uid.0 && is_open pod) pods ≡ None → newest tells pods ≡ None)
          → (b : Bool) → (nat_le from q.uid.0 && is_open q) ≡ b → cond b (Some q) (find (λ pod. nat_le from pod.uid.0 && is_open pod) pods) ≡ None
          → option_or (tells q) (newest tells pods) ≡ None
      by ih true t h = absurd (true≢false (ap is_some h))
      by ih false t h = ap (λ act. option_or (option_map (λ act. (q, act)) act) (newest tells pods)) (passed from q below.0 t) ∙ ih h

  -- What befalls the open pod that is found is what the node does.
  pub first-some : (from : ℕ) (pods : List Pod) (pod : Pod) (act : Act) → NothingBelow from pods → find (λ pod. nat_le from pod.uid.0 && is_open pod) pods ≡ Some pod → act_on fates pod ≡ Some act → newest tells pods ≡ Some (pod, act)
  first-some from [] pod act below h acts = absurd (true≢false (sym (ap is_some h)))
  first-some from (q ∷ pods) pod act below h acts = by (λ h. first-some from pods pod act below.1 h acts) (nat_le from q.uid.0 && is_open q) refl h
    where
      by : (find (λ pod. nat_le from pod.uid.0 && is_open pod) pods ≡ Some pod → newest tells pods ≡ Some (pod, act))
          → (b : Bool) → (nat_le from q.uid.0 && is_open q) ≡ b → cond b (Some q) (find (λ pod. nat_le from pod.uid.0 && is_open pod) pods) ≡ Some pod
          → option_or (tells q) (newest tells pods) ≡ Some (pod, act)
      by ih true t h =
          ap (λ p. option_or (tells p) (newest tells pods)) (same_pod q pod h)
          ∙ ap (λ act. option_or (option_map (λ act. (pod, act)) act) (newest tells pods)) acts
      by ih false t h = ap (λ act. option_or (option_map (λ act. (q, act)) act) (newest tells pods)) (passed from q below.0 t) ∙ ih h

  -- The same by its kind.
  pub first-step : (from : ℕ) (pods : List Pod) (pod : Pod) (kind : NodeAct) → NothingBelow from pods → find (λ pod. nat_le from pod.uid.0 && is_open pod) pods ≡ Some pod → Some kind ≡ option_map act_kind (act_on fates pod)
      → Some (record { pod = pod.uid; act = kind }) ≡ option_map step_of (newest tells pods)
  first-step from pods pod kind below h acts = by (act_on fates pod) refl acts
    where
      by : (act : Option Act) → act_on fates pod ≡ act → Some kind ≡ option_map act_kind act → Some (record { pod = pod.uid; act = kind }) ≡ option_map step_of (newest tells pods)
      by None t acts = absurd (true≢false (ap is_some acts))
      by (Some act) t acts =
          ap (λ found. option_map (λ kind. record { pod = pod.uid; act = kind }) found) acts
          ∙ sym (ap (λ found. option_map step_of found) (first-some from pods pod act below h t))

  -- Nothing befalls a pod of which no kind is told.
  pub untold : (pod : Pod) → None ≡ option_map act_kind (act_on fates pod) → act_on fates pod ≡ None
  untold pod h = by (act_on fates pod) h
    where
      by : (act : Option Act) → None ≡ option_map act_kind act → act ≡ None
      by None h = refl
      by (Some act) h = absurd (true≢false (sym (ap is_some h)))

  -- Where nothing befalls the pod that is found, nothing befalls any up to it.
  pub nothing_up_to : (low from : ℕ) (pods : List Pod) (pod : Pod) → RisesFrom low pods → NothingBelow from pods → find (λ pod. nat_le from pod.uid.0 && is_open pod) pods ≡ Some pod → act_on fates pod ≡ None → NothingBelow (pod.uid.0 + 1) pods
  nothing_up_to low from [] pod rises below h acts = tt
  nothing_up_to low from (q ∷ pods) pod rises below h acts = by (λ h. nothing_up_to (q.uid.0 + 1) from pods pod rises.1 below.1 h acts) (nat_le from q.uid.0 && is_open q) refl h
    where
      by : (find (λ pod. nat_le from pod.uid.0 && is_open pod) pods ≡ Some pod → NothingBelow (pod.uid.0 + 1) pods)
          → (b : Bool) → (nat_le from q.uid.0 && is_open q) ≡ b → cond b (Some q) (find (λ pod. nat_le from pod.uid.0 && is_open pod) pods) ≡ Some pod
          → NothingBelow (pod.uid.0 + 1) (q ∷ pods)
      by ih true t h =
          let is = same_pod q pod h in
          let number : q.uid.0 ≡ pod.uid.0 = ap (λ p. p.uid.0) is in (
            λ below. ap (act_on fates) is ∙ acts,
            Each-weaker (λ p. q.uid.0 + 1 ≤ p.uid.0) (λ p. p.uid.0 < pod.uid.0 + 1 → act_on fates p ≡ None)
                (λ p far near. absurd (omega (arith, far, near, number))) pods (rises-each (q.uid.0 + 1) pods rises.1),
          )
      by ih false t h = (λ near. passed from q below.0 t, ih h)
