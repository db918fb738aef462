-- What the node's next step is of, and how fates follow the deeds of a history.
use Rattle.std.proofs.Common.{◌≡◌, Bool, true, false, not, List, [], ◌∷◌, Option, Some, None, is_some, refl, sym, ap, ◌∙◌, subst, option_map, true≢false, if◌then◌else◌}
use Rattle.std.specs.List.{AllByRecursion as Each}
use Rattle.std.specs.Option.{option_map_or, option_or}
use Rattle.jc_types.specs.declared.actions.End.{End}
use Rattle.jc_types.specs.declared.objects.Entry.{Entry}
use Rattle.jc_types.specs.declared.objects.Pod.{Pod}
use Rattle.jc_types.specs.declared.objects.KeyNames.{KeyNames as Key}
use Rattle.jc_types.specs.Keys.{same_key}
use Rattle.jc_states.specs.Pods.{is_marked, is_open, is_pending}
use Rattle.jc_log.specs.Acts.{Act as Done}
use Rattle.jc_log.specs.Acts as told
use Rattle.jc_log.specs.Deeds.{Deed}
use Rattle.jc_log.specs.Log.{Live, life, living, pod_in, pods_in}
use Rattle.jc_log.proofs.PodFacts.{pods_in-live}
use Rattle.jc_history.specs.Nodes.{NodeAct as Act, act_on, act_with, fate, fate_told, is_again, node_step, pod_end}
use Rattle.jc_history.specs.Nodes as does
use Rattle.jc_history.specs.Notes.{newest}
use Rattle.jc_node.specs.Fated.{ends_at_key}
use Rattle.jc_node.specs.NodeSteps.{act_of, act_kind}
use Rattle.jc_node.proofs.NextFacts.{tells}

-- ---- the node's next step

-- What the pod of a step has, and what befalls it.
record Found (fates : Key → Option (List End)) (P : Pod → Type 0) (pod : Pod) (act : Act) : Type 0 where
  has : P pod
  acts : act_on fates pod ≡ Some act

-- The pod of the step is one of the pods.
found : (fates : Key → Option (List End)) (P : Pod → Type 0) (pods : List Pod) (pod : Pod) (act : Act) → Each P pods → newest (tells fates) pods ≡ Some (pod, act) → Found fates P pod act
found fates P [] pod act all h = absurd (true≢false (sym (ap is_some h)))
found fates P (q ∷ pods) pod act all h = by (found fates P pods pod act all.1) (act_on fates q) refl h
  where
    by : (newest (tells fates) pods ≡ Some (pod, act) → Found fates P pod act) → (acts : Option Act) → act_on fates q ≡ acts
        → option_or (option_map (λ act. (q, act)) acts) (newest (tells fates) pods) ≡ Some (pod, act) → Found fates P pod act
    by ih None t h = ih h
    by ih (Some a) t h =
        let is : q ≡ pod = ap (λ step. option_map_or (λ s. s.0) step q) h in
        let same : a ≡ act = ap (λ step. option_map_or (λ s. s.1) step a) h in
        record { has = subst P is all.0; acts = ap (act_on fates) (sym is) ∙ t ∙ ap Some same }

module _ (log : List Entry) (fates : Key → Option (List End)) (pod : Pod) (act : Act) (steps : node_step log fates ≡ Some (pod, act)) where
  step : Found fates (λ pod. life pod.uid log ≡ Live pod) pod act
  step = found fates (λ pod. life pod.uid log ≡ Live pod) (pods_in log) pod act (pods_in-live log) steps

  -- The pod of the step is there.
  pub step-there : pod_in pod.uid log ≡ Some pod
  step-there = ap living step.has

  -- The act of the step befalls it.
  pub step-befalls : act_on fates pod ≡ Some act
  step-befalls = step.acts

-- What is in an option.
same_act : (some act : Act) → Some some ≡ Some act → some ≡ act
same_act some act h = ap (λ found. option_map_or (λ a. a) found some) h

-- An act that its kind and the end give, where it is the one that befalls.
given : (end : Option End) (some act : Act) → act_of (act_kind some) end ≡ Some some → Some some ≡ Some act → act_of (act_kind act) end ≡ Some act
given end some act own h = subst (λ a. act_of (act_kind a) end ≡ Some a) (same_act some act h) own

-- The kind of what befalls an open pod that is not marked gives it again, with the pod's end.
with-again : (pod : Pod) (end : Option End) (act : Act) → act_with pod end ≡ Some act → act_of (act_kind act) end ≡ Some act
with-again pod None act h = absurd (true≢false (sym (ap is_some h)))
with-again pod (Some end) act h = by (is_pending pod.phase) (is_again pod end) h
  where
    by : (pending again : Bool) → (if pending then Some does.Start else if again then Some does.Again else Some (does.Finish end)) ≡ Some act → act_of (act_kind act) (Some end) ≡ Some act
    by true again h = given (Some end) does.Start act refl h
    by false true h = given (Some end) does.Again act refl h
    by false false h = given (Some end) (does.Finish end) act refl h

-- The kind of what befalls a pod gives it again, with the pod's end.
pub act-again : (fates : Key → Option (List End)) (pod : Pod) (act : Act) → act_on fates pod ≡ Some act → act_of (act_kind act) (pod_end fates pod) ≡ Some act
act-again fates pod act h = by (not (is_open pod)) (is_marked pod) h
  where
    by : (ended marked : Bool) → (if ended then None else if marked then Some does.Stop else act_with pod (pod_end fates pod)) ≡ Some act → act_of (act_kind act) (pod_end fates pod) ≡ Some act
    by true marked h = absurd (true≢false (sym (ap is_some h)))
    by false true h = given (pod_end fates pod) does.Stop act refl h
    by false false h = with-again pod (pod_end fates pod) act h

-- The same of the node's next step.
pub step-again : (log : List Entry) (fates : Key → Option (List End)) (pod : Pod) (act : Act) → node_step log fates ≡ Some (pod, act) → act_of (act_kind act) (pod_end fates pod) ≡ Some act
step-again log fates pod act steps = act-again fates pod act (step-befalls log fates pod act steps)

-- ---- fates and deeds

-- A deed that decides a fate tells it of its key.
told-fate : (deed : Deed) (key k : Key) (ends : List End) → deed.act ≡ told.Fate key ends → fate_told k deed ≡ (if same_key key k then Some ends else None)
told-fate deed key k ends is = ap (λ (act : Done). fate_told k (record deed { act = act })) is

-- Fates after a deed that decides one.
pub fates-decided : (older : List Deed) (deed : Deed) (key : Key) (ends : List End) (old new : List (Key × List End)) → deed.act ≡ told.Fate key ends → ends_at_key old ≡ fate older
    → ((other : Key) → ends_at_key new other ≡ (if same_key key other then Some ends else ends_at_key old other)) → ends_at_key new ≡ fate (deed ∷ older)
fates-decided older deed key ends old new is same sets = λ i k. at k i
  where
    by : (k : Key) (b : Bool) → (if b then Some ends else ends_at_key old k) ≡ option_or (if b then Some ends else None) (fate older k)
    by k true = refl
    by k false = ap (λ fates. fates k) same

    at : (k : Key) → ends_at_key new k ≡ fate (deed ∷ older) k
    at k = sets k ∙ by k (same_key key k) ∙ sym (ap (λ found. option_or found (fate older k)) (told-fate deed key k ends is))

-- Fates after any other deed.
pub fates-left : (older : List Deed) (deed : Deed) (rows : List (Key × List End)) → ((key : Key) → fate_told key deed ≡ None) → ends_at_key rows ≡ fate older → ends_at_key rows ≡ fate (deed ∷ older)
fates-left older deed rows none same = λ i k. at k i
  where
    at : (k : Key) → ends_at_key rows k ≡ fate (deed ∷ older) k
    at k = ap (λ fates. fates k) same ∙ sym (ap (λ found. option_or found (fate older k)) (none k))
