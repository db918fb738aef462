-- The node's next step, found again by its pod's UID.
--     Next log fates step     the pod of the step, and what befalls it
use Rattle.std.proofs.Common.{◌≡◌, true, false, List, [], ◌∷◌, Option, Some, None, is_some, refl, sym, ap, ◌∙◌, subst, true≢false}
use Rattle.std.specs.List.{AllByRecursion as Each}
use Rattle.std.specs.Option.{option_map, option_or}
use Rattle.jc_types.specs.declared.actions.End.{End}
use Rattle.jc_types.specs.declared.actions.PhaseChange.{PhaseChange}
use Rattle.jc_types.specs.declared.objects.Entry.{Entry}
use Rattle.jc_types.specs.declared.objects.KeyNames.{KeyNames as Key}
use Rattle.jc_types.specs.declared.objects.Pod.{Pod}
use Rattle.jc_types.proofs.ListFacts.{Each-weaker}
use Rattle.jc_log.specs.Log.{Live, life, living, pod_in, pods_in}
use Rattle.jc_log.specs.Requests.{Answered, grown, report_phase_gives}
use Rattle.jc_log.proofs.PodFacts.{pods_in-live}
use Rattle.jc_types.specs.declared.numbers.Version.{Version}
use Rattle.jc_types.specs.declared.replies.Reply.{Reply}
use Rattle.jc_types.specs.declared.replies.Reply.TheVariants as reply
use Rattle.jc_history.specs.Nodes.{NodeAct as Act, act_on, change_by, node_step, pod_end}
use Rattle.jc_history.specs.Nodes as does
use Rattle.jc_history.specs.Notes.{newest}
use Rattle.jc_history.specs.Replies.{node_gives, version_in}
use Rattle.jc_node.specs.declared.acts.NodeStep.{NodeStep}
use Rattle.jc_node.specs.NodeSteps.{act_of, step_of}
use Rattle.jc_node.proofs.LawFacts.{act-again}
use Rattle.std.proofs.lemmas.Option.{same_Some as of_some}

module _ (fates : Key → Option (List End)) where
  abbrev tells : Pod → Option (Pod × Act)
  tells pod = option_map (λ act. (pod, act)) (act_on fates pod)

  -- What the node does next befalls one of the pods.
  found : (P : Pod → Type 0) (pods : List Pod) (step : Pod × Act) → Each P pods → newest tells pods ≡ Some step → P step.0 × (act_on fates step.0 ≡ Some step.1)
  found P [] step all e = absurd (true≢false (sym (ap is_some e)))
  found P (q ∷ pods) step all e = by (found P pods step all.1) (act_on fates q) refl e
    where
      by : (newest tells pods ≡ Some step → P step.0 × (act_on fates step.0 ≡ Some step.1)) → (o : Option Act)
          → act_on fates q ≡ o → option_or (option_map (λ act. (q, act)) o) (newest tells pods) ≡ Some step → P step.0
          × (act_on fates step.0 ≡ Some step.1)
      by rest None t e = rest e
      by rest (Some act) t e = subst (λ (s : Pod × Act). P s.0 × (act_on fates s.0 ≡ Some s.1)) (of_some (q, act) step e) (all.0, t)

-- The pod of the step is there, and what befalls it is told by the step with the pod's end.
pub record Next (log : List Entry) (fates : Key → Option (List End)) (step : NodeStep) : Type 0 where
  pub pod : Pod
  pub act : Act
  pub is : node_step log fates ≡ Some (pod, act)
  pub uid : step.pod ≡ pod.uid
  pub there : pod_in step.pod log ≡ Some pod
  pub kind : act_of step.act (pod_end fates pod) ≡ Some act

lives : (log : List Entry) → Each (λ pod. pod_in pod.uid log ≡ Some pod) (pods_in log)
lives log = Each-weaker (λ pod. life pod.uid log ≡ Live pod) (λ pod. pod_in pod.uid log ≡ Some pod) (λ pod e. ap living e) (pods_in log) (pods_in-live log)

pub next_of : (log : List Entry) (fates : Key → Option (List End)) (step : NodeStep) → option_map step_of (node_step log fates) ≡ Some step → Next log fates step
next_of log fates step e = by (node_step log fates) refl e
  where
    by : (o : Option (Pod × Act)) → node_step log fates ≡ o → option_map step_of o ≡ Some step → Next log fates step
    by None t e = absurd (true≢false (sym (ap is_some e)))
    by (Some next) t e =
        let both = found fates (λ pod. pod_in pod.uid log ≡ Some pod) (pods_in log) next (lives log) t in
        let same : step_of next ≡ step = of_some (step_of next) step e in
        record {
          pod = next.0;
          act = next.1;
          is = t;
          uid = sym (ap (λ (s : NodeStep). s.pod) same);
          there = ap (λ (s : NodeStep). pod_in s.pod log) (sym same) ∙ both.0;
          kind = ap (λ (s : NodeStep). act_of s.act (pod_end fates next.0)) (sym same) ∙ act-again fates next.0 next.1 both.1;
        }

module _ (log : List Entry) (fates : Key → Option (List End)) (step : NodeStep) (n : Next log fates step) (pod : Pod) (there : Some pod ≡ pod_in step.pod log) where
  same_pod : pod ≡ n.pod
  same_pod = of_some pod n.pod (there ∙ n.there)

  pub step_pod : step.pod ≡ pod.uid
  step_pod = n.uid ∙ ap (λ (p : Pod). p.uid) (sym same_pod)

  pub told_act : act_of step.act (pod_end fates pod) ≡ Some n.act
  told_act = ap (λ p. act_of step.act (pod_end fates p)) same_pod ∙ n.kind

  module _ (change : PhaseChange) (changes : option_map (change_by pod) (act_of step.act (pod_end fates pod)) ≡ Some change) where
    same_change : change ≡ change_by n.pod n.act
    same_change = of_some change (change_by n.pod n.act) (sym changes ∙ (λ i. option_map (change_by (same_pod i)) (told_act i)))

    same_told : report_phase_gives log step.pod change ≡ report_phase_gives log n.pod.uid (change_by n.pod n.act)
    same_told = λ i. report_phase_gives log (n.uid i) (same_change i)

    pub step_replies : (told : Reply) (version : Version) → told ≡ (report_phase_gives log step.pod change).reply → version ≡ version_in told pod.version → reply.NodeDone step.pod change.phase version ≡ (node_gives log (node_step log fates)).reply
    step_replies told version e v =
        (λ i. reply.NodeDone (n.uid i) (same_change i).phase ((v ∙ (λ j. version_in ((e ∙ ap (λ (a : Answered). a.reply) same_told) j) (same_pod j).version)) i))
        ∙ sym (ap (λ o. (node_gives log o).reply) n.is)

    pub step_writes : (next : List Entry) → next ≡ grown log (report_phase_gives log step.pod change).entry → next ≡ grown log (node_gives log (node_step log fates)).entry
    step_writes next e = e ∙ ap (λ (a : Answered). grown log a.entry) same_told ∙ sym (ap (λ o. grown log (node_gives log o).entry) n.is)

-- The node does nothing.
pub no_step : (log : List Entry) (fates : Key → Option (List End)) → None ≡ option_map step_of (node_step log fates) → node_step log fates ≡ None
no_step log fates e = by (node_step log fates) e
  where
    by : (o : Option (Pod × Act)) → None ≡ option_map step_of o → o ≡ None
    by None e = refl
    by (Some next) e = absurd (true≢false (sym (ap is_some e)))
