use Rattle.std.proofs.Common.{List, ap, is_some, sym, ◌∙◌}
use Rattle.jc_types.specs.declared.objects.Pod.{Pod}
use Rattle.jc_states.proofs.PodListFacts.{pod_among}
use Rattle.jc_cache.proofs.ChangeFacts.{copied_some, has-before, has-changed}
use Rattle.jc_cache.proofs.shared_pods.SharedPods.has.Goals as goal

-- The change that waits says it.
pub returns-in-Some : goal.returns-in-Some
returns-in-Some c =
    let u = c.args.uid in
    c.is_some.ensures
    ∙ has-changed u c.self.inside.waiting.entries c.self.inside.shared.value c.in-Some.change.now c.self.invariant.named c.self.invariant.once (sym c.in-Some.ensures.value)
    ∙ ap (λ (all : List Pod). is_some (pod_among u all)) c.self.view_is

-- Where none waits the pods say it.
pub returns-in-None : goal.returns-in-None
returns-in-None c =
    let u = c.args.uid in
    c.is_some-in-None.ensures
    ∙ copied_some c.get-in-None.result
    ∙ ap is_some c.get-in-None.ensures
    ∙ ap (λ (all : List Pod). is_some (pod_among u all)) c.deref.ensures
    ∙ has-before u c.self.inside.waiting.entries c.self.inside.shared.value c.self.invariant.named c.self.invariant.once (sym c.in-None.ensures.value)
    ∙ ap (λ (all : List Pod). is_some (pod_among u all)) c.self.view_is
