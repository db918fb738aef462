use Rattle.std.proofs.Common.{ap, ◌∙◌}
use Rattle.jc_states.specs.PodLists.{drop_pod}
use Rattle.jc_store.proofs.Keeps.{end_pod-keeps}
use Rattle.jc_store.proofs.store.Store.end_pod.Goals as goal

pub invariant_of-self-2 : goal.invariant_of-self-2
invariant_of-self-2 c =
    end_pod-keeps c.self.inside.born c.self.inside.jobs c.self.inside.pods c.take.new.self c.self.inside.made.entries
    c.self.inside.log c.push.new.self c.args.self.now c.args.pod c.self.invariant c.self.view_is c.requires.room
    c.in_ok-push.ensures.added (c.take.ensures ∙ ap (λ p. drop_pod p.uid c.self.inside.pods) c.deref.ensures) c.requires.version c.requires.step c.requires.goes
