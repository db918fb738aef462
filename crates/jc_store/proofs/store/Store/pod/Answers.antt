use Rattle.std.proofs.Common.{ap, find, ◌∙◌}
use Rattle.jc_types.specs.Keys.{same_uid}
use Rattle.jc_store.proofs.Keeps.{pod_there}
use Rattle.jc_store.proofs.store.Store.pod.Goals as goal

pub returns : goal.returns
returns c =
    c.get.ensures
    ∙ ap (find (λ pod. same_uid pod.uid c.args.pod)) c.all.ensures
    ∙ pod_there c.self.inside.pods c.self.inside.log c.args.self.now c.args.pod c.self.invariant.pods_there c.self.view_is
