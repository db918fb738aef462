use Rattle.std.proofs.Common.{◌&&◌, ap, ◌∙◌}
use Rattle.std.specs.Prelude.{find, nat_le}
use Rattle.jc_types.specs.declared.objects.Pod.{Pod}
use Rattle.jc_states.specs.Pods.{is_open}
use Rattle.jc_log.specs.Log.{pods_in}
use Rattle.jc_store.proofs.store.Store.open_pod_from.Goals as goal

pub returns : goal.returns
returns c =
    c.open_from.ensures
    ∙ ap (find (λ (pod : Pod). nat_le c.args.uid.0 pod.uid.0 && is_open pod)) (c.self.invariant.pods_there ∙ ap pods_in c.self.view_is)
