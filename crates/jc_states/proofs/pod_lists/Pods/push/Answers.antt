use Rattle.std.proofs.Common.{◌≡◌, ◌<◌, OnOk, subst}
use Rattle.std.proofs.lemmas.List.Elements.{recursion_from_All}
use Rattle.jc_types.specs.declared.objects.Pod.{Pod}
use Rattle.jc_states.proofs.PodPlaceFacts.{put-above}
use Rattle.jc_states.proofs.pod_lists.Pods.push.Goals as goal

pub returns-clause-added : goal.returns-clause-added
returns-clause-added c =
    subst (λ pods. OnOk c.put.result (c.put.new.self ≡ pods))
    (put-above c.args.pod c.args.self.now (recursion_from_All (λ (other : Pod). other.uid.0 < c.args.pod.uid.0) c.args.self.now c.requires.above))
    c.put.ensures.puts
