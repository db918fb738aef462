use Rattle.std.proofs.Common.{ap, arith, length, refl}
use Rattle.std.proofs.lemmas.List.{length-take-le}
use Rattle.jc_states.proofs.PodPlaceFacts.{copied-below}
use Rattle.jc_states.proofs.pod_lists.Pods.from_slice.Goals as goal

-- The pods ascend, and so do their copies.
pub push-requires : goal.push-requires
push-requires c = record {
  above =
      copied-below c.args.items.now c.args.items.now c.loop-pod.pods c.loop-pod.pod-index c.pod-item.result c.in_ok-copy.field-0 c.requires.rising refl
      c.loop-pod-test.true c.pod-item.is c.in_ok-copy.ensures c.loop-pod.invariant;
  few_pods =
      let least = length-take-le c.loop-pod.pod-index c.args.items.now (omega (arith, c.loop-pod-test.true)) in
      omega (arith, least, ap length c.loop-pod.invariant, c.loop-pod-test.true, c.requires.few_pods);
}
