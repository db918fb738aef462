use Rattle.std.proofs.Common.{rules, ◌≡◌, ◌+◌, [], ◌∷◌, ◌++◌, ap, arith, length, take, ◌∙◌}
use Rattle.std.proofs.lemmas.List.{take_more}
use Rattle.jc_types.specs.declared.objects.Entry.TheVariants.{PodPut}
use Rattle.jc_cache.specs.Caches.{owned_after}
use Rattle.jc_cache.proofs.CacheFacts.{first-few, first-next}
use Rattle.jc_cache.proofs.pods.mixed_rows.Goals as goal

-- Those of its owner among the first ones leave room for it.
pub put_pod-requires : goal.put_pod-requires
put_pod-requires c =
    let pod = c.pod-item.result in
    let i = c.loop-pod.pod-index in
    let few = first-few pod.owner c.args.pods.now i (omega (arith, c.loop-pod-test.true)) in
    record { few_pods = omega (arith, few, ap length (c.loop-pod.invariant pod.owner), c.loop-pod-test.true, c.requires.few_pods) }

-- The pod after the first ones is put.
pub loop-pod-preserved : goal.loop-pod-preserved
loop-pod-preserved c k =
    let pods = c.args.pods.now in
    let i = c.loop-pod.pod-index in
    let pod = c.pod-item.result in
    let more : take (i + 1) pods ≡ take i pods ++ pod ∷ [] = search (rules, take_more) in
    c.in_ok-put_pod.ensures.puts k ∙ ap (owned_after k (PodPut pod)) (c.loop-pod.invariant k) ∙ first-next k pods i pod c.requires.rising more
