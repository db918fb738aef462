use Rattle.std.proofs.Common.{ap, arith, ◌∙◌}
use Rattle.jc_types.specs.declared.objects.Pod.{Pod}
use Rattle.jc_types.specs.Keys.{same_uid}
use Rattle.jc_log.specs.Tables.{at}
use Rattle.jc_verdicts.proofs.FrontFacts.{space-front}
use Rattle.jc_verdicts.proofs.rows.space.Goals as goal

-- None of the pods from here on was judged.
pub returns-then-deref-last : goal.returns-then-deref-last
returns-then-deref-last c =
    let e = ap (λ (pod : Pod). pod.uid.0) (c.deref.ensures ∙ c.pod-item.is) in
    c.loop-pod.invariant
    ∙ space-front c.args.spec.now (at same_uid c.args.known.now.entries) c.args.last c.requires.last c.loop-pod.pod-index c.args.pods.now c.pod-item.result
    c.requires.rising (omega (arith, c.loop-pod-test.true)) (omega (arith, e, c.if-deref-last.true))
