use Rattle.std.proofs.Common.{ap, eq-eqb, filter, ne_eqb, sym, ◌∙◌}
use Rattle.jc_types.specs.declared.objects.Pod.{Pod}
use Rattle.jc_types.specs.Keys.{same_uid}
use Rattle.jc_states.specs.PodLists.{drop_pod}
use Rattle.jc_verdicts.specs.Verdicts.{stays}
use Rattle.jc_verdicts.proofs.VerdictPods.{rises-dropped, seen_put, seen_other, seen_gone}
use Rattle.jc_verdicts.proofs.seen.take_in.Goals as goal

-- A pod of the Job is put.
pub returns-in_ok-put-in-PodPut-clause-pods : goal.returns-in_ok-put-in-PodPut-clause-pods
returns-in_ok-put-in-PodPut-clause-pods c =
    λ older before.
    seen_put c.args.known.now.entries c.args.owner c.args.entry.now c.in-PodPut.pod (filter (stays c.args.known.now.entries) c.args.pods.now.items) (filter (stays c.args.known.now.entries) c.put.new.pods.items) older c.in-PodPut.is
    (ap (λ (pod : Pod). same_uid pod.owner_uid c.args.owner) (sym c.deref.ensures) ∙ eq-eqb _ _ c.if-deref-owner.true) c.in_ok-put-in-PodPut.ensures.puts before

-- A pod of another Job is put.
pub returns-else-deref-owner-clause-rising : goal.returns-else-deref-owner-clause-rising
returns-else-deref-owner-clause-rising c = rises-dropped c.deref-else-deref-owner.result.now.uid c.args.pods.now.items c.take_out.new.pods.items c.requires c.take_out.ensures

pub returns-else-deref-owner-clause-pods : goal.returns-else-deref-owner-clause-pods
returns-else-deref-owner-clause-pods c =
    λ older before.
    seen_other c.args.known.now.entries c.args.owner c.args.entry.now c.in-PodPut.pod c.args.pods.now.items c.take_out.new.pods.items older c.in-PodPut.is
    (ap (λ (pod : Pod). same_uid pod.owner_uid c.args.owner) (sym c.deref.ensures) ∙ ne_eqb _ _ c.if-deref-owner.false)
    (c.take_out.ensures ∙ ap (λ (pod : Pod). drop_pod pod.uid c.args.pods.now.items) c.deref-else-deref-owner.ensures) before

-- A pod goes.
pub returns-in-PodGone-clause-rising : goal.returns-in-PodGone-clause-rising
returns-in-PodGone-clause-rising c = rises-dropped c.deref-in-PodGone.result.now.uid c.args.pods.now.items c.take_out-in-PodGone.new.pods.items c.requires c.take_out-in-PodGone.ensures

pub returns-in-PodGone-clause-pods : goal.returns-in-PodGone-clause-pods
returns-in-PodGone-clause-pods c =
    λ older before.
    seen_gone c.args.known.now.entries c.args.owner c.args.entry.now c.in-PodGone.pod c.args.pods.now.items c.take_out-in-PodGone.new.pods.items older c.in-PodGone.is
    (c.take_out-in-PodGone.ensures ∙ ap (λ (pod : Pod). drop_pod pod.uid c.args.pods.now.items) c.deref-in-PodGone.ensures) before
