use Rattle.std.proofs.Common.{◌≡◌, true, arith, ◌+◌, ◌++◌, ◌∷◌, [], take, ap, subst, sym, ◌∙◌}
use Rattle.std.proofs.lemmas.List.{take_more}
use Rattle.std.specs.Prelude.{IfSome}
use Rattle.std.specs.Option.{option_copied}
use Rattle.jc_types.specs.declared.objects.Pod.{Pod}
use Rattle.jc_queue.specs.Queued.{RoomedQueue, added, has_key}
use Rattle.jc_control.proofs.TurnFacts.{added-again, added-dirty, all_added-next}
use Rattle.jc_control.proofs.queues.with_owners.Goals as goal
use Rattle.jc_control.proofs.queues.with_owners.Goals.{then-not-is_again+in_ok-add, else-not-is_again}

-- The key is added, or it is the last one, which is dirty.
pub loop-pod-preserved : goal.loop-pod-preserved
loop-pod-preserved c =
    let pods = c.args.pods.now in
    let i = c.loop-pod.pod-index in
    let pod = c.pod-item.result in
    let owner = c.deref.result.now.owner in
    let before = c.loop-pod.with_keys.queue in
    let after = c.if-not-is_again.with_keys.queue in
    let more = take_more pods i pod (omega (arith, c.loop-pod-test.true)) ∙ ap (λ pod. take i pods ++ pod ∷ []) (sym c.pod-item.is) in
    elim c.if-not-is_again.branch [
      | then-not-is_again+in_ok-add w ↦
          let put = ap (λ (q : RoomedQueue). q.queue) w.with_keys-is ∙ w.in_ok-add.ensures.added in (
            all_added-next (λ (pod : Pod). pod.owner) c.args.queue.now.queue before after pods i (i + 1) pod more c.loop-pod.invariant.0
                (put ∙ ap (λ (pod : Pod). added before pod.owner) c.deref.ensures),
            ap (λ (q : RoomedQueue). q.room) w.with_keys-is ∙ w.in_ok-add.ensures.room ∙ c.loop-pod.invariant.1,
            subst (λ last. IfSome (option_copied last) (λ k. has_key k after.dirty ≡ true)) (sym w.last-is)
                (subst (λ q. has_key owner q.dirty ≡ true) (sym put) (added-dirty before owner)),
          )
      | else-not-is_again w ↦
          let same = ap (λ (q : RoomedQueue). q.queue) w.with_keys-is in (
            all_added-next (λ (pod : Pod). pod.owner) c.args.queue.now.queue before after pods i (i + 1) pod more c.loop-pod.invariant.0
                (same ∙ added-again before (option_copied c.loop-pod.last) owner c.loop-pod.invariant.2 w.if-not-is_again.ensures
                ∙ ap (λ (pod : Pod). added before pod.owner) c.deref.ensures),
            ap (λ (q : RoomedQueue). q.room) w.with_keys-is ∙ c.loop-pod.invariant.1,
            subst (λ last. IfSome (option_copied last) (λ k. has_key k after.dirty ≡ true)) (sym w.last-is)
                (subst (λ q. IfSome (option_copied c.loop-pod.last) (λ k. has_key k q.dirty ≡ true)) (sym same) c.loop-pod.invariant.2),
          )
    ]
