use Rattle.std.proofs.Common.{◌≡◌, None, ap, sym, subst, ◌∙◌}
use Rattle.std.specs.List.{AllByRecursion as Each}
use Rattle.jc_log.proofs.RequestFacts.{new_containers-no_exits}
use Rattle.jc_log.specs.Log.{made_for}
use Rattle.jc_store.proofs.store.Store.create_pod.Goals as goal

pub make_pod-requires-clause-new_pod : goal.make_pod-requires-clause-new_pod
make_pod-requires-clause-new_pod c = record {
  uid = ap (λ p. p.uid.0) c.in_ok-pod.ensures ∙ ap (λ u. u.0) c.next_uid-uid.ensures;
  serial =
      ap (λ p. p.serial) c.in_ok-pod.ensures
      ∙ c.made_for-serial.ensures
      ∙ ap (λ p. made_for p.owner_uid c.containers_of.new.self) (sym c.in_ok-pod.ensures);
  phase = ap (λ p. p.phase) c.in_ok-pod.ensures;
  exits =
      subst (Each (λ container. container.exit ≡ None)) (sym (ap (λ p. p.containers) c.in_ok-pod.ensures ∙ c.in_ok-containers.ensures.containers))
      (new_containers-no_exits c.deref.result.now.template);
  conditions = ap (λ p. p.conditions) c.in_ok-pod.ensures;
  marked = ap (λ p. p.marked) c.in_ok-pod.ensures;
  tracked = ap (λ p. p.tracked) c.in_ok-pod.ensures;
}
