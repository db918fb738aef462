use Rattle.std.proofs.Common.{◌+◌, ◌++◌, ◌∷◌, [], ap, find, not, sym, subst, ◌∙◌, arith}
use Rattle.jc_types.specs.declared.objects.Entry.TheVariants.{PodPut}
use Rattle.jc_types.specs.Keys.{same_uid}
use Rattle.jc_states.specs.PodLists.{put_pod}
use Rattle.jc_states.specs.Pods.{is_final, is_open}
use Rattle.jc_log.specs.Log.{living, made_for}
use Rattle.jc_log.specs.Writes.{Stored}
use Rattle.jc_log.proofs.CountFacts.{made_within}
use Rattle.jc_log.proofs.AppendFacts.{new_never}
use Rattle.jc_store.proofs.Keeps.{make_pod-keeps, pod_there}
use Rattle.jc_store.proofs.store.Store.make_pod.Goals as goal

pub overflow_add-more : goal.overflow_add-more
overflow_add-more c =
    omega (arith, made_within c.args.pod.owner_uid c.args.self.now, c.made_for-count.ensures, c.requires.room)

pub reserve_count-requires : goal.reserve_count-requires
reserve_count-requires c =
    c.made_for-count.ensures
    ∙ ap (made_for c.args.pod.owner_uid) (sym c.self.view_is)
    ∙ sym (c.self.invariant.made_before c.args.pod.owner_uid)

pub add_pod-requires-clause-absent : goal.add_pod-requires-clause-absent
add_pod-requires-clause-absent c =
    ap (λ q. find (λ p. same_uid p.uid q.uid) c.self.inside.pods) c.in_ok-pod.ensures
    ∙ pod_there c.self.inside.pods c.self.inside.log c.args.self.now c.args.pod.uid c.self.invariant.pods_there c.self.view_is
    ∙ ap living (new_never c.args.self.now c.args.pod (subst Stored c.self.view_is c.self.invariant.stored) c.requires.new_pod)

pub add_pod-requires-clause-begins_open : goal.add_pod-requires-clause-begins_open
add_pod-requires-clause-begins_open c = ap is_open c.in_ok-pod.ensures ∙ ap (λ phase. not (is_final phase)) c.requires.new_pod.phase

pub put_count-requires : goal.put_count-requires
put_count-requires c = c.in_ok-reserve_count.ensures.row

pub invariant_of-self-2 : goal.invariant_of-self-2
invariant_of-self-2 c =
    make_pod-keeps c.self.inside.born (c.births-born.result + 1) c.self.inside.jobs c.self.inside.pods c.add_pod.new.pods c.self.inside.made.entries
    c.reserve_count.new.made.entries c.put_count.new.made.entries c.self.inside.log c.add_pod.new.log c.args.self.now c.args.pod
    c.made_for-count.result c.self.invariant c.self.view_is
    (c.in_ok-add_pod.ensures.entry ∙ ap (λ p. c.self.inside.log ++ PodPut p ∷ []) (c.in_ok-copy.ensures ∙ c.in_ok-pod.ensures))
    (c.in_ok-add_pod.ensures.row ∙ ap (λ p. put_pod p c.self.inside.pods) c.in_ok-pod.ensures) c.reserve_count.ensures.counts c.made_for-count.ensures c.put_count.ensures
    (ap (λ n. n + 1) c.births-born.ensures.value) c.requires.room c.requires.version c.requires.new_pod
