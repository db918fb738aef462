use Rattle.std.proofs.Common.{rules, ◌≡◌, ◌+◌, [], ◌∷◌, ◌++◌, ap, sym, subst, take, ◌∙◌}
use Rattle.std.proofs.lemmas.List.{take_more}
use Rattle.jc_ranges.specs.Sets.{IsIncreasing}
use Rattle.jc_types.specs.declared.objects.Pod.{Pod}
use Rattle.jc_types.specs.Keys.{same_uid}
use Rattle.jc_log.specs.Tables.{at}
use Rattle.jc_perindex.proofs.Sets.{increasing-join as increases_join}
use Rattle.jc_states.specs.UidLists.{join}
use Rattle.jc_verdicts.specs.Verdicts.{success_indexes}
use Rattle.jc_verdicts.proofs.VerdictRows.{joined-more}
use Rattle.jc_verdicts.proofs.rows.put_successes.Goals as goal

-- The index of one pod more is put in its place, if it has one.
pub loop-pod-preserved : goal.loop-pod-preserved
loop-pod-preserved c =
    let job = c.args.job.now in
    let pods = c.args.pods.now in
    let i = c.loop-pod.pod-index in
    let pod = c.pod-item.result in
    let known = at same_uid c.args.known.now.entries in
    let set = c.args.done.now.items in
    let so_far = c.loop-pod.done.items in
    let new = c.put_success.new.done.items in
    let more : take (i + 1) pods ≡ take i pods ++ pod ∷ [] = search (rules, take_more) in
    record {
      joined =
          joined-more job known (take i pods) pod set so_far new c.loop-pod.invariant.joined
          (c.in_ok-put_success.ensures ∙ ap (λ (p : Pod). join so_far (success_indexes job known (p ∷ []))) c.deref.ensures)
          ∙ ap (λ ps. join set (success_indexes job known ps)) (sym more);
      order =
          subst IsIncreasing (sym c.in_ok-put_success.ensures)
          (increases_join so_far (success_indexes job known (c.deref.result.now ∷ [])) c.loop-pod.invariant.order);
    }
