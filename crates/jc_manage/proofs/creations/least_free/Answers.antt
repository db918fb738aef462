-- The flags agree with the pods on the indexes below the completions.
use Rattle.std.proofs.Common.{◌≡◌, ◌&&◌, ◌∙◌, false, filter, get_or, map, take, not, unwrap_or, Some, IfOk, ap, arith, subst}
use Rattle.std.specs.List.{range_with_len}
use Rattle.jc_manage.specs.Creations.{is_done_index}
use Rattle.jc_states.specs.Bases.{own_pods}
use Rattle.jc_manage.specs.Creations.{free, is_free, keepers}
use Rattle.jc_manage.proofs.Sequences.{filter-range_agree}
use Rattle.jc_manage.proofs.creations.least_free.Goals as goal

pub returns : goal.returns
returns c =
    let counted = c.args.counted.now in
    let kept = keepers c.args.job.now.spec.replacement (own_pods c.args.job.now c.args.pods.now) in
    let count = c.unwrap_or-completions.result in
    let flags = c.as_slice.result.now in
    let alike : filter (λ n. not (is_done_index counted n) && not (get_or flags n false)) (range_with_len 0 count) ≡ free count counted kept =
    filter-range_agree (λ n. not (is_done_index counted n) && not (get_or flags n false)) (is_free counted kept) 0 count
    (λ n h. ap (λ b. not (is_done_index counted n) && not b) (ap (λ f. get_or f n false) c.as_slice.ensures.value ∙ c.in_ok-kept.ensures n (omega (arith, h)))) in
    subst (λ ms. IfOk c.free_indexes.result (λ indexes. indexes ≡ map (λ n. Some n) (take c.args.most ms)))
    (alike ∙ ap (λ k. free k counted kept) c.unwrap_or-completions.ensures
    ∙ ap (λ spec. free (unwrap_or spec.completions 0) counted kept) c.deref.ensures)
    c.free_indexes.ensures
