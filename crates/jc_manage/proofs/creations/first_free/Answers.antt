-- The holders agree with the pods on each index.
use Rattle.std.proofs.Common.{◌≡◌, ◌&&◌, ◌∙◌, ℕ, filter, map, sym, take, not, unwrap_or, Some, IfOk, ap, subst}
use Rattle.std.specs.List.{list_any, range_with_len}
use Rattle.jc_states.specs.Bases.{own_pods}
use Rattle.jc_states.specs.Holders.{has_index_in}
use Rattle.jc_states.specs.Pods.{tracked_active_pods}
use Rattle.jc_types.specs.declared.specifications.JobSpec.{JobSpec}
use Rattle.jc_manage.specs.Creations.{free, is_done_index, keepers}
use Rattle.jc_manage.proofs.creations.first_free.Goals as goal

pub returns-then-are_kept_as_held : goal.returns-then-are_kept_as_held
returns-then-are_kept_as_held c =
    let counted = c.args.counted.now in
    let own = own_pods c.args.job.now c.args.pods.now in
    let kept = keepers c.args.job.now.spec.replacement own in
    let count = c.unwrap_or-completions.result in
    let told = c.are_kept_as_held.ensures c.if-are_kept_as_held.true in
    let alike : filter (λ n. not (is_done_index counted n) && not (list_any (has_index_in n n) (tracked_active_pods own))) (range_with_len 0 count) ≡ free count counted kept =
    (λ i. filter (λ n. not (is_done_index counted n) && not (sym (told n) i)) (range_with_len 0 count)) in
    subst (λ ms. IfOk c.unheld_indexes.result (λ indexes. indexes ≡ map (λ n. Some n) (take c.args.most ms)))
    (alike ∙ ap (λ (k : ℕ). free k counted kept) c.unwrap_or-completions.ensures
    ∙ ap (λ (spec : JobSpec). free (unwrap_or spec.completions 0) counted kept) c.deref.ensures)
    c.unheld_indexes.ensures
