use Rattle.std.proofs.Common.{◌≡◌, ◌∙◌, ap, map, nat_eq, subst, sym, unwrap_or}
use Rattle.std.specs.HashMap.{get}
use Rattle.std.specs.Prelude.{IfOk}
use Rattle.jc_states.specs.Bases.{own_pods}
use Rattle.jc_states.specs.Pods.{tracked_active_pods}
use Rattle.jc_manage.specs.Creations.{job_wants}
use Rattle.jc_manage.specs.LetGoes.{is_needless, seen, surplus}
use Rattle.jc_manage.proofs.Surplus.{going-same}
use Rattle.jc_manage.proofs.let_goes.surplus.Goals as goal

-- Of the pods that are shown those go that are spare or too many.
pub returns : goal.returns
returns c =
    let job = c.args.job.now in
    let counted = c.args.counted.now in
    let listed = c.as_slice-listed.result.now in
    let shown = c.as_slice-listed.ensures.pods in
    let wanted = c.job_wants.ensures ∙ ap (λ pods. job_wants job (own_pods job pods) counted) (sym shown) in
    subst (λ pods. IfOk c.going.result (λ going. going.items ≡ map seen (surplus job.spec.mode (is_needless (unwrap_or job.spec.completions 0) counted) (job_wants job (own_pods job pods) counted) (tracked_active_pods (own_pods job pods))))) shown
    (subst (λ pods. IfOk c.going.result (λ going. going.items ≡ map seen pods))
    (going-same job.spec.mode (is_needless (unwrap_or job.spec.completions 0) counted) (tracked_active_pods (own_pods job listed)) (λ index. get nat_eq c.in_ok-holders.holders index) c.in_ok-holders.ensures _ _ _ _ c.in_ok-ranks.ensures
    wanted c.least_to_go-least.ensures)
    c.going.ensures)
