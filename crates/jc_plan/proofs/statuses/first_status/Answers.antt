-- The status of these parts is the first status.
use Rattle.std.proofs.Common.{◌≡◌, Bool, List, Option, IfOk, ap, subst, ◌∙◌}
use Rattle.jc_types.specs.declared.objects.Pod.{Pod}
use Rattle.jc_types.specs.declared.statuses.JobStatus.{JobStatus}
use Rattle.jc_states.specs.Bases.{own_pods}
use Rattle.jc_plan.specs.Plans.{changed}
use Rattle.jc_plan.specs.PodNumbers.{active_after, ending_after, ready_after}
use Rattle.jc_plan.specs.Statuses.{completed_at, is_end_decided, is_first_due, status_with}
use Rattle.jc_plan.proofs.PartFacts.{first-of-parts}
use Rattle.jc_plan.proofs.statuses.first_status.Goals as goal

pub returns : goal.returns
returns c =
    let job = c.args.job.now in
    let basis = c.args.basis.now in
    let counted = c.args.counted.now in
    let target = c.args.target in
    let wants = c.args.wants.now in
    let numbers = c.numbers_after-numbers in
    let conditions = c.in_ok-conditions.conditions in
    subst (λ (o : Option JobStatus). IfOk c.changed_to.result (λ r. r ≡ o))
    (ap (λ (s : JobStatus). changed s (status_with counted numbers.result (record { start = c.start_at.result; completion = c.completed_at.result; conditions = conditions }))) c.deref-2.ensures
    ∙ ap (changed job.status)
    (first-of-parts basis.now job (own_pods job basis.pods) counted target wants c.is_first_due-due.result numbers.result
    c.start_at.result c.completed_at.result conditions
    (numbers.ensures.active ∙ ap (λ (pods : List Pod). active_after wants (own_pods job pods)) c.deref-pods.ensures)
    (numbers.ensures.ready ∙ ap (λ (pods : List Pod). ready_after wants (own_pods job pods)) c.deref-pods.ensures)
    (numbers.ensures.terminating ∙ ap (λ (pods : List Pod). ending_after wants (own_pods job pods)) c.deref-pods.ensures)
    c.start_at.ensures
    c.in_ok-conditions.ensures
    (c.completed_at.ensures ∙ ap (λ (s : JobStatus). completed_at basis.now s conditions) c.deref.ensures)
    (c.is_first_due-due.ensures
    ∙ ap (λ (b : Bool). is_first_due b (own_pods job c.deref-pods.result.now) counted) c.is_end_decided.ensures
    ∙ ap (λ (pods : List Pod). is_first_due (is_end_decided job target) (own_pods job pods) counted) c.deref-pods.ensures)))
    c.changed_to.ensures
