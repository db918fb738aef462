-- The second status is that of the plan of the basis's Job; where nothing is released it is the first.
use Rattle.std.proofs.Common.{◌≡◌, Option, IfOk, unwrap_or, refl, ap, subst, sym, ◌∙◌, arith}
use Rattle.jc_types.specs.declared.statuses.JobStatus.{JobStatus}
use Rattle.jc_types.specs.declared.syncs.CountIn.{CountIn}
use Rattle.jc_account.specs.Accounts.{counted_out}
use Rattle.jc_states.specs.Bases.{own_pods}
use Rattle.jc_plan.specs.Plans.{changed}
use Rattle.jc_plan.specs.Statuses.{first_value, second_after, second_value}
use Rattle.jc_plan.proofs.NextFacts.{changed-none, changed-or}
use Rattle.jc_plan.proofs.PartFacts.{first-totals, second-is}
use Rattle.jc_plan.proofs.ValueFacts.{values-same}
use Rattle.jc_plan.proofs.parts.second_for.Goals as goal

pub returns-then-is_empty : goal.returns-then-is_empty
returns-then-is_empty c =
    let job = c.args.job.now in
    let basis = c.args.basis.now in
    sym (changed-none (first_value job basis) (second_value job basis)
    (sym (values-same job basis (ap (λ (k : CountIn). k.releases) (sym c.requires.counted) ∙ c.is_empty.ensures.0 c.if-is_empty.true))))

pub second_status-requires-clause-succeeded : goal.second_status-requires-clause-succeeded
second_status-requires-clause-succeeded c =
    let job = c.args.job.now in
    let basis = c.args.basis.now in
    let there =
    c.after_first.ensures ∙ ap (λ (o : Option JobStatus). unwrap_or o job.status) c.requires.first
    ∙ changed-or job.status (first_value job basis) in
    omega (arith, (first-totals job basis c.args.counted.now c.after_first.result.now c.requires.counted there).0, c.requires.succeeded)

pub second_status-requires-clause-failed : goal.second_status-requires-clause-failed
second_status-requires-clause-failed c =
    let job = c.args.job.now in
    let basis = c.args.basis.now in
    let there =
    c.after_first.ensures ∙ ap (λ (o : Option JobStatus). unwrap_or o job.status) c.requires.first
    ∙ changed-or job.status (first_value job basis) in
    omega (arith, (first-totals job basis c.args.counted.now c.after_first.result.now c.requires.counted there).1, c.requires.failed)

pub returns : goal.returns
returns c =
    let job = c.args.job.now in
    let basis = c.args.basis.now in
    let counted = c.args.counted.now in
    let first = c.after_first.result.now in
    let second = second_after basis.now job (own_pods job basis.pods) counted c.args.target (counted_out first counted.releases) in
    let there =
    c.after_first.ensures ∙ ap (λ (o : Option JobStatus). unwrap_or o job.status) c.requires.first
    ∙ changed-or job.status (first_value job basis) in
    subst (λ (o : Option JobStatus). IfOk c.second_status.result (λ r. r ≡ o))
    (ap (λ (s : JobStatus). changed s second) there
    ∙ ap (changed (first_value job basis))
    (second-is job basis counted c.args.target first second c.requires.counted c.requires.target there refl))
    c.second_status.ensures
