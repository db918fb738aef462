use Rattle.std.proofs.lemmas.Result.{err_from_is_err_and}
use Rattle.jc_rows.proofs.RowFacts.{reads_err}
use Rattle.jc_policies.specs.FailurePolicies.{given_failure_refusal, failure_rules_in, failure_refusal, failure_in}
use Rattle.jc_policies.proofs.PolicyFacts.{given_refused, given_none, given_said}
use Rattle.jc_policies.proofs.failure_policies.read_failure.Goals as goal

pub returns-in_err-policy-2 : goal.returns-in_err-policy-2
unfolding failure_refusal
returns-in_err-policy-2 c =
    let p = err_from_is_err_and c.from_residual-in_err-policy-2.result c.from_residual-in_err-policy-2.ensures.1 in
    reads_err _ _ p.0 _ _ _ p.1 p.2
    (given_refused _ (given_failure_refusal c.args.by_index c.args.template.now) _ _ _ _ _ c.in_ok-policy.ensures c.in-Some.is c.path_to-at.ensures c.in_err-policy-2.ensures)

pub returns : goal.returns
unfolding failure_refusal failure_in
returns c = (
  given_none (given_failure_refusal c.args.by_index c.args.template.now) _ _ _ _ _ c.in_ok-policy.ensures c.in-Some.is c.path_to-at.ensures c.in_ok-policy-2.ensures.0,
  given_said failure_rules_in _ _ _ _ _ _ c.in_ok-policy.ensures c.in-Some.is c.path_to-at.ensures c.in_ok-policy-2.ensures.1,
)
