use Rattle.std.proofs.lemmas.Result.{err_from_is_err_and}
use Rattle.jc_rows.proofs.RowFacts.{reads_err}
use Rattle.jc_rows.specs.PodCountRows.{completions_of}
use Rattle.jc_policies.specs.SuccessPolicies.{given_success_refusal, success_rules_in, success_refusal, success_in}
use Rattle.jc_policies.proofs.PolicyFacts.{given_refused, given_none, given_said}
use Rattle.jc_policies.proofs.success_policies.read_success.Goals as goal

pub returns-in_err-policy-2 : goal.returns-in_err-policy-2
unfolding success_refusal
returns-in_err-policy-2 c =
    let p = err_from_is_err_and c.from_residual-in_err-policy-2.result c.from_residual-in_err-policy-2.ensures.1 in
    reads_err _ _ p.0 _ _ _ p.1 p.2
    (given_refused _ (given_success_refusal c.args.counts.now) _ _ _ _ _ c.in_ok-policy.ensures c.in-Some.is c.path_to-at.ensures c.in_err-policy-2.ensures)

pub returns : goal.returns
unfolding success_refusal success_in
returns c = (
  given_none (given_success_refusal c.args.counts.now) _ _ _ _ _ c.in_ok-policy.ensures c.in-Some.is c.path_to-at.ensures c.in_ok-policy-2.ensures.0,
  given_said (success_rules_in (completions_of c.args.counts.now)) _ _ _ _ _ _ c.in_ok-policy.ensures c.in-Some.is c.path_to-at.ensures c.in_ok-policy-2.ensures.1,
)
