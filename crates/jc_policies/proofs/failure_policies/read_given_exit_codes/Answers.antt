use Rattle.std.proofs.Common.{refl, ◌++◌}
use Rattle.std.proofs.lemmas.Result.{err_from_is_err_and}
use Rattle.jc_rows.proofs.RowFacts.{refuses_or, refuses_later, reads_err, none_or, refuses_at, none_at, said_at}
use Rattle.jc_policies.specs.FailurePolicies.{exit_codes_refusal, exit_codes_in, given_exit_codes_refusal}
use Rattle.jc_policies.proofs.failure_policies.read_given_exit_codes.Goals as goal

pub returns-in_err-requirement : goal.returns-in_err-requirement
unfolding given_exit_codes_refusal
returns-in_err-requirement c =
    let p = err_from_is_err_and c.from_residual-in_err-requirement.result c.from_residual-in_err-requirement.ensures.1 in
    reads_err _ _ p.0 _ _ _ p.1 p.2
    (refuses_later _ _ _ c.in_ok-exits.ensures.0
    (refuses_or _ _ _ (refuses_at _ (exit_codes_refusal (c.args.template.now.containers ++ c.args.template.now.inits)) _ _ _ _
    c.path_to.ensures c.in_ok-exits.ensures.1 c.in_err-requirement.ensures)))

pub returns : goal.returns
unfolding given_exit_codes_refusal
returns c = (
  none_or _ _ c.in_ok-exits.ensures.0
      (none_or _ _ (none_at (exit_codes_refusal (c.args.template.now.containers ++ c.args.template.now.inits)) _ _ _ _
      c.path_to.ensures c.in_ok-exits.ensures.1 c.in_ok-requirement.ensures.0) refl),
  said_at exit_codes_in _ _ _ _ _ c.path_to.ensures c.in_ok-exits.ensures.1 c.in_ok-requirement.ensures.1,
)
