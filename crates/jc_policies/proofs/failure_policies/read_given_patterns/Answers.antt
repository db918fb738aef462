use Rattle.std.proofs.Common.{refl, sym, ap, []}
use Rattle.std.specs.Result.{result_unwrap_or}
use Rattle.std.proofs.lemmas.Result.{err_from_is_err_and}
use Rattle.jc_rows.proofs.RowFacts.{refuses_or, refuses_later, reads_err, none_or, refuses_at, none_at, said_at}
use Rattle.jc_policies.specs.FailurePolicies.{patterns_refusal, patterns_from, given_patterns_refusal}
use Rattle.jc_rows.specs.ManifestRows.{reads}
use Rattle.jc_rows.specs.Templates.{list_in}
use Rattle.jc_policies.proofs.failure_policies.read_given_patterns.Goals as goal

pub returns-in_err-patterns : goal.returns-in_err-patterns
unfolding given_patterns_refusal list_in
returns-in_err-patterns c =
    let p = err_from_is_err_and c.from_residual-in_err-patterns.result c.from_residual-in_err-patterns.ensures.1 in
    reads_err _ _ p.0 _ _ _ p.1 p.2
    (refuses_later _ _ _ (ap reads c.in_ok-items.ensures)
    (refuses_or _ _ _ (refuses_at _ patterns_refusal _ _ _ _ c.path_to.ensures
    (sym (ap (λ r. result_unwrap_or r []) c.in_ok-items.ensures))
    c.in_err-patterns.ensures)))

pub returns : goal.returns
unfolding given_patterns_refusal list_in
returns c =
    let items = sym (ap (λ r. result_unwrap_or r []) c.in_ok-items.ensures) in (
      none_or _ _ (ap reads c.in_ok-items.ensures)
          (none_or _ _ (none_at patterns_refusal _ _ _ _ c.path_to.ensures items c.in_ok-patterns.ensures.0) refl),
      said_at (λ at ds. patterns_from at 0 ds) _ _ _ _ _ c.path_to.ensures items c.in_ok-patterns.ensures.1,
    )
