use Rattle.std.proofs.Common.{refl}
use Rattle.std.proofs.lemmas.Result.{err_from_is_err_and}
use Rattle.jc_manifest.specs.IndexLimits.{index_limits_refusal}
use Rattle.jc_manifest.proofs.CountFacts.{index_limits_said}
use Rattle.jc_rows.proofs.RowFacts.{refuses_or, refuses_later, reads_err, none_or}
use Rattle.jc_manifest.proofs.index_limits.read_index_limits.Goals as goal

pub returns-in_err-max_failed : goal.returns-in_err-max_failed
unfolding index_limits_refusal
returns-in_err-max_failed c =
    let p = err_from_is_err_and c.from_residual-in_err-max_failed.result c.from_residual-in_err-max_failed.ensures.1 in
    reads_err _ _ p.0 _ _ _ p.1 p.2
    (refuses_later _ _ _ c.in_ok-per_index.ensures.0 (refuses_or _ _ _ c.in_err-max_failed.ensures))

pub returns : goal.returns
unfolding index_limits_refusal
returns c = (
  none_or _ _ c.in_ok-per_index.ensures.0 (none_or _ _ c.in_ok-max_failed.ensures.0 refl),
  index_limits_said c.args.path.now _ _ _ c.in_ok-per_index.ensures.1 c.in_ok-max_failed.ensures.1,
)
