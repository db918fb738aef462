use Rattle.std.proofs.Common.{refl}
use Rattle.std.proofs.lemmas.Result.{err_from_is_err_and}
use Rattle.jc_manifest.specs.Limits.{limits_refusal}
use Rattle.jc_manifest.proofs.CountFacts.{limits_said}
use Rattle.jc_rows.proofs.RowFacts.{refuses_or, refuses_later, reads_err, none_or}
use Rattle.jc_manifest.proofs.limits.read_limits.Goals as goal

pub returns-in_err-deadline : goal.returns-in_err-deadline
unfolding limits_refusal
returns-in_err-deadline c =
    let p = err_from_is_err_and c.from_residual-in_err-deadline.result c.from_residual-in_err-deadline.ensures.1 in
    reads_err _ _ p.0 _ _ _ p.1 p.2
    (refuses_later _ _ _ c.in_ok-suspend.ensures.0
    (refuses_later _ _ _ c.in_ok-backoff_limit.ensures.0 (refuses_or _ _ _ c.in_err-deadline.ensures)))

pub returns : goal.returns
unfolding limits_refusal
returns c = (
  none_or _ _ c.in_ok-suspend.ensures.0
      (none_or _ _ c.in_ok-backoff_limit.ensures.0 (none_or _ _ c.in_ok-deadline.ensures.0 refl)),
  limits_said c.args.by_index c.args.path.now _ _ _ _ _ _ c.usual_backoff.ensures c.unwrap_or.ensures c.in_ok-suspend.ensures.1 c.in_ok-backoff_limit.ensures.1 c.in_ok-deadline.ensures.1,
)
