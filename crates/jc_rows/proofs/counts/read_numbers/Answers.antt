use Rattle.std.proofs.Common.{refl}
use Rattle.std.proofs.lemmas.Result.{err_from_is_err_and}
use Rattle.jc_rows.specs.PodCountRows.{numbers_refusal}
use Rattle.jc_rows.proofs.CountFacts.{numbers_said}
use Rattle.jc_rows.proofs.RowFacts.{refuses_or, refuses_later, reads_err, none_or}
use Rattle.jc_rows.proofs.counts.read_numbers.Goals as goal

pub returns-in_err-parallelism : goal.returns-in_err-parallelism
unfolding numbers_refusal
returns-in_err-parallelism c =
    let p = err_from_is_err_and c.from_residual.result c.from_residual.ensures.1 in
    reads_err _ _ p.0 _ _ _ p.1 p.2 (refuses_or _ _ _ c.in_err-parallelism.ensures)

pub returns-in_err-completions : goal.returns-in_err-completions
unfolding numbers_refusal
returns-in_err-completions c =
    let p = err_from_is_err_and c.from_residual-in_err-completions.result c.from_residual-in_err-completions.ensures.1 in
    reads_err _ _ p.0 _ _ _ p.1 p.2
    (refuses_later _ _ _ c.in_ok-parallelism.ensures.0 (refuses_or _ _ _ c.in_err-completions.ensures))

pub returns : goal.returns
unfolding numbers_refusal
returns c = (
  none_or _ _ c.in_ok-parallelism.ensures.0 (none_or _ _ c.in_ok-completions.ensures.0 refl),
  numbers_said c.args.path.now _ _ _ _ _ c.unwrap_or.ensures c.completions_or.ensures c.in_ok-parallelism.ensures.1 c.in_ok-completions.ensures.1,
)
