use Rattle.std.proofs.lemmas.Result.{err_from_is_err_and}
use Rattle.jc_rows.proofs.NameFacts.{init_refused}
use Rattle.jc_rows.proofs.RowFacts.{reads_err}
use Rattle.jc_rows.proofs.templates.read_all_names.Goals as goal

pub returns-in_err-inits : goal.returns-in_err-inits
returns-in_err-inits c =
    let p = err_from_is_err_and c.from_residual-in_err-inits.result c.from_residual-in_err-inits.ensures.1 in
    reads_err _ _ p.0 _ _ _ p.1 p.2
    (init_refused _ c.args.path.now c.path_to-at.result c.path_to-at-2.result c.new.result c.in_ok-containers.containers _ _
    c.path_to-at.ensures c.path_to-at-2.ensures c.new.ensures c.in_ok-containers.ensures.0 c.in_ok-containers.ensures.1
    c.in_err-inits.ensures)
