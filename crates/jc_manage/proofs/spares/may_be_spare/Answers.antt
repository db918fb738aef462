use Rattle.std.proofs.Common.{sym, unwrap_or, ◌∙◌}
use Rattle.jc_manage.specs.LetGoes.{is_needless, own_tracked}
use Rattle.jc_manage.proofs.SpareFacts.{none-spare}
use Rattle.jc_manage.proofs.spares.may_be_spare.Goals as goal

pub returns-else-shares_index : goal.returns-else-shares_index
returns-else-shares_index c none =
    let job = c.args.job.now in
    none-spare job.spec.mode (is_needless (unwrap_or job.spec.completions 0) c.args.counted.now) (own_tracked job c.args.pods.now) (c.shares_index.ensures.apart c.if-shares_index.false)
    (sym c.has_needless.ensures ∙ none)
