use Rattle.std.proofs.Common.{length, sym, unwrap_or, ◌∙◌}
use Rattle.std.proofs.lemmas.Bool.{ltb-false}
use Rattle.jc_states.specs.Bases.{own_pods}
use Rattle.jc_manage.specs.Creations.{job_wants}
use Rattle.jc_manage.specs.LetGoes.{is_needless, own_tracked}
use Rattle.jc_manage.proofs.SpareFacts.{none-goes}
use Rattle.jc_manage.proofs.spares.may_go.Goals as goal

pub returns-else-are_too_many : goal.returns-else-are_too_many
returns-else-are_too_many c none =
    let job = c.args.job.now in
    let counted = c.args.counted.now in
    let wanted = job_wants job (own_pods job c.args.pods.now) counted in
    let tracked = own_tracked job c.args.pods.now in
    none-goes job.spec.mode (is_needless (unwrap_or job.spec.completions 0) counted) wanted tracked (c.may_be_spare.ensures none)
    (ltb-false wanted (length tracked) (sym c.are_too_many.ensures ∙ c.if-are_too_many.false))
