use Rattle.std.proofs.Common.{◌*◌, min, ap, ◌∙◌}
use Rattle.jc_manage.proofs.Waits.{pause-is}
use Rattle.jc_manage.proofs.backoffs.pause.Goals as goal

pub returns-clause-value : goal.returns-clause-value
returns-clause-value c =
    pause-is c.args.failures _ _ (c.min-doublings.ensures ∙ ap (λ m. min m 6) c.saturating_sub.ensures) (c.min.ensures ∙ ap (λ m. min (10 * m) 360) c.pow.ensures)
