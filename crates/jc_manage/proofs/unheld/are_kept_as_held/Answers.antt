use Rattle.std.proofs.Common.{sym, ◌∙◌}
use Rattle.jc_states.specs.Bases.{own_pods}
use Rattle.jc_manage.proofs.UnheldFacts.{kept-held}
use Rattle.jc_manage.proofs.unheld.are_kept_as_held.Goals as goal

pub returns-then-count_active-count_tracked_active : goal.returns-then-count_active-count_tracked_active
returns-then-count_active-count_tracked_active c so =
    kept-held c.args.job.now.spec.replacement (own_pods c.args.job.now c.args.pods.now) (sym c.count_active.ensures ∙ c.if-count_active-count_tracked_active.true ∙ c.count_tracked_active.ensures) (c.keep_active_only.ensures so)
