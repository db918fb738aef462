use Rattle.std.proofs.Common.{sym, ◌∙◌}
use Rattle.jc_states.specs.Bases.{own_pods}
use Rattle.jc_plan.proofs.Going.{ready-stay}
use Rattle.jc_plan.proofs.numbers.ready_after.Goals as goal

-- Nothing is stopped, so that all ready pods stay.
pub returns-then-stops_none : goal.returns-then-stops_none
returns-then-stops_none c =
    c.requires
    ∙ sym (ready-stay c.args.wants.now (own_pods c.args.job.now c.args.pods.now) (c.stops_none.ensures.0 c.if-stops_none.true))
