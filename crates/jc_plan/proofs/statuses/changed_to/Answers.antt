-- The status is made just where it differs from the old one.
use Rattle.std.proofs.Common.{Some, ap, sym, ◌∙◌}
use Rattle.jc_plan.specs.Statuses.{status_with}
use Rattle.jc_plan.proofs.NextFacts.{changed-none, changed-some}
use Rattle.jc_plan.proofs.statuses.changed_to.Goals as goal

pub returns-then-is_same_as : goal.returns-then-is_same_as
returns-then-is_same_as c =
    sym (changed-none c.args.old.now (status_with c.args.counted.now c.args.numbers.now c.args.course.now)
    (c.is_same_as.ensures.0 c.if-is_same_as.true))

pub returns : goal.returns
returns c =
    ap Some c.in_ok-status.ensures
    ∙ changed-some c.args.old.now (status_with c.args.counted.now c.args.numbers.now c.args.course.now)
    c.is_same_as.result c.is_same_as.ensures c.if-is_same_as.false
