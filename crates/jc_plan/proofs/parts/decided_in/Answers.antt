-- What is decided is a target.
use Rattle.std.proofs.Common.{◌≡◌, Option, IfSome, true, sym, subst}
use Rattle.jc_types.specs.declared.statuses.CondKind.{CondKind}
use Rattle.jc_types.specs.declared.statuses.Reason.{Reason}
use Rattle.jc_finish.specs.Settled.{is_target_kind}
use Rattle.jc_plan.proofs.Targets.{decision-kind}
use Rattle.jc_plan.proofs.parts.decided_in.Goals as goal

pub returns-clause-kind : goal.returns-clause-kind
returns-clause-kind c =
    subst (λ (o : Option (CondKind × Reason)). IfSome o (λ pair. is_target_kind pair.0 ≡ true)) (sym c.decide.ensures)
    (decision-kind c.args.basis.now c.args.counted.now)
