-- Without a Job none is due.
use Rattle.std.proofs.Common.{ap, sym, ◌∙◌}
use Rattle.jc_plan.specs.Releases.{due_uids}
use Rattle.jc_plan.proofs.parts.planned_alone.Goals as goal

pub released-requires : goal.released-requires
released-requires c = c.new-due.ensures ∙ sym (ap (λ o. due_uids o c.args.basis.now.pods) c.requires)
