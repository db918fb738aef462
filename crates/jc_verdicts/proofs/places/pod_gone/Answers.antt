use Rattle.std.proofs.Common.{sym, ◌∙◌}
use Rattle.jc_verdicts.proofs.PlaceSteps.{owners-gone, pods-gone, pods-never}
use Rattle.jc_verdicts.proofs.places.pod_gone.Goals as goal

-- The owner is told.
pub returns : goal.returns
returns c =
    λ older long are.
    record {
      pods = pods-gone older c.args.place long c.args.places.now.pods are.pods c.args.pod.now c.in-Some.owner c.add_to.new.lists
          (sym c.in-Some.is ∙ c.take_owner.ensures.before ∙ are.owners c.args.pod.now.uid) c.in_ok-add_to.ensures;
      jobs = are.jobs;
      owners = owners-gone older c.args.places.now.owners c.take_owner.new.owners c.args.pod.now are.owners c.take_owner.ensures.sets;
    }

-- It had no owner.
pub returns-in_default : goal.returns-in_default
returns-in_default c =
    λ older long are.
    record {
      pods = pods-never older c.args.place long c.args.places.now.pods are.pods c.args.pod.now (c.in_default.ensures.before ∙ are.owners c.args.pod.now.uid);
      jobs = are.jobs;
      owners = owners-gone older c.args.places.now.owners c.take_owner.new.owners c.args.pod.now are.owners c.take_owner.ensures.sets;
    }
