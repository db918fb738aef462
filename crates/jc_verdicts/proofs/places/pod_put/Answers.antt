use Rattle.std.proofs.Common.{◌∙◌}
use Rattle.jc_verdicts.proofs.PlaceSteps.{owners-put, pods-put}
use Rattle.jc_verdicts.proofs.places.pod_put.Goals as goal

-- The owners are told.
pub returns : goal.returns
returns c =
    λ older long are.
    record {
      pods = pods-put older c.args.place long c.args.places.now.pods are.pods c.args.pod.now
          c.in_ok-before.before c.add_to.new.lists c.add_other_place.new.lists
          (c.in_ok-before.ensures.before ∙ are.owners c.args.pod.now.uid) c.in_ok-add_to.ensures c.in_ok-add_other_place.ensures;
      jobs = are.jobs;
      owners = owners-put older c.args.places.now.owners c.put_owner.new.owners c.args.pod.now are.owners c.in_ok-before.ensures.sets;
    }
