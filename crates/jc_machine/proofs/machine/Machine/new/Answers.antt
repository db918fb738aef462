use Rattle.std.proofs.Common.{[], subst}
use Rattle.jc_lanes.specs.Places.{HasPlaces}
use Rattle.jc_machine.proofs.Starts.{starts}
use Rattle.jc_machine.proofs.machine.Machine.new.Goals as goal

pub invariant_of-result : goal.invariant_of-result
invariant_of-result c =
    starts c.args.script c.args.shape c.new-2.result.items c.in_ok-lanes.lanes c.new-3.result c.in_ok-members.members.items c.new-4.result c.new-2.ensures c.new-3.ensures c.new-4.ensures c.in_ok-members.ensures.count c.in_ok-members.ensures.fresh
    c.runs_start.ensures (subst (λ commands. HasPlaces commands [] c.in_ok-lanes.lanes) c.as_slice.ensures c.in_ok-lanes.ensures) c.requires.fits c.requires.valid_actions c.requires.few_events
