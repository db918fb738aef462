-- Its history is orderly, and above the lanes of its commands each is used up.
use Rattle.std.proofs.Common.{◌∙◌, ap, subst, sym, true≢false}
use Rattle.jc_types.specs.declared.actions.Script.{Script}
use Rattle.jc_seats.specs.Names.{AreLanesBelow}
use Rattle.jc_seats.proofs.UsedFacts.{used-above}
use Rattle.jc_seats.proofs.kept.keep.Goals as goal

pub invariant_of-result : goal.invariant_of-result
invariant_of-result g c = (
  record {
    orderly = c.requires.orderly;
    used = used-above c.lanes_of-lanes.result c.args.cluster.seen.script.commands c.args.cluster.seen.pasts
        (subst (AreLanesBelow c.lanes_of-lanes.result)
        (c.as_slice.ensures ∙ ap (λ (s : Script). s.commands) c.script.ensures.script) c.lanes_of-lanes.ensures.below);
    few = c.lanes_of-lanes.ensures.few_lanes;
  },
  c.requires.named,
  λ planned. absurd (true≢false (sym planned)),
)
