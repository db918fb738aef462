use Rattle.std.proofs.Common.{ap, ◌∙◌}
use Rattle.jc_states.specs.Tallies.{tally_of}
use Rattle.jc_states.proofs.pod_lists.Pods.tally.Goals as goal

pub returns : goal.returns
returns c = c.tally_in.ensures ∙ c.self.invariant.tallies.tallied c.args.owner ∙ ap (tally_of c.args.owner) c.self.view_is
