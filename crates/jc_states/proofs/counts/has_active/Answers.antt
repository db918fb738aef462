use Rattle.std.proofs.Common.{ap, nat_lt, ◌∙◌}
use Rattle.jc_states.specs.Bases.{own_pods}
use Rattle.jc_states.specs.Pods.{is_active}
use Rattle.jc_states.specs.declared.tallies.Tally.{Tally}
use Rattle.jc_states.proofs.TallyFacts.{some-pass}
use Rattle.jc_states.proofs.counts.has_active.Goals as goal

pub returns : goal.returns
returns c = ap (λ (t : Tally). nat_lt 0 t.active) c.tally.ensures ∙ some-pass is_active (own_pods c.args.job.now c.args.pods.now)
