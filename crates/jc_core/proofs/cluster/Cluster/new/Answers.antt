use Rattle.std.proofs.Common.{ap, ◌∙◌}
use Rattle.jc_core.specs.Shared.{all_registers, has_holders}
use Rattle.jc_core.proofs.SlotFacts.{new-kept}
use Rattle.jc_core.proofs.ToldFacts.{fresh-free}
use Rattle.jc_core.proofs.cluster.Cluster.new.Goals as goal

pub invariant_of-result : goal.invariant_of-result
invariant_of-result c = new-kept c.args.script c.args.shape c.in_ok-machine.machine c.in_ok-slots.slots.items c.in_ok-machine.ensures c.in_ok-slots.ensures c.requires.fits_shape c.requires.few_events

pub returns-clause-free : goal.returns-clause-free
returns-clause-free c = ap has_holders c.in_ok-slots.ensures ∙ fresh-free (all_registers c.args.shape)
