use Rattle.std.proofs.Common.{map, ap, ◌∙◌}
use Rattle.jc_core.specs.Shared.{numbers_of}
use Rattle.jc_core.proofs.SlotFacts.{kept-numbers}
use Rattle.jc_core.proofs.changes.change_all.Goals as goal

pub returns-in-None-clause-numbers : goal.returns-in-None-clause-numbers
returns-in-None-clause-numbers c = ap (map numbers_of) c.change_each.ensures ∙ kept-numbers c.args.change c.args.slots.now.items

pub returns-in-Some-clause-numbers : goal.returns-in-Some-clause-numbers
returns-in-Some-clause-numbers c = ap (map numbers_of) c.change_at.ensures ∙ kept-numbers c.args.change c.args.slots.now.items
