use Rattle.std.proofs.Common.{arith, reverse, ap, ◌∙◌}
use Rattle.jc_log.specs.Log.{births}
use Rattle.jc_log.proofs.CountFacts.{births_within}
use Rattle.jc_store.proofs.store.Store.births.Goals as goal

pub returns-clause-value : goal.returns-clause-value
returns-clause-value c = c.self.invariant.counted ∙ ap births c.self.view_is

pub returns-clause-small : goal.returns-clause-small
returns-clause-small c =
    omega (arith, births_within (reverse c.self.inside.log), c.self.invariant.counted, c.self.invariant.few_entries)
