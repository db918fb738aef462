use Rattle.std.proofs.Common.{ap, sym, ◌∙◌}
use Rattle.std.specs.Map.{values_of}
use Rattle.std.specs.Map.Iter.{deref}
use Rattle.std_collections.proofs.IterRuns.{shows_in_order, shows_in_reverse}
use Rattle.jc_table.specs.Pages.{present_in}
use Rattle.jc_table.proofs.PageFacts.{values-paged}
use Rattle.jc_table.proofs.numbered.Numbered.values.Goals as goal

pub returns-clause-values : goal.returns-clause-values
returns-clause-values g c =
    c.new.ensures ∙ ap present_in c.deref.ensures.value ∙ sym (values-paged 0 c.self.inside.pages.items) ∙ ap values_of c.self.view_is

-- Each step hands out the first of what is left.
pub returns-clause-runs : goal.returns-clause-runs
returns-clause-runs g c = shows_in_order deref

-- Each step from the back hands out the last of what is left.
pub returns-clause-runs_back : goal.returns-clause-runs_back
returns-clause-runs_back g c = shows_in_reverse deref
