-- The order is that of the words.
use Rattle.std.proofs.Common.{sym, ◌∙◌}
use Rattle.jc_single.specs.RunEnds.{Ran}
use Rattle.jc_single.proofs.single.run_words.Goals as goal

pub returns-in-Some : goal.returns-in-Some
returns-in-Some g c = Ran c.in-Some.order (sym c.read_words.ensures ∙ c.in-Some.is) c.run_order.ensures
