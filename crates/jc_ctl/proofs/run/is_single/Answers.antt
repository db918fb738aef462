-- Words ask for no threads and no audit where they are bad, or their order is none of both.
use Rattle.std.proofs.Common.{sym, ◌∙◌}
use Rattle.jc_ctl.proofs.AskedFacts.{bad-single, single-is}
use Rattle.jc_ctl.proofs.run.is_single.Goals as goal

pub returns-in-Some : goal.returns-in-Some
returns-in-Some c =
    single-is _ c.in-Some.order c.asked_for.result c.is_none.result (sym c.read_words.ensures ∙ c.in-Some.is) c.is_none.ensures
    c.asked_for.ensures.of_order c.asked_for.ensures.threads c.asked_for.ensures.none

pub returns-in-None : goal.returns-in-None
returns-in-None c = bad-single _ (sym c.read_words.ensures ∙ c.in-None.is)
