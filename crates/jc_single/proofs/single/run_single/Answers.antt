-- What was written tells a history, by how the run has ended.
use Rattle.jc_single.proofs.WordFacts.{headline_is}
use Rattle.jc_single.proofs.single.run_single.Goals as goal

pub returns-clause-headline : goal.returns-clause-headline
returns-clause-headline g c =
    headline_is c.run_words.ensures c.requires
    (λ order is input printed. c.runs_tell_their_history.ensures order input printed (c.orders_fit.ensures.orders _ order is))
