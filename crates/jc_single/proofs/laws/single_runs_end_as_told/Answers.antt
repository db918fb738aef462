-- All is told by how the run has ended.
use Rattle.jc_words.specs.declared.words.Order.TheVariants.{Run}
use Rattle.jc_single.proofs.InTimeFacts.{in-time}
use Rattle.jc_single.proofs.WordFacts.{has-ended, headline_front_is, no_audit_is, nothing_written_is, told_is}
use Rattle.jc_single.proofs.laws.single_runs_end_as_told.Goals as goal

pub returns-clause-told : goal.returns-clause-told
returns-clause-told c run = told_is run.has_run

pub returns-clause-no_audit : goal.returns-clause-no_audit
returns-clause-no_audit c run = no_audit_is run.has_run

pub returns-clause-nothing_written : goal.returns-clause-nothing_written
returns-clause-nothing_written c run = nothing_written_is run.has_run

pub returns-clause-headline_front : goal.returns-clause-headline_front
returns-clause-headline_front c run words order asks is single e =
    headline_front_is run.has_run e order is single
    (λ input printed. c.runs_tell_their_history.ensures order input printed (c.orders_fit.ensures.orders words order asks))

pub returns-clause-in_time : goal.returns-clause-in_time
returns-clause-in_time c run lock shape asks =
    in-time lock shape run.source run.sink run.ended (has-ended run.words run.source run.sink run.ended run.has_run (Run 0 lock shape) asks)
