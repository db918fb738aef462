-- All is told by how the run has ended.
use Rattle.std.proofs.Common.{refl}
use Rattle.jc_single.specs.InTime.{IsDoneInTime}
use Rattle.jc_words.specs.declared.words.Order.TheVariants.{Run}
use Rattle.jc_ctl.proofs.DoneFacts.{audit_no_script_of, audit_not_full_of, complete_audit_of, complete_on_threads_of, headline_front_of, no_of, nothing_written_of, one-of, told_of, verdict_front_of}
use Rattle.jc_ctl.proofs.laws.runs_end_as_told.Goals as goal

pub returns-clause-told : goal.returns-clause-told
returns-clause-told c run = told_of run.words run.source run.sink run.ended run.has_done

pub returns-clause-nothing_written : goal.returns-clause-nothing_written
returns-clause-nothing_written c run = nothing_written_of run.words run.source run.sink run.ended run.has_done

pub returns-clause-no : goal.returns-clause-no
returns-clause-no c run = no_of run.words run.source run.sink run.ended run.has_done

pub returns-clause-verdict_front : goal.returns-clause-verdict_front
returns-clause-verdict_front c run shape is e = verdict_front_of run.words run.source run.sink run.ended run.has_done e shape is

pub returns-clause-audit_not_full : goal.returns-clause-audit_not_full
returns-clause-audit_not_full c run = audit_not_full_of run.words run.source run.sink run.ended run.has_done

pub returns-clause-audit_no_script : goal.returns-clause-audit_no_script
returns-clause-audit_no_script c run = audit_no_script_of run.words run.source run.sink run.ended run.has_done

pub returns-clause-complete_audit : goal.returns-clause-complete_audit
returns-clause-complete_audit c run shape is calm =
    complete_audit_of run.words run.source run.sink run.ended run.has_done shape is calm.source calm.sink

pub returns-clause-complete_on_threads : goal.returns-clause-complete_on_threads
returns-clause-complete_on_threads c run threads lock shape is many calm =
    complete_on_threads_of run.words run.source run.sink run.ended run.has_done threads lock shape is many calm.source calm.sink

pub returns-clause-headline_front : goal.returns-clause-headline_front
returns-clause-headline_front c run words order asks is e =
    headline_front_of run.words run.source run.sink run.ended run.has_done e order is
    (λ input printed. c.runs_tell_their_history.ensures order input printed (c.orders_fit.ensures.orders words order asks))

pub returns-clause-in_time : goal.returns-clause-in_time
returns-clause-in_time c run lock shape asks =
    one-of run.words run.source run.sink run.ended run.has_done (Run 0 lock shape) asks refl (IsDoneInTime lock shape run.source.old run.ended)
    (λ ran. c.single_runs_end_as_told.ensures.in_time
    (record { words = run.words; source = run.source; sink = run.sink; ended = run.ended; has_run = ran }) lock shape asks)
