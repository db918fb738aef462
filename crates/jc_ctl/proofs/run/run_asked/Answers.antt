-- A run on threads, an audit, and all others.
use Rattle.std.proofs.Common.{Some, ap, refl, subst, ◌∙◌}
use Rattle.std.proofs.lemmas.Option.{same_Some}
use Rattle.jc_words.specs.FitOrders.{IsFitOrder}
use Rattle.jc_words.specs.declared.words.Order.{Order}
use Rattle.jc_single.specs.RunAnswers.{IsSingle}
use Rattle.jc_single.specs.RunEnds.{Ran}
use Rattle.jc_ctl.specs.Asked.{HasThreads, order_asked}
use Rattle.jc_ctl.specs.Done.{ByAudit, ByOne, ByThreads}
use Rattle.jc_ctl.proofs.run.run_asked.Goals as goal

pub run_threaded-requires-clause-few_threads : goal.run_threaded-requires-clause-few_threads
run_threaded-requires-clause-few_threads g c κs within =
    (subst IsFitOrder (c.in-Some-Threads.ensures.of_order ∙ ap order_asked c.in-Some-Threads.field-0-is) c.requires).few_threads

pub run_threaded-requires-clause-fit_shape : goal.run_threaded-requires-clause-fit_shape
run_threaded-requires-clause-fit_shape g c κs within =
    (subst IsFitOrder (c.in-Some-Threads.ensures.of_order ∙ ap order_asked c.in-Some-Threads.field-0-is) c.requires).shape_fits

pub audit_report-requires : goal.audit_report-requires
audit_report-requires g c =
    subst IsFitOrder (c.in-Some-Audit.ensures.of_order ∙ ap order_asked c.in-Some-Audit.field-0-is) c.requires

pub returns-in-Some-Threads : goal.returns-in-Some-Threads
returns-in-Some-Threads g c =
    ByThreads c.in-Some-Threads.threads c.in-Some-Threads.lock c.in-Some-Threads.shape
    (subst HasThreads c.in-Some-Threads.field-0-is c.in-Some-Threads.ensures.threads)
    (ap (λ (o : Order). Some o) (c.in-Some-Threads.ensures.of_order ∙ ap order_asked c.in-Some-Threads.field-0-is))
    c.run_threaded.ensures

pub returns-in-Some-Audit : goal.returns-in-Some-Audit
returns-in-Some-Audit g c =
    ByAudit c.in-Some-Audit.shape
    (ap (λ (o : Order). Some o) (c.in-Some-Audit.ensures.of_order ∙ ap order_asked c.in-Some-Audit.field-0-is))
    c.audit_report.ensures

pub returns-in-None : goal.returns-in-None
returns-in-None g c =
    ByOne (λ order same. subst IsSingle (same_Some c.args.order.now order same) (c.in-None.ensures.none refl))
    (Ran c.args.order.now refl c.run_order.ensures)
