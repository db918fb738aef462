-- The report is that of the cluster's history.
use Rattle.std.proofs.Common.{arith, ap, reverse, ◌∙◌}
use Rattle.jc_lines.specs.Reports.{report_text}
use Rattle.jc_single.specs.Seen.{log_seen}
use Rattle.jc_ctl.proofs.LeftFacts.{is_report}
use Rattle.jc_ctl.proofs.threaded.told.Goals as goal

pub returns-clause-report : goal.returns-clause-report
returns-clause-report c = λ threads some.
    is_report c.args.cluster.seen c.history-history.result.now c.history-history.ensures.events threads c.args.full _
    c.history-history.ensures.follows
    (c.legal_histories_keep_the_promises.ensures c.args.cluster.seen.script c.args.cluster.seen.shape c.history-history.result.now
    c.requires.valid_actions c.requires.some_controllers c.requires.some_workers c.requires.few_events c.history-history.ensures.follows)
    (λ orderly. c.orderly_histories_have_small_numbers.ensures c.args.cluster.seen.script c.args.cluster.seen.shape
    c.history-history.result.now c.requires.lanes (let few = c.requires.few_controllers in omega (arith, few))
    (let few = c.requires.few_workers in omega (arith, few))
    c.history-history.ensures.follows orderly)
    (c.in_ok-report.ensures ∙ ap (λ m. report_text m.script (reverse m.pasts) (log_seen m) c.args.full) c.into_machine.ensures)
    c.requires.ended
