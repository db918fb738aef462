-- The report is that of the whole play.
use Rattle.jc_single.proofs.WholeFacts.{report_is}
use Rattle.jc_single.proofs.orders.script_answer.Goals as goal

pub returns : goal.returns
returns c =
    report_is c.args.script c.args.shape c.in_ok-played.played c.print_report.result c.in_ok-played.ensures.script
    c.in_ok-played.ensures.play c.print_report.ensures.text c.print_report.ensures.full
