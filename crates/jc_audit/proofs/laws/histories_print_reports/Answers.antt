use Rattle.jc_audit.proofs.ReportFacts.{prints_report}
use Rattle.jc_audit.proofs.laws.histories_print_reports.Goals as goal

pub returns : goal.returns
returns c = λ script shape history full printable.
    prints_report script shape history full printable.proper printable.legal printable.orderly printable.history_full
