use Rattle.jc_audit.proofs.ReportFacts.{is_of_history}
use Rattle.jc_audit.proofs.laws.reports_are_of_histories.Goals as goal

pub returns : goal.returns
returns c = is_of_history
