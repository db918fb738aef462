use Rattle.jc_reading.proofs.PartsAgain.{change_reads, ends_read, job_reads, report_reads}
use Rattle.jc_reading.proofs.laws.printed_parts_are_read_back.Goals as goal

pub returns-clause-job : goal.returns-clause-job
returns-clause-job c = job_reads

pub returns-clause-change : goal.returns-clause-change
returns-clause-change c = change_reads

pub returns-clause-report : goal.returns-clause-report
returns-clause-report c = report_reads

pub returns-clause-ends : goal.returns-clause-ends
returns-clause-ends c = ends_read
