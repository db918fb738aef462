-- All that is promised is told by how the audit has ended.
use Rattle.jc_ctl.proofs.AuditFacts.{audit_ends, audit_ends_long, audit_full, audit_kept, audit_line, audit_long, audit_most, audit_read, audit_words, audit_write, front_said, no_said, yes_said}
use Rattle.jc_ctl.proofs.audited.run_audit.Goals as goal

pub returns-clause-yes : goal.returns-clause-yes
returns-clause-yes g c = λ x. yes_said _ _ _ _ x c.audit_report.ensures

pub returns-clause-no : goal.returns-clause-no
returns-clause-no g c = λ x y. no_said _ _ _ _ x y c.audit_report.ensures

pub returns-clause-front : goal.returns-clause-front
returns-clause-front g c = λ x. front_said _ _ _ _ x c.audit_report.ensures

pub returns-clause-good_words : goal.returns-clause-good_words
returns-clause-good_words g c = λ x. audit_words _ _ _ _ x c.audit_report.ensures

pub returns-clause-no_script : goal.returns-clause-no_script
returns-clause-no_script g c = λ x y z. audit_line _ _ _ _ x y z c.audit_report.ensures

pub returns-clause-not_full : goal.returns-clause-not_full
returns-clause-not_full g c = λ x. audit_full _ _ _ _ x c.audit_report.ensures

pub returns-clause-read_fault : goal.returns-clause-read_fault
returns-clause-read_fault g c = λ x. audit_read _ _ _ _ x c.audit_report.ensures

pub returns-clause-write_fault : goal.returns-clause-write_fault
returns-clause-write_fault g c = λ x. audit_write _ _ _ _ x c.audit_report.ensures

pub returns-clause-too_long : goal.returns-clause-too_long
returns-clause-too_long g c = λ x. audit_long _ _ _ _ x c.audit_report.ensures

pub returns-clause-not_too_long : goal.returns-clause-not_too_long
returns-clause-not_too_long g c = λ x. audit_most _ _ _ _ x c.audit_report.ensures

pub returns-clause-nothing_written : goal.returns-clause-nothing_written
returns-clause-nothing_written g c = λ x y z. audit_kept _ _ _ _ x y z c.audit_report.ensures

pub returns-clause-complete : goal.returns-clause-complete
returns-clause-complete g c = λ x y. audit_ends _ _ _ _ x y c.audit_report.ensures

pub returns-clause-complete_too_long : goal.returns-clause-complete_too_long
returns-clause-complete_too_long g c = λ x. audit_ends_long _ _ _ _ x c.audit_report.ensures
