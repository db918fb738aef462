use Rattle.jc_sync.proofs.CommandFacts.{create_keeps, delete_keeps, mark_keeps, report_keeps, strip_keeps, update_keeps}
use Rattle.jc_sync.proofs.laws.requests_keep_the_registers.Goals as goal

pub returns : goal.returns
returns c = record { created = create_keeps; updated = update_keeps; deleted = delete_keeps; marked = mark_keeps; stripped = strip_keeps; reported = report_keeps }
