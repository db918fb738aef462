-- There was a verdict to write, or none.
use Rattle.std.proofs.KnownBytes.{Keeps-refl}
use Rattle.jc_ctl.specs.Done.{Judged, Unjudged}
use Rattle.jc_ctl.proofs.audited.audit_report.Goals as goal

pub returns-in-Ok : goal.returns-in-Ok
returns-in-Ok g c = Judged c.in-Ok.ensures.0 c.in-Ok.verdict c.in-Ok.ensures.1 c.in-Ok.ensures.2 c.write_verdict.ensures

pub returns-in-Err : goal.returns-in-Err
returns-in-Err g c = Unjudged c.in-Err.ensures (Keeps-refl _)
