use Rattle.std.proofs.Common.{◌<◌, ◌^◌, ap, is_some, subst, sym, true≢false}
use Rattle.jc_audit.proofs.TakeFacts.{same_number}
use Rattle.jc_audit.proofs.taking.clock_fits.Goals as goal

pub returns-in-Some : goal.returns-in-Some
returns-in-Some c = λ add can.
    subst (λ n. n < 2 ^ 64) (same_number c.in-Some.seconds add (c.in-Some.ensures.exactly add can)) c.number_fits.ensures

pub returns-in-None : goal.returns-in-None
returns-in-None c = λ add can. absurd (true≢false (sym (ap is_some (c.in-None.ensures.exactly add can))))
