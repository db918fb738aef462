use Rattle.std.proofs.Common.{refl}
use Rattle.jc_types.specs.declared.runs.Event.TheVariants as event
use Rattle.jc_types.specs.declared.runs.Sys.TheVariants as sys
use Rattle.jc_audit.proofs.taking.clock_seconds.Goals as goal

pub returns-in_default-clause-exactly : goal.returns-in_default-clause-exactly
returns-in_default-clause-exactly c = λ add can.
    let e = c.available.ensures.exactly (event.System (sys.Clock add)) (add, refl) can in
    absurd (cc (e, c.in_default.is))

pub returns-clause-exactly : goal.returns-clause-exactly
returns-clause-exactly c = λ add can.
    let e = c.available.ensures.exactly (event.System (sys.Clock add)) (add, refl) can in
    cc (e, c.in-Some.is, c.in-System.is, c.in-Clock.is, c.as_u64.ensures)
