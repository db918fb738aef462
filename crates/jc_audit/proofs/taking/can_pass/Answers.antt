use Rattle.std.proofs.Common.{◌<◌, ◌^◌, ap, eq-eqb, eqb-true, is_some, subst, sym, true≢false}
use Rattle.jc_types.specs.declared.runs.Event.TheVariants as event
use Rattle.jc_types.specs.declared.runs.Sys.TheVariants as sys
use Rattle.jc_play.specs.Actors.{CanCome}
use Rattle.jc_audit.proofs.TakeFacts.{same_number}
use Rattle.jc_audit.proofs.taking.can_pass.Goals as goal

pub returns-in-Some-clause-can_come : goal.returns-in-Some-clause-can_come
returns-in-Some-clause-can_come c = (
  λ yes. subst (λ n. CanCome c.args.machine.now (event.System (sys.Clock n))) (eqb-true c.in-Some.seconds c.args.add yes) c.in-Some.ensures.it_can_come,
  λ can. eq-eqb c.in-Some.seconds c.args.add (same_number c.in-Some.seconds c.args.add (c.in-Some.ensures.exactly c.args.add can)),
)

pub returns-in-Some-clause-fits : goal.returns-in-Some-clause-fits
returns-in-Some-clause-fits c = λ add can.
    subst (λ n. n < 2 ^ 64) (same_number c.in-Some.seconds add (c.in-Some.ensures.exactly add can)) c.number_fits.ensures

pub returns-in-None-clause-can_come : goal.returns-in-None-clause-can_come
returns-in-None-clause-can_come c =
    (λ no. absurd (true≢false (sym no)), λ can. absurd (true≢false (sym (ap is_some (c.in-None.ensures.exactly c.args.add can)))))

pub returns-in-None-clause-fits : goal.returns-in-None-clause-fits
returns-in-None-clause-fits c = λ add can. absurd (true≢false (sym (ap is_some (c.in-None.ensures.exactly add can))))
