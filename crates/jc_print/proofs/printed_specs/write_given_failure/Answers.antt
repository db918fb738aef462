use Rattle.jc_print.specs.PrintedSpecs.{failure_data}
use Rattle.jc_print.proofs.Writing.{given_is, keyed, not_given}
use Rattle.jc_print.proofs.printed_specs.write_given_failure.Goals as goal

pub returns-in-None : goal.returns-in-None
returns-in-None c = not_given failure_data _ _ _ c.in-None.is

pub returns-in_ok-write_failure-in-Some : goal.returns-in_ok-write_failure-in-Some
returns-in_ok-write_failure-in-Some c =
    given_is failure_data _ _ _ _ _ c.in-Some.is
    (keyed _ _ _ _ _ _ c.in_ok-key-in-Some.ensures c.in_ok-write_failure-in-Some.ensures)
