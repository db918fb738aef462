use Rattle.jc_print.specs.PrintedSpecs.{success_data}
use Rattle.jc_print.proofs.Writing.{given_is, keyed, not_given}
use Rattle.jc_print.proofs.printed_specs.write_given_success.Goals as goal

pub returns-in-None : goal.returns-in-None
returns-in-None c = not_given success_data _ _ _ c.in-None.is

pub returns-in_ok-write_success-in-Some : goal.returns-in_ok-write_success-in-Some
returns-in_ok-write_success-in-Some c =
    given_is success_data _ _ _ _ _ c.in-Some.is
    (keyed _ _ _ _ _ _ c.in_ok-key-in-Some.ensures c.in_ok-write_success-in-Some.ensures)
