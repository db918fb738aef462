use Rattle.jc_print.specs.PrintedMembers.{number_data}
use Rattle.jc_print.proofs.Writing.{not_given}
use Rattle.jc_print.proofs.writes.write_given_number.Goals as goal

pub returns-in-None : goal.returns-in-None
returns-in-None c = not_given number_data _ _ _ c.in-None.is
