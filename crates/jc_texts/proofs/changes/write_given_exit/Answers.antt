use Rattle.jc_texts.specs.ChangeTexts.{exit_data}
use Rattle.jc_print.proofs.Writing.{not_given}
use Rattle.jc_texts.proofs.changes.write_given_exit.Goals as goal

pub returns-in-None : goal.returns-in-None
returns-in-None c = not_given exit_data _ _ _ c.in-None.is
