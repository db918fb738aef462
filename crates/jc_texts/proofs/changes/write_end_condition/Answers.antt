use Rattle.serde_json.specs.Data.{string}
use Rattle.jc_print.proofs.Writing.{not_given}
use Rattle.jc_texts.proofs.changes.write_end_condition.Goals as goal

pub returns-in-None : goal.returns-in-None
returns-in-None c = not_given string _ _ _ c.in-None.is
