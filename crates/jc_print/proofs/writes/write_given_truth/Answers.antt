use Rattle.serde_json.specs.Data.{boolean}
use Rattle.jc_print.proofs.Writing.{not_given}
use Rattle.jc_print.proofs.writes.write_given_truth.Goals as goal

pub returns-in-None : goal.returns-in-None
returns-in-None c = not_given boolean _ _ _ c.in-None.is
