use Rattle.std.proofs.Common.{refl}
use Rattle.jc_history.specs.Replies.{log_given}
use Rattle.jc_history.proofs.laws.notes_say.Goals as goal

pub returns-clause-log : goal.returns-clause-log
unfolding log_given
returns-clause-log c = λ shape. refl
