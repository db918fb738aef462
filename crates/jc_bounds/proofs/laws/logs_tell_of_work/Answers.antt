-- The lemmas on the work that a log tells of.
use Rattle.jc_bounds.proofs.WorkFacts.{count-since, made-still, status-stands}
use Rattle.jc_bounds.proofs.laws.logs_tell_of_work.Goals as goal

pub returns : goal.returns
returns c = record { made = made-still; status = status-stands; counted = count-since }
