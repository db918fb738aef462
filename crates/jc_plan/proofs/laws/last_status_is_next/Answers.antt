-- The lemmas on the next status.
use Rattle.jc_plan.proofs.NextFacts.{last-second, second-next, unwritten}
use Rattle.jc_plan.proofs.laws.last_status_is_next.Goals as goal

pub returns : goal.returns
returns c = record { last = last-second; next = second-next; unwritten = unwritten }
