-- The lemmas on where caches have come to.
use Rattle.jc_order.proofs.EndFacts.{log-placed, floor-within, numbers-within, end-fresh, end-begins}
use Rattle.jc_order.proofs.laws.caches_at_the_end_are_fresh.Goals as goal

pub returns : goal.returns
returns c = record { placed = log-placed; floors = floor-within; numbers = numbers-within; fresh = end-fresh; begins = end-begins }
