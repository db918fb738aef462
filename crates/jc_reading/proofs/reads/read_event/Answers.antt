use Rattle.jc_reading.proofs.FoundFacts.{found_of, only_of}
use Rattle.jc_reading.proofs.reads.read_event.Goals as goal

pub returns-clause-found : goal.returns-clause-found
returns-clause-found c = found_of _ _ c.read_front.ensures

pub returns-clause-only : goal.returns-clause-only
returns-clause-only c = only_of _ _ c.read_front.ensures
