-- The history that is worked out.
use Rattle.jc_promise.proofs.SampleFacts.{orphan-legal, orphan-released, orphan-rests, orphan-sure}
use Rattle.jc_promise.proofs.laws.an_orphan_is_released_at_rest.Goals as goal

pub returns : goal.returns
returns c = record { legal = orphan-legal; rests = orphan-rests; released = orphan-released; sure = orphan-sure }
