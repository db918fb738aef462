-- The history that is worked out.
use Rattle.jc_promise.proofs.SampleFacts.{waiting-legal, waiting-rests, waiting-sure, waiting-unended}
use Rattle.jc_promise.proofs.laws.a_job_waits_at_rest.Goals as goal

pub returns : goal.returns
returns c = record { legal = waiting-legal; rests = waiting-rests; sure = waiting-sure; unended = waiting-unended }
