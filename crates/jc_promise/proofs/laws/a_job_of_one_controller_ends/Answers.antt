-- The history that is worked out.
use Rattle.std.proofs.Common.{refl}
use Rattle.jc_promise.proofs.SampleFacts.{one_pod-ends, one_pod-legal, one_pod-made}
use Rattle.jc_promise.proofs.laws.a_job_of_one_controller_ends.Goals as goal

pub returns : goal.returns
returns c = record { one = refl; legal = one_pod-legal; makes = one_pod-made; ends = one_pod-ends }
