-- The lemma on what has failed.
use Rattle.jc_retries.proofs.FailureFacts.{failures-stay}
use Rattle.jc_retries.proofs.laws.plans_keep_failures.Goals as goal

pub returns : goal.returns
returns c = λ job basis made now it. failures-stay job basis it.job_is it.rising made now it.all
