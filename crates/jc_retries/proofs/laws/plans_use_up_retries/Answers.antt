-- The lemma on plans.
use Rattle.jc_retries.proofs.RetryPlans.{uses-up}
use Rattle.jc_retries.proofs.laws.plans_use_up_retries.Goals as goal

pub returns : goal.returns
returns c = λ ends made job basis now counted last it looks. uses-up ends made job basis it.job_is it.rising counted last now it.all looks
