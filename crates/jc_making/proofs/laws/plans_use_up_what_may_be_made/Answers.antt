-- The lemma on plans.
use Rattle.jc_making.proofs.LowerFacts.{lowers}
use Rattle.jc_making.proofs.laws.plans_use_up_what_may_be_made.Goals as goal

pub returns : goal.returns
returns c = λ ends made job basis now it counted last. lowers ends made job basis it.job_is it.rising counted last now it.all
