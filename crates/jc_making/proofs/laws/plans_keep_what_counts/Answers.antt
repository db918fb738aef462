-- The lemmas on what counts.
use Rattle.jc_making.proofs.StatusFacts.{indexes-stay, successes-stay}
use Rattle.jc_making.proofs.laws.plans_keep_what_counts.Goals as goal

pub returns : goal.returns
returns c = record {
  successes = λ job basis made now it plain. successes-stay job basis it.job_is it.rising made now plain it.all;
  indexes = λ job basis made now it indexed unended. indexes-stay job basis it.job_is it.rising indexed unended made now it.all;
}
