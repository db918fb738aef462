-- The lemma on Jobs that have ended.
use Rattle.jc_counted.proofs.TargetFacts.{ended-by}
use Rattle.jc_counted.proofs.laws.ended_jobs_have_a_target.Goals as goal

pub returns : goal.returns
returns c = ended-by
