use Rattle.std.proofs.Common.{refl}
use Rattle.jc_control.proofs.LawFacts.{grown, listed-jobs, listed-pods, told-jobs, told-pods}
use Rattle.jc_control.proofs.laws.caches_follow_the_log.Goals as goal

pub returns : goal.returns
returns c = record {
  listed_jobs = listed-jobs c.listed_jobs_fill_the_table.ensures.filled;
  listed_pods = listed-pods;
  told_jobs = told-jobs;
  told_pods = told-pods c.pods_stay_with_their_owner.ensures;
  forgot_jobs = λ log. refl;
  forgot_pods = λ log k. refl;
  grown = grown;
}
