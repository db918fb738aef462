-- The lemmas on Jobs that stay, and on plans that mark.
use Rattle.jc_log.proofs.PodFacts.{living-live}
use Rattle.jc_log.specs.Log.{life}
use Rattle.jc_restarts.proofs.CountFacts.{pod-restarted}
use Rattle.jc_restarts.proofs.LimitFacts.{few-restarts}
use Rattle.jc_restarts.proofs.StandFacts.{has-its-job}
use Rattle.jc_history.specs.Replies.{log_given}
use Rattle.jc_restarts.proofs.laws.plans_stop_what_restarts_too_often.Goals as goal

pub returns : goal.returns
returns c = record {
  stands = λ shape past pod there kept. has-its-job shape past pod (living-live (life pod.uid (log_given shape past)) pod there) kept;
  limit = few-restarts;
  counted = pod-restarted;
}
