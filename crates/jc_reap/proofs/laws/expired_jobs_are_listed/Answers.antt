use Rattle.jc_log.specs.Log.{jobs_in}
use Rattle.jc_reap.proofs.ExpiredFacts.{all-expired, each-may_go, sorted-expired}
use Rattle.jc_reap.proofs.laws.expired_jobs_are_listed.Goals as goal

pub returns-clause-order : goal.returns-clause-order
returns-clause-order c = λ ttl log. sorted-expired ttl (jobs_in log)

pub returns-clause-due : goal.returns-clause-due
returns-clause-due c = each-may_go

pub returns-clause-all : goal.returns-clause-all
returns-clause-all c = all-expired
