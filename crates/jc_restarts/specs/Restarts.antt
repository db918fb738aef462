-- How often containers restart at most, how often is too often, and which Jobs are there to stop them.
--     deletes key act                    the act deletes the Job of the key
--     NeverDeleted key deeds             none of the deeds does
--     too_many job                       so many restarts are too many for the Job
--     given_restarts changes             the greatest number of restarts that the changes give
--     restarts_after act n               what the act makes of a number of restarts, at most
--     most_restarts deeds                how often a container has restarted, at most
--     HasItsJob log pod                  the Job that the pod was made for is there, and has the pod's policy
--     IsPresent log job                    the Job is there, by its key and its UID
--     MayMakePods shape past basis       a sync under way of this basis has a pod to make yet
use Rattle.std.specs.Prelude.{◌≡◌, ℕ, ◌+◌, ◌<◌, Bool, true, false, List, [], ◌∷◌, length, max, Some, unwrap_or}
use Rattle.std.specs.List.{AllByRecursion as Each}
use Rattle.jc_types.specs.declared.objects.KeyNames.{KeyNames as Key}
use Rattle.jc_types.specs.Keys.{same_key}
use Rattle.jc_types.specs.declared.actions.ContainerChange.{ContainerChange}
use Rattle.jc_types.specs.declared.objects.Entry.{Entry}
use Rattle.jc_types.specs.declared.objects.Job.{Job}
use Rattle.jc_types.specs.declared.objects.Pod.{Pod}
use Rattle.jc_types.specs.declared.runs.Shape.{Shape}
use Rattle.jc_states.specs.Bases.{is_own}
use Rattle.jc_states.specs.declared.bases.Basis.{Basis}
use Rattle.jc_log.specs.Acts as does
use Rattle.jc_log.specs.Acts.{Act}
use Rattle.jc_log.specs.Deeds.{Deed}
use Rattle.jc_log.specs.Log.{job_in}
use Rattle.jc_plan.specs.Plans.{planned}
use Rattle.jc_history.specs.Registers.{made, register}
use Rattle.jc_history.specs.Replies.{diary}

-- The act deletes the Job of the key.
abbrev pub deletes : Key → Act → Bool
deletes key (does.Delete other) = same_key other key
deletes key other = false

-- None of the deeds does.
abbrev pub NeverDeleted : Key → List Deed → Type 0
NeverDeleted key deeds = Each (λ (d : Deed). deletes key d.act ≡ false) deeds

-- So many restarts are too many: the backoff limit, but 1 where that is 0.
abbrev pub too_many : Job → ℕ
too_many job = max 1 job.spec.backoff_limit

-- The greatest number of restarts that the changes give.
abbrev pub given_restarts : List ContainerChange → ℕ
given_restarts [] = 0
given_restarts (change ∷ changes) = max (unwrap_or change.restarts 0) (given_restarts changes)

-- What the act makes of a number of restarts, at most: a report gives one, and the node lets a container restart once.
abbrev pub restarts_after : Act → ℕ → ℕ
restarts_after (does.Report pod change) n = max n (given_restarts change.containers)
restarts_after does.Node n = n + 1
restarts_after other n = n

-- How often a container has restarted after the deeds, at most: as often as the greatest number that was reported says, and
-- once for each deed of the node.
abbrev pub most_restarts : List Deed → ℕ
most_restarts [] = 0
most_restarts (d ∷ deeds) = restarts_after d.act (most_restarts deeds)

-- The Job that the pod was made for is there, and restarts containers as the pod does.
pub record HasItsJob (log : List Entry) (pod : Pod) : Type 0 where
  pub job : Job
  pub there : job_in pod.owner log ≡ Some job
  pub own : is_own job pod ≡ true
  pub policy : job.spec.template.restart ≡ pod.restart

-- The Job is there: the one of its key has its UID.
pub record IsPresent (log : List Entry) (job : Job) : Type 0 where
  pub now : Job
  pub there : job_in job.key log ≡ Some now
  pub uid : now.uid ≡ job.uid

-- A sync under way of this basis has a pod to make yet: it has made fewer requests than its plan creates pods, and these
-- come first.
pub record MayMakePods (shape : Shape) (past : List Deed) (basis : Basis) : Type 0 where
  pub controller : ℕ
  pub within : controller < shape.controllers
  pub worker : ℕ
  pub below : worker < shape.workers
  pub busy : register worker (diary shape controller past) ≡ Some basis
  pub left : length (made worker (diary shape controller past)) < length (planned basis).creates
