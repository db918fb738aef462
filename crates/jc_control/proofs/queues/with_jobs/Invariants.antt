use Rattle.std.proofs.Common.{◌≡◌, map, take}
use Rattle.jc_control.specs.ControllerCalls.{all_added}
use Rattle.jc_control.proofs.queues.with_jobs.Given as goal

-- The keys of the Jobs before the index are added.
abbrev pub invariant-loop-job : goal.invariant-loop-job
invariant-loop-job l = (l.with_keys.queue ≡ all_added l.fn.queue.queue (map (λ job. job.key) (take l.job-index l.jobs))) × (l.with_keys.room ≡ l.fn.queue.room)
