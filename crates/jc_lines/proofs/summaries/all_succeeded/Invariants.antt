-- The sum of those before, each of 64 bits.
use Rattle.std.proofs.Common.{◌≡◌, ◌≤◌, ◌*◌, ◌^◌, take, sum_by}
use Rattle.jc_types.specs.declared.objects.Job.{Job}
use Rattle.jc_lines.proofs.summaries.all_succeeded.Given as goal

abbrev pub invariant-loop-job : goal.invariant-loop-job
invariant-loop-job l = record {
  counted : l.sum ≡ sum_by (λ (job : Job). job.status.succeeded) (take l.job-index l.jobs);
  small : l.sum ≤ l.job-index * 2 ^ 64;
}
