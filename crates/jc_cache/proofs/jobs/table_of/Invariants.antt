use Rattle.std.proofs.Common.{◌≡◌, take}
use Rattle.jc_cache.specs.Caches.{job_rows}
use Rattle.jc_cache.proofs.jobs.table_of.Given as goal

-- The rows so far are those of the Jobs before the index.
abbrev pub invariant-loop-job : goal.invariant-loop-job
invariant-loop-job l = l.table ≡ job_rows (take l.job-index l.jobs)
