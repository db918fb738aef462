-- The lines of the Jobs so far.
use Rattle.std.proofs.Common.{◌≡◌, string_bytes, take}
use Rattle.jc_verdicts.specs.Books.{verdicts_at}
use Rattle.jc_lines.specs.Reports.{jobs_text}
use Rattle.jc_lines.proofs.job_lists.jobs_text.Given as goal

abbrev pub invariant-loop-job : goal.invariant-loop-job
invariant-loop-job l = string_bytes l.text ≡ jobs_text (λ j. verdicts_at j l.rows) (take l.job-index l.jobs)
