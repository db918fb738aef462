use Rattle.std.proofs.Common.{arith, ◌+◌, ◌++◌, ◌∷◌, [], take, ap, sym, string_bytes, ◌∙◌}
use Rattle.std.proofs.lemmas.List.{take_more}
use Rattle.jc_types.specs.declared.objects.Job.{Job}
use Rattle.jc_verdicts.specs.Books.{verdicts_at}
use Rattle.jc_lines.specs.Reports.{job_lines}
use Rattle.jc_lines.proofs.Texts.{jobs-more}
use Rattle.jc_lines.proofs.job_lists.jobs_text.Goals as goal

-- The two lines of one more Job.
pub loop-job-preserved : goal.loop-job-preserved
loop-job-preserved c =
    let jobs = c.args.jobs.now in
    let i = c.loop-job.job-index in
    let job = c.job-item.result in
    jobs-more (λ j. verdicts_at j c.args.rows.now) (take i jobs) (take (i + 1) jobs) job _ _
    (take_more jobs i job (omega (arith, c.loop-job-test.true)) ∙ ap (λ job. take i jobs ++ job ∷ []) (sym c.job-item.is))
    c.loop-job.invariant
    (c.in_ok-print_lines.ensures ∙ ap (λ (job : Job). string_bytes c.loop-job.text ++ job_lines (λ j. verdicts_at j c.args.rows.now) job) c.deref.ensures)
