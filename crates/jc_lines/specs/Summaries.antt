-- What was judged of a Job, and the summary of a run.
--     verdicts_line job succeeded failed indexes     the line on how many of a Job's pods were judged
--     full_line full                                 the line that a full history ends with
--     summary_text jobs full                         the summary of the Jobs that are there
use Rattle.std.specs.Prelude.{ℕ, Bool, true, false, List, [], ◌++◌, length, count_by, sum_by, codes, decimal}
use Rattle.jc_states.specs.Conditions.{stands}
use Rattle.jc_types.specs.declared.objects.Job.{Job}
use Rattle.jc_types.specs.declared.specifications.Mode.{Mode}
use Rattle.jc_types.specs.declared.specifications.Mode.TheVariants.{NonIndexed, Indexed}
use Rattle.jc_types.specs.declared.statuses.CondKind.{CondKind}
use Rattle.jc_types.specs.declared.statuses.CondKind.TheVariants.{Complete, Failed}
use Rattle.jc_texts.specs.ReportWords.{key_text}

-- How many indexes are completed, which is said of an Indexed Job alone.
abbrev pub indexes_text : Mode → ℕ → List ℕ
indexes_text NonIndexed indexes = []
indexes_text Indexed indexes = codes " indexes " ++ decimal indexes

-- How many pods of the Job were judged to have succeeded and to have failed, and how many indexes are completed.
abbrev pub verdicts_line : Job → ℕ → ℕ → ℕ → List ℕ
verdicts_line job succeeded failed indexes =
    codes "verdicts " ++ (key_text job.key ++ (codes " succeeded " ++ (decimal succeeded
    ++ (codes " failed " ++ (decimal failed ++ (indexes_text job.spec.mode indexes ++ codes "\n"))))))

abbrev pub full_line : Bool → List ℕ
full_line true = codes "full\n"
full_line false = []

-- ---- the summary

-- How many Jobs have a true condition of the kind.
abbrev pub with_condition : CondKind → List Job → ℕ
with_condition kind jobs = count_by (λ job. stands kind job.status.conditions) jobs

-- How many pods the Jobs have counted as succeeded, and as failed.
abbrev pub all_succeeded : List Job → ℕ
all_succeeded jobs = sum_by (λ job. job.status.succeeded) jobs

abbrev pub all_failed : List Job → ℕ
all_failed jobs = sum_by (λ job. job.status.failed) jobs

-- Jobs, and those of them that are complete and that have failed.
abbrev pub jobs_summary : List Job → List ℕ
jobs_summary jobs =
    codes "jobs " ++ (decimal (length jobs) ++ (codes "\ncomplete " ++ (decimal (with_condition Complete jobs)
    ++ (codes "\nfailed " ++ (decimal (with_condition Failed jobs) ++ codes "\n")))))

-- Their pods.
abbrev pub pods_summary : List Job → List ℕ
pods_summary jobs =
    codes "pods succeeded " ++ (decimal (all_succeeded jobs)
    ++ (codes "\npods failed " ++ (decimal (all_failed jobs) ++ codes "\n")))

abbrev pub summary_text : List Job → Bool → List ℕ
summary_text jobs full = jobs_summary jobs ++ (pods_summary jobs ++ full_line full)
