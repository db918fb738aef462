-- The report of a history, and its summary.
--     by_key rows                              the rows in ascending key
--     in_order rows                            their Jobs in that order
--     lines_with job verdicts                  the two lines of a Job with these verdicts
--     job_lines verdicts job                   the two lines of a Job, where each UID has its verdicts
--     jobs_text verdicts jobs                  those of all
--     verdicts_in script events log job        what the ledger of a Job has counted
--     report_text script events log full       a line for each event, two for each Job, and whether the history is full
--     summary_of log full                      the summary
use Rattle.std.specs.Prelude.{ℕ, Bool, List, [], ◌∷◌, ◌++◌, map}
use Rattle.std.specs.BTreeMap.{insert_entry}
use Rattle.std.specs.List.{flat_map}
use Rattle.std.specs.Map.{values_of}
use Rattle.jc_ledger.specs.declared.counts.Verdicts.{Verdicts}
use Rattle.jc_ledger.specs.Ledger.{ledger_of}
use Rattle.jc_verdicts.specs.Verdicts.{deeds_of}
use Rattle.jc_ledger.specs.Ledger.{verdicts_of}
use Rattle.jc_lines.specs.Events.{event_lines}
use Rattle.jc_lines.specs.Jobs.{job_line}
use Rattle.jc_lines.specs.Summaries.{full_line, summary_text, verdicts_line}
use Rattle.jc_log.specs.Deeds.{deed}
use Rattle.jc_log.specs.Log.{jobs_in}
use Rattle.jc_queue.specs.Delayed.{key_order}
use Rattle.jc_types.specs.declared.actions.Script.{Script}
use Rattle.jc_types.specs.declared.numbers.Uid.{Uid}
use Rattle.jc_types.specs.declared.objects.Entry.{Entry}
use Rattle.jc_types.specs.declared.objects.Job.{Job}
use Rattle.jc_types.specs.declared.objects.KeyNames.{KeyNames as Key}
use Rattle.jc_types.specs.declared.runs.Past.{Past}

-- ---- Jobs

-- The rows in ascending key: by namespace and then by name, byte by byte.
abbrev pub by_key : List (Key × Job) → List (Key × Job)
by_key [] = []
by_key (row ∷ rows) = insert_entry key_order (by_key rows) row.0 row.1

-- The Jobs of the rows in that order.
abbrev pub in_order : List (Key × Job) → List Job
in_order rows = values_of (by_key rows)

-- The line of a Job, and that on how many of its pods were judged.
abbrev pub lines_with : Job → Verdicts → List ℕ
lines_with job verdicts = job_line job ++ verdicts_line job verdicts.succeeded verdicts.failed verdicts.indexes

-- The two lines of a Job, where its UID has these verdicts.
abbrev pub job_lines : (Uid → Verdicts) → Job → List ℕ
job_lines verdicts job = lines_with job (verdicts job.uid)

-- Those of all.
abbrev pub jobs_text : (Uid → Verdicts) → List Job → List ℕ
jobs_text verdicts jobs = flat_map (job_lines verdicts) jobs

-- ---- the report

-- What the ledger of a Job has counted after the events and their log, which has the newest entry first.
abbrev pub verdicts_in : Script → List Past → List Entry → Uid → Verdicts
verdicts_in script events log job = verdicts_of (ledger_of job (deeds_of script events) log)

-- A line for each event, two for each Job that is there, and one where the history is full.
abbrev pub report_text : Script → List Past → List Entry → Bool → List ℕ
report_text script events log full =
    event_lines 1 (map (deed script) events)
    ++ (jobs_text (verdicts_in script events log) (in_order (jobs_in log)) ++ full_line full)

-- ---- the summary

-- How many Jobs there are, how many are complete and have failed, and how many pods they have counted.
abbrev pub summary_of : List Entry → Bool → List ℕ
summary_of log full = summary_text (in_order (jobs_in log)) full
