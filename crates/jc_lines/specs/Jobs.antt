-- The line of a Job.
--     uid_words uid     a UID as UUID text
--     job_line job      its key, UID, version and status
use Rattle.std.specs.Prelude.{List, ℕ, ◌++◌, codes}
use Rattle.std.specs.Int.{to_be_bytes, w128}
use Rattle.serde_json.specs.Written.{compact_text}
use Rattle.uuid.specs.Text.{hyphenated_text, lower}
use Rattle.jc_print.specs.PrintedStatuses.{status_data}
use Rattle.jc_types.specs.declared.numbers.Uid.{Uid}
use Rattle.jc_types.specs.declared.objects.Job.{Job}
use Rattle.jc_texts.specs.ReportWords.{key_text, version_text}

abbrev pub uid_words : Uid → List ℕ
uid_words uid = hyphenated_text lower (to_be_bytes w128 uid.0)

abbrev pub job_line : Job → List ℕ
job_line job =
    codes "job " ++ (key_text job.key ++ (codes " " ++ (uid_words job.uid ++ (codes " " ++ (version_text job.version
    ++ (codes " " ++ (compact_text (status_data job.status) ++ codes "\n")))))))
