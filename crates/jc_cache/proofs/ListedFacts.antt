-- The Jobs of a log have keys that are apart, and each stands under its own.
use Rattle.std.proofs.Common.{◌≡◌, Bool, true, false, cond, List, [], ◌∷◌, map, refl, sym, ap, ◌∙◌}
use Rattle.std.specs.List.{AllByRecursion as Each}
use Rattle.jc_types.specs.declared.objects.Entry.{Entry}
use Rattle.jc_types.specs.declared.objects.Entry.TheVariants.{JobPut, JobGone, PodPut, PodGone}
use Rattle.jc_types.specs.declared.objects.Job.{Job}
use Rattle.jc_types.specs.declared.objects.KeyNames.{KeyNames as Key}
use Rattle.jc_types.specs.Keys.{same_key}
use Rattle.jc_log.specs.Log.{jobs_in}
use Rattle.jc_log.specs.Tables.{puts, takes}
use Rattle.jc_types.proofs.KeyFacts.{same_key-eq}
use Rattle.jc_log.proofs.ObjectFacts.{Apart-jobs_in}
use Rattle.jc_log.proofs.TableFacts.{Apart}
use Rattle.jc_cache.specs.Caches.{job_rows, AreApart}

-- The Jobs of the rows.
abbrev jobs_of : List (Key × Job) → List Job
jobs_of rows = map (λ row. row.1) rows

-- Each Job stands under its own key.
abbrev AreKeyed : List (Key × Job) → Type 0
AreKeyed rows = Each (λ row. row.0 ≡ row.1.key) rows

keyed_puts : (job : Job) (rows : List (Key × Job)) → AreKeyed rows → AreKeyed (puts same_key rows job.key job)
keyed_puts job [] h = (refl, tt)
keyed_puts job (row ∷ rows) h = by (same_key job.key row.0) refl (keyed_puts job rows h.1)
  where
    by : (b : Bool) → same_key job.key row.0 ≡ b → AreKeyed (puts same_key rows job.key job) → AreKeyed (cond b ((row.0, job) ∷ rows) (row ∷ puts same_key rows job.key job))
    by true s ih = (sym (same_key-eq job.key row.0 s), h.1)
    by false s ih = (h.0, ih)

keyed_takes : (k : Key) (rows : List (Key × Job)) → AreKeyed rows → AreKeyed (takes same_key rows k)
keyed_takes k [] h = tt
keyed_takes k (row ∷ rows) h = by (same_key k row.0) (keyed_takes k rows h.1)
  where
    by : (b : Bool) → AreKeyed (takes same_key rows k) → AreKeyed (cond b rows (row ∷ takes same_key rows k))
    by true ih = h.1
    by false ih = (h.0, ih)

keyed_jobs_in : (log : List Entry) → AreKeyed (jobs_in log)
keyed_jobs_in [] = tt
keyed_jobs_in (JobPut job ∷ older) = keyed_puts job (jobs_in older) (keyed_jobs_in older)
keyed_jobs_in (JobGone job ∷ older) = keyed_takes job.key (jobs_in older) (keyed_jobs_in older)
keyed_jobs_in (PodPut pod ∷ older) = keyed_jobs_in older
keyed_jobs_in (PodGone pod ∷ older) = keyed_jobs_in older

rows_of-jobs_of : (rows : List (Key × Job)) → AreKeyed rows → job_rows (jobs_of rows) ≡ rows
rows_of-jobs_of [] h = refl
rows_of-jobs_of (row ∷ rows) h =
    ap (λ k. (k, row.1) ∷ job_rows (jobs_of rows)) (sym h.0) ∙ ap (λ rest. row ∷ rest) (rows_of-jobs_of rows h.1)

apart_jobs_of : (rows : List (Key × Job)) → AreKeyed rows → Apart same_key rows → AreApart (jobs_of rows)
apart_jobs_of [] h apart = tt
apart_jobs_of (row ∷ rows) h apart = (far rows h.1 apart.0, apart_jobs_of rows h.1 apart.1)
  where
    far : (some : List (Key × Job)) → AreKeyed some → Each (λ other. same_key row.0 other.0 ≡ false) some → Each (λ job. same_key row.1.key job.key ≡ false) (jobs_of some)
    far [] keyed all = tt
    far (other ∷ some) keyed all =
        (ap (λ a. same_key a other.1.key) (sym h.0) ∙ ap (same_key row.0) (sym keyed.0) ∙ all.0, far some keyed.1 all.1)

-- The Jobs of a log have keys that are apart.
pub listed-apart : (log : List Entry) → AreApart (map (λ row. row.1) (jobs_in log))
listed-apart log = apart_jobs_of (jobs_in log) (keyed_jobs_in log) (Apart-jobs_in log)

-- The Jobs of a log, each under its key, are the log's table.
pub listed-filled : (log : List Entry) → job_rows (map (λ row. row.1) (jobs_in log)) ≡ jobs_in log
listed-filled log = rows_of-jobs_of (jobs_in log) (keyed_jobs_in log)
