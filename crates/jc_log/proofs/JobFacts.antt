-- The table of Jobs of a log is in ascending UID, and the UIDs of Jobs and pods are at most the number of
-- births, so that what is new comes at the end.
use Rattle.std.proofs.Common.{◌≡◌, ℕ, ◌+◌, ◌<◌, ◌≤◌, ◌==◌, nat_lt, Bool, true, false, cond, List, [], ◌∷◌, ◌++◌, Option, Some, None, is_some, refl, sym, ap, ◌∙◌, arith, le-ltb, ne_eqb, true≢false}
use Rattle.std.specs.Map.{lookup}
use Rattle.std.specs.List.{AllByRecursion as Each}
use Rattle.std.proofs.lemmas.Bool.{cond-true, cond-false}
use Rattle.jc_types.specs.declared.objects.Entry.{Entry}
use Rattle.jc_types.specs.declared.objects.Entry.TheVariants.{JobPut, JobGone, PodPut, PodGone}
use Rattle.jc_types.specs.declared.objects.Job.{Job}
use Rattle.jc_types.specs.declared.objects.Pod.{Pod}
use Rattle.jc_types.specs.declared.objects.KeyNames.{KeyNames as Key}
use Rattle.jc_types.specs.Keys.{same_key, same_uid}
use Rattle.jc_log.specs.Tables.{at, puts, takes}
use Rattle.jc_log.specs.Log.{Live, job_in, life, is_never, jobs_in, pods_in, births, is_born, RowsRise}
use Rattle.jc_states.specs.PodLists.{put_pod}
use Rattle.jc_log.specs.Writes.{CanJob, Stored}
use Rattle.jc_types.proofs.ListFacts.{Each-weaker}
use Rattle.jc_log.proofs.TableFacts.{Each-takes}
use Rattle.jc_types.proofs.KeyFacts.{same_key-eq, same_key-itself, same_uid-itself}
use Rattle.jc_log.proofs.ObjectFacts.{jobs_in-at}
use Rattle.jc_log.proofs.BirthFacts.{births-grow, born_within, life_within}
use Rattle.jc_log.proofs.PodFacts.{pods_in-live}

-- ---- pods

-- Each pod that is there has a UID of at most the number of births.
pub pods_in-within : (log : List Entry) → Stored log → Each (λ pod. pod.uid.0 ≤ births log) (pods_in log)
pods_in-within log all =
    Each-weaker (λ pod. life pod.uid log ≡ Live pod) (λ pod. pod.uid.0 ≤ births log) (λ pod h. life_within pod.uid log all (ap is_never h)) (pods_in log) (pods_in-live log)

-- A pod whose UID is greater than all others comes last.
pub put_pod-last : (pod : Pod) (pods : List Pod) → Each (λ q. q.uid.0 < pod.uid.0) pods → put_pod pod pods ≡ pods ++ pod ∷ []
put_pod-last pod [] h = refl
put_pod-last pod (q ∷ pods) h =
    let below = h.0 in
    cond-false (nat_lt pod.uid.0 q.uid.0) (pod ∷ q ∷ pods) (cond (pod.uid.0 == q.uid.0) (pod ∷ pods) (q ∷ put_pod pod pods)) (le-ltb pod.uid.0 q.uid.0 (omega (arith, below)))
    ∙ cond-false (pod.uid.0 == q.uid.0) (pod ∷ pods) (q ∷ put_pod pod pods) (ne_eqb pod.uid.0 q.uid.0 (λ e. omega (arith, e, below)))
    ∙ ap (λ rest. q ∷ rest) (put_pod-last pod pods h.1)

-- A new pod comes last.
pub new_pod-last : (log : List Entry) (pod : Pod) → Stored log → pod.uid.0 ≡ births log + 1 → put_pod pod (pods_in log) ≡ pods_in log ++ pod ∷ []
new_pod-last log pod all new =
    put_pod-last pod (pods_in log) (Each-weaker (λ q. q.uid.0 ≤ births log) (λ q. q.uid.0 < pod.uid.0) (λ q le. omega (arith, le, new)) (pods_in log) (pods_in-within log all))

-- ---- Jobs

-- A lower bound may be lowered.
pub rows_weaker : (low high : ℕ) (rows : List (Key × Job)) → low ≤ high → RowsRise high rows → RowsRise low rows
rows_weaker low high [] h r = tt
rows_weaker low high (row ∷ rows) h r = (omega (arith, h, r.0), r.1)

-- A take keeps the order.
pub rows_takes : (low : ℕ) (k : Key) (rows : List (Key × Job)) → RowsRise low rows → RowsRise low (takes same_key rows k)
rows_takes low k [] r = tt
rows_takes low k (row ∷ rows) r = by (same_key k row.0) (rows_takes (row.1.uid.0 + 1) k rows r.1)
  where
    by : (b : Bool) → RowsRise (row.1.uid.0 + 1) (takes same_key rows k) → RowsRise low (cond b rows (row ∷ takes same_key rows k))
    by true ih = rows_weaker low (row.1.uid.0 + 1) rows (omega (arith, r.0)) r.1
    by false ih = (r.0, ih)

-- A put in the place of a Job of the same UID keeps the order.
pub rows_puts : (low : ℕ) (k : Key) (job old : Job) (rows : List (Key × Job)) → at same_key rows k ≡ Some old → job.uid.0 ≡ old.uid.0 → RowsRise low rows → RowsRise low (puts same_key rows k job)
rows_puts low k job old [] there same r = absurd (true≢false (sym (ap is_some there)))
rows_puts low k job old (row ∷ rows) there same r = by (λ t. rows_puts (row.1.uid.0 + 1) k job old rows t same r.1) (same_key k row.0) there
  where
    by : (at same_key rows k ≡ Some old → RowsRise (row.1.uid.0 + 1) (puts same_key rows k job)) → (b : Bool) → cond b (Some row.1) (lookup (same_key k) rows) ≡ Some old → RowsRise low (cond b ((row.0, job) ∷ rows) (row ∷ puts same_key rows k job))
    by ih true t =
        let is : row.1.uid.0 ≡ old.uid.0 = ap (λ (o : Option Job). elim o [ None ↦ row.1.uid.0 | Some j ↦ j.uid.0 ]) t in
        (omega (arith, r.0, is, same), rows_weaker (job.uid.0 + 1) (row.1.uid.0 + 1) rows (omega (arith, is, same)) r.1)
    by ih false t = (r.0, ih t)

-- A new Job whose UID is greater than all others keeps the order: it comes last.
pub rows_last : (low : ℕ) (k : Key) (job : Job) (rows : List (Key × Job)) → at same_key rows k ≡ None → low ≤ job.uid.0 → Each (λ row. row.1.uid.0 < job.uid.0) rows → RowsRise low rows → RowsRise low (puts same_key rows k job)
rows_last low k job [] none le above r = (le, tt)
rows_last low k job (row ∷ rows) none le above r = by (λ t. rows_last (row.1.uid.0 + 1) k job rows t (let h = above.0 in omega (arith, h)) above.1 r.1) (same_key k row.0) none
  where
    by : (at same_key rows k ≡ None → RowsRise (row.1.uid.0 + 1) (puts same_key rows k job)) → (b : Bool) → cond b (Some row.1) (lookup (same_key k) rows) ≡ None → RowsRise low (cond b ((row.0, job) ∷ rows) (row ∷ puts same_key rows k job))
    by ih true t = absurd (true≢false (ap is_some t))
    by ih false t = (r.0, ih t)

-- What holds of each Job holds of each after a put of one that has it.
pub rows_each : (P : Job → Type 0) (k : Key) (job : Job) (rows : List (Key × Job)) → P job → Each (λ row. P row.1) rows → Each (λ row. P row.1) (puts same_key rows k job)
rows_each P k job [] p h = (p, tt)
rows_each P k job (row ∷ rows) p h = by (same_key k row.0) (rows_each P k job rows p h.1)
  where
    by : (b : Bool) → Each (λ r. P r.1) (puts same_key rows k job) → Each (λ r. P r.1) (cond b ((row.0, job) ∷ rows) (row ∷ puts same_key rows k job))
    by true ih = (p, h.1)
    by false ih = (h.0, ih)

-- Each Job that is there has a UID of at most the number of births.
pub jobs_in-within : (log : List Entry) → Stored log → Each (λ row. row.1.uid.0 ≤ births log) (jobs_in log)
jobs_in-within [] all = tt
jobs_in-within (JobPut job ∷ older) all =
    rows_each (λ j. j.uid.0 ≤ births (JobPut job ∷ older)) job.key job (jobs_in older)
    (born_within job.uid (JobPut job ∷ older) all (cond-true (same_uid job.uid job.uid) true (is_born job.uid older) (same_uid-itself job.uid)))
    (Each-weaker (λ row. row.1.uid.0 ≤ births older) (λ row. row.1.uid.0 ≤ births (JobPut job ∷ older)) (λ row le. let grow = births-grow (JobPut job) older in omega (arith, le, grow)) (jobs_in older) (jobs_in-within older all.1))
jobs_in-within (JobGone job ∷ older) all =
    Each-takes same_key same_key-eq same_key-itself (λ row. row.1.uid.0 ≤ births older) job.key (jobs_in older) (jobs_in-within older all.1)
jobs_in-within (PodPut pod ∷ older) all =
    Each-weaker (λ row. row.1.uid.0 ≤ births older) (λ row. row.1.uid.0 ≤ births (PodPut pod ∷ older)) (λ row le. let grow = births-grow (PodPut pod) older in omega (arith, le, grow)) (jobs_in older) (jobs_in-within older all.1)
jobs_in-within (PodGone pod ∷ older) all = jobs_in-within older all.1

-- The Jobs of a log are in ascending UID.
pub jobs_in-rise : (log : List Entry) → Stored log → RowsRise 0 (jobs_in log)
jobs_in-rise [] all = tt
jobs_in-rise (JobPut job ∷ older) all = by (job_in job.key older) refl all.0.can (jobs_in-rise older all.1)
  where
    by : (o : Option Job) → job_in job.key older ≡ o → CanJob older o job → RowsRise 0 (jobs_in older) → RowsRise 0 (puts same_key (jobs_in older) job.key job)
    by None is can rise =
        let new = can.uid in
        rows_last 0 job.key job (jobs_in older) (jobs_in-at job.key older ∙ is) (omega arith)
        (Each-weaker (λ row. row.1.uid.0 ≤ births older) (λ row. row.1.uid.0 < job.uid.0) (λ row le. omega (arith, le, new)) (jobs_in older) (jobs_in-within older all.1)) rise
    by (Some old) is can rise = rows_puts 0 job.key job old (jobs_in older) (jobs_in-at job.key older ∙ is) (ap (λ u. u.0) can.uid) rise
jobs_in-rise (JobGone job ∷ older) all = rows_takes 0 job.key (jobs_in older) (jobs_in-rise older all.1)
jobs_in-rise (PodPut pod ∷ older) all = jobs_in-rise older all.1
jobs_in-rise (PodGone pod ∷ older) all = jobs_in-rise older all.1
