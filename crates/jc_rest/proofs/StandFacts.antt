-- Since when a Job stands as it is now, with its ended pod.
use Rattle.std.proofs.Common.{◌≡◌, ◌⊎◌, ℕ, suc, ◌≤◌, ◌<◌, Bool, true, false, cond, ◌||◌, List, [], ◌∷◌, length, map, Option, Some, None, is_some, option_and_then, sym, ap, ◌∙◌, arith, inl, inr, true≢false}
use Rattle.std.proofs.lemmas.Bool.{cases_lt, or_left, or_right}
use Rattle.std.specs.Option.{unwrap_or}
use Rattle.jc_control.specs.ControllerCalls.{told}
use Rattle.jc_control.specs.Queued.{has_key}
use Rattle.jc_types.specs.declared.numbers.Uid.{Uid}
use Rattle.jc_types.specs.declared.objects.Entry.{Entry}
use Rattle.jc_types.specs.declared.objects.Entry.TheVariants.{JobPut, JobGone, PodPut, PodGone}
use Rattle.jc_types.specs.declared.objects.Job.{Job}
use Rattle.jc_types.specs.declared.objects.Kind.{Kind}
use Rattle.jc_types.specs.declared.objects.Kind.TheVariants.{Jobs, Pods}
use Rattle.jc_types.specs.declared.objects.KeyNames.{KeyNames as Key}
use Rattle.jc_types.specs.Keys.{same_key}
use Rattle.jc_types.proofs.KeyFacts.{same_key-itself}
use Rattle.jc_log.specs.Log.{entry_at, job_in, jobs_in, upto}
use Rattle.jc_log.specs.Tables.{at}
use Rattle.jc_log.proofs.LogFacts.{entry_at-newest, entry_at-older, upto-all, upto-fixed}
use Rattle.jc_log.proofs.ObjectFacts.{jobs_in-at}
use Rattle.jc_log.proofs.WriteFacts.{job_in-key}
use Rattle.jc_history.specs.Diaries.{listed_keys}
use Rattle.jc_order.specs.Restless.{StandTogether, has_forgotten, has_job_of, point}
use Rattle.jc_order.proofs.ForgetFacts.{both}

-- ---- the last entry of the Job

-- The entry that put the Job, and since which it stands so.
pub record LastPut (k : Key) (job : Job) (log : List Entry) : Type 0 where
  pub from : ℕ
  pub within : from ≤ length log
  pub is : entry_at from log ≡ Some (JobPut job)
  pub stays : (n : ℕ) → from ≤ n → n ≤ length log → job_in k (upto n log) ≡ Some job

-- One more entry leaves the Job.
further : (k : Key) (job : Job) (e : Entry) (older : List Entry) → job_in k (e ∷ older) ≡ Some job → LastPut k job older → LastPut k job (e ∷ older)
further k job e older its last = record {
  from = last.from;
  within = let w = last.within in omega (arith, w);
  is = entry_at-older last.from e older last.within ∙ last.is;
  stays = λ n low high. by n low (cases_lt (length older) n);
}
  where
    by : (n : ℕ) → last.from ≤ n → (length older < n) ⊎ (n ≤ length older) → job_in k (upto n (e ∷ older)) ≡ Some job
    by n low (inl lt) = ap (job_in k) (upto-all n (e ∷ older) (omega (arith, lt))) ∙ its
    by n low (inr le) = ap (job_in k) (upto-fixed n e older le) ∙ last.stays n low le

pub last-put : (k : Key) (job : Job) (log : List Entry) → job_in k log ≡ Some job → LastPut k job log
last-put k job [] its = absurd (true≢false (sym (ap is_some its)))
last-put k job (JobPut new ∷ older) its = by (same_key new.key k) its (last-put k job older)
  where
    by : (b : Bool) → cond b (Some new) (job_in k older) ≡ Some job → (job_in k older ≡ Some job → LastPut k job older) → LastPut k job (JobPut new ∷ older)
    by true e more = record {
      from = suc (length older);
      within = omega arith;
      is = entry_at-newest (JobPut new) older ∙ ap (λ (o : Option Job). Some (JobPut (unwrap_or o job))) e;
      stays = λ n low high. ap (job_in k) (upto-all n (JobPut new ∷ older) (omega (arith, low))) ∙ its;
    }
    by false e more = further k job (JobPut new) older its (more e)
last-put k job (JobGone gone ∷ older) its = by (same_key gone.key k) its (last-put k job older)
  where
    by : (b : Bool) → cond b None (job_in k older) ≡ Some job → (job_in k older ≡ Some job → LastPut k job older) → LastPut k job (JobGone gone ∷ older)
    by true e more = absurd (true≢false (sym (ap is_some e)))
    by false e more = further k job (JobGone gone) older its (more e)
last-put k job (PodPut pod ∷ older) its = further k job (PodPut pod) older its (last-put k job older its)
last-put k job (PodGone pod ∷ older) its = further k job (PodGone pod) older its (last-put k job older its)

-- ---- its key

-- A Job that is found under its key is among those that a list adds.
abbrev keys-of : List (Key × Job) → List Key
keys-of rows = map (λ (job : Job). job.key) (map (λ (row : Key × Job). row.1) rows)

in-keys : (k : Key) (job : Job) (rows : List (Key × Job)) → job.key ≡ k → at same_key rows k ≡ Some job → has_key k (keys-of rows) ≡ true
in-keys k job [] named e = absurd (true≢false (sym (ap is_some e)))
in-keys k job (row ∷ rows) named e = by (same_key k row.0) e (in-keys k job rows named)
  where
    by : (b : Bool) → cond b (Some row.1) (at same_key rows k) ≡ Some job → (at same_key rows k ≡ Some job → has_key k (keys-of rows) ≡ true) → (same_key k row.1.key || has_key k (keys-of rows)) ≡ true
    by true e ih =
        let same : row.1 ≡ job = ap (λ o. unwrap_or o job) e in
        or_left (same_key k row.1.key) (has_key k (keys-of rows)) (ap (λ (x : Job). same_key k x.key) same ∙ ap (same_key k) named ∙ same_key-itself k)
    by false e ih = or_right (same_key k row.1.key) (has_key k (keys-of rows)) (ih e)

pub job-listed : (k : Key) (log : List Entry) (job : Job) → job_in k log ≡ Some job → has_job_of k log ≡ true
job-listed k log job its = in-keys k job (jobs_in log) (job_in-key k log job its) (jobs_in-at k log ∙ its)

-- ---- both

-- Both stand together, and the Job as it is now.
pub record Standing (k : Key) (job : Job) (u : Uid) (log : List Entry) : Type 0 where
  pub together : StandTogether k job.uid u log
  pub stays : (n : ℕ) → together.job_from ≤ n → n ≤ length log → job_in k (upto n log) ≡ Some job

pub standing : (k : Key) (job : Job) (u : Uid) (log : List Entry) → job_in k log ≡ Some job → has_forgotten k job.uid u log ≡ true → Standing k job u log
standing k job u log its p = record {
  together = record {
    job_from = last.from;
    pod_from = old.pod_from;
    job_by = last.within;
    pod_by = old.pod_by;
    job_since = λ n low high. job-listed k (upto n log) job (last.stays n low high);
    pod_since = old.pod_since;
    stands = record { listed = listed; told_at = told-at };
  };
  stays = last.stays;
}
  where
    last : LastPut k job log
    last = last-put k job log its

    old : StandTogether k job.uid u log
    old = both k job.uid u log (job-listed k log job its) p

    listed : (kind : Kind) (n : ℕ) → point kind last.from old.pod_from ≤ n → n ≤ length log → has_key k (listed_keys kind (upto n log)) ≡ true
    listed Jobs n low high = job-listed k (upto n log) job (last.stays n low high)
    listed Pods n low high = old.stands.listed Pods n low high

    told-at : (kind : Kind) → point kind last.from old.pod_from ≤ length log → option_and_then (told kind) (entry_at (point kind last.from old.pod_from) log) ≡ Some k
    told-at Jobs w = ap (option_and_then (told Jobs)) last.is ∙ ap (λ key. Some key) (job_in-key k log job its)
    told-at Pods w = old.stands.told_at Pods w
