-- The Job of a UID as it was made, and what never changes of it.
use Rattle.std.proofs.Common.{◌≡◌, ℕ, ◌==◌, nat_lt, Bool, true, false, cond, ◌&&◌, List, [], ◌∷◌, length, Option, Some, None, is_some, refl, sym, ap, ◌∙◌, subst, true≢false}
use Rattle.std.proofs.lemmas.Bool.{cond-false, cond-true, and_parts}
use Rattle.std.proofs.lemmas.Option.{same_Some}
use Rattle.jc_types.specs.declared.numbers.Uid.{Uid}
use Rattle.jc_types.specs.declared.objects.Entry.{Entry}
use Rattle.jc_types.specs.declared.objects.Entry.TheVariants.{JobPut, JobGone, PodPut, PodGone}
use Rattle.jc_types.specs.declared.objects.Job.{Job}
use Rattle.jc_types.specs.declared.objects.Pod.{Pod}
use Rattle.jc_types.specs.declared.objects.KeyNames.{KeyNames as Key}
use Rattle.jc_types.specs.Keys.{same_key, same_uid}
use Rattle.jc_log.specs.Log.{upto, entry_at, job_in, has_job, is_born}
use Rattle.jc_states.specs.ObjectChanges.{JobStep}
use Rattle.jc_log.specs.Writes.{CanJob, Stored}
use Rattle.jc_states.proofs.ObjectChangeFacts.{JobStep-itself, JobStep-then}
use Rattle.jc_log.proofs.BirthFacts.{fresh_unborn}
use Rattle.jc_types.proofs.KeyFacts.{same_key-eq, same_uid-eq, same_uid-itself}
use Rattle.jc_failpol.specs.FailJob.{is_failure, policy_fails_job, fails_job}
use Rattle.jc_failpol.specs.Outcomes.{judged, outcome_of}
use Rattle.jc_ledger.specs.Tied.{made_as, made_after}

-- What never changes of a Job decides about its pods.
pub outcome-step : (old new : Job) (pod : Pod) → JobStep old new → outcome_of new.spec pod ≡ outcome_of old.spec pod
outcome-step old new pod h =
    ap (λ r. judged r new.spec.failure pod) h.replacement ∙ ap (λ f. judged old.spec.replacement f pod) h.failure

-- So it does about whether a pod fails its Job.
pub fails_job-step : (old new : Job) (pod : Pod) → JobStep old new → fails_job new.spec pod ≡ fails_job old.spec pod
fails_job-step old new pod h =
    ap (λ o. is_failure o && policy_fails_job new.spec.failure pod) (outcome-step old new pod h)
    ∙ ap (λ f. is_failure (outcome_of old.spec pod) && policy_fails_job f pod) h.failure

-- A Job that was made has the UID.
pub made_as-uid : (j : Uid) (log : List Entry) (made : Job) → made_as j log ≡ Some made → made.uid ≡ j
made_as-uid j [] made h = absurd (true≢false (sym (ap is_some h)))
made_as-uid j (JobPut job ∷ older) made h = by (made_as-uid j older made) (made_as j older) refl h
  where
    first : (b : Bool) → same_uid job.uid j ≡ b → cond b (Some job) None ≡ Some made → made.uid ≡ j
    first true s g = ap (λ m. m.uid) (sym (same_Some job made g)) ∙ same_uid-eq job.uid j s
    first false s g = absurd (true≢false (sym (ap is_some g)))

    by : (made_as j older ≡ Some made → made.uid ≡ j) → (o : Option Job) → made_as j older ≡ o → made_after j job o ≡ Some made → made.uid ≡ j
    by ih None is g = first (same_uid job.uid j) refl g
    by ih (Some m) is g = ih (is ∙ g)
made_as-uid j (JobGone job ∷ older) made h = made_as-uid j older made h
made_as-uid j (PodPut pod ∷ older) made h = made_as-uid j older made h
made_as-uid j (PodGone pod ∷ older) made h = made_as-uid j older made h

-- A Job that was made stays as it was made.
pub made_as-more : (j : Uid) (e : Entry) (older : List Entry) (made : Job) → made_as j older ≡ Some made → made_as j (e ∷ older) ≡ Some made
made_as-more j (JobPut job) older made h = ap (made_after j job) h
made_as-more j (JobGone job) older made h = h
made_as-more j (PodPut pod) older made h = h
made_as-more j (PodGone pod) older made h = h

-- So it does from a prefix to the whole log.
pub made_as-upto : (j : Uid) (n : ℕ) (log : List Entry) (made : Job) → made_as j (upto n log) ≡ Some made → made_as j log ≡ Some made
made_as-upto j n [] made h = h
made_as-upto j n (e ∷ older) made h = by (made_as-upto j n older made) (nat_lt (length older) n) h
  where
    by : (made_as j (upto n older) ≡ Some made → made_as j older ≡ Some made) → (b : Bool) → made_as j (cond b (e ∷ older) (upto n older)) ≡ Some made → made_as j (e ∷ older) ≡ Some made
    by ih true g = g
    by ih false g = made_as-more j e older made (ih g)

-- Of a UID that no Job had, none was made.
pub made_as-unborn : (j : Uid) (log : List Entry) → is_born j log ≡ false → made_as j log ≡ None
made_as-unborn j [] h = refl
made_as-unborn j (JobPut job ∷ older) h = by (made_as-unborn j older) (same_uid job.uid j) refl h
  where
    by : (is_born j older ≡ false → made_as j older ≡ None) → (b : Bool) → same_uid job.uid j ≡ b → cond b true (is_born j older) ≡ false → made_as j (JobPut job ∷ older) ≡ None
    by ih true s g = absurd (true≢false g)
    by ih false s g = ap (made_after j job) (ih g) ∙ cond-false (same_uid job.uid j) (Some job) None s
made_as-unborn j (JobGone job ∷ older) h = made_as-unborn j older h
made_as-unborn j (PodPut pod ∷ older) h = made_as-unborn j older h
made_as-unborn j (PodGone pod ∷ older) h = made_as-unborn j older h

-- The Job as it was made, of one that has the UID and the key, with what is kept since.
pub record WasMade (log : List Entry) (job : Job) : Type 0 where
  pub made : Job
  pub is_made : made_as job.uid log ≡ Some made
  pub step : JobStep made job

-- It stays so.
pub WasMade-more : (e : Entry) (older : List Entry) (job : Job) → WasMade older job → WasMade (e ∷ older) job
WasMade-more e older job w = record { made = w.made; is_made = made_as-more job.uid e older w.made w.is_made; step = w.step }

-- A Job that an entry puts is a step of what was made, if those of the keys before it are.
new-was_made : (job : Job) (older : List Entry) → Stored (JobPut job ∷ older) → ((k : Key) (old : Job) → job_in k older ≡ Some old → WasMade older old) → WasMade (JobPut job ∷ older) job
new-was_made job older all before = by (job_in job.key older) refl all.0.can
  where
    by : (o : Option Job) → job_in job.key older ≡ o → CanJob older o job → WasMade (JobPut job ∷ older) job
    by None is can = record {
      made = job;
      is_made =
          ap (made_after job.uid job) (made_as-unborn job.uid older (fresh_unborn job.uid older all.1 can.uid))
          ∙ cond-true (same_uid job.uid job.uid) (Some job) None (same_uid-itself job.uid);
      step = JobStep-itself job;
    }
    by (Some old) is can =
        let w = before job.key old is in
        record {
          made = w.made;
          is_made = made_as-more job.uid (JobPut job) older w.made (ap (λ j. made_as j older) can.uid ∙ w.is_made);
          step = JobStep-then w.made old job w.step can;
        }

-- The Job of a key is a step of what was made.
pub job_in-was_made : (k : Key) (log : List Entry) (job : Job) → Stored log → job_in k log ≡ Some job → WasMade log job
job_in-was_made k [] job all h = absurd (true≢false (sym (ap is_some h)))
job_in-was_made k (JobPut new ∷ older) job all h = by (λ q old is. job_in-was_made q older old all.1 is) (same_key new.key k) h
  where
    by : ((q : Key) (old : Job) → job_in q older ≡ Some old → WasMade older old) → (b : Bool) → cond b (Some new) (job_in k older) ≡ Some job → WasMade (JobPut new ∷ older) job
    by ih true g = subst (λ j. WasMade (JobPut new ∷ older) j) (same_Some new job g) (new-was_made new older all ih)
    by ih false g = WasMade-more (JobPut new) older job (ih k job g)
job_in-was_made k (JobGone gone ∷ older) job all h = by (job_in-was_made k older job all.1) (same_key gone.key k) h
  where
    by : (job_in k older ≡ Some job → WasMade older job) → (b : Bool) → cond b None (job_in k older) ≡ Some job → WasMade (JobGone gone ∷ older) job
    by ih true g = absurd (true≢false (sym (ap is_some g)))
    by ih false g = WasMade-more (JobGone gone) older job (ih g)
job_in-was_made k (PodPut pod ∷ older) job all h = WasMade-more (PodPut pod) older job (job_in-was_made k older job all.1 h)
job_in-was_made k (PodGone pod ∷ older) job all h = WasMade-more (PodGone pod) older job (job_in-was_made k older job all.1 h)

-- The Job that the newest entry puts is a step of what was made.
pub newest-was_made : (job : Job) (older : List Entry) → Stored (JobPut job ∷ older) → WasMade (JobPut job ∷ older) job
newest-was_made job older all = new-was_made job older all (λ k old is. job_in-was_made k older old all.1 is)

-- Each entry that puts a Job puts a step of what was made.
pub put-was_made : (v : ℕ) (log : List Entry) (job : Job) → Stored log → entry_at v log ≡ Some (JobPut job) → WasMade log job
put-was_made v [] job all h = absurd (true≢false (sym (ap is_some h)))
put-was_made v (e ∷ older) job all h = by (put-was_made v older job all.1) (length (e ∷ older) == v) h
  where
    by : (entry_at v older ≡ Some (JobPut job) → WasMade older job) → (b : Bool) → cond b (Some e) (entry_at v older) ≡ Some (JobPut job) → WasMade (e ∷ older) job
    by ih true g =
        subst (λ x. Stored (x ∷ older) → WasMade (x ∷ older) job) (sym (same_Some e (JobPut job) g)) (newest-was_made job older) all
    by ih false g = WasMade-more e older job (ih g)

-- What was made first is one Job.
made-one : (log : List Entry) (made job : Job) → made_as made.uid log ≡ Some made → job.uid ≡ made.uid → WasMade log job → JobStep made job
made-one log made job is uid w =
    subst (λ m. JobStep m job) (same_Some w.made made (sym w.is_made ∙ ap (λ j. made_as j log) uid ∙ is)) w.step

-- The same from the Job as it was made.
pub put-step : (v : ℕ) (log : List Entry) (made job : Job) → Stored log → made_as made.uid log ≡ Some made → entry_at v log ≡ Some (JobPut job) → job.uid ≡ made.uid → JobStep made job
put-step v log made job all is h uid = made-one log made job is uid (put-was_made v log job all h)

-- And of the Job of a key.
pub job_in-step : (k : Key) (log : List Entry) (made job : Job) → Stored log → made_as made.uid log ≡ Some made → job_in k log ≡ Some job → job.uid ≡ made.uid → JobStep made job
job_in-step k log made job all is h uid = made-one log made job is uid (job_in-was_made k log job all h)

-- A Job that was put under a key was made under it.
pub record WasMadeUnder (log : List Entry) (j : Uid) (k : Key) : Type 0 where
  pub made : Job
  pub is_made : made_as j log ≡ Some made
  pub key : made.key ≡ k

-- It stays so.
pub WasMadeUnder-more : (e : Entry) (older : List Entry) (j : Uid) (k : Key) → WasMadeUnder older j k → WasMadeUnder (e ∷ older) j k
WasMadeUnder-more e older j k w = record { made = w.made; is_made = made_as-more j e older w.made w.is_made; key = w.key }

-- It was.
pub has_job-was_made : (j : Uid) (k : Key) (log : List Entry) → Stored log → has_job j k log ≡ true → WasMadeUnder log j k
has_job-was_made j k [] all h = absurd (true≢false (sym h))
has_job-was_made j k (JobPut job ∷ older) all h = by (has_job-was_made j k older all.1) (same_uid job.uid j && same_key job.key k) refl h
  where
    by : (has_job j k older ≡ true → WasMadeUnder older j k) → (b : Bool) → (same_uid job.uid j && same_key job.key k) ≡ b → cond b true (has_job j k older) ≡ true → WasMadeUnder (JobPut job ∷ older) j k
    by ih true s g =
        let parts = and_parts (same_uid job.uid j) (same_key job.key k) s in
        let w = newest-was_made job older all in
        record {
          made = w.made;
          is_made = ap (λ u. made_as u (JobPut job ∷ older)) (sym (same_uid-eq job.uid j parts.0)) ∙ w.is_made;
          key = sym w.step.key ∙ same_key-eq job.key k parts.1;
        }
    by ih false s g = WasMadeUnder-more (JobPut job) older j k (ih g)
has_job-was_made j k (JobGone job ∷ older) all h = WasMadeUnder-more (JobGone job) older j k (has_job-was_made j k older all.1 h)
has_job-was_made j k (PodPut pod ∷ older) all h = WasMadeUnder-more (PodPut pod) older j k (has_job-was_made j k older all.1 h)
has_job-was_made j k (PodGone pod ∷ older) all h = WasMadeUnder-more (PodGone pod) older j k (has_job-was_made j k older all.1 h)

-- The Job as it was made was put.
pub made_as-born : (j : Uid) (log : List Entry) (made : Job) → made_as j log ≡ Some made → is_born j log ≡ true
made_as-born j log made h = by (is_born j log) refl
  where
    by : (b : Bool) → is_born j log ≡ b → is_born j log ≡ true
    by true is = is
    by false is = absurd (true≢false (sym (ap is_some (sym (made_as-unborn j log is) ∙ h))))
