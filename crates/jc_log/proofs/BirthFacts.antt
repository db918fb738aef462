-- UIDs and what is made: a UID that was used is at most the number of births, a Job that is there was
-- there since it was made, and a pod's Job was put before the pod.
use Rattle.std.proofs.Common.{◌≡◌, ℕ, ◌+◌, ◌≤◌, Bool, true, false, cond, ◌&&◌, List, [], ◌∷◌, Option, Some, None, refl, sym, ap, ◌∙◌, subst, arith, true≢false, IfSome}
use Rattle.std.proofs.lemmas.Bool.{both_ways, false_from_ne_true, ne_eqb}
use Rattle.jc_types.specs.declared.numbers.Uid.{Uid}
use Rattle.jc_types.specs.declared.objects.Entry.{Entry}
use Rattle.jc_types.specs.declared.objects.Entry.TheVariants.{JobPut, JobGone, PodPut, PodGone}
use Rattle.jc_types.specs.declared.objects.Job.{Job}
use Rattle.jc_types.specs.declared.objects.KeyNames.{KeyNames as Key}
use Rattle.jc_types.specs.Keys.{same_key, same_uid}
use Rattle.jc_log.specs.Log.{Life, Never, Live, Gone, upto, job_in, life, is_never, is_job_of, is_born, living, pod_in, has_job, births}
use Rattle.jc_states.specs.ObjectChanges.{JobStep}
use Rattle.jc_log.specs.Writes.{CanJob, CanPut, CanGo, Writes, Stored, Legal}
use Rattle.jc_types.proofs.KeyFacts.{same_key-eq, same_uid-eq}
use Rattle.jc_log.proofs.WriteFacts.{persists, job_in-born, is_born-more}

-- No entry lessens the number of births.
pub births-grow : (e : Entry) (older : List Entry) → births older ≤ births (e ∷ older)
births-grow (JobPut job) older = by (is_born job.uid older)
  where
    by : (b : Bool) → births older ≤ cond b (births older) (births older + 1)
    by true = omega arith
    by false = omega arith
births-grow (JobGone job) older = omega arith
births-grow (PodPut pod) older = by (is_never (life pod.uid older))
  where
    by : (b : Bool) → births older ≤ cond b (births older + 1) (births older)
    by true = omega arith
    by false = omega arith
births-grow (PodGone pod) older = omega arith

-- A Job that was put has a UID of at most the number of births.
pub born_within : (j : Uid) (log : List Entry) → Stored log → is_born j log ≡ true → j.0 ≤ births log
born_within j [] all h = absurd (true≢false (sym h))
born_within j (JobPut job ∷ older) all h = by (λ v b. born_within v older all.1 b) (same_uid job.uid j) refl h
  where
    new : ((v : Uid) → is_born v older ≡ true → v.0 ≤ births older) → (b : Bool) → is_born job.uid older ≡ b → (o : Option Job) → job_in job.key older ≡ o → CanJob older o job → job.uid.0 ≤ cond b (births older) (births older + 1)
    new ih true born o is can = ih job.uid born
    new ih false born None is can = let new = can.uid in omega (arith, new)
    new ih false born (Some old) is can =
        let le = ih old.uid (job_in-born job.key older old is) in
        let same : job.uid.0 ≡ old.uid.0 = ap (λ u. u.0) can.uid in
        omega (arith, le, same)

    by : ((v : Uid) → is_born v older ≡ true → v.0 ≤ births older) → (s : Bool) → same_uid job.uid j ≡ s → cond s true (is_born j older) ≡ true → j.0 ≤ births (JobPut job ∷ older)
    by ih true s g =
        let le = new ih (is_born job.uid older) refl (job_in job.key older) refl all.0.can in
        subst (λ u. u.0 ≤ births (JobPut job ∷ older)) (same_uid-eq job.uid j s) le
    by ih false s g = let le = ih j g in let grow = births-grow (JobPut job) older in omega (arith, le, grow)
born_within j (JobGone job ∷ older) all h = born_within j older all.1 h
born_within j (PodPut pod ∷ older) all h = let le = born_within j older all.1 h in let grow = births-grow (PodPut pod) older in omega (arith, le, grow)
born_within j (PodGone pod ∷ older) all h = born_within j older all.1 h

-- A UID that a pod had is at most the number of births.
pub life_within : (u : Uid) (log : List Entry) → Stored log → is_never (life u log) ≡ false → u.0 ≤ births log
life_within u [] all h = absurd (true≢false h)
life_within u (JobPut job ∷ older) all h = let le = life_within u older all.1 h in let grow = births-grow (JobPut job) older in omega (arith, le, grow)
life_within u (JobGone job ∷ older) all h = life_within u older all.1 h
life_within u (PodPut pod ∷ older) all h = by (λ v n. life_within v older all.1 n) (same_uid pod.uid u) refl h
  where
    at_life : ((v : Uid) → is_never (life v older) ≡ false → v.0 ≤ births older) → (l : Life) → life pod.uid older ≡ l → CanPut older l pod → pod.uid.0 ≤ cond (is_never l) (births older + 1) (births older)
    at_life ih Never is can = let new = can.uid in omega (arith, new)
    at_life ih (Live old) is can = ih pod.uid (ap is_never is)
    at_life ih Gone is can = absurd can

    by : ((v : Uid) → is_never (life v older) ≡ false → v.0 ≤ births older) → (b : Bool) → same_uid pod.uid u ≡ b → is_never (cond b (Live pod) (life u older)) ≡ false → u.0 ≤ births (PodPut pod ∷ older)
    by ih true s n = subst (λ v. v.0 ≤ births (PodPut pod ∷ older)) (same_uid-eq pod.uid u s) (at_life ih (life pod.uid older) refl all.0.can.0)
    by ih false s n = let le = ih u n in let grow = births-grow (PodPut pod) older in omega (arith, le, grow)
life_within u (PodGone pod ∷ older) all h = by (λ v n. life_within v older all.1 n) (same_uid pod.uid u) refl h
  where
    at_life : ((v : Uid) → is_never (life v older) ≡ false → v.0 ≤ births older) → (l : Life) → life pod.uid older ≡ l → CanGo l pod → pod.uid.0 ≤ births older
    at_life ih Never is can = absurd can
    at_life ih (Live old) is can = ih pod.uid (ap is_never is)
    at_life ih Gone is can = absurd can

    by : ((v : Uid) → is_never (life v older) ≡ false → v.0 ≤ births older) → (b : Bool) → same_uid pod.uid u ≡ b → is_never (cond b Gone (life u older)) ≡ false → u.0 ≤ births older
    by ih true s n = subst (λ v. v.0 ≤ births older) (same_uid-eq pod.uid u s) (at_life ih (life pod.uid older) refl all.0.can.0)
    by ih false s n = ih u n

-- The UID of a creation is none that a Job had.
pub fresh_unborn : (j : Uid) (log : List Entry) → Stored log → j.0 ≡ births log + 1 → is_born j log ≡ false
fresh_unborn j log all new =
    false_from_ne_true (is_born j log) (λ b. let le = born_within j log all b in omega (arith, le, new))

-- The UID of a creation is none that a pod had.
pub fresh_never : (u : Uid) (log : List Entry) → Stored log → u.0 ≡ births log + 1 → life u log ≡ Never
fresh_never u log all new = by (life u log) refl
  where
    out : is_never (life u log) ≡ false → ⊥
    out n = let le = life_within u log all n in omega (arith, le, new)

    by : (l : Life) → life u log ≡ l → life u log ≡ Never
    by Never is = is
    by (Live pod) is = absurd (out (ap is_never is))
    by Gone is = absurd (out (ap is_never is))

-- ---- the life of a Job is an interval

-- A Job of the UID was put, and is not that of the key.
abbrev pub Away : Uid → Key → List Entry → Type 0
Away j k log = (is_born j log ≡ true) × (is_job_of j (job_in k log) ≡ false)

-- A Job that is away stays away.
pub away_entry : (j : Uid) (k : Key) (e : Entry) (older : List Entry) → Writes older e → Stored older → Away j k older → Away j k (e ∷ older)
away_entry j k (JobPut job) older w all h = (is_born-more j (JobPut job) older h.0, by (same_key job.key k) refl)
  where
    made : (o : Option Job) → job_in k older ≡ o → CanJob older o job → is_job_of j o ≡ false → same_uid job.uid j ≡ false
    made None there can away =
        let new = can.uid in
        ne_eqb job.uid.0 j.0 (λ is. let le = born_within j older all h.0 in omega (arith, new, is, le))
    made (Some old) there can away = ap (λ u. same_uid u j) can.uid ∙ away

    by : (b : Bool) → same_key job.key k ≡ b → is_job_of j (cond b (Some job) (job_in k older)) ≡ false
    by true s = made (job_in k older) refl (subst (λ key. CanJob older (job_in key older) job) (same_key-eq job.key k s) w.can) h.1
    by false s = h.1
away_entry j k (JobGone job) older w all h = (h.0, by (same_key job.key k))
  where
    by : (b : Bool) → is_job_of j (cond b None (job_in k older)) ≡ false
    by true = refl
    by false = h.1
away_entry j k (PodPut pod) older w all h = h
away_entry j k (PodGone pod) older w all h = h

-- A Job that is there was there at each version since it was put.
pub life_is_interval : (j : Uid) (k : Key) (m n : ℕ) (log : List Entry) → Stored log → m ≤ n → is_born j (upto m log) ≡ true → is_job_of j (job_in k (upto n log)) ≡ true → is_job_of j (job_in k (upto m log)) ≡ true
life_is_interval j k m n log all h born there = by (is_job_of j (job_in k (upto m log))) refl
  where
    by : (b : Bool) → is_job_of j (job_in k (upto m log)) ≡ b → is_job_of j (job_in k (upto m log)) ≡ true
    by true s = s
    by false s =
        let away = persists Writes (Away j k) (λ e older w rest p. away_entry j k e older w rest p) m n log all h (born, s) in
        absurd (both_ways (is_job_of j (job_in k (upto n log))) away.1 there)

-- ---- a pod's Job is older than the pod

-- The pod that lives, if one does, has a Job that was put.
abbrev pub Owned : List Entry → Life → Type 0
Owned log Never = Unit {0}
Owned log (Live pod) = has_job pod.owner_uid pod.owner log ≡ true
Owned log Gone = Unit {0}

-- What was put stays put.
pub has_job-more : (j : Uid) (k : Key) (e : Entry) (older : List Entry) → has_job j k older ≡ true → has_job j k (e ∷ older) ≡ true
has_job-more j k (JobPut job) older h = by (same_uid job.uid j && same_key job.key k)
  where
    by : (b : Bool) → cond b true (has_job j k older) ≡ true
    by true = refl
    by false = h
has_job-more j k (JobGone job) older h = h
has_job-more j k (PodPut pod) older h = h
has_job-more j k (PodGone pod) older h = h

Owned-more : (e : Entry) (older : List Entry) (l : Life) → Owned older l → Owned (e ∷ older) l
Owned-more e older Never h = tt
Owned-more e older (Live pod) h = has_job-more pod.owner_uid pod.owner e older h
Owned-more e older Gone h = tt

-- The Job of a pod that lives was put, under the pod's owner key.
pub owner_first : (u : Uid) (log : List Entry) → Legal log → Owned log (life u log)
owner_first u [] all = tt
owner_first u (JobPut job ∷ older) all = Owned-more (JobPut job) older (life u older) (owner_first u older all.1)
owner_first u (JobGone job ∷ older) all = Owned-more (JobGone job) older (life u older) (owner_first u older all.1)
owner_first u (PodPut pod ∷ older) all = by (owner_first u older all.1) (same_uid pod.uid u) refl
  where
    at_life : (l : Life) → life pod.uid older ≡ l → CanPut older l pod → Owned older l → has_job pod.owner_uid pod.owner older ≡ true
    at_life Never is can own = all.0.owned is
    at_life (Live old) is can own = ap (λ j. has_job j pod.owner older) can.owner_uid ∙ ap (λ k. has_job old.owner_uid k older) can.owner ∙ own
    at_life Gone is can own = absurd can

    by : Owned older (life u older) → (b : Bool) → same_uid pod.uid u ≡ b → Owned (PodPut pod ∷ older) (cond b (Live pod) (life u older))
    by ih true s =
        at_life (life pod.uid older) refl all.0.writes.can.0 (subst (λ v. Owned older (life v older)) (sym (same_uid-eq pod.uid u s)) ih)
    by ih false s = Owned-more (PodPut pod) older (life u older) ih
owner_first u (PodGone pod ∷ older) all = by (owner_first u older all.1) (same_uid pod.uid u)
  where
    by : Owned older (life u older) → (b : Bool) → Owned (PodGone pod ∷ older) (cond b Gone (life u older))
    by ih true = tt
    by ih false = Owned-more (PodGone pod) older (life u older) ih

-- The same, of the pod of a UID.
pub owner_put : (u : Uid) (log : List Entry) → Legal log → IfSome (pod_in u log) (λ pod. has_job pod.owner_uid pod.owner log ≡ true)
owner_put u log all = by (life u log) (owner_first u log all)
  where
    by : (l : Life) → Owned log l → IfSome (living l) (λ pod. has_job pod.owner_uid pod.owner log ≡ true)
    by Never h = tt
    by (Live pod) h = h
    by Gone h = tt

-- ---- what is kept of a Job

-- The Job of the UID, if it is there, has this.
abbrev pub KeptJob : Uid → (Job → Type 0) → Option Job → Type 0
KeptJob j Q None = Unit {0}
KeptJob j Q (Some job) = same_uid job.uid j ≡ true → Q job

-- What a step keeps of a Job, an entry keeps of the Job of a UID that was put.
pub job_kept_entry : (Q : Job → Type 0) → ((old new : Job) → JobStep old new → Q old → Q new) → (j : Uid) (k : Key) (e : Entry) (older : List Entry) → Writes older e → Stored older → is_born j older
    ≡ true → KeptJob j Q (job_in k older) → KeptJob j Q (job_in k (e ∷ older))
job_kept_entry Q step j k (JobPut job) older w all born h = by (same_key job.key k) refl
  where
    made : (o : Option Job) → CanJob older o job → KeptJob j Q o → same_uid job.uid j ≡ true → Q job
    made None can kept s =
        let le = born_within j older all born in
        let is : job.uid.0 ≡ j.0 = ap (λ u. u.0) (same_uid-eq job.uid j s) in
        let new = can.uid in
        absurd (omega (arith, new, is, le))
    made (Some old) can kept s = step old job can (kept (ap (λ u. same_uid u j) (sym can.uid) ∙ s))

    by : (b : Bool) → same_key job.key k ≡ b → KeptJob j Q (cond b (Some job) (job_in k older))
    by true s = made (job_in k older) (subst (λ key. CanJob older (job_in key older) job) (same_key-eq job.key k s) w.can) h
    by false s = h
job_kept_entry Q step j k (JobGone job) older w all born h = by (same_key job.key k)
  where
    by : (b : Bool) → KeptJob j Q (cond b None (job_in k older))
    by true = tt
    by false = h
job_kept_entry Q step j k (PodPut pod) older w all born h = h
job_kept_entry Q step j k (PodGone pod) older w all born h = h

-- What a step keeps of a Job lasts from a prefix to every longer one.
pub job_kept_to : (Q : Job → Type 0) → ((old new : Job) → JobStep old new → Q old → Q new) → (k : Key) (m n : ℕ) (log : List Entry) → Stored log → m ≤ n → (job : Job) → job_in k (upto m log)
    ≡ Some job → Q job → KeptJob job.uid Q (job_in k (upto n log))
job_kept_to Q step k m n log all h job there q =
    (persists Writes (λ l. (is_born job.uid l ≡ true) × KeptJob job.uid Q (job_in k l))
    (λ e older w rest p. (is_born-more job.uid e older p.0, job_kept_entry Q step job.uid k e older w rest p.0 p.1))
    m n log all h (job_in-born k (upto m log) job there, subst (KeptJob job.uid Q) (sym there) (λ s. q))).1
