-- What an entry keeps of Jobs that have ended.
use Rattle.std.proofs.Common.{◌≡◌, ℕ, ◌+◌, ◌≤◌, nat_lt, Bool, true, false, cond, not, ◌&&◌, ◌||◌, List, [], ◌∷◌, length, filter, Option, Some, None, is_some, refl, sym, ap, ◌∙◌, subst, true≢false, arith, ◌⊎◌, inl, inr, ltb-false}
use Rattle.std.specs.List.{list_any}
use Rattle.std.proofs.lemmas.Bool.{cond-true, cond-false, not-false}
use Rattle.jc_types.specs.declared.numbers.Uid.{Uid}
use Rattle.jc_types.specs.declared.objects.Entry.{Entry}
use Rattle.jc_types.specs.declared.objects.Entry.TheVariants.{JobPut, JobGone, PodPut, PodGone}
use Rattle.jc_types.specs.declared.objects.Job.{Job}
use Rattle.jc_types.specs.declared.objects.Pod.{Pod}
use Rattle.jc_log.specs.Requests.{empty_status, grown, refused, release_at, release_gives, released, without_finalizer}
use Rattle.jc_types.specs.declared.replies.Reply.TheVariants as reply
use Rattle.jc_states.specs.Bases.{own_pods}
use Rattle.jc_states.specs.Conditions.{has_end}
use Rattle.jc_types.specs.declared.objects.KeyNames.{KeyNames as Key}
use Rattle.jc_types.specs.Keys.{same_key, same_uid}
use Rattle.jc_log.specs.Log.{Life, Never, Live, Gone, is_born, is_lost, is_never, job_in, life, living, pods_under, upto}
use Rattle.jc_states.specs.Pods.{goes, is_open, is_tracked}
use Rattle.jc_types.specs.Equality.{same_status}
use Rattle.jc_log.specs.Writes.{CanJob, Stored, Writes}
use Rattle.jc_log.proofs.BirthFacts.{fresh_unborn}
use Rattle.jc_types.proofs.KeyFacts.{same_key-eq, same_uid-itself}
use Rattle.jc_log.proofs.LogFacts.{upto-all}
use Rattle.jc_types.proofs.EqualityFacts.{status-exact}
use Rattle.jc_log.proofs.WriteFacts.{life-uid}
use Rattle.jc_bounds.specs.Final.{IsClosed, IsFinished, IsFinishedAt}
use Rattle.jc_plan.specs.Finishes.{IsFinalStatus}
use Rattle.jc_bounds.specs.Work.{has_new_status, is_birth, is_work, last_work, pods_made}
use Rattle.jc_bounds.proofs.FitFacts.{open-lasts, own-entry, own-other, tracked-lasts}
use Rattle.jc_plan.proofs.PlanBounds.{none-length as any-none, none-passes}
use Rattle.jc_bounds.proofs.WorkFacts.{birth-works, last-within}
use Rattle.std.proofs.lemmas.Option.{same_Some as some_is}

-- ---- none passes

pub none-any : {A : Type 0} (f : A → Bool) (xs : List A) → length (filter f xs) ≤ 0 → list_any f xs ≡ false
none-any f [] h = refl
none-any f (x ∷ xs) h = by (none-any f xs) (f x) h
  where
    by : (length (filter f xs) ≤ 0 → list_any f xs ≡ false) → (b : Bool) → length (cond b (x ∷ filter f xs) (filter f xs)) ≤ 0 → (b || list_any f xs) ≡ false
    by ih true h = absurd (omega (arith, h))
    by ih false h = ih h

-- ---- the Job before

pub record OldJob (log : List Entry) (k : Key) (new : Job) : Type 0 where
  pub job : Job
  pub there : job_in k log ≡ Some job
  pub uid : new.uid ≡ job.uid
  pub status : new.status ≡ job.status

-- A Job whose key has no work by the entry was there, where it has ended or was made before.
pub old-job : (e : Entry) (log : List Entry) → Writes log e → Stored log → (k : Key) → is_work k e log ≡ false → (new : Job) → job_in k (e ∷ log) ≡ Some new → (has_end new.status.conditions ≡ true) ⊎ (is_born new.uid log ≡ true) → OldJob log k new
old-job (JobPut put) log w stored k idle new is old = by (same_key put.key k) refl idle is
  where
    at : put ≡ new → (o : Option Job) → job_in k log ≡ o → CanJob log o put → has_new_status put o ≡ false → OldJob log k new
    at same None e can still = elim old [
      | inl h ↦ absurd (true≢false (sym h ∙ ap (λ (j : Job). has_end j.status.conditions) (sym same) ∙ ap (λ s. has_end s.conditions) (sym ((status-exact empty_status put.status).0 (not-false (same_status empty_status put.status) still)))))
      | inr h ↦ absurd (true≢false (sym h ∙ ap (λ (j : Job). is_born j.uid log) (sym same) ∙ fresh_unborn put.uid log stored can.uid))
    ]
    at same (Some before) e can still = record {
      job = before;
      there = e;
      uid = ap (λ (j : Job). j.uid) (sym same) ∙ can.uid;
      status = ap (λ (j : Job). j.status) (sym same) ∙ sym ((status-exact before.status put.status).0 (not-false (same_status before.status put.status) still));
    }

    by : (b : Bool) → same_key put.key k ≡ b → (b && has_new_status put (job_in k log)) ≡ false → cond b (Some put) (job_in k log) ≡ Some new → OldJob log k new
    by true t still e = at (some_is put new e) (job_in k log) refl (subst (λ q. CanJob log (job_in q log) put) (same_key-eq put.key k t) w.can) still
    by false t still e = record { job = new; there = e; uid = refl; status = refl }
old-job (JobGone gone) log w stored k idle new is old = by (same_key gone.key k) is
  where
    by : (b : Bool) → cond b None (job_in k log) ≡ Some new → OldJob log k new
    by true e = absurd (true≢false (sym (ap is_some e)))
    by false e = record { job = new; there = e; uid = refl; status = refl }
old-job (PodPut pod) log w stored k idle new is old = record { job = new; there = is; uid = refl; status = refl }
old-job (PodGone pod) log w stored k idle new is old = record { job = new; there = is; uid = refl; status = refl }

-- ---- ended Jobs

pub same-own : (new old : Job) → new.uid ≡ old.uid → (pods : List Pod) → IsClosed (own_pods old pods) → IsClosed (own_pods new pods)
same-own new old e pods h = subst (λ u. IsClosed (filter (λ (p : Pod). same_uid p.owner_uid u) pods)) (sym e) h

-- Closed pods stay closed where none is made.
closed-entry : (e : Entry) (log : List Entry) → Writes log e → (k : Key) → is_birth k e log ≡ false → (job : Job) → IsClosed (own_pods job (pods_under k log)) → IsClosed (own_pods job (pods_under k (e ∷ log)))
closed-entry e log w k none job h = record {
  opens = none-any is_open (own_pods job (pods_under k (e ∷ log))) (omega (arith, own-entry k job is_open open-lasts e log w, any-none is_open (own_pods job (pods_under k log)) h.opens, same));
  tracks = none-any is_tracked (own_pods job (pods_under k (e ∷ log))) (omega (arith, own-entry k job is_tracked tracked-lasts e log w, any-none is_tracked (own_pods job (pods_under k log)) h.tracks, same));
}
  where
    same : pods_made k (e ∷ log) ≡ pods_made k log
    same = cond-false (is_birth k e log) (pods_made k log + 1) (pods_made k log) none

pub closed-now : (log : List Entry) (k : Key) (job : Job) → IsFinished log k job → IsClosed (own_pods job (pods_under k log))
closed-now log k job h = subst (λ l. IsClosed (own_pods job (pods_under k l))) (upto-all (length log) log (omega arith)) (h.closed (length log) (omega arith) (last-within k log))

-- From the last work on: at the end of the log, and where it stood before.
closed-more : (e : Entry) (log : List Entry) (k : Key) (job : Job) → IsClosed (own_pods job (pods_under k (e ∷ log))) → ((m : ℕ) → m ≤ length log → last_work k (e ∷ log) ≤ m → IsClosed (own_pods job (pods_under k (upto m log))))
    → (m : ℕ) → m ≤ length (e ∷ log) → last_work k (e ∷ log) ≤ m → IsClosed (own_pods job (pods_under k (upto m (e ∷ log))))
closed-more e log k job now before m le work = by (nat_lt (length log) m) refl
  where
    by : (b : Bool) → nat_lt (length log) m ≡ b → IsClosed (own_pods job (pods_under k (cond b (e ∷ log) (upto m log))))
    by true t = now
    by false t = let ge = ltb-false (length log) m t in before m (omega (arith, ge)) work

pub finished-idle : (e : Entry) (log : List Entry) → Writes log e → Stored log → (k : Key) → is_work k e log ≡ false → IsFinishedAt log k → IsFinishedAt (e ∷ log) k
finished-idle e log w stored k idle h new is end =
    let old = old-job e log w stored k idle new is (inl end) in
    let before = h old.job old.there (sym (ap (λ s. has_end s.conditions) old.status) ∙ end) in
    record {
      final = subst IsFinalStatus (sym old.status) before.final;
      closed = closed-more e log k new
          (closed-entry e log w k (birth-works k e log idle) new (same-own new old.job old.uid (pods_under k log) (closed-now log k old.job before)))
          (λ m le work. same-own new old.job old.uid (pods_under k (upto m log)) (before.closed m le (let c = cond-false (is_work k e log) (length (e ∷ log)) (last_work k log) idle in omega (arith, work, c))));
    }

-- A pod that is made for another Job.
pub finished-made : (pod : Pod) (log : List Entry) (k : Key) → IsFinishedAt log k → is_work k (PodPut pod) log ≡ true
    → ((job : Job) → job_in k log ≡ Some job → has_end job.status.conditions ≡ true → same_uid pod.owner_uid job.uid
    ≡ false) → IsFinishedAt (PodPut pod ∷ log) k
finished-made pod log k h work other job is end =
    let before = h job is end in
    let now = closed-now log k job before in
    let at : last_work k (PodPut pod ∷ log) ≡ length (PodPut pod ∷ log) = cond-true (is_work k (PodPut pod) log) (length (PodPut pod ∷ log)) (last_work k log) work in
    record {
      final = before.final;
      closed = closed-more (PodPut pod) log k job (record {
        opens = none-any is_open (own_pods job (pods_under k (PodPut pod ∷ log))) (omega (arith, own-other k job is_open pod log (other job is end), any-none is_open (own_pods job (pods_under k log)) now.opens));
        tracks = none-any is_tracked (own_pods job (pods_under k (PodPut pod ∷ log))) (omega (arith, own-other k job is_tracked pod log (other job is end), any-none is_tracked (own_pods job (pods_under k log)) now.tracks));
      }) (λ m le w. absurd (omega (arith, le, w, at)));
    }

-- The write that sets the end.
pub finished-written : (put : Job) (log : List Entry) (k : Key) → same_key put.key k ≡ true → is_work k (JobPut put) log
    ≡ true → (has_end put.status.conditions ≡ true → IsFinalStatus put.status × IsClosed (own_pods put (pods_under k log)))
    → IsFinishedAt (JobPut put ∷ log) k
finished-written put log k key work sets job is end =
    let same : put ≡ job = some_is put job (sym (cond-true (same_key put.key k) (Some put) (job_in k log) key) ∙ is) in
    let at : last_work k (JobPut put ∷ log) ≡ length (JobPut put ∷ log) = cond-true (is_work k (JobPut put) log) (length (JobPut put ∷ log)) (last_work k log) work in
    subst (IsFinished (JobPut put ∷ log) k) same
    (let h = sets (ap (λ (j : Job). has_end j.status.conditions) same ∙ end) in record {
      final = h.0;
      closed = closed-more (JobPut put) log k put h.1 (λ m le w. absurd (omega (arith, le, w, at)));
    })

-- ---- UIDs

pub known-entry : (u : Uid) (e : Entry) (log : List Entry) → is_never (life u log) ≡ false → is_never (life u (e ∷ log)) ≡ false
known-entry u (JobPut job) log h = h
known-entry u (JobGone job) log h = h
known-entry u (PodPut pod) log h = by (same_uid pod.uid u)
  where
    by : (b : Bool) → is_never (cond b (Live pod) (life u log)) ≡ false
    by true = refl
    by false = h
known-entry u (PodGone pod) log h = by (same_uid pod.uid u)
  where
    by : (b : Bool) → is_never (cond b Gone (life u log)) ≡ false
    by true = refl
    by false = h

-- A pod whose release is answered has lost its finalizer.
pub release-loses : (u : Uid) (log : List Entry) → is_never (life u log) ≡ false → is_lost (life u (grown log (release_gives log u).entry)) ≡ true
release-loses u log known = by (life u log) refl known
  where
    at_tracked : (pod : Pod) → life u log ≡ Live pod → (b : Bool) → pod.tracked ≡ b → is_lost (life u (grown log (cond b (released log pod) (refused reply.NotTracked)).entry)) ≡ true
    at_tracked pod is false t = ap is_lost is ∙ ap not t
    at_tracked pod is true t = gone (goes (without_finalizer log pod))
      where
        same : same_uid pod.uid u ≡ true
        same = ap (λ v. same_uid v u) (life-uid u log pod is) ∙ same_uid-itself u

        gone : (g : Bool) → is_lost (life u (cond g (PodGone (without_finalizer log pod)) (PodPut (without_finalizer log pod)) ∷ log)) ≡ true
        gone true = ap is_lost (cond-true (same_uid pod.uid u) Gone (life u log) same)
        gone false = ap is_lost (cond-true (same_uid pod.uid u) (Live (without_finalizer log pod)) (life u log) same)

    by : (l : Life) → life u log ≡ l → is_never l ≡ false → is_lost (life u (grown log (release_at log (living l)).entry)) ≡ true
    by Never is h = absurd (true≢false h)
    by (Live pod) is h = at_tracked pod is pod.tracked refl
    by Gone is h = ap is_lost is
