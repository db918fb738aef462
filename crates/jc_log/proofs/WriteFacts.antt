-- Facts on logs whose entries are writes of the store, and one induction for what lasts: `persists`.
use Rattle.std.proofs.Common.{◌≡◌, ℕ, suc, ◌≤◌, ◌==◌, nat_lt, Bool, true, false, cond, not, List, [], ◌∷◌, length, Option, Some, None, is_some, refl, sym, ap, ◌∙◌, subst, arith, ltb-true, ltb-false, eqb-true, true≢false}
use Rattle.std.proofs.lemmas.Bool.{cond-true, not-true, not_from_false}
use Rattle.jc_types.specs.declared.numbers.Uid.{Uid}
use Rattle.jc_types.specs.declared.objects.Entry.{Entry}
use Rattle.jc_types.specs.declared.objects.Entry.TheVariants.{JobPut, JobGone, PodPut, PodGone}
use Rattle.jc_types.specs.declared.objects.Job.{Job}
use Rattle.jc_types.specs.declared.objects.Pod.{Pod}
use Rattle.jc_types.specs.declared.objects.KeyNames.{KeyNames as Key}
use Rattle.jc_types.specs.Keys.{same_key, same_uid}
use Rattle.jc_log.specs.Log.{Life, Never, Live, Gone, upto, entry_at, job_in, life, is_lost, is_born}
use Rattle.jc_log.specs.Writes.{version_of, CanPut, Writes, Allowed, Follows, Stored, Legal}
use Rattle.jc_states.specs.ObjectChanges.{PodStep}
use Rattle.jc_types.proofs.KeyFacts.{same_key-eq, same_uid-eq, same_uid-itself}
use Rattle.jc_log.proofs.LogFacts.{upto-fixed, upto-all, entry_at-place}

module _ (A : List Entry → Entry → Type 0) where
  -- What holds of a prefix and is kept by each entry holds of every longer prefix.
  pub persists : (P : List Entry → Type 0) → ((e : Entry) (older : List Entry) → A older e → Follows A older → P older → P (e ∷ older)) → (m n : ℕ) (log : List Entry) → Follows A log → m ≤ n → P (upto m log) → P (upto n log)
  persists P step m n [] all h p = p
  persists P step m n (e ∷ older) all h p =
      by (λ le q. persists P step m n older all.1 le q) (λ le q. persists P step m (length older) older all.1 le q) (nat_lt (length older) n) refl (nat_lt (length older) m) refl
    where
      by : (m ≤ n → P (upto m older) → P (upto n older)) → (m ≤ length older → P (upto m older) → P (upto (length older) older)) → (b : Bool) → nat_lt (length older) n ≡ b → (c : Bool) → nat_lt
          (length older) m ≡ c → P (cond b (e ∷ older) (upto n older))
      by near far true t true s = subst P (upto-all m (e ∷ older) (let lt = ltb-true (length older) m s in omega (arith, lt))) p
      by near far true t false s =
          let le = ltb-false (length older) m s in
          step e older all.0 all.1 (subst P (upto-all (length older) older (omega arith)) (far le (subst P (upto-fixed m e older le) p)))
      by near far false t true s = let lt = ltb-true (length older) m s in let le = ltb-false (length older) n t in absurd (omega (arith, lt, le, h))
      by near far false t false s = near h (subst P (upto-fixed m e older (ltb-false (length older) m s)) p)

  -- The same to the whole log.
  pub persists_on : (P : List Entry → Type 0) → ((e : Entry) (older : List Entry) → A older e → Follows A older → P older → P (e ∷ older)) → (m : ℕ) (log : List Entry) → Follows A log → P (upto m log) → P log
  persists_on P step m log all p = by (nat_lt (length log) m) refl
    where
      by : (b : Bool) → nat_lt (length log) m ≡ b → P log
      by true t = let lt = ltb-true (length log) m t in subst P (upto-all m log (omega (arith, lt))) p
      by false t = subst P (upto-all (length log) log (omega arith)) (persists P step m (length log) log all (ltb-false (length log) m t) p)

  -- A prefix follows where the log does.
  pub Follows-upto : (n : ℕ) (log : List Entry) → Follows A log → Follows A (upto n log)
  Follows-upto n [] all = tt
  Follows-upto n (e ∷ older) all = by (nat_lt (length older) n) (Follows-upto n older all.1)
    where
      by : (b : Bool) → Follows A (upto n older) → Follows A (cond b (e ∷ older) (upto n older))
      by true rest = all
      by false rest = rest

  -- Each entry has what it has over those before it.
  pub Follows-at : (v : ℕ) (log : List Entry) (e : Entry) → Follows A log → entry_at (suc v) log ≡ Some e → A (upto v log) e
  Follows-at v [] e all h = absurd (true≢false (sym (ap is_some h)))
  Follows-at v (x ∷ older) e all h = by (Follows-at v older e all.1) (length (x ∷ older) == suc v) refl h
    where
      by : (entry_at (suc v) older ≡ Some e → A (upto v older) e) → (b : Bool) → (length (x ∷ older) == suc v) ≡ b → cond b (Some x) (entry_at (suc v) older) ≡ Some e → A (upto v (x ∷ older)) e
      by ih true t g =
          let is = eqb-true (length (x ∷ older)) (suc v) t in
          let same : x ≡ e = ap (λ (o : Option Entry). elim o [ None ↦ x | Some y ↦ y ]) g in
          let whole : upto v (x ∷ older) ≡ older = upto-fixed v x older (omega (arith, is)) ∙ upto-all v older (omega (arith, is)) in
          subst (λ l. A l e) (sym whole) (subst (A older) same all.0)
      by ih false t g =
          let place = entry_at-place (suc v) older e g in
          subst (λ l. A l e) (sym (upto-fixed v x older (omega (arith, place.1)))) (ih g)

-- What is weaker follows, too.
pub Follows-weaker : (A B : List Entry → Entry → Type 0) → ((older : List Entry) (e : Entry) → A older e → B older e) → (log : List Entry) → Follows A log → Follows B log
Follows-weaker A B f [] all = tt
Follows-weaker A B f (e ∷ older) all = (f older e all.0, Follows-weaker A B f older all.1)

-- A legal log is one of writes of the store.
pub Stored-from_legal : (log : List Entry) → Legal log → Stored log
Stored-from_legal = Follows-weaker Allowed Writes (λ older e allowed. allowed.writes)

-- The object in the entry of version v has version v.
pub place_is_version : (v : ℕ) (log : List Entry) (e : Entry) → Stored log → entry_at v log ≡ Some e → version_of e ≡ v
place_is_version v [] e all h = absurd (true≢false (sym (ap is_some h)))
place_is_version v (x ∷ older) e all h = by (place_is_version v older e all.1) (length (x ∷ older) == v) refl h
  where
    by : (entry_at v older ≡ Some e → version_of e ≡ v) → (b : Bool) → (length (x ∷ older) == v) ≡ b → cond b (Some x) (entry_at v older) ≡ Some e → version_of e ≡ v
    by ih true t g =
        let same : x ≡ e = ap (λ (o : Option Entry). elim o [ None ↦ x | Some y ↦ y ]) g in
        ap version_of (sym same) ∙ all.0.version ∙ eqb-true (length (x ∷ older)) v t
    by ih false t g = ih g

-- ---- what is kept of a pod

-- The UID is known, and the pod that lives, if one does, has this.
abbrev pub Kept : (Pod → Type 0) → Life → Type 0
Kept Q Never = ⊥
Kept Q (Live pod) = Q pod
Kept Q Gone = Unit {0}

-- What a step keeps of a pod, an entry keeps of a life.
pub kept_entry : (Q : Pod → Type 0) → ((old new : Pod) → PodStep old new → Q old → Q new) → (u : Uid) (e : Entry) (older : List Entry) → Writes older e → Kept Q (life u older) → Kept Q (life u (e ∷ older))
kept_entry Q step u (JobPut job) older w k = k
kept_entry Q step u (JobGone job) older w k = k
kept_entry Q step u (PodPut pod) older w k = by (same_uid pod.uid u) refl
  where
    at_life : (l : Life) → CanPut older l pod → Kept Q l → Q pod
    at_life Never can kept = absurd kept
    at_life (Live old) can kept = step old pod can kept
    at_life Gone can kept = absurd can

    by : (b : Bool) → same_uid pod.uid u ≡ b → Kept Q (cond b (Live pod) (life u older))
    by true t = at_life (life u older) (subst (λ v. CanPut older (life v older) pod) (same_uid-eq pod.uid u t) w.can.0) k
    by false t = k
kept_entry Q step u (PodGone pod) older w k = by (same_uid pod.uid u)
  where
    by : (b : Bool) → Kept Q (cond b Gone (life u older))
    by true = tt
    by false = k

-- What a step keeps of a pod lasts from a prefix to every longer one.
pub kept_to : (Q : Pod → Type 0) → ((old new : Pod) → PodStep old new → Q old → Q new) → (u : Uid) (m n : ℕ) (log : List Entry) → Stored log → m ≤ n → (pod : Pod) → life u (upto m log) ≡ Live pod → Q pod → Kept Q (life u (upto n log))
kept_to Q step u m n log all h pod there q =
    persists Writes (λ l. Kept Q (life u l)) (λ e older w rest k. kept_entry Q step u e older w k) m n log all h (subst (Kept Q) (sym there) q)

-- And to the whole log.
pub kept_on : (Q : Pod → Type 0) → ((old new : Pod) → PodStep old new → Q old → Q new) → (u : Uid) (m : ℕ) (log : List Entry) → Stored log → (pod : Pod) → life u (upto m log) ≡ Live pod → Q pod → Kept Q (life u log)
kept_on Q step u m log all pod there q =
    persists_on Writes (λ l. Kept Q (life u l)) (λ e older w rest k. kept_entry Q step u e older w k) m log all (subst (Kept Q) (sym there) q)

-- ---- a finalizer that is gone stays gone

-- An entry keeps a life lost.
pub lost_entry : (u : Uid) (e : Entry) (older : List Entry) → Writes older e → is_lost (life u older) ≡ true → is_lost (life u (e ∷ older)) ≡ true
lost_entry u (JobPut job) older w h = h
lost_entry u (JobGone job) older w h = h
lost_entry u (PodPut pod) older w h = by (same_uid pod.uid u) refl
  where
    at_life : (l : Life) → CanPut older l pod → is_lost l ≡ true → not pod.tracked ≡ true
    at_life Never can lost = absurd (true≢false (sym lost))
    at_life (Live old) can lost = not_from_false pod.tracked (can.untracked (not-true old.tracked lost))
    at_life Gone can lost = absurd can

    by : (b : Bool) → same_uid pod.uid u ≡ b → is_lost (cond b (Live pod) (life u older)) ≡ true
    by true t = at_life (life u older) (subst (λ v. CanPut older (life v older) pod) (same_uid-eq pod.uid u t) w.can.0) h
    by false t = h
lost_entry u (PodGone pod) older w h = by (same_uid pod.uid u)
  where
    by : (b : Bool) → is_lost (cond b Gone (life u older)) ≡ true
    by true = refl
    by false = h

-- What is lost at a prefix is lost at every longer one.
pub lost_stays : (u : Uid) (m n : ℕ) (log : List Entry) → Stored log → m ≤ n → is_lost (life u (upto m log)) ≡ true → is_lost (life u (upto n log)) ≡ true
lost_stays u m n log all h lost =
    persists Writes (λ l. is_lost (life u l) ≡ true) (λ e older w rest k. lost_entry u e older w k) m n log all h lost

-- And in the whole log.
pub lost_on : (u : Uid) (m : ℕ) (log : List Entry) → Stored log → is_lost (life u (upto m log)) ≡ true → is_lost (life u log) ≡ true
lost_on u m log all lost =
    persists_on Writes (λ l. is_lost (life u l) ≡ true) (λ e older w rest k. lost_entry u e older w k) m log all lost

-- ---- keys and UIDs of what is found

-- The pod of a UID has the UID.
pub life-uid : (u : Uid) (log : List Entry) (pod : Pod) → life u log ≡ Live pod → pod.uid ≡ u
life-uid u [] pod h = absurd (true≢false (sym (ap is_live h)))
  where
    is_live : Life → Bool
    is_live Never = false
    is_live (Live pod) = true
    is_live Gone = false
life-uid u (JobPut job ∷ older) pod h = life-uid u older pod h
life-uid u (JobGone job ∷ older) pod h = life-uid u older pod h
life-uid u (PodPut new ∷ older) pod h = by (life-uid u older pod) (same_uid new.uid u) refl h
  where
    pod_of : Life → Pod
    pod_of Never = new
    pod_of (Live p) = p
    pod_of Gone = new

    by : (life u older ≡ Live pod → pod.uid ≡ u) → (b : Bool) → same_uid new.uid u ≡ b → cond b (Live new) (life u older) ≡ Live pod → pod.uid ≡ u
    by ih true t g = ap (λ p. p.uid) (sym (ap pod_of g)) ∙ same_uid-eq new.uid u t
    by ih false t g = ih g
life-uid u (PodGone gone ∷ older) pod h = by (life-uid u older pod) (same_uid gone.uid u) h
  where
    is_live : Life → Bool
    is_live Never = false
    is_live (Live pod) = true
    is_live Gone = false

    by : (life u older ≡ Live pod → pod.uid ≡ u) → (b : Bool) → cond b Gone (life u older) ≡ Live pod → pod.uid ≡ u
    by ih true g = absurd (true≢false (sym (ap is_live g)))
    by ih false g = ih g

-- The Job of a key has the key.
pub job_in-key : (k : Key) (log : List Entry) (job : Job) → job_in k log ≡ Some job → job.key ≡ k
job_in-key k [] job h = absurd (true≢false (sym (ap is_some h)))
job_in-key k (JobPut new ∷ older) job h = by (job_in-key k older job) (same_key new.key k) refl h
  where
    job_of : Option Job → Job
    job_of None = new
    job_of (Some j) = j

    by : (job_in k older ≡ Some job → job.key ≡ k) → (b : Bool) → same_key new.key k ≡ b → cond b (Some new) (job_in k older) ≡ Some job → job.key ≡ k
    by ih true t g = ap (λ j. j.key) (sym (ap job_of g)) ∙ same_key-eq new.key k t
    by ih false t g = ih g
job_in-key k (JobGone gone ∷ older) job h = by (job_in-key k older job) (same_key gone.key k) h
  where
    by : (job_in k older ≡ Some job → job.key ≡ k) → (b : Bool) → cond b None (job_in k older) ≡ Some job → job.key ≡ k
    by ih true g = absurd (true≢false (sym (ap is_some g)))
    by ih false g = ih g
job_in-key k (PodPut pod ∷ older) job h = job_in-key k older job h
job_in-key k (PodGone pod ∷ older) job h = job_in-key k older job h

-- A Job that was put stays one that was put.
pub is_born-more : (j : Uid) (e : Entry) (older : List Entry) → is_born j older ≡ true → is_born j (e ∷ older) ≡ true
is_born-more j (JobPut job) older h = by (same_uid job.uid j)
  where
    by : (b : Bool) → cond b true (is_born j older) ≡ true
    by true = refl
    by false = h
is_born-more j (JobGone job) older h = h
is_born-more j (PodPut pod) older h = h
is_born-more j (PodGone pod) older h = h

-- The Job of a key was put.
pub job_in-born : (k : Key) (log : List Entry) (job : Job) → job_in k log ≡ Some job → is_born job.uid log ≡ true
job_in-born k [] job h = absurd (true≢false (sym (ap is_some h)))
job_in-born k (JobPut new ∷ older) job h = by (job_in-born k older job) (same_key new.key k) h
  where
    by : (job_in k older ≡ Some job → is_born job.uid older ≡ true) → (b : Bool) → cond b (Some new) (job_in k older) ≡ Some job → is_born job.uid (JobPut new ∷ older) ≡ true
    by ih true g =
        let same : new ≡ job = ap (λ (o : Option Job). elim o [ None ↦ new | Some j ↦ j ]) g in
        cond-true (same_uid new.uid job.uid) true (is_born job.uid older) (ap (λ j. same_uid new.uid j.uid) (sym same) ∙ same_uid-itself new.uid)
    by ih false g = is_born-more job.uid (JobPut new) older (ih g)
job_in-born k (JobGone gone ∷ older) job h = by (job_in-born k older job) (same_key gone.key k) h
  where
    by : (job_in k older ≡ Some job → is_born job.uid older ≡ true) → (b : Bool) → cond b None (job_in k older) ≡ Some job → is_born job.uid older ≡ true
    by ih true g = absurd (true≢false (sym (ap is_some g)))
    by ih false g = ih g
job_in-born k (PodPut pod ∷ older) job h = job_in-born k older job h
job_in-born k (PodGone pod ∷ older) job h = job_in-born k older job h
