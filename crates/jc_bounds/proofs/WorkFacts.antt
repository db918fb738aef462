-- What is known where a log tells of no more work.
use Rattle.std.proofs.Common.{◌≡◌, ℕ, ◌+◌, ◌≤◌, ◌==◌, nat_lt, Bool, true, false, cond, not, ◌&&◌, List, [], ◌∷◌, length, filter, Option, Some, None, is_some, refl, sym, ap, ◌∙◌, subst, true≢false, arith, ltb-true, ne_eqb}
use Rattle.std.proofs.lemmas.Bool.{cond-true, cond-false, eqb-false, not-false}
use Rattle.jc_types.specs.declared.objects.Entry.{Entry}
use Rattle.jc_types.specs.declared.objects.Entry.TheVariants.{JobPut, JobGone, PodPut, PodGone}
use Rattle.jc_types.specs.declared.objects.Job.{Job}
use Rattle.jc_types.specs.declared.objects.Pod.{Pod}
use Rattle.jc_types.specs.declared.objects.KeyNames.{KeyNames as Key}
use Rattle.jc_types.specs.Keys.{same_key, same_uid}
use Rattle.jc_log.specs.Log.{Life, Never, Live, Gone, is_born, is_never, job_in, life, living, pods_in, upto}
use Rattle.jc_states.specs.PodLists.{RisesFrom, put_pod}
use Rattle.jc_types.specs.Equality.{same_status}
use Rattle.jc_log.specs.Writes.{CanJob, CanPut, Stored, Writes}
use Rattle.jc_states.specs.ObjectChanges.{PodStep}
use Rattle.jc_log.proofs.BirthFacts.{fresh_unborn}
use Rattle.jc_types.proofs.KeyFacts.{same_key-eq, same_uid-eq, same_uid-itself}
use Rattle.jc_log.proofs.LogFacts.{length-upto}
use Rattle.jc_states.proofs.PodListFacts.{among_none, pod_among}
use Rattle.jc_log.proofs.PodFacts.{pods_in-among, pods_in-rises}
use Rattle.jc_types.proofs.EqualityFacts.{status-exact}
use Rattle.jc_log.proofs.WriteFacts.{is_born-more, job_in-born, persists_on}
use Rattle.jc_bounds.specs.Work.{count, has_new_status, is_birth, is_work, last_work, pods_made}
use Rattle.std.proofs.lemmas.Option.{same_Some as some_is}

-- ---- versions

pub last-within : (k : Key) (log : List Entry) → last_work k log ≤ length log
last-within k [] = omega arith
last-within k (e ∷ older) = by (is_work k e older) (last-within k older)
  where
    by : (b : Bool) → last_work k older ≤ length older → cond b (length (e ∷ older)) (last_work k older) ≤ length (e ∷ older)
    by true h = omega arith
    by false h = omega (arith, h)

-- A birth is work.
pub birth-works : (k : Key) (e : Entry) (older : List Entry) → is_work k e older ≡ false → is_birth k e older ≡ false
birth-works k (JobPut job) older h = refl
birth-works k (JobGone job) older h = refl
birth-works k (PodPut pod) older h = h
birth-works k (PodGone pod) older h = refl

-- Where the last work is at most m, an entry above m is none.
above-idle : (k : Key) (e : Entry) (older : List Entry) (m : ℕ) → m ≤ length older → last_work k (e ∷ older) ≤ m → (is_work k e older ≡ false) × (last_work k older ≤ m)
above-idle k e older m le h = by (is_work k e older) refl h
  where
    by : (b : Bool) → is_work k e older ≡ b → cond b (length (e ∷ older)) (last_work k older) ≤ m → (is_work k e older ≡ false) × (last_work k older ≤ m)
    by true t g = absurd (omega (arith, g, le))
    by false t g = (t, g)

-- Where the last work is at most m, no pod was made since.
pub made-still : (k : Key) (m : ℕ) (log : List Entry) → Stored log → m ≤ length log → last_work k log ≤ m → pods_made k log ≡ pods_made k (upto m log)
made-still k m log all le h = (persists_on Writes P step m log all start).1 h
  where
    P : List Entry → Type 0
    P l = (m ≤ length l) × (last_work k l ≤ m → pods_made k l ≡ pods_made k (upto m log))

    start : P (upto m log)
    start = (let e = length-upto m log le in omega (arith, e), λ g. refl)

    step : (e : Entry) (older : List Entry) → Writes older e → Stored older → P older → P (e ∷ older)
    step e older w rest p = (
      let le = p.0 in omega (arith, le),
      λ g.
          let i = above-idle k e older m p.0 g in
          cond-false (is_birth k e older) (pods_made k older + 1) (pods_made k older) (birth-works k e older i.0) ∙ p.1 i.1,
    )

-- Nor was the status of its Job written.
pub status-stands : (k : Key) (m : ℕ) (log : List Entry) → Stored log → m ≤ length log → last_work k log ≤ m → (a b : Job) → job_in k (upto m log) ≡ Some a → job_in k log ≡ Some b → b.uid ≡ a.uid → b.status ≡ a.status
status-stands k m log all le h a b old = (persists_on Writes P step m log all start).2 h b
  where
    P : List Entry → Type 0
    P l = (m ≤ length l) × (is_born a.uid l ≡ true) × (last_work k l ≤ m → (b : Job) → job_in k l ≡ Some b → b.uid ≡ a.uid → b.status ≡ a.status)

    start : P (upto m log)
    start = (let e = length-upto m log le in omega (arith, e), job_in-born k (upto m log) a old, λ g b now same. ap (λ (j : Job). j.status) (some_is b a (sym now ∙ old)))

    step : (e : Entry) (older : List Entry) → Writes older e → Stored older → P older → P (e ∷ older)
    step e older w rest p = (let le = p.0 in omega (arith, le), is_born-more a.uid e older p.1, λ g b now same. by e w (above-idle k e older m p.0 g) b now same)
      where
        put : (job : Job) → same_key job.key k ≡ true → (o : Option Job) → job_in k older ≡ o → CanJob older o job → has_new_status job o ≡ false → last_work k older ≤ m → job.uid ≡ a.uid → job.status ≡ a.status
        put job t None is can idle low same = absurd (true≢false (sym p.1 ∙ ap (λ u. is_born u older) (sym same) ∙ fresh_unborn job.uid older rest can.uid))
        put job t (Some before) is can idle low same =
            sym ((status-exact before.status job.status).0 (not-false (same_status before.status job.status) idle))
            ∙ p.2 low before is (sym can.uid ∙ same)

        by : (e : Entry) → Writes older e → (is_work k e older ≡ false) × (last_work k older ≤ m) → (b : Job) → job_in k (e ∷ older) ≡ Some b → b.uid ≡ a.uid → b.status ≡ a.status
        by (JobPut job) w i b now same = at (same_key job.key k) refl i.0 now
          where
            at : (t : Bool) → same_key job.key k ≡ t → (t && has_new_status job (job_in k older)) ≡ false → cond t (Some job) (job_in k older) ≡ Some b → b.status ≡ a.status
            at true t idle is =
                let j : job ≡ b = some_is job b is in
                let key = same_key-eq job.key k t in
                ap (λ (x : Job). x.status) (sym j)
                ∙ put job t (job_in k older) refl (subst (λ q. CanJob older (job_in q older) job) key w.can) idle i.1 (ap (λ (x : Job). x.uid) j ∙ same)
            at false t idle is = p.2 i.1 b is same
        by (JobGone job) w i b now same = at (same_key job.key k) now
          where
            at : (t : Bool) → cond t None (job_in k older) ≡ Some b → b.status ≡ a.status
            at true is = absurd (true≢false (sym (ap is_some is)))
            at false is = p.2 i.1 b is same
        by (PodPut pod) w i b now same = p.2 i.1 b now same
        by (PodGone pod) w i b now same = p.2 i.1 b now same

-- ---- pods that pass a test

abbrev pub bit : Bool → ℕ
bit true = 1
bit false = 0

module _ (f : Pod → Bool) where
  filter-step : (x : Pod) (xs : List Pod) → length (filter f (x ∷ xs)) ≡ bit (f x) + length (filter f xs)
  filter-step x xs = by (f x)
    where
      by : (b : Bool) → length (cond b (x ∷ filter f xs) (filter f xs)) ≡ bit b + length (filter f xs)
      by true = omega arith
      by false = omega arith

  pub put-few : (pod : Pod) (pods : List Pod) → length (filter f (put_pod pod pods)) ≤ bit (f pod) + length (filter f pods)
  put-few pod [] = omega (arith, filter-step pod [])
  put-few pod (q ∷ pods) = by (put-few pod pods) (nat_lt pod.uid.0 q.uid.0) (pod.uid.0 == q.uid.0)
    where
      by : length (filter f (put_pod pod pods)) ≤ bit (f pod) + length (filter f pods) → (lt eq : Bool) → length (filter f (cond lt (pod ∷ q ∷ pods) (cond eq (pod ∷ pods) (q ∷ put_pod pod pods)))) ≤ bit (f pod) + length (filter f (q ∷ pods))
      by ih true eq = omega (arith, filter-step pod (q ∷ pods))
      by ih false true = omega (arith, filter-step pod pods, filter-step q pods)
      by ih false false = omega (arith, ih, filter-step q (put_pod pod pods), filter-step q pods)

  put-same : (low : ℕ) (old pod : Pod) (pods : List Pod) → RisesFrom low pods → pod_among pod.uid pods ≡ Some old → (f pod ≡ true → f old ≡ true) → length (filter f (put_pod pod pods)) ≤ length (filter f pods)
  put-same low old pod [] r there imp = absurd (true≢false (sym (ap is_some there)))
  put-same low old pod (q ∷ pods) r there imp =
      by (λ t. put-same (q.uid.0 + 1) old pod pods r.1 t imp) (nat_lt pod.uid.0 q.uid.0) refl (pod.uid.0 == q.uid.0) refl
    where
      less : (a b : Bool) → (a ≡ true → b ≡ true) → bit a ≤ bit b
      less true true h = omega arith
      less true false h = absurd (true≢false (sym (h refl)))
      less false b h = omega arith

      by : (pod_among pod.uid pods ≡ Some old → length (filter f (put_pod pod pods)) ≤ length (filter f pods)) → (lt : Bool) → nat_lt pod.uid.0 q.uid.0 ≡ lt → (eq : Bool) → (pod.uid.0 == q.uid.0) ≡ eq
          → length (filter f (cond lt (pod ∷ q ∷ pods) (cond eq (pod ∷ pods) (q ∷ put_pod pod pods)))) ≤ length (filter f (q ∷ pods))
      by ih true l eq e =
          let below = ltb-true pod.uid.0 q.uid.0 l in
          absurd (true≢false (sym (ap is_some there) ∙ ap is_some (among_none q.uid.0 pod.uid (q ∷ pods) below (omega arith, r.1))))
      by ih false l true e =
          let is : same_uid q.uid pod.uid ≡ true = ap (λ v. same_uid q.uid v) (same_uid-eq pod.uid q.uid e) ∙ same_uid-itself q.uid in
          let one : q ≡ old = some_is q old (sym (cond-true (same_uid q.uid pod.uid) (Some q) (pod_among pod.uid pods) is) ∙ there) in
          omega (arith, filter-step pod pods, filter-step q pods, less (f pod) (f q) (λ h. ap f one ∙ imp h))
      by ih false l false e =
          let other : same_uid q.uid pod.uid ≡ false = ne_eqb q.uid.0 pod.uid.0 (λ h. eqb-false pod.uid.0 q.uid.0 e (sym h)) in
          omega (arith, filter-step q (put_pod pod pods), filter-step q pods, ih (sym (cond-false (same_uid q.uid pod.uid) (Some q) (pod_among pod.uid pods) other) ∙ there))

  drop-few : (g : Pod → Bool) (pods : List Pod) → length (filter f (filter g pods)) ≤ length (filter f pods)
  drop-few g [] = omega arith
  drop-few g (q ∷ pods) = by (drop-few g pods) (g q)
    where
      by : length (filter f (filter g pods)) ≤ length (filter f pods) → (b : Bool) → length (filter f (cond b (q ∷ filter g pods) (filter g pods))) ≤ length (filter f (q ∷ pods))
      by ih true = omega (arith, ih, filter-step q (filter g pods), filter-step q pods)
      by ih false = omega (arith, ih, filter-step q pods)

  module _ (k : Key) (keyed : (p : Pod) → f p ≡ true → same_key p.owner k ≡ true) (lasts : (old new : Pod) → PodStep old new → f new ≡ true → f old ≡ true) where
    -- An entry that makes no pod of the key makes no more pass, and one that does makes one more at most.
    pub count-entry : (e : Entry) (older : List Entry) → Writes older e → count f (e ∷ older) + pods_made k older ≤ count f older + pods_made k (e ∷ older)
    count-entry (JobPut job) older w = omega arith
    count-entry (JobGone job) older w = omega arith
    count-entry (PodGone pod) older w = omega (arith, drop-few (λ p. not (same_uid p.uid pod.uid)) (pods_in older))
    count-entry (PodPut pod) older w = by (life pod.uid older) refl w.can.0
      where
        newly : (a b : Bool) (n : ℕ) → (a ≡ true → b ≡ true) → bit a + n ≤ cond (b && true) (n + 1) n
        newly true true n h = omega arith
        newly true false n h = absurd (true≢false (sym (h refl)))
        newly false true n h = omega arith
        newly false false n h = omega arith

        more : (b : Bool) → pods_made k older ≤ cond b (pods_made k older + 1) (pods_made k older)
        more true = omega arith
        more false = omega arith

        by : (l : Life) → life pod.uid older ≡ l → CanPut older l pod
            → length (filter f (put_pod pod (pods_in older))) + pods_made k older ≤ length (filter f (pods_in older)) +
            cond (same_key pod.owner k && is_never (life pod.uid older)) (pods_made k older + 1) (pods_made k older)
        by Never is can =
            let n = newly (f pod) (same_key pod.owner k) (pods_made k older) (keyed pod) in
            let e = ap (λ l. cond (same_key pod.owner k && is_never l) (pods_made k older + 1) (pods_made k older)) is in
            omega (arith, put-few pod (pods_in older), n, e)
        by (Live old) is can =
            omega (arith, put-same 0 old pod (pods_in older) (pods_in-rises older) (pods_in-among pod.uid older ∙ ap living is) (lasts old pod can), more (same_key pod.owner k && is_never (life pod.uid older)))
        by Gone is can = absurd can

    -- So it is from a version on.
    pub count-since : (m : ℕ) (log : List Entry) → Stored log → count f log + pods_made k (upto m log) ≤ count f (upto m log) + pods_made k log
    count-since m log all =
        persists_on Writes (λ l. count f l + pods_made k (upto m log) ≤ count f (upto m log) + pods_made k l)
        (λ e older w rest p. omega (arith, p, count-entry e older w)) m log all (omega arith)
