-- What the rows of a cache are once one more object is put or dropped.
use Rattle.std.proofs.Common.{◌≡◌, ℕ, ◌+◌, ◌≤◌, zero, suc, nat_lt, Bool, true, false, cond, not, ◌==◌, List, [], ◌∷◌, ◌++◌, filter, length, take, Some, None, is_some, refl, sym, ap, subst, ◌∙◌, arith, true≢false, ltb-true, le-ltb, ne_eqb}
use Rattle.std.specs.Map.{set_value}
use Rattle.std.specs.List.{AllByRecursion as Each, list_all}
use Rattle.std.specs.Option.{option_map_or}
use Rattle.std.proofs.lemmas.Bool.{and_parts, cond-true, cond-false}
use Rattle.std.proofs.lemmas.List.{length-take-le}
use Rattle.jc_types.specs.declared.objects.Entry.{Entry}
use Rattle.jc_types.specs.declared.objects.Entry.TheVariants.{JobPut, JobGone, PodPut, PodGone}
use Rattle.jc_types.specs.declared.objects.Job.{Job}
use Rattle.jc_types.specs.declared.objects.Pod.{Pod}
use Rattle.jc_types.specs.declared.objects.KeyNames.{KeyNames as Key}
use Rattle.jc_types.specs.Keys.{same_key, same_uid}
use Rattle.jc_log.specs.Log.{Live, life, pods_in, pods_under}
use Rattle.jc_states.specs.PodLists.{put_pod, drop_pod, RisesFrom, IsRising}
use Rattle.jc_log.specs.Tables.{at, puts, Sets}
use Rattle.jc_states.specs.ObjectChanges.{PodStep}
use Rattle.jc_log.specs.Writes.{CanPut, CanGo, Stored}
use Rattle.jc_types.proofs.KeyFacts.{same_key-eq, same_key-itself, same_uid-eq, same_key-either_way}
use Rattle.jc_types.proofs.ListFacts.{Each-weaker, Each-take}
use Rattle.jc_log.proofs.TableFacts.{set_value-puts, Sets-puts}
use Rattle.jc_states.proofs.PodListFacts.{length-filter-le, put_pod-above, put_pod-below, put_pod-there, rises_filter}
use Rattle.jc_log.proofs.PodFacts.{pods_in-rises, pods_in-live}
use Rattle.jc_cache.specs.Caches.{job_rows, AreApart, HoldsByOwner, pods_at, owned_after}

-- ---- Jobs

-- A Job of a new key is put in a row at the end.
pub puts-new : (jobs : List Job) (job : Job) → Each (λ other. same_key job.key other.key ≡ false) jobs → puts same_key (job_rows jobs) job.key job ≡ job_rows (jobs ++ job ∷ [])
puts-new [] job h = refl
puts-new (other ∷ jobs) job h =
    cond-false (same_key job.key other.key) ((other.key, job) ∷ job_rows jobs) ((other.key, other) ∷ puts same_key (job_rows jobs) job.key job) h.0
    ∙ ap (λ rows. (other.key, other) ∷ rows) (puts-new jobs job h.1)

-- Keys of the first Jobs are apart where those of all are.
pub apart_take : (n : ℕ) (jobs : List Job) → AreApart jobs → AreApart (take n jobs)
apart_take zero [] h = tt
apart_take zero (job ∷ jobs) h = tt
apart_take (suc n) [] h = tt
apart_take (suc n) (job ∷ jobs) h = (Each-take (λ other. same_key job.key other.key ≡ false) n jobs h.0, apart_take n jobs h.1)

-- The key of the last of them is none of those before.
pub apart_last : (jobs : List Job) (job : Job) → AreApart (jobs ++ job ∷ []) → Each (λ other. same_key job.key other.key ≡ false) jobs
apart_last [] job h = tt
apart_last (other ∷ jobs) job h = (same_key-either_way job.key other.key ∙ last jobs h.0, apart_last jobs job h.1)
  where
    last : (some : List Job) → Each (λ x. same_key other.key x.key ≡ false) (some ++ job ∷ []) → same_key other.key job.key ≡ false
    last [] all = all.0
    last (x ∷ some) all = last some all.1

-- The table of the first Jobs once the next is put.
pub table-next : (jobs : List Job) (i : ℕ) (job again : Job) (key : Key) (table new : List (Key × Job)) → AreApart jobs → take (i + 1) jobs ≡ take i jobs ++ job ∷ []
    → table ≡ job_rows (take i jobs) → key ≡ job.key → again ≡ job → new ≡ puts same_key table key again → new ≡ job_rows (take (i + 1) jobs)
table-next jobs i job again key table new apart more first k a put =
    put ∙ ap (λ rows. puts same_key rows key again) first
    ∙ ap (λ key. puts same_key (job_rows (take i jobs)) key again) k
    ∙ ap (puts same_key (job_rows (take i jobs)) job.key) a
    ∙ puts-new (take i jobs) job (apart_last (take i jobs) job (subst AreApart more (apart_take (i + 1) jobs apart)))
    ∙ ap job_rows (sym more)

-- ---- the row of an owner

-- The pods that stand at the key are those under it.
pub pods_there : (k : Key) (pods : List Pod) (rows : List (Key × List Pod)) → at same_key rows k ≡ Some pods → pods_at k rows ≡ pods
pods_there k pods rows there = ap (λ found. option_map_or (λ all. all) found []) there

-- Where all pods have one owner, its row alone holds them.
pub one-row : (owner : Key) (pods : List Pod) → list_all (λ pod. same_key pod.owner owner) pods ≡ true → HoldsByOwner pods ((owner, pods) ∷ [])
one-row owner pods all k = by (same_key k owner) refl
  where
    -- All of them are under the owner's key.
    every : (some : List Pod) → list_all (λ pod. same_key pod.owner owner) some ≡ true → same_key k owner ≡ true → some ≡ filter (λ pod. same_key pod.owner k) some
    every [] h s = refl
    every (pod ∷ some) h s =
        let own = and_parts (same_key pod.owner owner) (list_all (λ pod. same_key pod.owner owner) some) h in
        ap (λ rest. pod ∷ rest) (every some own.1 s)
        ∙ sym (cond-true (same_key pod.owner k) (pod ∷ filter (λ pod. same_key pod.owner k) some) (filter (λ pod. same_key pod.owner k) some)
        (ap (same_key pod.owner) (same_key-eq k owner s) ∙ own.0))

    -- None is under another key.
    none : (some : List Pod) → list_all (λ pod. same_key pod.owner owner) some ≡ true → same_key k owner ≡ false → [] ≡ filter (λ pod. same_key pod.owner k) some
    none [] h s = refl
    none (pod ∷ some) h s =
        let own = and_parts (same_key pod.owner owner) (list_all (λ pod. same_key pod.owner owner) some) h in
        none some own.1 s
        ∙ sym (cond-false (same_key pod.owner k) (pod ∷ filter (λ pod. same_key pod.owner k) some) (filter (λ pod. same_key pod.owner k) some)
        (ap (λ key. same_key key k) (same_key-eq pod.owner owner own.0) ∙ same_key-either_way owner k ∙ s))

    by : (b : Bool) → same_key k owner ≡ b → option_map_or (λ all. all) (cond b (Some pods) None) [] ≡ filter (λ pod. same_key pod.owner k) pods
    by true s = every pods all s
    by false s = none pods all s

-- The first pod of an owner is put in a row of its own.
pub put-first : (rows before new : List (Key × List Pod)) (pod again : Pod) (owner : Key) (pods : List Pod) → before ≡ rows → owner ≡ pod.owner → again ≡ pod → pods ≡ put_pod again []
    → at same_key rows pod.owner ≡ None → Sets same_key before new owner (Some pods) → (k : Key) → pods_at k new ≡ owned_after k (PodPut pod) (pods_at k rows)
put-first rows before new pod again owner pods is o a p none sets k =
    ap (λ found. option_map_or (λ all. all) found [])
    (sets k
    ∙ ap (λ own. cond (same_key own k) (Some pods) (at same_key before k)) o
    ∙ ap (λ table. cond (same_key pod.owner k) (Some pods) (at same_key table k)) is)
    ∙ by (same_key pod.owner k) refl
  where
    by : (b : Bool) → same_key pod.owner k ≡ b → option_map_or (λ all. all) (cond b (Some pods) (at same_key rows k)) [] ≡ cond b (put_pod pod (pods_at k rows)) (pods_at k rows)
    by true s =
        p ∙ ap (λ x. put_pod x []) a
        ∙ ap (put_pod pod) (sym (ap (λ found. option_map_or (λ all. all) found []) (ap (at same_key rows) (sym (same_key-eq pod.owner k s)) ∙ none)))
    by false s = refl

-- The last pod of an owner is dropped, and the owner's row with it.
pub drop-last : (rows mid new : List (Key × List Pod)) (pod : Pod) (left pods : List Pod) → mid ≡ set_value (same_key pod.owner) rows left → at same_key rows pod.owner ≡ Some pods
    → left ≡ drop_pod pod.uid pods → left ≡ [] → Sets same_key mid new pod.owner None → (k : Key) → pods_at k new ≡ owned_after k (PodGone pod) (pods_at k rows)
drop-last rows mid new pod left pods is there drops none sets k =
    ap (λ found. option_map_or (λ all. all) found []) (sets k) ∙ by (same_key pod.owner k) refl
  where
    by : (b : Bool) → same_key pod.owner k ≡ b → option_map_or (λ all. all) (cond b None (at same_key mid k)) [] ≡ cond b (drop_pod pod.uid (pods_at k rows)) (pods_at k rows)
    by true s =
        sym none ∙ drops
        ∙ ap (drop_pod pod.uid) (sym (ap (λ found. option_map_or (λ all. all) found []) (ap (at same_key rows) (sym (same_key-eq pod.owner k s)) ∙ there)))
    by false s =
        ap (λ found. option_map_or (λ all. all) found [])
        (ap (λ table. at same_key table k) (is ∙ set_value-puts same_key pod.owner left rows (ap is_some there))
        ∙ Sets-puts same_key same_key-eq same_key-itself pod.owner left rows k
        ∙ cond-false (same_key pod.owner k) (Some left) (at same_key rows k) s)

-- ---- pods in ascending UID

-- The first of ascending pods are ascending.
pub rises_take : (n low : ℕ) (pods : List Pod) → RisesFrom low pods → RisesFrom low (take n pods)
rises_take zero low [] r = tt
rises_take zero low (pod ∷ pods) r = tt
rises_take (suc n) low [] r = tt
rises_take (suc n) low (pod ∷ pods) r = (r.0, rises_take n (pod.uid.0 + 1) pods r.1)

-- The last of them is not below the bound.
rises_last : (low : ℕ) (pods : List Pod) (pod : Pod) → RisesFrom low (pods ++ pod ∷ []) → low ≤ pod.uid.0
rises_last low [] pod r = r.0
rises_last low (q ∷ pods) pod r = let far = rises_last (q.uid.0 + 1) pods pod r.1 in omega (arith, far, r.0)

-- The pods of an owner, once a pod is put or dropped among all of them.
module _ (k : Key) where
  abbrev pub owned : List Pod → List Pod
  owned pods = filter (λ pod. same_key pod.owner k) pods

  -- The next of ascending pods.
  pub owned-next : (low : ℕ) (pods : List Pod) (pod : Pod) → RisesFrom low (pods ++ pod ∷ []) → cond (same_key pod.owner k) (put_pod pod (owned pods)) (owned pods) ≡ owned (pods ++ pod ∷ [])
  owned-next low [] pod r = refl
  owned-next low (q ∷ pods) pod r = by (same_key q.owner k) (same_key pod.owner k) (owned (pods ++ pod ∷ [])) (owned-next (q.uid.0 + 1) pods pod r.1)
    where
      above : q.uid.0 + 1 ≤ pod.uid.0
      above = rises_last (q.uid.0 + 1) pods pod r.1

      by : (b a : Bool) (next : List Pod) → cond a (put_pod pod (owned pods)) (owned pods) ≡ next
          → cond a (put_pod pod (cond b (q ∷ owned pods) (owned pods))) (cond b (q ∷ owned pods) (owned pods)) ≡ cond b (q ∷ next) next
      by true true next ih =
          put_pod-above pod q (owned pods) (le-ltb pod.uid.0 q.uid.0 (omega (arith, above))) (ne_eqb pod.uid.0 q.uid.0 (λ e. omega (arith, e, above)))
          ∙ ap (λ rest. q ∷ rest) ih
      by true false next ih = ap (λ rest. q ∷ rest) ih
      by false true next ih = ih
      by false false next ih = ih

  -- The pods of the owner among the first, once the next is put.
  pub first-next : (pods : List Pod) (i : ℕ) (pod : Pod) → IsRising pods → take (i + 1) pods ≡ take i pods ++ pod ∷ []
      → cond (same_key pod.owner k) (put_pod pod (owned (take i pods))) (owned (take i pods)) ≡ owned (take (i + 1) pods)
  first-next pods i pod rising more =
      owned-next 0 (take i pods) pod (subst (RisesFrom 0) more (rises_take (i + 1) 0 pods rising)) ∙ ap owned (sym more)

  -- They are no more than the first.
  pub first-few : (pods : List Pod) (i : ℕ) → i ≤ length pods → length (owned (take i pods)) ≤ i
  first-few pods i within =
      let own = length-filter-le (λ pod. same_key pod.owner k) (take i pods) in
      let first = length-take-le i pods within in
      omega (arith, own, first)

  -- A pod that is put, where the one of its UID had the same owner.
  pub owned-put : (pod : Pod) (low : ℕ) (pods : List Pod) → RisesFrom low pods → Each (λ q. q.uid ≡ pod.uid → pod.owner ≡ q.owner) pods
      → owned (put_pod pod pods) ≡ cond (same_key pod.owner k) (put_pod pod (owned pods)) (owned pods)
  owned-put pod low [] r h = refl
  owned-put pod low (q ∷ pods) r h =
      by (nat_lt pod.uid.0 q.uid.0) refl (pod.uid.0 == q.uid.0) refl (owned-put pod (q.uid.0 + 1) pods r.1 h.1)
    where
      less : nat_lt pod.uid.0 q.uid.0 ≡ true → (a : Bool) → cond a (pod ∷ owned (q ∷ pods)) (owned (q ∷ pods)) ≡ cond a (put_pod pod (owned (q ∷ pods))) (owned (q ∷ pods))
      less l true =
          sym (put_pod-below pod q.uid.0 (owned (q ∷ pods)) (ltb-true pod.uid.0 q.uid.0 l) (rises_filter q.uid.0 (λ p. same_key p.owner k) (q ∷ pods) (omega arith, r.1)))
      less l false = refl

      there : nat_lt pod.uid.0 q.uid.0 ≡ false → (pod.uid.0 == q.uid.0) ≡ true → (a b : Bool) → a ≡ b
          → cond a (pod ∷ owned pods) (owned pods) ≡ cond a (put_pod pod (cond b (q ∷ owned pods) (owned pods))) (cond b (q ∷ owned pods) (owned pods))
      there l e true true s = sym (put_pod-there pod q (owned pods) l e)
      there l e false false s = refl
      there l e true false s = absurd (true≢false s)
      there l e false true s = absurd (true≢false (sym s))

      more : nat_lt pod.uid.0 q.uid.0 ≡ false → (pod.uid.0 == q.uid.0) ≡ false → (a b : Bool) (next : List Pod) → next ≡ cond a (put_pod pod (owned pods)) (owned pods)
          → cond b (q ∷ next) next ≡ cond a (put_pod pod (cond b (q ∷ owned pods) (owned pods))) (cond b (q ∷ owned pods) (owned pods))
      more l e true true next ih = ap (λ rest. q ∷ rest) ih ∙ sym (put_pod-above pod q (owned pods) l e)
      more l e true false next ih = ih
      more l e false true next ih = ap (λ rest. q ∷ rest) ih
      more l e false false next ih = ih

      by : (lt : Bool) → nat_lt pod.uid.0 q.uid.0 ≡ lt → (eq : Bool) → (pod.uid.0 == q.uid.0) ≡ eq
          → owned (put_pod pod pods) ≡ cond (same_key pod.owner k) (put_pod pod (owned pods)) (owned pods)
          → owned (cond lt (pod ∷ q ∷ pods) (cond eq (pod ∷ pods) (q ∷ put_pod pod pods)))
          ≡ cond (same_key pod.owner k) (put_pod pod (owned (q ∷ pods))) (owned (q ∷ pods))
      by true l eq e ih = less l (same_key pod.owner k)
      by false l true e ih =
          there l e (same_key pod.owner k) (same_key q.owner k) (ap (λ owner. same_key owner k) (h.0 (sym (same_uid-eq pod.uid q.uid e))))
      by false l false e ih = more l e (same_key pod.owner k) (same_key q.owner k) (owned (put_pod pod pods)) ih

  -- A pod that is dropped, where the one of its UID had the same owner.
  pub owned-drop : (pod : Pod) (pods : List Pod) → Each (λ q. q.uid ≡ pod.uid → pod.owner ≡ q.owner) pods
      → owned (drop_pod pod.uid pods) ≡ cond (same_key pod.owner k) (drop_pod pod.uid (owned pods)) (owned pods)
  owned-drop pod [] h = by (same_key pod.owner k)
    where
      by : (a : Bool) → [] ≡ cond a (drop_pod pod.uid []) []
      by true = refl
      by false = refl
  owned-drop pod (q ∷ pods) h = by (same_uid q.uid pod.uid) refl (same_key pod.owner k) (same_key q.owner k) refl refl (owned-drop pod pods h.1)
    where
      -- The rest without the pod, where the first is kept or not.
      kept : (g : Bool) → same_uid q.uid pod.uid ≡ g → drop_pod pod.uid (q ∷ owned pods) ≡ cond (not g) (q ∷ drop_pod pod.uid (owned pods)) (drop_pod pod.uid (owned pods))
      kept g t = ap (λ b. cond (not b) (q ∷ drop_pod pod.uid (owned pods)) (drop_pod pod.uid (owned pods))) t

      by : (g : Bool) → same_uid q.uid pod.uid ≡ g → (a b : Bool) → same_key pod.owner k ≡ a → same_key q.owner k ≡ b
          → owned (drop_pod pod.uid pods) ≡ cond a (drop_pod pod.uid (owned pods)) (owned pods)
          → owned (cond (not g) (q ∷ drop_pod pod.uid pods) (drop_pod pod.uid pods)) ≡ cond a (drop_pod pod.uid (cond b (q ∷ owned pods) (owned pods))) (cond b (q ∷ owned pods) (owned pods))
      by true t true true s u ih = ih ∙ sym (kept true t)
      by true t false false s u ih = ih
      by true t true false s u ih = absurd (true≢false (sym s ∙ ap (λ owner. same_key owner k) (h.0 (same_uid-eq q.uid pod.uid t)) ∙ u))
      by true t false true s u ih = absurd (true≢false (sym u ∙ sym (ap (λ owner. same_key owner k) (h.0 (same_uid-eq q.uid pod.uid t))) ∙ s))
      by false t true true s u ih = cond-true (same_key q.owner k) (q ∷ owned (drop_pod pod.uid pods)) (owned (drop_pod pod.uid pods)) u ∙ ap (λ rest. q ∷ rest) ih ∙ sym (kept false t)
      by false t true false s u ih = cond-false (same_key q.owner k) (q ∷ owned (drop_pod pod.uid pods)) (owned (drop_pod pod.uid pods)) u ∙ ih
      by false t false true s u ih = cond-true (same_key q.owner k) (q ∷ owned (drop_pod pod.uid pods)) (owned (drop_pod pod.uid pods)) u ∙ ap (λ rest. q ∷ rest) ih
      by false t false false s u ih = cond-false (same_key q.owner k) (q ∷ owned (drop_pod pod.uid pods)) (owned (drop_pod pod.uid pods)) u ∙ ih

-- ---- logs

-- A pod of the same UID has the owner of the pod that may be put, or may go.
same_owner : (pod : Pod) (older : List Entry) → ((q : Pod) → life pod.uid older ≡ Live q → PodStep q pod) → Each (λ q. q.uid ≡ pod.uid → pod.owner ≡ q.owner) (pods_in older)
same_owner pod older step =
    Each-weaker (λ q. life q.uid older ≡ Live q) (λ q. q.uid ≡ pod.uid → pod.owner ≡ q.owner)
    (λ q live is. (step q (ap (λ u. life u older) (sym is) ∙ live)).owner) (pods_in older) (pods_in-live older)

-- One more write of the store leaves under each key what a delivery of it does.
pub owner_stays : (k : Key) (e : Entry) (older : List Entry) → Stored (e ∷ older) → pods_under k (e ∷ older) ≡ owned_after k e (pods_under k older)
owner_stays k (JobPut job) older h = refl
owner_stays k (JobGone job) older h = refl
owner_stays k (PodPut pod) older h =
    let can : CanPut older (life pod.uid older) pod = h.0.can.0 in
    owned-put k pod 0 (pods_in older) (pods_in-rises older) (same_owner pod older (λ q live. subst (λ l. CanPut older l pod) live can))
owner_stays k (PodGone pod) older h =
    let can : CanGo (life pod.uid older) pod = h.0.can.0 in
    owned-drop k pod (pods_in older) (same_owner pod older (λ q live. subst (λ l. CanGo l pod) live can))
