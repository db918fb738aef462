-- What the history is refused by in which a pod is released that was left over: worked out over any number of pods.
use Rattle.std.proofs.Common.{◌≡◌, ℕ, zero, suc, ◌+◌, ◌*◌, ◌<◌, ◌≤◌, nat_lt, Bool, true, false, cond, List, [], ◌∷◌, ◌++◌, filter, length, map, Option, Some, None, is_some, inl, inr, refl, sym, ap, ◌∙◌, subst, arith, lt-ltb, le-ltb}
use Rattle.std.proofs.Common.{ltb-true, eq-eqb, ne_eqb, true≢false}
use Rattle.std.specs.List.{AllByRecursion as Each}
use Rattle.std.specs.Option.{option_map}
use Rattle.std.proofs.lemmas.Bool.{cond-true}
use Rattle.std.proofs.lemmas.List.{length-append}
use Rattle.std.proofs.lemmas.List.Elements.{filter-append}
use Rattle.jc_types.specs.declared.numbers.Uid.{Uid}
use Rattle.jc_types.specs.declared.objects.Entry.{Entry}
use Rattle.jc_types.specs.declared.objects.Entry.TheVariants.{JobPut, PodPut}
use Rattle.jc_types.specs.declared.objects.Job.{Job}
use Rattle.jc_types.specs.declared.objects.Pod.{Pod}
use Rattle.jc_types.specs.Keys.{same_uid}
use Rattle.jc_types.proofs.KeyFacts.{same_uid-eq, same_uid-itself}
use Rattle.jc_types.proofs.ListFacts.{Each-append, Each-passes, Each-weaker, filter_all}
use Rattle.jc_log.specs.Acts.{Act}
use Rattle.jc_log.specs.Deeds.{Deed}
use Rattle.jc_log.specs.Log.{Live, job_in, life, pods_in, pods_of, upto}
use Rattle.jc_log.proofs.JobFacts.{put_pod-last}
use Rattle.jc_log.proofs.LogFacts.{upto-all, upto-fixed, upto-upto}
use Rattle.jc_log.proofs.WriteFacts.{life-uid}
use Rattle.jc_plan.specs.Outcome.TheVariants as outcome
use Rattle.jc_plan.specs.Outcomes.{has_ended_badly, is_succeeded, outcome_of, same_outcome}
use Rattle.jc_plan.specs.Judged.{is_fresh}
use Rattle.jc_runs.specs.Ledger.{Ledger, Record, chosen, entered, fresh, has_record, judged_by, ledger_of, record_of, recorded, space}
use Rattle.jc_runs.specs.Once.{Taking}
use Rattle.jc_runs.specs.PodLists.{put_pod}
use Rattle.jc_runs.specs.Syncs.{reach}
use Rattle.jc_runs.proofs.PodListFacts.{put_pod-above, put_pod-there}
use Rattle.jc_rest.specs.Lost.{AreLostWell, ByCommand, BySync, WasLost}
use Rattle.jc_history.specs.Samples.{pi_key, pod_made, pod_released, status_written, uid_of}
use Rattle.jc_promise.specs.Wrong.{Wrong, job_is_made, pi_job, pi_put, pod_exits, stripped, sync_begins, sync_steps}
use Rattle.jc_promise.specs.WrongRooms.{after_listing, nth_ended, with_write, after_releases, after_runs, left_over_released, many_listed, many_spec, nth_pod}
use Rattle.jc_promise.proofs.WrongFacts.{no-cause, none-took, not-taken, strips}

-- ---- the log

-- How long the log is.
run-long : (n : ℕ) → length (after_runs n).log ≡ 2 * n + 1
unfolding after_runs
run-long zero = refl
run-long (suc n) = let long = run-long n in omega (arith, long)

listed-long : length after_listing.log ≡ 1004
unfolding after_listing
listed-long = let long = run-long 501 in omega (arith, long)

released-long : (m : ℕ) → length (after_releases m).log ≡ m + 1004
unfolding after_releases
released-long zero = listed-long
released-long (suc m) = let long = released-long m in omega (arith, long)

-- Its first entry.
run-first : (n : ℕ) → upto 1 (after_runs n).log ≡ pi_put many_spec ∷ []
unfolding after_runs
run-first zero = refl
run-first (suc n) =
    let long = run-long n in
    upto-fixed 1 (PodPut (nth_ended n)) (PodPut (nth_pod n) ∷ (after_runs n).log) (omega (arith, long))
    ∙ upto-fixed 1 (PodPut (nth_pod n)) (after_runs n).log (omega (arith, long))
    ∙ run-first n

-- What the sync saw.
listed-seen : upto 1003 after_listing.log ≡ (after_runs 501).log
unfolding after_listing
listed-seen =
    let long = run-long 501 in
    upto-fixed 1003 (JobPut many_listed) (after_runs 501).log (omega (arith, long)) ∙ upto-all 1003 (after_runs 501).log (omega (arith, long))

released-seen : (m : ℕ) → upto 1003 (after_releases m).log ≡ (after_runs 501).log
unfolding after_releases
released-seen zero = listed-seen
released-seen (suc m) =
    let long = released-long m in
    upto-fixed 1003 (PodPut (stripped (m + 1005) (nth_ended m))) (after_releases m).log (omega (arith, long)) ∙ released-seen m

-- The pod that came last has succeeded.
run-last : (n : ℕ) → life (uid_of (n + 2)) (after_runs (suc n)).log ≡ Live (nth_ended n)
unfolding after_runs
run-last n = cond-true (same_uid (uid_of (n + 2)) (uid_of (n + 2))) (Live (nth_ended n)) _ (same_uid-itself (uid_of (n + 2)))

-- ---- the pods that the sync saw

-- So many pods that have succeeded, in ascending UID.
unfoldable ended_pods : ℕ → List Pod
ended_pods zero = []
ended_pods (suc n) = ended_pods n ++ nth_ended n ∷ []

ended-long : (n : ℕ) → length (ended_pods n) ≡ n
unfolding ended_pods
ended-long zero = refl
ended-long (suc n) = let both = length-append (ended_pods n) (nth_ended n ∷ []) in let long = ended-long n in omega (arith, both, long)

ended-below : (n m : ℕ) → n ≤ m → Each (λ (q : Pod). q.uid.0 < m + 2) (ended_pods n)
unfolding ended_pods
ended-below zero m le = tt
ended-below (suc n) m le =
    Each-append (λ (q : Pod). q.uid.0 < m + 2) (ended_pods n) (nth_ended n ∷ []) (ended-below n m (omega (arith, le))) (omega (arith, le), tt)

-- What passes each of them passes all.
passes-each : (test : Pod → Bool) → ((n : ℕ) → test (nth_ended n) ≡ true) → (n : ℕ) → Each (λ pod. test pod ≡ true) (ended_pods n)
unfolding ended_pods
passes-each test h zero = tt
passes-each test h (suc n) = Each-append (λ pod. test pod ≡ true) (ended_pods n) (nth_ended n ∷ []) (passes-each test h n) (h n, tt)

passes-all : (test : Pod → Bool) → ((n : ℕ) → test (nth_ended n) ≡ true) → (n : ℕ) → filter test (ended_pods n) ≡ ended_pods n
passes-all test h n = filter_all test (ended_pods n) (passes-each test h n)

-- A pod is put in the place of the last one, which has its UID.
put_pod-over : (old new : Pod) (pods : List Pod) → old.uid ≡ new.uid → Each (λ (q : Pod). q.uid.0 < new.uid.0) pods → put_pod new (pods ++ old ∷ []) ≡ pods ++ new ∷ []
put_pod-over old new [] same below =
    let number = ap (λ (u : Uid). u.0) same in
    put_pod-there new old [] (le-ltb new.uid.0 old.uid.0 (omega (arith, number))) (eq-eqb new.uid.0 old.uid.0 (sym number))
put_pod-over old new (q ∷ pods) same below =
    let less = below.0 in
    put_pod-above new q (pods ++ old ∷ []) (le-ltb new.uid.0 q.uid.0 (omega (arith, less))) (ne_eqb new.uid.0 q.uid.0 (λ e. omega (arith, e, less)))
    ∙ ap (λ rest. q ∷ rest) (put_pod-over old new pods same below.1)

run-pods : (n : ℕ) → pods_in (after_runs n).log ≡ ended_pods n
unfolding after_runs ended_pods
run-pods zero = refl
run-pods (suc n) =
    ap (λ pods. put_pod (nth_ended n) (put_pod (nth_pod n) pods)) (run-pods n)
    ∙ ap (put_pod (nth_ended n)) (put_pod-last (nth_pod n) (ended_pods n) (ended-below n n (omega arith)))
    ∙ put_pod-over (nth_pod n) (nth_ended n) (ended_pods n) refl (ended-below n n (omega arith))

-- All of them are still to be judged.
run-fresh : (n : ℕ) → fresh (pi_job many_spec) [] (pods_of (uid_of 1) (after_runs n).log) ≡ ended_pods n
run-fresh n =
    ap (λ pods. fresh (pi_job many_spec) [] (filter (λ pod. same_uid pod.owner_uid (uid_of 1)) pods)) (run-pods n)
    ∙ ap (fresh (pi_job many_spec) []) (passes-all (λ pod. same_uid pod.owner_uid (uid_of 1)) (λ n. refl) n)
    ∙ passes-all (is_fresh many_spec (has_record [])) (λ n. refl) n

-- ---- the one that is left over

-- All the others have smaller UIDs.
preceded : (n : ℕ) (u : Uid) → u.0 ≡ n + 2 → n ≤ length (filter (λ (q : Pod). nat_lt q.uid.0 u.0) (filter (λ (q : Pod). true) (ended_pods (suc n))))
unfolding ended_pods
preceded n u is =
    let precedes : Pod → Bool = λ q. nat_lt q.uid.0 u.0 in
    let split : length (filter precedes (filter (λ (q : Pod). true) (ended_pods n ++ nth_ended n ∷ []))) ≡ length (filter precedes (ended_pods n)) + length (filter precedes (nth_ended n ∷ [])) =
    ap (λ (pods : List Pod). length (filter precedes pods)) (passes-all (λ q. true) (λ n. refl) (suc n))
    ∙ ap (λ (pods : List Pod). length pods) (filter-append precedes (ended_pods n) (nth_ended n ∷ []))
    ∙ length-append (filter precedes (ended_pods n)) (filter precedes (nth_ended n ∷ [])) in
    let others : length (filter precedes (ended_pods n)) ≡ n =
    ap (λ (pods : List Pod). length pods)
    (filter_all precedes (ended_pods n)
    (Each-weaker (λ (q : Pod). q.uid.0 < n + 2) (λ q. precedes q ≡ true) (λ q less. lt-ltb q.uid.0 u.0 (omega (arith, less, is))) (ended_pods n) (ended-below n n (omega arith))))
    ∙ ended-long n in
    omega (arith, split, others)

-- So where there are 500 others it is not judged.
unchosen : (n : ℕ) → 500 ≤ n → Each (λ (pod : Pod). pod.uid ≡ uid_of (n + 2) → ⊥) (chosen (pi_job many_spec) [] (pods_of (uid_of 1) (after_runs (suc n)).log))
unchosen n many =
    subst (λ pods. Each (λ (pod : Pod). pod.uid ≡ uid_of (n + 2) → ⊥) (filter (fits pods) pods)) (sym (run-fresh (suc n)))
    (Each-weaker (λ pod. fits (ended_pods (suc n)) pod ≡ true) (λ pod. pod.uid ≡ uid_of (n + 2) → ⊥) past (filter (fits (ended_pods (suc n))) (ended_pods (suc n)))
    (Each-passes (fits (ended_pods (suc n))) (ended_pods (suc n))))
  where
    rooms : ℕ
    rooms = space (pi_job many_spec) [] (pods_of (uid_of 1) (after_runs (suc n)).log)

    fits : List Pod → Pod → Bool
    fits pods pod = nat_lt (length (filter (λ (q : Pod). nat_lt q.uid.0 pod.uid.0) (filter (λ (q : Pod). true) pods))) rooms

    past : (pod : Pod) → fits (ended_pods (suc n)) pod ≡ true → pod.uid ≡ uid_of (n + 2) → ⊥
    past pod f is =
        let less = ltb-true (length (filter (λ (q : Pod). nat_lt q.uid.0 pod.uid.0) (filter (λ (q : Pod). true) (ended_pods (suc n))))) rooms f in
        let before = preceded n pod.uid (ap (λ (u : Uid). u.0) is) in
        omega (arith, less, before, many)

-- ---- the ledger

-- Nothing is judged.
abbrev nothing : Ledger
nothing = record { records = []; done = []; failed = [] }

run-ledger : (n : ℕ) (log : List Entry) → ledger_of (uid_of 1) (after_runs n).deeds log ≡ nothing
unfolding after_runs
run-ledger zero log = refl
run-ledger (suc n) log = run-ledger n log

-- The status judges those that are chosen.
status-ledger : (past : List Deed) (log seen : List Entry) → ledger_of (uid_of 1) past log ≡ nothing → upto 1003 log ≡ seen → job_in pi_key (upto 1 log) ≡ Some (pi_job many_spec)
    → ledger_of (uid_of 1) (sync_steps (status_written 1004) 1004 ∷ sync_begins 1 1003 1003 ∷ past) log ≡ entered (pi_job many_spec) (pods_of (uid_of 1) seen) 1003 1004 nothing
status-ledger past log seen before is job =
    ap
    (λ o. judged_by (uid_of 1) log (option_map (λ (job : Job). record { job = job; seen = 1003; at = 1004 }) o) (ledger_of (uid_of 1) past log))
    job
    ∙ ap (λ l. entered (pi_job many_spec) (pods_of (uid_of 1) l) 1003 1004 (ledger_of (uid_of 1) past log)) is
    ∙ ap (entered (pi_job many_spec) (pods_of (uid_of 1) seen) 1003 1004) before

listed-ledger : (log : List Entry) → upto 1003 log ≡ (after_runs 501).log
    → ledger_of (uid_of 1) after_listing.deeds log ≡ entered (pi_job many_spec) (pods_of (uid_of 1) (after_runs 501).log) 1003 1004 nothing
unfolding after_listing
listed-ledger log seen =
    status-ledger (after_runs 501).deeds log (after_runs 501).log (run-ledger 501 log) seen
    (ap (job_in pi_key) (sym (upto-upto 1 1003 log (omega arith)) ∙ ap (upto 1) seen ∙ run-first 501))

released-ledger : (m : ℕ) (log : List Entry) → ledger_of (uid_of 1) (after_releases m).deeds log ≡ ledger_of (uid_of 1) after_listing.deeds log
unfolding after_releases
released-ledger zero log = refl
released-ledger (suc m) log = released-ledger m log

-- A UID has no record that none of the pods has.
no-record : (u : Uid) (job : Job) (seen at : ℕ) (pods : List Pod) (r : Record) → Each (λ (pod : Pod). pod.uid ≡ u → ⊥) pods → record_of u (map (recorded job seen at) pods) ≡ Some r → ⊥
no-record u job seen at [] r others h = true≢false (sym (ap is_some h))
no-record u job seen at (pod ∷ pods) r others h = by (no-record u job seen at pods r others.1) (same_uid pod.uid u) refl h
  where
    by : (record_of u (map (recorded job seen at) pods) ≡ Some r → ⊥) → (b : Bool) → same_uid pod.uid u ≡ b
        → cond b (Some (recorded job seen at pod)) (record_of u (map (recorded job seen at) pods)) ≡ Some r → ⊥
    by ih true t g = others.0 (same_uid-eq pod.uid u t)
    by ih false t g = ih g

-- So pod 502 has none.
unjudged : (m : ℕ) (log : List Entry) (r : Record) → upto 1003 log ≡ (after_runs 501).log → record_of (uid_of 502) (ledger_of (uid_of 1) (after_releases m).deeds log).records ≡ Some r → ⊥
unjudged m log r seen h =
    no-record (uid_of 502) (pi_job many_spec) 1003 1004 (chosen (pi_job many_spec) [] (pods_of (uid_of 1) (after_runs 501).log)) r (unchosen 500 (omega arith))
    (ap (λ (l : Ledger). record_of (uid_of 502) l.records) (sym (released-ledger m log ∙ listed-ledger log seen)) ∙ h)

-- ---- no deed had a cause

-- No pod of the Job is ignored.
never-ignored : (pod : Pod) → same_outcome (outcome_of many_spec pod) outcome.Ignored ≡ false
never-ignored pod = by (is_succeeded pod.phase) (has_ended_badly many_spec.replacement pod)
  where
    by : (s f : Bool) → same_outcome (cond s outcome.Succeeded (cond f outcome.Failed outcome.Alive)) outcome.Ignored ≡ false
    by true f = refl
    by false true = refl
    by false false = refl

module _ (job : Job) (log : List Entry) where
  -- The deeds before the releases took no finalizer.
  run-took : (u : Uid) (n : ℕ) → WasLost job u log (after_runs n).deeds → ⊥
  unfolding after_runs
  run-took u zero lost = none-took job u log (sync_begins 1 1 1 ∷ job_is_made many_spec ∷ []) (refl, (refl, tt)) lost
  run-took u (suc n) (inl took) =
      not-taken job u log (pod_exits (n + 2) 0 (2 * n + 3)) (sync_steps (pod_made None (n + 2) (2 * n + 2)) (2 * n + 2) ∷ (after_runs n).deeds) refl took
  run-took u (suc n) (inr (inl took)) = not-taken job u log (sync_steps (pod_made None (n + 2) (2 * n + 2)) (2 * n + 2)) (after_runs n).deeds refl took
  run-took u (suc n) (inr (inr lost)) = run-took u n lost

  listed-took : (u : Uid) → WasLost job u log after_listing.deeds → ⊥
  unfolding after_listing
  listed-took u (inl took) = not-taken job u log (sync_steps (status_written 1004) 1004) (sync_begins 1 1003 1003 ∷ (after_runs 501).deeds) refl took
  listed-took u (inr (inl took)) = not-taken job u log (sync_begins 1 1003 1003) (after_runs 501).deeds refl took
  listed-took u (inr (inr lost)) = run-took u 501 lost

  -- The releases took those of other pods.
  released-took : (n m : ℕ) → m ≤ n → WasLost job (uid_of (n + 2)) log (after_releases m).deeds → ⊥
  unfolding after_releases
  released-took n zero le lost = listed-took (uid_of (n + 2)) lost
  released-took n (suc m) le (inl (ByCommand takes strip)) = true≢false (sym (ap (λ (act : Act). strips act (uid_of 0)) strip))
  released-took n (suc m) le (inl (BySync takes lets_go asked just)) =
      let other : m + 2 ≡ n + 2 = ap (λ (o : Option Taking). elim o [ None ↦ 0 | Some t ↦ t.pod.0 ]) asked in omega (arith, other, le)
  released-took n (suc m) le (inr lost) = released-took n m (omega (arith, le)) lost

-- The last release had no cause.
abbrev last_release : Deed
last_release = sync_steps (pod_released 502 1505) 1505

abbrev last_log : List Entry
last_log = PodPut (stripped 1505 (nth_ended 500)) ∷ (after_releases 500).log

last-seen : upto 1003 last_log ≡ (after_runs 501).log
last-seen =
    let long = released-long 500 in
    upto-fixed 1003 (PodPut (stripped 1505 (nth_ended 500))) (after_releases 500).log (omega (arith, long)) ∙ released-seen 500

last-refused : AreLostWell many_listed (last_release ∷ (after_releases 500).deeds) last_log → ⊥
last-refused h = by (h (uid_of 502) 1003 (nth_ended 500) (ap (life (uid_of 502)) last-seen ∙ run-last 500) refl refl)
  where
    by : WasLost many_listed (uid_of 502) last_log (last_release ∷ (after_releases 500).deeds) → ⊥
    by (inl (ByCommand takes strip)) = true≢false (sym (ap (λ (act : Act). strips act (uid_of 0)) strip))
    by (inl (BySync takes false asked just)) =
        no-cause many_listed (ledger_of (uid_of 1) (after_releases 500).deeds last_log).records 1505 last_log takes.pod
        (λ r is. unjudged 500 last_log r last-seen (subst (λ u. record_of u (ledger_of (uid_of 1) (after_releases 500).deeds last_log).records ≡ Some r)
        (life-uid (uid_of 502) (upto (reach (after_releases 500).deeds) last_log) takes.pod takes.stood) is))
        (never-ignored takes.pod) refl just.cause
    by (inl (BySync takes true asked just)) = true≢false (sym (ap (λ (o : Option Taking). elim o [ None ↦ true | Some t ↦ t.lets_go ]) asked))
    by (inr lost) = released-took many_listed last_log 500 500 (omega arith) lost

released-next : (m : ℕ) → after_releases (suc m) ≡ with_write (sync_steps (pod_released (m + 2) (m + 1005)) (m + 1005)) (PodPut (stripped (m + 1005) (nth_ended m))) (after_releases m)
unfolding after_releases
released-next m = refl

pub left_over_released-refused : AreLostWell many_listed left_over_released.deeds left_over_released.log → ⊥
unfolding left_over_released
left_over_released-refused h = last-refused (subst (λ (w : Wrong). AreLostWell many_listed w.deeds w.log) (released-next 500) h)
