-- What the wrong histories are refused by: worked out.
use Rattle.std.proofs.Common.{◌≡◌, ℕ, ◌==◌, Bool, true, false, cond, ◌||◌, List, [], ◌∷◌, drop, length, map, Option, Some, None, is_some, inl, inr, refl, sym, ap, ◌∙◌, subst, arith, true≢false}
use Rattle.std.specs.List.{AllByRecursion as Each, range_with_len}
use Rattle.std.proofs.lemmas.List.{length-map}
use Rattle.std.proofs.lemmas.List.FromFn.{length-range_with_len}
use Rattle.std.proofs.lemmas.Bool.{or_left, or_right}
use Rattle.jc_types.specs.declared.numbers.Uid.{Uid}
use Rattle.jc_types.specs.declared.objects.Entry.{Entry}
use Rattle.jc_types.specs.declared.objects.Entry.TheVariants.{JobPut, JobGone, PodPut, PodGone}
use Rattle.jc_types.specs.declared.objects.Job.{Job}
use Rattle.jc_types.specs.declared.objects.Phase.TheVariants as phase
use Rattle.jc_types.specs.declared.objects.Pod.{Pod}
use Rattle.jc_types.specs.declared.specifications.Mode.TheVariants.{Indexed, NonIndexed}
use Rattle.jc_causes.specs.Conditions.{has_target}
use Rattle.jc_types.specs.declared.statuses.IndexCount.{IndexCount}
use Rattle.jc_log.specs.Acts.{Act}
use Rattle.jc_log.specs.Acts as does
use Rattle.jc_log.specs.Deeds.{Deed}
use Rattle.jc_log.specs.Log.{Life, Live, Gone, Never, entry_at}
use Rattle.jc_plan.specs.Outcome.TheVariants as outcome
use Rattle.jc_plan.specs.Outcomes.{outcome_of, same_outcome}
use Rattle.jc_runs.specs.Ledger.{Record, record_of}
use Rattle.jc_runs.specs.Once.{Cause, IsIgnored, NeedsNone, OnceAtEach, PutBefore, WasActive, WasJudged, taking_of}
use Rattle.jc_runs.specs.Syncs.{request_of}
use Rattle.jc_rest.specs.Lost.{AreLostWell, ByCommand, BySync, HowLost, WasLost}
use Rattle.jc_history.specs.Samples.{failing_spec, pi_key, sample_spec, uid_of}
use Rattle.jc_promise.specs.Wrong.{in_phase, pi_job, pi_pod}
use Rattle.jc_promise.specs.WrongCounts.{early_release, early_total, recount, stale_pod_cache, stale_write}
use Rattle.jc_promise.specs.WrongIndexes.{crowded_list, failures_anew, index_past, index_unfailed, unseen_release}
use Rattle.jc_promise.specs.WrongOutcomes.{early_fail_job, failing_pod, finalizer_vanishes, ignored_counted, index_twice, suspended_counted}

-- ---- no cause

-- A pod that was not judged, is not ignored and was not let go has none, where its Job is no Indexed one.
pub no-cause : (job : Job) (records : List Record) (w : ℕ) (log : List Entry) (pod : Pod) → ((r : Record) → record_of pod.uid records ≡ Some r → ⊥)
    → same_outcome (outcome_of job.spec pod) outcome.Ignored ≡ false → job.spec.mode ≡ NonIndexed → Cause job records w log false pod → ⊥
no-cause job records w log pod unjudged counts plain (WasJudged r is lt) = unjudged r is
no-cause job records w log pod unjudged counts plain (IsIgnored e) = true≢false (sym (ap (λ o. same_outcome o outcome.Ignored) e) ∙ counts)
no-cause job records w log pod unjudged counts plain (WasActive e f) = true≢false (sym e)
no-cause job records w log pod unjudged counts plain (NeedsNone e f put) = no-mode (sym plain ∙ e)
  where
    no-mode : NonIndexed ≡ Indexed → ⊥
    no-mode e = cc

-- The log has put a Job that passes the test.
abbrev has_put : (Job → Bool) → List Entry → Bool
has_put test [] = false
has_put test (JobPut job ∷ older) = test job || has_put test older
has_put test (JobGone job ∷ older) = has_put test older
has_put test (PodPut pod ∷ older) = has_put test older
has_put test (PodGone pod ∷ older) = has_put test older

put-there : (test : Job → Bool) (v : ℕ) (put : Job) (log : List Entry) → entry_at v log ≡ Some (JobPut put) → test put ≡ true → has_put test log ≡ true
put-there test v put [] is h = absurd (true≢false (sym (ap is_some is)))
put-there test v put (x ∷ older) is h = by (length (x ∷ older) == v) is (put-there test v put older)
  where
    more : (x : Entry) → has_put test older ≡ true → has_put test (x ∷ older) ≡ true
    more (JobPut job) k = or_right (test job) (has_put test older) k
    more (JobGone job) k = k
    more (PodPut pod) k = k
    more (PodGone pod) k = k

    here : (x : Entry) → x ≡ JobPut put → has_put test (x ∷ older) ≡ true
    here x e = subst (λ (y : Entry). has_put test (y ∷ older) ≡ true) (sym e) (or_left (test put) (has_put test older) h)

    by : (b : Bool) → cond b (Some x) (entry_at v older) ≡ Some (JobPut put) → (entry_at v older ≡ Some (JobPut put) → test put ≡ true → has_put test older ≡ true) → has_put test (x ∷ older) ≡ true
    by true e ih = here x (ap (λ (o : Option Entry). elim o [ None ↦ x | Some y ↦ y ]) e)
    by false e ih = more x (ih e h)

no-target : (job : Job) (w : ℕ) (log : List Entry) → has_put (λ put. has_target put.status.conditions) log ≡ false → PutBefore (λ put. has_target put.status.conditions ≡ true) job.uid w log → ⊥
no-target job w log none put = true≢false (sym (put-there (λ p. has_target p.status.conditions) put.version put.put log put.is_put put.holds) ∙ none)

-- ---- no deed took it

abbrev pub strips : Act → Uid → Bool
strips (does.Strip v) u = true
strips other u = false

-- The deed is a strip, a release or a let-go.
abbrev pub may_take : Deed → Bool
may_take d = strips d.act (uid_of 0) || is_some (taking_of (request_of d.reply))

pub not-taken : (job : Job) (u : Uid) (log : List Entry) (d : Deed) (past : List Deed) → may_take d ≡ false → HowLost job u log d past → ⊥
not-taken job u log d past none (ByCommand takes strip) =
    true≢false (sym (or_left (strips d.act (uid_of 0)) (is_some (taking_of (request_of d.reply))) (ap (λ (act : Act). strips act (uid_of 0)) strip)) ∙ none)
not-taken job u log d past none (BySync takes lets_go asked just) =
    true≢false (sym (or_right (strips d.act (uid_of 0)) (is_some (taking_of (request_of d.reply))) (ap is_some asked)) ∙ none)

pub none-took : (job : Job) (u : Uid) (log : List Entry) (deeds : List Deed) → Each (λ d. may_take d ≡ false) deeds → WasLost job u log deeds → ⊥
none-took job u log [] none lost = absurd lost
none-took job u log (d ∷ past) none (inl took) = not-taken job u log d past none.0 took
none-took job u log (d ∷ past) none (inr lost) = none-took job u log past none.1 lost

-- ---- counts

pub early_release-refused : OnceAtEach early_release.deeds early_release.log → ⊥
early_release-refused h =
    no-cause (pi_job sample_spec) [] 4 early_release.log (in_phase phase.Succeeded 3 (pi_pod 2 None 2)) (λ r is. true≢false (sym (ap is_some is))) refl refl
    ((h.0 pi_key (pi_job sample_spec) refl).taken.0 refl (in_phase phase.Succeeded 3 (pi_pod 2 None 2)) refl refl).cause

-- Nor does it tell how the finalizer was lost.
abbrev before_release : List Deed
before_release = drop 1 early_release.deeds

pub early_release-unlost : AreLostWell (pi_job sample_spec) early_release.deeds early_release.log → ⊥
early_release-unlost h = by (h (uid_of 2) 3 (in_phase phase.Succeeded 3 (pi_pod 2 None 2)) refl refl refl)
  where
    live : Life → Pod
    live Never = pi_pod 2 None 2
    live (Live pod) = pod
    live Gone = pi_pod 2 None 2

    by : WasLost (pi_job sample_spec) (uid_of 2) early_release.log early_release.deeds → ⊥
    by (inl (ByCommand takes strip)) = true≢false (sym (ap (λ (act : Act). strips act (uid_of 0)) strip))
    by (inl (BySync takes false asked just)) =
        no-cause (pi_job sample_spec) [] 4 early_release.log takes.pod (λ r is. true≢false (sym (ap is_some is))) (ap (λ l. same_outcome (outcome_of sample_spec (live l)) outcome.Ignored) (sym takes.stood)) refl just.cause
    by (inl (BySync takes true asked just)) = true≢false (sym (ap (λ o. elim o [ None ↦ true | Some t ↦ t.lets_go ]) asked))
    by (inr lost) = none-took (pi_job sample_spec) (uid_of 2) early_release.log before_release (refl, (refl, (refl, (refl, (refl, tt))))) lost

pub early_total-refused : OnceAtEach early_total.deeds early_total.log → ⊥
early_total-refused h =
    true≢false (sym ((h.0 pi_key _ refl).unlisted (uid_of 2)
    (record { pod = in_phase phase.Succeeded 3 (pi_pod 2 None 2); outcome = outcome.Succeeded; seen = 3; at = 4 }) refl refl refl))

pub stale_pod_cache-refused : OnceAtEach stale_pod_cache.deeds stale_pod_cache.log → ⊥
stale_pod_cache-refused h = let e : 2 ≡ 1 = (h.0 pi_key _ refl).succeeded refl in omega (arith, e)

pub stale_write-refused : OnceAtEach stale_write.deeds stale_write.log → ⊥
stale_write-refused h = let e : 1 ≡ 2 = (h.0 pi_key _ refl).succeeded refl in omega (arith, e)

pub recount-refused : OnceAtEach recount.deeds recount.log → ⊥
recount-refused h = let e : 1 ≡ 0 = (h.0 pi_key _ refl).succeeded refl in omega (arith, e)

-- ---- outcomes

pub index_twice-refused : OnceAtEach index_twice.deeds index_twice.log → ⊥
index_twice-refused h = let e : 2 ≡ 1 = (h.0 pi_key _ refl).size refl in omega (arith, e)

pub ignored_counted-refused : OnceAtEach ignored_counted.deeds ignored_counted.log → ⊥
ignored_counted-refused h = let e : 1 ≡ 0 = (h.0 pi_key _ refl).failed in omega (arith, e)

pub suspended_counted-refused : OnceAtEach suspended_counted.deeds suspended_counted.log → ⊥
suspended_counted-refused h = let e : 1 ≡ 0 = (h.0 pi_key _ refl).failed in omega (arith, e)

pub early_fail_job-refused : OnceAtEach early_fail_job.deeds early_fail_job.log → ⊥
early_fail_job-refused h =
    no-target (pi_job failing_spec) 5 early_fail_job.log refl (((h.0 pi_key _ refl).taken.0 refl failing_pod refl refl).target refl)

pub finalizer_vanishes-refused : AreLostWell (pi_job sample_spec) finalizer_vanishes.deeds finalizer_vanishes.log → ⊥
finalizer_vanishes-refused h =
    none-took (pi_job sample_spec) (uid_of 2) finalizer_vanishes.log finalizer_vanishes.deeds (refl, (refl, (refl, (refl, tt))))
    (h (uid_of 2) 2 (pi_pod 2 None 2) refl refl refl)

-- ---- indexes

abbrev first-failures : List IndexCount → ℕ
first-failures [] = 0
first-failures (count ∷ counts) = count.failures

pub failures_anew-refused : OnceAtEach failures_anew.deeds failures_anew.log → ⊥
failures_anew-refused h =
    let e : 1 ≡ 2 = ap first-failures (h.0 pi_key _ refl).by_index.0 in omega (arith, e)

pub index_unfailed-refused : OnceAtEach index_unfailed.deeds index_unfailed.log → ⊥
index_unfailed-refused h = let e : 0 ≡ 1 = ap (λ (l : List ℕ). length l) (h.0 pi_key _ refl).by_index.1 in omega (arith, e)

pub index_past-refused : OnceAtEach index_past.deeds index_past.log → ⊥
index_past-refused h = let e : 1 ≡ 0 = ap (λ (l : List ℕ). length l) ((h.0 pi_key _ refl).completed refl) in omega (arith, e)

-- ---- a pod that runs, and lists

pub unseen_release-refused : OnceAtEach unseen_release.deeds unseen_release.log → ⊥
unseen_release-refused h =
    no-cause (pi_job sample_spec) [] 3 unseen_release.log (pi_pod 2 None 2) (λ r is. true≢false (sym (ap is_some is))) refl refl
    ((h.0 pi_key (pi_job sample_spec) refl).taken.0 refl (pi_pod 2 None 2) refl refl).cause

pub crowded_list-refused : OnceAtEach crowded_list.deeds crowded_list.log → ⊥
crowded_list-refused h =
    let few = (h.0 pi_key _ refl).few in
    let long : length (map uid_of (range_with_len 2 501)) ≡ 501 = length-map (range_with_len 2 501) uid_of ∙ length-range_with_len 2 501 in
    omega (arith, few, long)
