-- Each sync of a tied history can be planned.
use Rattle.std.proofs.Common.{◌≡◌, ◌≢◌, ℕ, ◌+◌, ◌<◌, ◌≤◌, ◌^◌, ◌==◌, Bool, true, false, cond, List, [], ◌∷◌, length, Option, Some, is_some, IsSome, IfSome, sym, ap, ◌∙◌, subst, arith}
use Rattle.std.specs.List.{All, AllByRecursion as Each, AllPairs}
use Rattle.std.proofs.lemmas.List.Elements.{All-from_recursion}
use Rattle.std.proofs.lemmas.List.Kept.{AllPairs-cons}
use Rattle.jc_types.specs.declared.numbers.Uid.{Uid}
use Rattle.jc_types.specs.declared.objects.Entry.{Entry}
use Rattle.jc_types.specs.declared.objects.Entry.TheVariants.{JobPut, PodPut}
use Rattle.jc_types.specs.declared.objects.Job.{Job}
use Rattle.jc_types.specs.declared.objects.Pod.{Pod}
use Rattle.jc_types.specs.declared.specifications.Mode.TheVariants.{Indexed}
use Rattle.jc_types.specs.declared.statuses.IndexCount.{IndexCount}
use Rattle.jc_states.specs.declared.bases.Basis.{Basis}
use Rattle.jc_states.specs.Bases.{CanPlan, FailuresFit, CountsByIndex, TotalsFit, own_pods}
use Rattle.jc_log.specs.Deeds.{Deed}
use Rattle.jc_types.specs.Keys.{same_key}
use Rattle.jc_log.specs.Log.{Live, entry_at, job_in, life, pods_in, pods_of, upto}
use Rattle.jc_states.specs.PodLists.{RisesFrom}
use Rattle.jc_states.specs.Indexes.{HasSmallIndex}
use Rattle.jc_types.specs.ValidSpecs.{IsValidSpec}
use Rattle.jc_log.specs.Writes.{Allowed, Stored, Writes}
use Rattle.jc_types.proofs.ListFacts.{Each-filter, Each-weaker}
use Rattle.std.proofs.lemmas.Option.{same_Some}
use Rattle.jc_log.proofs.CountFacts.{births_within, pods_in-few}
use Rattle.jc_log.proofs.LogFacts.{entry_at-upto, length-upto}
use Rattle.jc_log.proofs.PlaceFacts.{life-entry, life-place}
use Rattle.jc_log.proofs.PodFacts.{pods_in-live}
use Rattle.jc_states.proofs.PodListFacts.{rises-each}
use Rattle.jc_log.proofs.WriteFacts.{Follows-upto, Stored-from_legal}
use Rattle.jc_plan.proofs.Owned.{filter-least as filter-few}
use Rattle.jc_ledger.specs.declared.flights.Flight.{Flight}
use Rattle.jc_ledger.specs.Flights.{IsBasisOf}
use Rattle.jc_ledger.specs.Tied.{HasOrderedLists, Tied, made_as}
use Rattle.jc_ledger.proofs.FrameFacts.{owner_made}
use Rattle.jc_ledger.proofs.MadeFacts.{WasMade, job_in-was_made, made_as-upto}
use Rattle.jc_ledger.proofs.OwnFacts.{basis-rises, own-is, own-live}
use Rattle.jc_ledger.proofs.PutFacts.{ties_of}
use Rattle.jc_ledger.proofs.QuietFacts.{seen_job-entry}
use Rattle.jc_sync.specs.Plannable.{FitsIn, IsPlannable}

-- ---- one more entry

pub plannable_more : (e : Entry) (log : List Entry) → IsPlannable log → FitsIn e → IsPlannable (e ∷ log)
plannable_more e log p fits = record {
  valid = λ v job is. valid_at v job (length (e ∷ log) == v) is;
  indexes = λ v pod is. indexes_at v pod (length (e ∷ log) == v) is;
}
  where
    valid_at : (v : ℕ) (job : Job) (b : Bool) → cond b (Some e) (entry_at v log) ≡ Some (JobPut job) → IsValidSpec job.spec
    valid_at v job true is = subst FitsIn (same_Some e (JobPut job) is) fits
    valid_at v job false is = p.valid v job is

    indexes_at : (v : ℕ) (pod : Pod) (b : Bool) → cond b (Some e) (entry_at v log) ≡ Some (PodPut pod) → HasSmallIndex pod
    indexes_at v pod true is = subst FitsIn (same_Some e (PodPut pod) is) fits
    indexes_at v pod false is = p.indexes v pod is

-- ---- a basis

-- The parts of a plan's condition that the log gives.
pub record IsReady (log : List Entry) (basis : Basis) (job : Job) : Type 0 where
  pub valid : IsValidSpec job.spec
  pub tidy : CountsByIndex job basis.pods
  pub totals : length log < 2 ^ 32 → TotalsFit job basis.pods
  pub fails : length log < 2 ^ 32 → FailuresFit job basis.pods
  pub few : length basis.pods ≤ length log

pub ready : (deeds : List Deed) (log : List Entry) (flights : List Flight) (basis : Basis) (job : Job) → Tied deeds log flights → IsPlannable log → IsBasisOf log basis → basis.job ≡ Some job → IsReady log basis job
ready deeds log flights basis job t p is saw = record {
  valid = p.valid job.version.0 job entry;
  tidy = λ mode. (tidy.none mode, All-from_recursion (λ (pod : Pod). IsSome pod.index) (own_pods job basis.pods) (subst (Each (λ pod. IsSome pod.index)) (sym (own-is log basis job t.legal is saw)) (indexed mode)));
  totals = λ short. let at = t.totals job.version.0 job entry in let f = at.failed in let s = at.succeeded in (omega (arith, s, few_pods, short), omega (arith, f, few_pods, short));
  fails = λ short. record {
    ascending = tidy.counts;
    fit =
        All-from_recursion (λ (count : IndexCount). count.failures + length basis.pods < 2 ^ 64) job.status.index_failures
        (Each-weaker (λ (count : IndexCount). count.failures ≤ length log) (λ (count : IndexCount). count.failures + length basis.pods < 2 ^ 64)
        (λ count le. omega (arith, le, few_pods, short)) job.status.index_failures (t.totals job.version.0 job entry).failures);
  };
  few = few_pods;
}
  where
    stored : Stored log
    stored = Stored-from_legal log t.legal

    there : job_in basis.key (upto basis.jobs_at.0 log) ≡ Some job
    there = sym is.job ∙ saw

    entry : entry_at job.version.0 log ≡ Some (JobPut job)
    entry = seen_job-entry basis.key basis.jobs_at.0 log job t.legal is.jobs_at there

    was : WasMade (upto basis.jobs_at.0 log) job
    was = job_in-was_made basis.key (upto basis.jobs_at.0 log) job (Follows-upto Writes basis.jobs_at.0 log stored) there

    is_made : made_as was.made.uid log ≡ Some was.made
    is_made = made_as-upto was.made.uid basis.jobs_at.0 log was.made (ap (λ j. made_as j (upto basis.jobs_at.0 log)) (sym was.step.uid) ∙ was.is_made)

    tidy : HasOrderedLists job
    tidy = (ties_of deeds log flights was.made t is_made).tidy job.version.0 job entry was.step.uid

    few_pods : length basis.pods ≤ length log
    few_pods =
        let long = length-upto basis.pods_at.0 log is.pods_at in
        let all = pods_in-few (upto basis.pods_at.0 log) (Follows-upto Writes basis.pods_at.0 log stored) in
        let born = births_within (upto basis.pods_at.0 log) in
        let own = filter-few (λ (pod : Pod). same_key pod.owner basis.key) (pods_in (upto basis.pods_at.0 log)) in
        let same = ap (λ (l : List Pod). length l) is.pods in
        let le = is.pods_at in
        omega (arith, long, all, born, own, same, le)

    indexed : job.spec.mode ≡ Indexed → Each (λ pod. IsSome pod.index) (pods_of job.uid (upto basis.pods_at.0 log))
    indexed mode =
        Each-weaker (λ pod. (life pod.uid (upto basis.pods_at.0 log) ≡ Live pod) × (pod.owner_uid ≡ job.uid)) (λ pod. IsSome pod.index)
        (λ pod at. one pod at.0 at.1) (pods_of job.uid (upto basis.pods_at.0 log)) (own-live job.uid (upto basis.pods_at.0 log))
      where
        one : (pod : Pod) → life pod.uid (upto basis.pods_at.0 log) ≡ Live pod → pod.owner_uid ≡ job.uid → IsSome pod.index
        one pod live own =
            let under = owner_made pod.uid (upto basis.pods_at.0 log) pod (Follows-upto Allowed basis.pods_at.0 log t.legal) live in
            let seen = subst (λ (o : Option Job). IfSome o (λ m. m.spec.mode ≡ Indexed → is_some pod.index ≡ true)) under.is_made (t.numbered basis.pods_at.0 pod.uid pod live) in
            let first : Some under.made ≡ Some was.made =
            sym (made_as-upto pod.owner_uid basis.pods_at.0 log under.made under.is_made) ∙ ap (λ j. made_as j log) (own ∙ was.step.uid) ∙ is_made in
            seen (ap (λ (m : Job). m.spec.mode) (same_Some under.made was.made first) ∙ sym was.step.mode ∙ mode)

-- ---- all that a plan needs

-- Pods in ascending UID are distinct.
rising-apart : (low : ℕ) (pods : List Pod) → RisesFrom low pods → AllPairs (λ (pod other : Pod). pod.uid ≢ other.uid) pods
rising-apart low [] rises = λ i j e before within. absurd (omega (arith, within))
rising-apart low (p ∷ pods) rises =
    AllPairs-cons (λ (pod other : Pod). pod.uid ≢ other.uid) p pods
    (All-from_recursion (λ (q : Pod). p.uid ≢ q.uid) pods
    (Each-weaker (λ (q : Pod). p.uid.0 + 1 ≤ q.uid.0) (λ (q : Pod). p.uid ≢ q.uid) (λ q above e. let same = ap (λ (u : Uid). u.0) e in omega (arith, above, same)) pods (rises-each (p.uid.0 + 1) pods rises.1)))
    (rising-apart (p.uid.0 + 1) pods rises.1)

-- The pods of a basis have small indexes.
indexes-small : (log : List Entry) (basis : Basis) → Stored log → IsPlannable log → IsBasisOf log basis → All (λ pod. HasSmallIndex pod) basis.pods
indexes-small log basis stored p is =
    All-from_recursion (λ (pod : Pod). HasSmallIndex pod) basis.pods
    (subst (Each (λ (pod : Pod). HasSmallIndex pod)) (sym is.pods)
    (Each-filter (λ (pod : Pod). HasSmallIndex pod) (λ pod. same_key pod.owner basis.key) (pods_in (upto basis.pods_at.0 log))
    (Each-weaker (λ (pod : Pod). life pod.uid (upto basis.pods_at.0 log) ≡ Live pod) (λ (pod : Pod). HasSmallIndex pod)
    (λ pod live. p.indexes pod.version.0 pod (put pod live)) (pods_in (upto basis.pods_at.0 log)) (pods_in-live (upto basis.pods_at.0 log)))))
  where
    put : (pod : Pod) → life pod.uid (upto basis.pods_at.0 log) ≡ Live pod → entry_at pod.version.0 log ≡ Some (PodPut pod)
    put pod live =
        let before = Follows-upto Writes basis.pods_at.0 log stored in
        let long = length-upto basis.pods_at.0 log is.pods_at in
        let place = life-place pod.uid (upto basis.pods_at.0 log) pod before live in
        sym (entry_at-upto pod.version.0 basis.pods_at.0 log (omega (arith, long, place))) ∙ life-entry pod.uid (upto basis.pods_at.0 log) pod before live

-- With a log that is not too long, and failures of the key that are counted within it.
pub can_plan : (deeds : List Deed) (log : List Entry) (flights : List Flight) (basis : Basis) (job : Job) → Tied deeds log flights → IsPlannable log → IsBasisOf log basis → basis.job ≡ Some job
    → length log < 2 ^ 31 → basis.backoff.failures ≤ 2 ^ 63 → (0 < basis.backoff.failures → IsSome basis.backoff.last) → CanPlan basis
can_plan deeds log flights basis job t p is saw short failures last =
    let r = ready deeds log flights basis job t p is saw in
    let few = r.few in
    record {
      there = ap is_some saw;
      valid = subst (λ (o : Option Job). IfSome o (λ j. IsValidSpec j.spec)) (sym saw) r.valid;
      by_index = subst (λ (o : Option Job). IfSome o (λ j. CountsByIndex j basis.pods)) (sym saw) r.tidy;
      totals = subst (λ (o : Option Job). IfSome o (λ j. TotalsFit j basis.pods)) (sym saw) (r.totals (omega (arith, short)));
      index_failures = subst (λ (o : Option Job). IfSome o (λ j. FailuresFit j basis.pods)) (sym saw) (r.fails (omega (arith, short)));
      distinct = rising-apart 0 basis.pods (basis-rises log basis is);
      indexes = indexes-small log basis (Stored-from_legal log t.legal) p is;
      few = omega (arith, few, short);
      failures = omega (arith, few, short, failures);
      last = last;
    }
