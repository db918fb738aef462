-- Each total of a Job with its list is at most the number of the log's entries, at every version.
use Rattle.std.proofs.Common.{◌≡◌, ℕ, suc, ◌+◌, ◌≤◌, ◌==◌, Bool, true, false, cond, not, List, ◌∷◌, length, Option, Some, refl, sym, ap, subst, arith}
use Rattle.std.proofs.lemmas.List.Filters.{length-filter_both}
use Rattle.std.proofs.lemmas.Option.{same_Some}
use Rattle.jc_types.specs.declared.numbers.Uid.{Uid}
use Rattle.jc_types.specs.declared.objects.Entry.{Entry}
use Rattle.jc_types.specs.declared.objects.Entry.TheVariants.{JobPut}
use Rattle.jc_types.specs.declared.objects.Job.{Job}
use Rattle.jc_types.specs.declared.specifications.Mode.{Mode}
use Rattle.jc_types.specs.declared.specifications.Mode.TheVariants.{NonIndexed, Indexed}
use Rattle.jc_log.specs.Deeds.{Deed}
use Rattle.jc_types.specs.declared.statuses.IndexCount.{IndexCount}
use Rattle.jc_types.proofs.ListFacts.{Each-weaker}
use Rattle.jc_log.specs.Log.{entry_at}
use Rattle.jc_log.specs.Writes.{Legal}
use Rattle.jc_log.proofs.WriteFacts.{Stored-from_legal}
use Rattle.jc_failpol.specs.declared.outcomes.Outcome.{Outcome}
use Rattle.jc_failpol.specs.declared.outcomes.Outcome.TheVariants.{Succeeded, Failed}
use Rattle.jc_failpol.specs.Outcomes.{same_outcome}
use Rattle.jc_ledger.specs.Ledger.{Record, judged_as, Ledger, ledger_of}
use Rattle.jc_ledger.specs.Tied.{made_as, HasOrderedLists, IsCurrent, TiesJob, Ties, TotalsWithin, TotalsAreWithin}
use Rattle.jc_ledger.proofs.FailFacts.{says-few}
use Rattle.jc_ledger.proofs.DistinctFacts.{ledger_of-distinct}
use Rattle.jc_ledger.proofs.MadeFacts.{WasMade, put-was_made}
use Rattle.jc_ledger.proofs.PutFacts.{job_in-newest}
use Rattle.jc_ledger.proofs.VerdictBounds.{few_done, few_records}

-- What is within a number is within a greater one.
pub TotalsWithin-more : (m n : ℕ) (job : Job) → m ≤ n → TotalsWithin m job → TotalsWithin n job
TotalsWithin-more m n job le t =
    let failed = t.failed in
    let succeeded = t.succeeded in
    record {
      failed = omega (arith, failed, le);
      succeeded = omega (arith, succeeded, le);
      failures =
          Each-weaker (λ (count : IndexCount). count.failures ≤ m) (λ (count : IndexCount). count.failures ≤ n) (λ count q. omega (arith, q, le)) job.status.index_failures t.failures;
    }

-- The records with an outcome are among all.
few_judged : (outcome : Outcome) (records : List Record) → length (judged_as outcome records) ≤ length records
few_judged outcome records =
    let test = λ (r : Record). same_outcome r.outcome outcome in
    let both = length-filter_both test (λ r. not (test r)) (λ r. refl) records in
    omega (arith, both)

-- So it is of the Job as it is now.
totals_now : (log : List Entry) (ledger : Ledger) (job : Job) (n : ℕ) → HasOrderedLists job → IsCurrent log ledger job → length ledger.records ≤ n → length ledger.done ≤ n → TotalsWithin n job
totals_now log ledger job n lists now records few = record {
  failed = failed;
  succeeded = by job.spec.mode refl;
  failures = says-few job.spec.per_index job ledger n records now.by_index;
}
  where
    failed : job.status.failed + length job.status.uncounted_failed ≤ n
    failed = let is = now.failed in let le = few_judged Failed ledger.records in omega (arith, is, le, records)

    by : (m : Mode) → job.spec.mode ≡ m → job.status.succeeded + length job.status.uncounted_succeeded ≤ n
    by NonIndexed mode = let is = now.succeeded mode in let le = few_judged Succeeded ledger.records in omega (arith, is, le, records)
    by Indexed mode =
        let size = lists.size mode in
        let none : length job.status.uncounted_succeeded ≡ 0 = ap (λ (uids : List Uid). length uids) (lists.none mode) in
        let done : length job.status.completed ≡ length ledger.done = ap (λ (l : List ℕ). length l) (now.completed mode) in
        omega (arith, size, none, done, few)

-- So it is of the Job that the newest entry puts.
totals_new : (v : ℕ) (log : List Entry) (job : Job) (ledger : Ledger) (n : ℕ) → Legal (JobPut job ∷ log) → entry_at v (JobPut job ∷ log) ≡ Some (JobPut job)
    → Ties (made_as job.uid (JobPut job ∷ log)) (JobPut job ∷ log) ledger → length ledger.records ≤ n → length ledger.done ≤ n → TotalsWithin n job
totals_new v log job ledger n legal is ties records few =
    let was : WasMade (JobPut job ∷ log) job = put-was_made v (JobPut job ∷ log) job (Stored-from_legal (JobPut job ∷ log) legal) is in
    let own : TiesJob was.made (JobPut job ∷ log) ledger = subst (λ (o : Option Job). Ties o (JobPut job ∷ log) ledger) was.is_made ties in
    totals_now (JobPut job ∷ log) ledger job n (own.tidy v job is was.step.uid)
    (own.now job (job_in-newest was.made.key log job was.step.key) was.step.uid) records few

-- So it is of every Job that was put, after one more entry.
pub totals_more : (d : Deed) (past : List Deed) (e : Entry) (log : List Entry) → Legal (e ∷ log)
    → ((j : Uid) → Ties (made_as j (e ∷ log)) (e ∷ log) (ledger_of j (d ∷ past) (e ∷ log)))
    → TotalsAreWithin log → TotalsAreWithin (e ∷ log)
totals_more d past e log legal ties old v job is = by (length (e ∷ log) == v) is
  where
    newest : (f : Entry) → f ≡ JobPut job → Legal (f ∷ log) → entry_at v (f ∷ log) ≡ Some (JobPut job) → ((j : Uid) → Ties (made_as j (f ∷ log)) (f ∷ log) (ledger_of j (d ∷ past) (f ∷ log)))
        → TotalsWithin (suc (length log)) job
    newest f same =
        subst (λ (g : Entry). Legal (g ∷ log) → entry_at v (g ∷ log) ≡ Some (JobPut job) → ((j : Uid) → Ties (made_as j (g ∷ log)) (g ∷ log) (ledger_of j (d ∷ past) (g ∷ log))) → TotalsWithin (suc (length log)) job)
        (sym same)
        (λ l at all.
        totals_new v log job (ledger_of job.uid (d ∷ past) (JobPut job ∷ log)) (suc (length log)) l at (all job.uid) (few_records job.uid (d ∷ past) (JobPut job ∷ log) (ledger_of-distinct job.uid (d ∷ past) (JobPut job ∷ log)))
        (few_done job.uid (d ∷ past) (JobPut job ∷ log)))

    by : (b : Bool) → cond b (Some e) (entry_at v log) ≡ Some (JobPut job) → TotalsWithin (suc (length log)) job
    by true g = newest e (same_Some e (JobPut job) g) legal is ties
    by false g = TotalsWithin-more (length log) (suc (length log)) job (omega arith) (old v job g)
