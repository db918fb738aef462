-- A ledger is fixed: later entries do not change what earlier deeds judged, and deeds that write no status do
-- not change it.
use Rattle.std.proofs.Common.{◌≡◌, ℕ, ◌≤◌, Bool, true, false, cond, ◌&&◌, List, [], ◌∷◌, length, find, Option, Some, None, is_some, refl, sym, ap, ◌∙◌, subst, arith, true≢false}
use Rattle.std.specs.Prelude.{IfSome, option_and_then, option_map}
use Rattle.std.specs.List.{AllByRecursion as Each}
use Rattle.std.proofs.lemmas.Bool.{cond-false}
use Rattle.std.proofs.lemmas.Option.{IfSome_then}
use Rattle.jc_types.specs.declared.numbers.Uid.{Uid}
use Rattle.jc_types.specs.declared.objects.Entry.{Entry}
use Rattle.jc_types.specs.declared.objects.Job.{Job}
use Rattle.jc_log.specs.Deeds.{Deed}
use Rattle.jc_types.specs.Keys.{same_uid}
use Rattle.jc_log.specs.Log.{upto, job_in, pods_of}
use Rattle.jc_types.proofs.ListFacts.{Each-weaker, find_each}
use Rattle.jc_log.proofs.LogFacts.{upto-fixed}
use Rattle.jc_ledger.specs.Ledger.{Ledger, Judging, entered, is_status, judging_at, judging_of, judged_by, ledger_of}
use Rattle.jc_ledger.specs.Syncs.{reach, Began, began_of, is_begin, began_by, sync_of, stepper, request_of, step_sync, appends}
use Rattle.jc_ledger.specs.Tied.{StandsWithin, IsReached}

-- What began in the deeds is within the first n entries.
abbrev pub AllWithin : ℕ → List Deed → Type 0
AllWithin n deeds = Each (λ d. IfSome (began_of d.reply) (StandsWithin n)) deeds

-- It is within more entries, too.
pub AllWithin-more : (m n : ℕ) (deeds : List Deed) → m ≤ n → AllWithin m deeds → AllWithin n deeds
AllWithin-more m n deeds le h =
    Each-weaker (λ d. IfSome (began_of d.reply) (StandsWithin m)) (λ d. IfSome (began_of d.reply) (StandsWithin n))
    (λ d w. IfSome_then (began_of d.reply) {P = StandsWithin m} {Q = StandsWithin n} w (λ began p. (omega (arith, p.0, le), omega (arith, p.1, le)))) deeds h

-- The lengths that the deeds tell end with that of the log.
pub reach-is : (deeds : List Deed) (n : ℕ) → IsReached deeds n → reach deeds ≡ n
reach-is [] n h = sym h
reach-is (d ∷ past) n h = h.0

-- With what the worker's sync began by a deed is what the deed's reply says.
began_by-within : (n c w : ℕ) (d : Deed) (began : Began) → IfSome (began_of d.reply) (StandsWithin n) → began_by c w d ≡ Some began → StandsWithin n began
began_by-within n c w d began h is = by (is_begin c w d.act) is
  where
    by : (b : Bool) → cond b (began_of d.reply) None ≡ Some began → StandsWithin n began
    by true g = subst (λ o. IfSome o (StandsWithin n)) g h
    by false g = absurd (true≢false (sym (ap is_some g)))

-- A worker's sync began within the log.
sync_of-within : (n c w : ℕ) (past : List Deed) (began : Began) → AllWithin n past → sync_of c w past ≡ Some began → StandsWithin n began
sync_of-within n c w past began all is = by (find (λ d. is_some (began_by c w d)) past) refl is
  where
    by : (o : Option Deed) → find (λ d. is_some (began_by c w d)) past ≡ o → option_and_then (began_by c w) o ≡ Some began → StandsWithin n began
    by None found g = absurd (true≢false (sym (ap is_some g)))
    by (Some d) found g =
        began_by-within n c w d began (find_each (λ d. IfSome (began_of d.reply) (StandsWithin n)) (λ d. is_some (began_by c w d)) past d all found) g

-- The sync of a step began within the log.
pub step_sync-within : (n : ℕ) (d : Deed) (past : List Deed) (began : Began) → AllWithin n past → step_sync d past ≡ Some began → StandsWithin n began
step_sync-within n d past began all is = by (stepper d.act) is
  where
    by : (o : Option (ℕ × ℕ)) → option_and_then (λ worker. sync_of worker.0 worker.1 past) o ≡ Some began → StandsWithin n began
    by None g = absurd (true≢false (sym (ap is_some g)))
    by (Some worker) g = sync_of-within n worker.0 worker.1 past began all g

-- What a write judges whose sync began within the log is fixed.
judging_at-more : (v : ℕ) (e : Entry) (log : List Entry) (began : Began) → StandsWithin (length log) began → judging_at v (e ∷ log) began ≡ judging_at v log began
judging_at-more v e log began h =
    ap (λ l. option_map (λ (job : Job). record { job = job; seen = began.pods_at; at = v }) (job_in began.key l)) (upto-fixed began.jobs_at e log h.0)

-- What a deed judges is fixed.
pub judging_of-more : (d : Deed) (past : List Deed) (e : Entry) (log : List Entry) → AllWithin (length log) past → judging_of d past (e ∷ log) ≡ judging_of d past log
judging_of-more d past e log all =
    ap (λ o. cond (is_status (request_of d.reply) && appends d past) o None) (by (step_sync d past) refl)
  where
    by : (o : Option Began) → step_sync d past ≡ o → option_and_then (judging_at d.length.0 (e ∷ log)) o ≡ option_and_then (judging_at d.length.0 log) o
    by None is = refl
    by (Some began) is = judging_at-more d.length.0 e log began (step_sync-within (length log) d past began all is)

-- A write judges pods as they stood within the log.
judging_of-within : (n : ℕ) (d : Deed) (past : List Deed) (log : List Entry) → AllWithin n past → IfSome (judging_of d past log) (λ judging. judging.seen ≤ n)
judging_of-within n d past log all = by (is_status (request_of d.reply) && appends d past)
  where
    of_job : (began : Began) → StandsWithin n began → (o : Option Job) → IfSome (option_map (λ (job : Job). record { job = job; seen = began.pods_at; at = d.length.0 }) o) (λ (judging : Judging). judging.seen ≤ n)
    of_job began h None = tt
    of_job began h (Some job) = h.1

    sync : (o : Option Began) → step_sync d past ≡ o → IfSome (option_and_then (judging_at d.length.0 log) o) (λ judging. judging.seen ≤ n)
    sync None is = tt
    sync (Some began) is = of_job began (step_sync-within n d past began all is) (job_in began.key (upto began.jobs_at log))

    by : (b : Bool) → IfSome (cond b (option_and_then (judging_at d.length.0 log) (step_sync d past)) None) (λ judging. judging.seen ≤ n)
    by true = sync (step_sync d past) refl
    by false = tt

-- What a write makes of a ledger is fixed.
judged_by-more : (j : Uid) (e : Entry) (log : List Entry) (o : Option Judging) (ledger : Ledger) → IfSome o (λ judging. judging.seen ≤ length log) → judged_by j (e ∷ log) o ledger ≡ judged_by j log o ledger
judged_by-more j e log None ledger h = refl
judged_by-more j e log (Some judging) ledger h =
    ap (λ l. cond (same_uid judging.job.uid j) (entered judging.job (pods_of j l) judging.seen judging.at ledger) ledger) (upto-fixed judging.seen e log h)

-- A ledger is fixed.
pub ledger_of-more : (j : Uid) (deeds : List Deed) (e : Entry) (log : List Entry) → AllWithin (length log) deeds → ledger_of j deeds (e ∷ log) ≡ ledger_of j deeds log
ledger_of-more j [] e log all = refl
ledger_of-more j (d ∷ past) e log all =
    ap (λ o. judged_by j (e ∷ log) o (ledger_of j past (e ∷ log))) (judging_of-more d past e log all.1)
    ∙ ap (judged_by j (e ∷ log) (judging_of d past log)) (ledger_of-more j past e log all.1)
    ∙ judged_by-more j e log (judging_of d past log) (ledger_of j past log) (judging_of-within (length log) d past log all.1)

-- A deed that is no write of a status judges nothing.
pub ledger_of-other : (j : Uid) (d : Deed) (past : List Deed) (log : List Entry) → is_status (request_of d.reply) ≡ false → ledger_of j (d ∷ past) log ≡ ledger_of j past log
ledger_of-other j d past log h =
    ap (λ b. judged_by j log (cond (b && appends d past) (option_and_then (judging_at d.length.0 log) (step_sync d past)) None) (ledger_of j past log)) h

-- One that appended nothing judges nothing.
pub ledger_of-still : (j : Uid) (d : Deed) (past : List Deed) (log : List Entry) → appends d past ≡ false → ledger_of j (d ∷ past) log ≡ ledger_of j past log
ledger_of-still j d past log h = ap (λ o. judged_by j log o (ledger_of j past log)) (by (is_status (request_of d.reply)))
  where
    by : (b : Bool) → cond (b && appends d past) (option_and_then (judging_at d.length.0 log) (step_sync d past)) None ≡ None
    by true = cond-false (appends d past) (option_and_then (judging_at d.length.0 log) (step_sync d past)) None h
    by false = refl
