-- Why a sync may take a finalizer: of a pod that its Job had to release, of an orphan, of one that it lets go.
use Rattle.std.proofs.Common.{◌≡◌, ◌≢◌, ◌⊎◌, inl, inr, ℕ, suc, ◌≤◌, ◌==◌, Bool, true, false, not, ◌&&◌, ◌||◌, List, ◌∷◌, ◌++◌, length, find, Option, Some, None, is_some, IfSome, refl, sym, ap, ◌∙◌, subst, arith, eq-eqb, true≢false}
use Rattle.std.specs.List.{list_any}
use Rattle.std.specs.Option.{option_map_or}
use Rattle.std.proofs.lemmas.Bool.{and_parts, and_from, or_cases, or_left, or_right, not_from_false, not-true, both_ways}
use Rattle.jc_ranges.specs.Sets.{has}
use Rattle.jc_types.specs.declared.numbers.Uid.{Uid}
use Rattle.jc_types.specs.declared.numbers.Version.{Version}
use Rattle.jc_types.specs.declared.objects.Entry.{Entry}
use Rattle.jc_types.specs.declared.objects.Entry.TheVariants.{JobPut, PodPut}
use Rattle.jc_types.specs.declared.objects.Job.{Job}
use Rattle.jc_types.specs.declared.objects.Pod.{Pod}
use Rattle.jc_types.specs.declared.specifications.Mode.{Mode}
use Rattle.jc_types.specs.declared.specifications.Mode.TheVariants.{NonIndexed, Indexed}
use Rattle.jc_types.specs.declared.statuses.JobStatus.{JobStatus}
use Rattle.jc_states.specs.Owners.{is_foreign}
use Rattle.jc_states.specs.Bases.{is_own, own_pods}
use Rattle.jc_states.specs.Conditions.{has_end, has_target}
use Rattle.jc_log.specs.Deeds.{Deed}
use Rattle.jc_types.specs.declared.objects.KeyNames.{KeyNames as Key}
use Rattle.jc_types.specs.Keys.{same_uid}
use Rattle.jc_log.specs.Log.{upto, entry_at, job_in, is_job_of, is_born, life, Life, Never, Live, Gone}
use Rattle.jc_states.specs.Pods.{is_final, is_tracked, is_active}
use Rattle.jc_states.specs.UidLists.{is_in, uids_of}
use Rattle.jc_states.specs.ObjectChanges.{JobStep, PodStep}
use Rattle.jc_log.specs.Writes.{Allowed, Writes, Stored}
use Rattle.jc_log.proofs.BirthFacts.{life_is_interval, Owned, owner_first}
use Rattle.jc_types.proofs.KeyFacts.{same_uid-eq, same_uid-itself, same_uid-either_way}
use Rattle.jc_types.proofs.ListFacts.{any_filter, find_passes}
use Rattle.jc_log.proofs.LogFacts.{upto-upto, upto-all, length-upto, entry_at-place, entry_at-stays, entry_at-upto}
use Rattle.jc_log.proofs.PlaceFacts.{job_in-entry, job_in-within, life-entry, life-place, life-stood}
use Rattle.jc_log.proofs.WriteFacts.{Follows-upto, Stored-from_legal, persists, is_born-more}
use Rattle.jc_failpol.specs.declared.outcomes.Outcome.{Outcome}
use Rattle.jc_failpol.specs.declared.outcomes.Outcome.TheVariants.{Alive, Succeeded, Failed, Ignored}
use Rattle.jc_failpol.specs.FailJob.{is_failure, policy_fails_job, fails_job}
use Rattle.jc_failpol.specs.Outcomes.{is_verdict, outcome_of, outcome_place, same_outcome}
use Rattle.jc_failpol.proofs.Settled.{ignored_stays, end_stays}
use Rattle.jc_states.specs.Listed.{is_listed}
use Rattle.jc_account.specs.Judged.{fits, has_come_to, is_left_over, is_new, newly, is_to_release, has_tracked}
use Rattle.jc_states.specs.Indexes.{has_index}
use Rattle.jc_account.proofs.JudgementFacts.{newly-is}
use Rattle.jc_account.proofs.AccountFacts.{failed-in, succeeded-in, indexes-in}
use Rattle.jc_account.proofs.ListedFacts.{among_passing}
use Rattle.jc_ledger.specs.declared.flights.Flight.{Flight}
use Rattle.jc_ledger.specs.EventKinds.{FinalizerWrite, Releases, Orphans, LetsGo}
use Rattle.jc_ledger.specs.Flights.{IsSent, Flies}
use Rattle.jc_ledger.specs.Ledger.{is_within, Record, record_of, ledger_of}
use Rattle.jc_ledger.specs.Once.{IsJudged, PutBefore, Cause, WasJudged, IsIgnored, WasActive, NeedsNone, needs_none}
use Rattle.jc_ledger.specs.Tied.{made_as, IsListing, IsTrueRecord, TiesJob, Tied}
use Rattle.jc_ledger.proofs.DuePods.{IsDue, due_from}
use Rattle.jc_ledger.proofs.FrameFacts.{AllFly-one, PodsHaveIndexes-now}
use Rattle.jc_ledger.proofs.MadeFacts.{outcome-step, fails_job-step, made_as-uid, made_as-upto, made_as-born, WasMadeUnder, has_job-was_made, put-step}
use Rattle.jc_ledger.proofs.OwnFacts.{basis-rises, found_any}
use Rattle.jc_ledger.proofs.PutFacts.{ties_of}
use Rattle.jc_ledger.proofs.RoomFacts.{is_newly, kept_fits, to_release_cases}
use Rattle.jc_log.proofs.LastingFacts.{step_to, step_on}
use Rattle.jc_ledger.proofs.SeenFacts.{Saw, saw, active_alive, succeeded_phase, fails_early}
use Rattle.jc_ledger.proofs.TakenFacts.{Justly}

-- ---- a pod of the Job

-- A pod of the Job that the sync saw: what the log says of that Job and of the pod, as it was seen and now.
pub record Due (past : List Deed) (log : List Entry) (flight : Flight) (job : Job) (seen now : Pod) (made : Job) : Type 0 where
  pub stored : Stored log
  pub ties : TiesJob made log (ledger_of made.uid past log)
  pub due : IsDue job flight.basis.pods seen
  pub uid : job.uid ≡ made.uid
  pub job_step : JobStep made job
  pub entry : entry_at job.version.0 log ≡ Some (JobPut job)
  pub reached : job.version.0 ≤ flight.basis.pods_at.0
  pub sent : IsSent log flight job
  pub stood : life seen.uid (upto flight.basis.pods_at.0 log) ≡ Live seen
  pub step : PodStep seen now
  pub numbered : made.spec.mode ≡ Indexed → is_some now.index ≡ true

-- The entry of a Job that was there among the first entries.
job_entry : (k : Key) (m : ℕ) (log : List Entry) (job : Job) → Stored log → m ≤ length log → job_in k (upto m log) ≡ Some job → entry_at job.version.0 log ≡ Some (JobPut job)
job_entry k m log job all within h =
    let there = Follows-upto Writes m log all in
    let long = length-upto m log within in
    let place = job_in-within k (upto m log) job there h in
    sym (entry_at-upto job.version.0 m log (omega (arith, long, place))) ∙ job_in-entry k (upto m log) job there h

-- So it is of each pod of the Job that is released.
pub due_of : (d : Deed) (past : List Deed) (log : List Entry) (front back : List Flight) (job : Job) (f : FinalizerWrite)
    → Tied past log (front ++ f.flight ∷ back) → Releases d log job f
    → (now : Pod) → life f.seen.uid log ≡ Live now → (made : Job) → made_as now.owner_uid log ≡ Some made → Due past log f.flight job f.seen now made
due_of d past log front back job f t r now there made is_made = record {
  stored = stored;
  ties = ties_of past log (front ++ f.flight ∷ back) made t made_it;
  due = due;
  uid = uid;
  job_step = put-step job.version.0 log made job stored made_it entry uid;
  entry = entry;
  reached = subst (λ (o : Option Job). IfSome o (λ job. job.version.0 ≤ f.flight.basis.pods_at.0)) r.saw flies.reached;
  sent = subst (λ (o : Option Job). IfSome o (λ job. IsSent log f.flight job)) r.saw flies.sent;
  stood = seen_then.stood;
  step = step;
  numbered = subst (λ (o : Option Job). IfSome o (λ made. made.spec.mode ≡ Indexed → is_some now.index ≡ true)) is_made (PodsHaveIndexes-now log t.numbered f.seen.uid now there);
}
  where
    stored : Stored log
    stored = Stored-from_legal log t.legal

    flies : Flies log f.flight
    flies = AllFly-one log front back f.flight t.flying

    due : IsDue job f.flight.basis.pods f.seen
    due = due_from job f.flight.basis.pods f.seen (basis-rises log f.flight.basis flies.basis) r.taken.is_seen r.due

    seen_then : Saw log f.flight.basis f.seen
    seen_then = saw log f.flight.basis f.seen flies.basis r.taken.is_seen

    step : PodStep f.seen now
    step = step_on f.seen.uid f.flight.basis.pods_at.0 log stored f.seen now seen_then.stood there

    uid : job.uid ≡ made.uid
    uid =
        sym (same_uid-eq f.seen.owner_uid job.uid due.own)
        ∙ sym step.owner_uid ∙ sym (made_as-uid now.owner_uid log made is_made)

    made_it : made_as made.uid log ≡ Some made
    made_it = ap (λ j. made_as j log) (made_as-uid now.owner_uid log made is_made) ∙ is_made

    entry : entry_at job.version.0 log ≡ Some (JobPut job)
    entry = job_entry f.flight.basis.key f.flight.basis.jobs_at.0 log job stored flies.basis.jobs_at (sym flies.basis.job ∙ r.saw)

-- ---- what is listed has a record

-- A record of the pod, made by then.
pub record Recorded (records : List Record) (u : Uid) (v : ℕ) : Type 0 where
  pub found : Record
  pub is_found : record_of u records ≡ Some found
  pub by_then : found.at ≤ v

-- A judged pod has one, whatever it was judged.
recorded_from : (records : List Record) (u : Uid) (outcome : Outcome) (v : ℕ) → IsJudged records u outcome v → Recorded records u v
recorded_from records u outcome v h = record { found = h.found; is_found = h.is_found; by_then = h.by_then }

-- A listed pod has one, made by the version that lists it.
listed_recorded : (records : List Record) (v : ℕ) (status : JobStatus) (u : Uid) → IsListing records v status → is_listed status u ≡ true → Recorded records u v
listed_recorded records v status u listing h =
    elim (or_cases (is_in u status.uncounted_succeeded) (is_in u status.uncounted_failed) h) [
      | inl s ↦ recorded_from records u Succeeded v (listing.succeeded u s)
      | inr f ↦ recorded_from records u Failed v (listing.failed u f)
    ]

-- A record made by an entry of the log is a cause.
recorded_cause : (past : List Deed) (log : List Entry) (e : Entry) (seen now : Pod) (made : Job) (v : ℕ) → now.uid ≡ seen.uid → v ≤ length log
    → Recorded (ledger_of made.uid past log).records seen.uid v → Cause made (ledger_of made.uid past log).records (suc (length log)) (e ∷ log) false now
recorded_cause past log e seen now made v same within h =
    let by_then = h.by_then in
    WasJudged h.found (ap (λ u. record_of u (ledger_of made.uid past log).records) same ∙ h.is_found) (omega (arith, by_then, within))

-- ---- what has ended

-- The record of a pod that is listed says that it had ended by then.
listed_ended : (past : List Deed) (log : List Entry) (flight : Flight) (job : Job) (seen now : Pod) (made : Job) → Due past log flight job seen now made
    → Recorded (ledger_of made.uid past log).records seen.uid job.version.0 → outcome_of made.spec seen ≢ Alive
listed_ended past log flight job seen now made due h =
    end_stays made.spec.replacement made.spec.failure due.ties.waits h.found.pod seen
    (step_to seen.uid h.found.seen flight.basis.pods_at.0 log due.stored at h.found.pod seen
    (ap (λ u. life u (upto h.found.seen log)) (sym same) ∙ sound.stood) due.stood)
    (λ alive. absurd (true≢false (sym sound.verdict ∙ ap is_verdict (sym sound.judged ∙ alive))))
  where
    sound : IsTrueRecord made log h.found
    sound = due.ties.sound seen.uid h.found h.is_found

    same : h.found.pod.uid ≡ seen.uid
    same = same_uid-eq h.found.pod.uid seen.uid (find_passes (λ (r : Record). same_uid r.pod.uid seen.uid) (ledger_of made.uid past log).records h.found h.is_found)

    at : h.found.seen ≤ flight.basis.pods_at.0
    at = let before = sound.before in let by_then = h.by_then in let reached = due.reached in omega (arith, before, by_then, reached)

-- A pod that was to be released had ended.
pub seen_ended : (past : List Deed) (log : List Entry) (flight : Flight) (job : Job) (seen now : Pod) (made : Job) → Due past log flight job seen now made → outcome_of made.spec seen ≢ Alive
seen_ended past log flight job seen now made due =
    elim (to_release_cases job (own_pods job flight.basis.pods) seen due.due.ends) [
      | inl n ↦
          λ alive.
          both_ways (same_outcome (outcome_of job.spec seen) Alive) (not-true (same_outcome (outcome_of job.spec seen) Alive) n.0)
          (ap (λ o. same_outcome o Alive) (outcome-step made job seen due.job_step ∙ alive))
      | inr l ↦ listed_ended past log flight job seen now made due (listed_recorded (ledger_of made.uid past log).records job.version.0 job.status seen.uid (due.ties.listed job.version.0 job due.entry due.uid) l)
    ]

-- ---- what is judged

-- A pod that is tracked, has come to this and is not listed is new.
new_one : (job : Job) (outcome : Outcome) (seen : Pod) → seen.tracked ≡ true → outcome_of job.spec seen ≡ outcome → is_listed job.status seen.uid ≡ false → is_new job outcome seen ≡ true
new_one job outcome seen tracked is unlisted =
    and_from (has_come_to job outcome seen) (not (is_listed job.status seen.uid))
    (and_from (is_tracked seen) (same_outcome (outcome_of job.spec seen) outcome) tracked
    (ap (λ o. same_outcome o outcome) is ∙ eq-eqb (outcome_place outcome) (outcome_place outcome) refl))
    (not_from_false (is_listed job.status seen.uid) unlisted)

-- If it is to be released it is judged now.
newly_one : (job : Job) (outcome : Outcome) (own : List Pod) (seen : Pod) → is_verdict outcome ≡ true → is_to_release job own seen ≡ true
    → outcome_of job.spec seen ≡ outcome → is_listed job.status seen.uid ≡ false → is_newly job own outcome seen ≡ true
newly_one job outcome own seen verdict due is unlisted =
    let tracked = (and_parts (is_tracked seen) ((not (same_outcome (outcome_of job.spec seen) Alive) && not (is_left_over job own seen)) || is_listed job.status seen.uid) due).0 in
    and_from (is_new job outcome seen) (fits job own seen) (new_one job outcome seen tracked is unlisted) (by tracked (to_release_cases job own seen due))
  where
    by : seen.tracked ≡ true → ((not (same_outcome (outcome_of job.spec seen) Alive) ≡ true) × (is_left_over job own seen ≡ false)) ⊎ (is_listed job.status seen.uid ≡ true) → fits job own seen ≡ true
    by tracked (inl n) =
        kept_fits job own seen
        (and_from (is_tracked seen) (is_verdict (outcome_of job.spec seen) && not (is_listed job.status seen.uid)) tracked
        (and_from (is_verdict (outcome_of job.spec seen)) (not (is_listed job.status seen.uid)) (ap is_verdict is ∙ verdict) (not_from_false (is_listed job.status seen.uid) unlisted)))
        n.1
    by tracked (inr l) = absurd (true≢false (sym l ∙ unlisted))

-- A pod that is judged now is among those that are.
newly_in : (job : Job) (outcome : Outcome) (pods : List Pod) (seen : Pod) → is_verdict outcome ≡ true → find (λ (p : Pod). same_uid p.uid seen.uid) pods ≡ Some seen → is_own job seen ≡ true
    → is_newly job (own_pods job pods) outcome seen ≡ true → is_in seen.uid (uids_of (newly job (own_pods job pods) outcome)) ≡ true
newly_in job outcome pods seen verdict found own new =
    let test = is_newly job (own_pods job pods) outcome in
    ap (λ ps. is_in seen.uid (uids_of ps)) (newly-is job (own_pods job pods) outcome verdict)
    ∙ among_passing seen.uid test (own_pods job pods)
    ∙ any_filter (λ p. test p && same_uid p.uid seen.uid) (is_own job) pods
    ∙ found_any (λ p. same_uid p.uid seen.uid) (λ p. is_own job p && (test p && same_uid p.uid seen.uid)) pods seen found
    (and_from (is_own job seen) (test seen && same_uid seen.uid seen.uid) own
    (and_from (test seen) (same_uid seen.uid seen.uid) new (same_uid-itself seen.uid)))

-- So is its index.
index_in : (job : Job) (pods : List Pod) (seen : Pod) (n : ℕ) → find (λ (p : Pod). same_uid p.uid seen.uid) pods ≡ Some seen → is_own job seen ≡ true
    → is_newly job (own_pods job pods) Succeeded seen ≡ true → seen.index ≡ Some n → list_any (has_index n) (newly job (own_pods job pods) Succeeded) ≡ true
index_in job pods seen n found own new index =
    let test = is_newly job (own_pods job pods) Succeeded in
    ap (list_any (has_index n)) (newly-is job (own_pods job pods) Succeeded refl)
    ∙ any_filter (has_index n) test (own_pods job pods)
    ∙ any_filter (λ p. test p && has_index n p) (is_own job) pods
    ∙ found_any (λ p. same_uid p.uid seen.uid) (λ p. is_own job p && (test p && has_index n p)) pods seen found
    (and_from (is_own job seen) (test seen && has_index n seen) own
    (and_from (test seen) (has_index n seen) new
    (ap (λ o. option_map_or (λ index. index == n) o false) index ∙ eq-eqb n n refl)))

-- ---- the cause

-- Of a pod that was to be released.
pub due_cause : (d : Deed) (past : List Deed) (log : List Entry) (job : Job) (f : FinalizerWrite) (now : Pod) (made : Job)
    → Releases d log job f → Due past log f.flight job f.seen now made
    → Cause made (ledger_of made.uid past log).records (suc (length log)) (f.entry ∷ log) false now
due_cause d past log job f now made r due = by_list (is_listed job.status f.seen.uid) refl
  where
    own : is_own job f.seen ≡ true
    own = due.due.own

    sent_at : f.flight.sends.0 ≤ length log
    sent_at = (entry_at-place f.flight.sends.0 log (JobPut due.sent.put) due.sent.is_put).1

    listing : IsListing (ledger_of made.uid past log).records f.flight.sends.0 due.sent.put.status
    listing = due.ties.listed f.flight.sends.0 due.sent.put due.sent.is_put (due.sent.uid ∙ due.uid)

    new : (outcome : Outcome) → is_verdict outcome ≡ true → is_listed job.status f.seen.uid ≡ false → outcome_of made.spec f.seen ≡ outcome
        → is_newly job (own_pods job f.flight.basis.pods) outcome f.seen ≡ true
    new outcome verdict unlisted is =
        newly_one job outcome (own_pods job f.flight.basis.pods) f.seen verdict due.due.ends (outcome-step made job f.seen due.job_step ∙ is) unlisted

    judged : (outcome : Outcome) → IsJudged (ledger_of made.uid past log).records f.seen.uid outcome f.flight.sends.0 → Cause made (ledger_of made.uid past log).records (suc (length log)) (f.entry ∷ log) false now
    judged outcome h =
        recorded_cause past log f.entry f.seen now made f.flight.sends.0 due.step.uid sent_at (recorded_from (ledger_of made.uid past log).records f.seen.uid outcome f.flight.sends.0 h)

    failed : is_listed job.status f.seen.uid ≡ false → outcome_of made.spec f.seen ≡ Failed → is_in f.seen.uid due.sent.put.status.uncounted_failed ≡ true
    failed unlisted is =
        ap (λ (s : JobStatus). is_in f.seen.uid s.uncounted_failed) due.sent.status
        ∙ ap (is_in f.seen.uid) r.counted.uncounted_failed
        ∙ failed-in f.seen.uid job f.flight.basis.pods
        ∙ or_right (is_in f.seen.uid job.status.uncounted_failed && has_tracked (own_pods job f.flight.basis.pods) f.seen.uid) (is_in f.seen.uid (uids_of (newly job (own_pods job f.flight.basis.pods) Failed)))
        (newly_in job Failed f.flight.basis.pods f.seen refl r.taken.is_seen own (new Failed refl unlisted is))

    succeeded : is_listed job.status f.seen.uid ≡ false → outcome_of made.spec f.seen ≡ Succeeded → made.spec.mode ≡ NonIndexed → is_in f.seen.uid due.sent.put.status.uncounted_succeeded ≡ true
    succeeded unlisted is mode =
        ap (λ (s : JobStatus). is_in f.seen.uid s.uncounted_succeeded) due.sent.status
        ∙ ap (is_in f.seen.uid) r.counted.uncounted_succeeded
        ∙ succeeded-in f.seen.uid job f.flight.basis.pods (due.job_step.mode ∙ mode)
        ∙ or_right (is_in f.seen.uid job.status.uncounted_succeeded && has_tracked (own_pods job f.flight.basis.pods) f.seen.uid) (is_in f.seen.uid (uids_of (newly job (own_pods job f.flight.basis.pods) Succeeded)))
        (newly_in job Succeeded f.flight.basis.pods f.seen refl r.taken.is_seen own (new Succeeded refl unlisted is))

    completed : is_listed job.status f.seen.uid ≡ false → outcome_of made.spec f.seen ≡ Succeeded → made.spec.mode ≡ Indexed → (n : ℕ) → now.index ≡ Some n → is_within job.spec n ≡ true
        → has n due.sent.put.status.completed ≡ true
    completed unlisted is mode n at below =
        ap (λ (s : JobStatus). has n s.completed) due.sent.status
        ∙ ap (has n) r.counted.completed
        ∙ indexes-in n job f.flight.basis.pods (due.job_step.mode ∙ mode)
        ∙ or_right (has n job.status.completed && (has_end job.status.conditions || is_within job.spec n)) (is_within job.spec n && list_any (has_index n) (newly job (own_pods job f.flight.basis.pods) Succeeded))
        (and_from (is_within job.spec n) (list_any (has_index n) (newly job (own_pods job f.flight.basis.pods) Succeeded)) below
        (index_in job f.flight.basis.pods f.seen n r.taken.is_seen own (new Succeeded refl unlisted is) (sym due.step.index ∙ at)))

    -- A Job that was put and that says of the index that its success needs no count.
    put_at : (v : ℕ) (put : Job) (n : ℕ) → now.index ≡ Some n → entry_at v log ≡ Some (JobPut put) → put.uid ≡ made.uid
        → (has n put.status.completed || not (is_within put.spec n)) ≡ true → PutBefore (λ job. needs_none job now ≡ true) made.uid (suc (length log)) (f.entry ∷ log)
    put_at v put n at is uid holds =
        let place = entry_at-place v log (JobPut put) is in
        record {
          version = v;
          before = omega (arith, place.1);
          put = put;
          is_put = entry_at-stays v f.entry (JobPut put) log is;
          uid = uid;
          holds = ap (λ (o : Option ℕ). option_map_or (λ i. has i put.status.completed || not (is_within put.spec i)) o false) at ∙ holds;
        }

    -- The index is completed where it is below the number that the sync saw; else that Job says so.
    counted_by : is_listed job.status f.seen.uid ≡ false → outcome_of made.spec f.seen ≡ Succeeded → made.spec.mode ≡ Indexed → (index : Option ℕ) → now.index ≡ index → is_some index ≡ true
        → PutBefore (λ put. needs_none put now ≡ true) made.uid (suc (length log)) (f.entry ∷ log)
    counted_by unlisted is mode None at some = absurd (true≢false (sym some))
    counted_by unlisted is mode (Some n) at some = by (is_within job.spec n) refl
      where
        by : (b : Bool) → is_within job.spec n ≡ b → PutBefore (λ put. needs_none put now ≡ true) made.uid (suc (length log)) (f.entry ∷ log)
        by true below =
            put_at f.flight.sends.0 due.sent.put n at due.sent.is_put (due.sent.uid ∙ due.uid)
            (or_left (has n due.sent.put.status.completed) (not (is_within due.sent.put.spec n)) (completed unlisted is mode n at below))
        by false past =
            put_at job.version.0 job n at due.entry due.uid
            (or_right (has n job.status.completed) (not (is_within job.spec n)) (not_from_false (is_within job.spec n) past))

    by_mode : is_listed job.status f.seen.uid ≡ false → outcome_of made.spec f.seen ≡ Succeeded → (m : Mode) → made.spec.mode ≡ m
        → Cause made (ledger_of made.uid past log).records (suc (length log)) (f.entry ∷ log) false now
    by_mode unlisted is NonIndexed mode = judged Succeeded (listing.succeeded f.seen.uid (succeeded unlisted is mode))
    by_mode unlisted is Indexed mode =
        let phase = succeeded_phase made.spec f.seen is in
        NeedsNone mode (due.step.phase (ap is_final phase) ∙ phase) (counted_by unlisted is mode now.index refl (due.numbered mode))

    by_outcome : is_listed job.status f.seen.uid ≡ false → (o : Outcome) → outcome_of made.spec f.seen ≡ o → Cause made (ledger_of made.uid past log).records (suc (length log)) (f.entry ∷ log) false now
    by_outcome unlisted Alive is = absurd (seen_ended past log f.flight job f.seen now made due is)
    by_outcome unlisted Succeeded is = by_mode unlisted is made.spec.mode refl
    by_outcome unlisted Failed is = judged Failed (listing.failed f.seen.uid (failed unlisted is))
    by_outcome unlisted Ignored is = IsIgnored (ignored_stays made.spec.replacement made.spec.failure due.ties.waits f.seen now due.step is)

    by_list : (b : Bool) → is_listed job.status f.seen.uid ≡ b → Cause made (ledger_of made.uid past log).records (suc (length log)) (f.entry ∷ log) false now
    by_list true l =
        recorded_cause past log f.entry f.seen now made job.version.0 due.step.uid (entry_at-place job.version.0 log (JobPut job) due.entry).1
        (listed_recorded (ledger_of made.uid past log).records job.version.0 job.status f.seen.uid (due.ties.listed job.version.0 job due.entry due.uid) l)
    by_list false unlisted = by_outcome unlisted (outcome_of made.spec f.seen) refl

-- Where it fails the Job a target stood in what the sync sent.
pub due_target : (d : Deed) (past : List Deed) (log : List Entry) (job : Job) (f : FinalizerWrite) (now : Pod) (made : Job)
    → Releases d log job f → Due past log f.flight job f.seen now made
    → fails_job made.spec now ≡ true → PutBefore (λ put. has_target put.status.conditions ≡ true) made.uid (suc (length log)) (f.entry ∷ log)
due_target d past log job f now made r due fails =
    let place = entry_at-place f.flight.sends.0 log (JobPut due.sent.put) due.sent.is_put in
    let ended = seen_ended past log f.flight job f.seen now made due in
    let early = fails_early made.spec f.seen now due.ties.waits due.step ended fails in
    record {
      version = f.flight.sends.0;
      before = omega (arith, place.1);
      put = due.sent.put;
      is_put = entry_at-stays f.flight.sends.0 f.entry (JobPut due.sent.put) log due.sent.is_put;
      uid = due.sent.uid ∙ due.uid;
      holds = ap (λ (s : JobStatus). has_target s.conditions) due.sent.status ∙ r.target (fails_job-step made job f.seen due.job_step ∙ early);
    }

-- A pod that was to be released may be released.
pub release_justly : (d : Deed) (past : List Deed) (log : List Entry) (front back : List Flight) (job : Job) (f : FinalizerWrite)
    → Tied past log (front ++ f.flight ∷ back) → Releases d log job f → Justly past f.entry log f.seen.uid false
release_justly d past log front back job f t r now there made is_made is_there =
    let due = due_of d past log front back job f t r now there made is_made in
    record {
      cause = due_cause d past log job f now made r due;
      target = due_target d past log job f now made r due;
    }

-- ---- orphans

-- The Job of an orphan is not there: being older than the pod, it would have been there for the sync to see.
pub orphan_justly : (d : Deed) (past : List Deed) (log : List Entry) (front back : List Flight) (f : FinalizerWrite)
    → Tied past log (front ++ f.flight ∷ back) → Orphans d log f → Justly past f.entry log f.seen.uid false
orphan_justly d past log front back f t o now there made is_made is_there =
    absurd (foreign f.flight.basis.job o.foreign (ap (is_job_of f.seen.owner_uid) flies.basis.job ∙ was_there))
  where
    stored : Stored log
    stored = Stored-from_legal log t.legal

    flies : Flies log f.flight
    flies = AllFly-one log front back f.flight t.flying

    seen_then : Saw log f.flight.basis f.seen
    seen_then = saw log f.flight.basis f.seen flies.basis o.taken.is_seen

    owner : now.owner_uid ≡ f.seen.owner_uid
    owner = (step_on f.seen.uid f.flight.basis.pods_at.0 log stored f.seen now seen_then.stood there).owner_uid

    by_then : f.seen.version.0 ≤ f.flight.basis.pods_at.0
    by_then =
        let long = length-upto f.flight.basis.pods_at.0 log flies.basis.pods_at in
        let place = life-place f.seen.uid (upto f.flight.basis.pods_at.0 log) f.seen (Follows-upto Writes f.flight.basis.pods_at.0 log stored) seen_then.stood in
        omega (arith, long, place)

    at_version : life f.seen.uid (upto f.seen.version.0 log) ≡ Live f.seen
    at_version =
        ap (life f.seen.uid) (sym (upto-upto f.seen.version.0 f.flight.basis.pods_at.0 log by_then))
        ∙ life-stood f.seen.uid (upto f.flight.basis.pods_at.0 log) f.seen (Follows-upto Writes f.flight.basis.pods_at.0 log stored) seen_then.stood

    put_first : WasMadeUnder (upto f.seen.version.0 log) f.seen.owner_uid f.seen.owner
    put_first =
        has_job-was_made f.seen.owner_uid f.seen.owner (upto f.seen.version.0 log) (Follows-upto Writes f.seen.version.0 log stored)
        (subst (Owned (upto f.seen.version.0 log)) at_version (owner_first f.seen.uid (upto f.seen.version.0 log) (Follows-upto Allowed f.seen.version.0 log t.legal)))

    same : put_first.made ≡ made
    same =
        ap (λ (o : Option Job). elim o [ None ↦ made | Some job ↦ job ])
        (sym (made_as-upto f.seen.owner_uid f.seen.version.0 log put_first.made put_first.is_made) ∙ ap (λ j. made_as j log) (sym owner) ∙ is_made)

    key : made.key ≡ f.flight.basis.key
    key = ap (λ (job : Job). job.key) (sym same) ∙ put_first.key ∙ seen_then.owner

    made_uid : made.uid ≡ f.seen.owner_uid
    made_uid = made_as-uid now.owner_uid log made is_made ∙ owner

    born : is_born f.seen.owner_uid (upto f.flight.basis.jobs_at.0 log) ≡ true
    born =
        persists Allowed (λ l. is_born f.seen.owner_uid l ≡ true) (λ e older a rest b. is_born-more f.seen.owner_uid e older b) f.seen.version.0 f.flight.basis.jobs_at.0 log t.legal o.version
        (made_as-born f.seen.owner_uid (upto f.seen.version.0 log) put_first.made put_first.is_made)

    was_there : is_job_of f.seen.owner_uid (job_in f.flight.basis.key (upto f.flight.basis.jobs_at.0 log)) ≡ true
    was_there =
        life_is_interval f.seen.owner_uid f.flight.basis.key f.flight.basis.jobs_at.0 (length log) log stored flies.basis.jobs_at born
        (ap (λ l. is_job_of f.seen.owner_uid (job_in f.flight.basis.key l)) (upto-all (length log) log (omega arith))
        ∙ ap (λ k. is_job_of f.seen.owner_uid (job_in k log)) (sym key) ∙ ap (λ j. is_job_of j (job_in made.key log)) (sym made_uid) ∙ is_there)

    foreign : (b : Option Job) → is_foreign b f.seen ≡ true → is_job_of f.seen.owner_uid b ≡ true → ⊥
    foreign None other h = true≢false (sym h)
    foreign (Some job) other h = both_ways (is_own job f.seen) (not-true (is_own job f.seen) other) (same_uid-either_way f.seen.owner_uid job.uid ∙ h)

-- ---- pods that are let go

-- The pod is as the sync saw it: it was active.
pub let_go_justly : (d : Deed) (past : List Deed) (log : List Entry) (front back : List Flight) (old : Pod) (f : FinalizerWrite)
    → Tied past log (front ++ f.flight ∷ back) → LetsGo d log old f → Justly past f.entry log f.seen.uid true
let_go_justly d past log front back old f t l now there made is_made is_there = record {
  cause = WasActive refl active;
  target = λ fails. absurd (true≢false (sym (and_parts (is_failure (outcome_of made.spec now)) (policy_fails_job made.spec.failure now) fails).0 ∙ ap is_failure (active_alive made.spec now active)));
}
  where
    stored : Stored log
    stored = Stored-from_legal log t.legal

    flies : Flies log f.flight
    flies = AllFly-one log front back f.flight t.flying

    now_old : now ≡ old
    now_old = ap (λ (l : Life). elim l [ Never ↦ old | Live p ↦ p | Gone ↦ old ]) (sym there ∙ l.there)

    seen_then : Saw log f.flight.basis f.seen
    seen_then = saw log f.flight.basis f.seen flies.basis l.taken.is_seen

    put_seen : entry_at f.seen.version.0 log ≡ Some (PodPut f.seen)
    put_seen =
        let before = Follows-upto Writes f.flight.basis.pods_at.0 log stored in
        let long = length-upto f.flight.basis.pods_at.0 log flies.basis.pods_at in
        let place = life-place f.seen.uid (upto f.flight.basis.pods_at.0 log) f.seen before seen_then.stood in
        sym (entry_at-upto f.seen.version.0 f.flight.basis.pods_at.0 log (omega (arith, long, place))) ∙ life-entry f.seen.uid (upto f.flight.basis.pods_at.0 log) f.seen before seen_then.stood

    old_seen : old ≡ f.seen
    old_seen = pod_put (sym (life-entry f.seen.uid log old stored l.there) ∙ ap (λ (v : Version). entry_at v.0 log) l.version ∙ put_seen)
      where
        pod_in_it : Option Entry → Pod
        pod_in_it (Some (PodPut p)) = p
        pod_in_it other = old

        pod_put : Some (PodPut old) ≡ Some (PodPut f.seen) → old ≡ f.seen
        pod_put h = ap pod_in_it h

    active : is_active now ≡ true
    active = ap is_active (now_old ∙ old_seen) ∙ l.active
