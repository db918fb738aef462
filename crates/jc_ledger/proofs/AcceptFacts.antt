-- A write of a status by a sync that was accepted: the Job that it puts, and what becomes of the ledgers.
use Rattle.std.proofs.Common.{◌≡◌, ℕ, suc, Bool, true, false, cond, not, ◌&&◌, List, ◌∷◌, length, Option, Some, None, refl, sym, ap, ◌∙◌, subst, arith}
use Rattle.std.specs.Prelude.{IfSome, option_map, option_and_then}
use Rattle.std.specs.List.{AllByRecursion as Each}
use Rattle.std.proofs.lemmas.Bool.{and_from, cond-true, cond-false}
use Rattle.jc_types.specs.declared.numbers.Uid.{Uid}
use Rattle.jc_types.specs.declared.objects.Entry.{Entry}
use Rattle.jc_types.specs.declared.objects.Entry.TheVariants.{JobPut}
use Rattle.jc_types.specs.declared.objects.Job.{Job}
use Rattle.jc_types.specs.declared.replies.Reply.{Reply}
use Rattle.jc_log.specs.Deeds.{Deed}
use Rattle.jc_types.specs.Keys.{same_uid}
use Rattle.jc_log.specs.Log.{upto, entry_at, job_in, pods_of}
use Rattle.jc_log.specs.Writes.{CanJob, Legal, Stored}
use Rattle.jc_states.specs.ObjectChanges.{JobStep}
use Rattle.jc_types.proofs.KeyFacts.{same_uid-eq, same_uid-itself}
use Rattle.jc_log.proofs.LogFacts.{upto-fixed}
use Rattle.jc_log.proofs.PlaceFacts.{job_in-entry}
use Rattle.jc_log.proofs.WriteFacts.{Stored-from_legal, job_in-key}
use Rattle.jc_ledger.specs.declared.flights.Flight.{Flight}
use Rattle.jc_ledger.specs.EventKinds.{StatusWrite, IsAccepted}
use Rattle.jc_ledger.specs.Flights.{known, IsBasisOf, IsSent, Flies}
use Rattle.jc_ledger.specs.Ledger.{Judging, entered, is_status, judging_at, judging_of, judged_by, ledger_of}
use Rattle.jc_ledger.specs.Once.{taking_of}
use Rattle.jc_ledger.specs.Syncs.{appends, request_of, step_sync}
use Rattle.jc_ledger.specs.Tied.{made_as, Ties, Tied}
use Rattle.jc_ledger.proofs.FrameFacts.{Ties-more, PodsHaveIndexes-job, PodsHaveIndexes-more, PodsHaveIndexes-now, grow}
use Rattle.jc_ledger.proofs.JobLaws.{TakesWell-none}
use Rattle.jc_ledger.proofs.LedgerFacts.{AllWithin, judging_of-more, ledger_of-more}
use Rattle.jc_states.proofs.ObjectChangeFacts.{JobStep-then}
use Rattle.jc_ledger.proofs.MadeFacts.{job_in-was_made, made_as-more, put-step}
use Rattle.jc_ledger.proofs.PutFacts.{Puts, ties_put, ties_from}
use Rattle.jc_ledger.proofs.OnceFacts.{once_more}
use Rattle.jc_ledger.proofs.QuietFacts.{seen_job-entry}
use Rattle.jc_ledger.proofs.TotalFacts.{totals_more}

-- ---- the Job

-- The Job as it was made, of which `job` is what the sync saw, `current` what is there, and `new` what is put.
pub record IsOneJob (log : List Entry) (s : StatusWrite) : Type 0 where
  pub made : Job
  pub is_made : made_as made.uid log ≡ Some made
  pub there : job_in made.key log ≡ Some s.current
  pub saw : entry_at s.job.version.0 log ≡ Some (JobPut s.job)
  pub stands : entry_at s.current.version.0 log ≡ Some (JobPut s.current)
  pub job_step : JobStep made s.job
  pub current_step : JobStep made s.current
  pub new_step : JobStep made s.new

-- The entry is a step from the Job that is there.
accepted-step : (d : Deed) (past : List Deed) (log : List Entry) (s : StatusWrite)
    → IsAccepted d past log s → Legal (JobPut s.new ∷ log) → JobStep s.current s.new
accepted-step d past log s a legal =
    subst (λ (o : Option Job). CanJob log o s.new)
    (ap (λ k. job_in k log) (a.key ∙ job_in-key s.flight.basis.key log s.current a.there) ∙ a.there) legal.0.writes.can

-- All are one Job.
pub one_job : (d : Deed) (past : List Deed) (log : List Entry) (s : StatusWrite)
    → IsAccepted d past log s → Legal (JobPut s.new ∷ log) → IsBasisOf log s.flight.basis → IsOneJob log s
one_job d past log s a legal basis =
    let stored = Stored-from_legal log legal.1 in
    let was = job_in-was_made s.flight.basis.key log s.current stored a.there in
    let is_made : made_as was.made.uid log ≡ Some was.made = ap (λ j. made_as j log) (sym was.step.uid) ∙ was.is_made in
    let key : was.made.key ≡ s.flight.basis.key = sym was.step.key ∙ job_in-key s.flight.basis.key log s.current a.there in
    let saw = seen_job-entry s.flight.basis.key s.flight.basis.jobs_at.0 log s.job legal.1 basis.jobs_at (sym basis.job ∙ a.seen) in
    record {
      made = was.made;
      is_made = is_made;
      there = ap (λ k. job_in k log) key ∙ a.there;
      saw = saw;
      stands = job_in-entry s.flight.basis.key log s.current stored a.there;
      job_step = put-step s.job.version.0 log was.made s.job stored is_made saw (sym a.uid ∙ was.step.uid);
      current_step = was.step;
      new_step = JobStep-then was.made s.current s.new was.step (accepted-step d past log s a legal);
    }

-- The Job that is there has the status that the sync knows.
pub current-known : (d : Deed) (past : List Deed) (log : List Entry) (s : StatusWrite)
    → IsAccepted d past log s → Stored log → Flies log s.flight → s.current.status ≡ known s.flight s.job
current-known d past log s a stored flies =
    let sent = subst (λ (o : Option Job). IfSome o (λ j. IsSent log s.flight j)) a.seen flies.sent in
    let stands = job_in-entry s.flight.basis.key log s.current stored a.there in
    let same : Some (JobPut s.current) ≡ Some (JobPut sent.put) = sym stands ∙ ap (λ v. entry_at v log) (ap (λ v. v.0) a.version) ∙ sent.is_put in
    ap (λ (o : Option Entry). (job_of o).status) same ∙ sent.status
  where
    job_of : Option Entry → Job
    job_of None = s.current
    job_of (Some (JobPut j)) = j
    job_of (Some other) = s.current

-- ---- the ledgers

-- What the deed judges.
pub judging_of-accepted : (d : Deed) (past : List Deed) (log : List Entry) (s : StatusWrite)
    → IsAccepted d past log s → appends d past ≡ true → IsBasisOf log s.flight.basis
    → judging_of d past log ≡ Some (record { job = s.job; seen = s.flight.basis.pods_at.0; at = suc (length log) })
judging_of-accepted d past log s a appended basis =
    let judging : ℕ → Job → Judging = λ n j. record { job = j; seen = s.flight.basis.pods_at.0; at = n } in
    let grown = a.written.grown in
    let long : d.length.0 ≡ suc (length log) = omega (arith, grown) in
    let is : is_status (request_of d.reply) ≡ true = ap (λ (r : Reply). is_status (request_of r)) a.reply in
    cond-true (is_status (request_of d.reply) && appends d past) (option_and_then (judging_at d.length.0 log) (step_sync d past)) None
    (and_from (is_status (request_of d.reply)) (appends d past) is appended)
    ∙ ap (option_and_then (judging_at d.length.0 log)) a.sync
    ∙ ap (option_map (judging d.length.0)) (sym basis.job ∙ a.seen)
    ∙ ap (λ n. Some (judging n s.job)) long

-- The ledger of the Job is the one after the write, and every other is as before.
pub ledger_of-accepted : (j : Uid) (d : Deed) (past : List Deed) (log : List Entry) (s : StatusWrite)
    → IsAccepted d past log s → appends d past ≡ true → IsBasisOf log s.flight.basis → AllWithin (length log) past
    → ledger_of j (d ∷ past) (JobPut s.new ∷ log) ≡ cond (same_uid s.job.uid j) (entered s.job (pods_of j (upto s.flight.basis.pods_at.0 log)) s.flight.basis.pods_at.0 (suc (length log)) (ledger_of j past log)) (ledger_of j past log)
ledger_of-accepted j d past log s a appended basis within =
    let y = s.flight.basis.pods_at.0 in
    let old = ledger_of j past log in
    ap (λ o. judged_by j (JobPut s.new ∷ log) o (ledger_of j past (JobPut s.new ∷ log)))
    (judging_of-more d past (JobPut s.new) log within ∙ judging_of-accepted d past log s a appended basis)
    ∙ ap (λ l. cond (same_uid s.job.uid j) (entered s.job (pods_of j (upto y (JobPut s.new ∷ log))) y (suc (length log)) l) l) (ledger_of-more j past (JobPut s.new) log within)
    ∙ ap (λ (l : List Entry). cond (same_uid s.job.uid j) (entered s.job (pods_of j l) y (suc (length log)) old) old) (upto-fixed y (JobPut s.new) log basis.pods_at)

-- What the entry puts over what is there, judging the Job's pods as the sync saw them, keeps all ledgers tied.
pub ties-accepted : (d : Deed) (past : List Deed) (log : List Entry) (s : StatusWrite) (made : Job)
    → IsAccepted d past log s → appends d past ≡ true → IsBasisOf log s.flight.basis → AllWithin (length log) past
    → s.job.uid ≡ made.uid
    → Puts made log (ledger_of made.uid past log) (entered s.job (pods_of made.uid (upto s.flight.basis.pods_at.0 log)) s.flight.basis.pods_at.0 (suc (length log)) (ledger_of made.uid past log))
    s.job (pods_of made.uid (upto s.flight.basis.pods_at.0 log)) s.flight.basis.pods_at.0 s.current s.new
    → ((j : Uid) → Ties (made_as j log) log (ledger_of j past log))
    → (j : Uid) → Ties (made_as j (JobPut s.new ∷ log)) (JobPut s.new ∷ log) (ledger_of j (d ∷ past) (JobPut s.new ∷ log))
ties-accepted d past log s made a appended basis within uid p jobs j = by (same_uid s.job.uid j) refl
  where
    new_uid : s.new.uid ≡ s.job.uid
    new_uid = (accepted-step d past log s a p.legal).uid ∙ a.uid

    at_made : Ties (made_as made.uid (JobPut s.new ∷ log)) (JobPut s.new ∷ log) (ledger_of made.uid (d ∷ past) (JobPut s.new ∷ log))
    at_made =
        let old = ledger_of made.uid past log in
        let at = s.flight.basis.pods_at.0 in
        let pods = pods_of made.uid (upto at log) in
        let after = entered s.job pods at (suc (length log)) old in
        let is : ledger_of made.uid (d ∷ past) (JobPut s.new ∷ log) ≡ after =
        ledger_of-accepted made.uid d past log s a appended basis within
        ∙ cond-true (same_uid s.job.uid made.uid) after old (ap (λ v. same_uid v made.uid) uid ∙ same_uid-itself made.uid) in
        subst (Ties (made_as made.uid (JobPut s.new ∷ log)) (JobPut s.new ∷ log)) (sym is)
        (ties_from (JobPut s.new ∷ log) after made (made_as-more made.uid (JobPut s.new) log made p.is_made)
        (ties_put made log old after s.job pods at s.current s.new p))

    by : (b : Bool) → same_uid s.job.uid j ≡ b → Ties (made_as j (JobPut s.new ∷ log)) (JobPut s.new ∷ log) (ledger_of j (d ∷ past) (JobPut s.new ∷ log))
    by true e =
        subst (λ v. Ties (made_as v (JobPut s.new ∷ log)) (JobPut s.new ∷ log) (ledger_of v (d ∷ past) (JobPut s.new ∷ log))) (sym uid ∙ same_uid-eq s.job.uid j e) at_made
    by false e =
        let old = ledger_of j past log in
        let at = s.flight.basis.pods_at.0 in
        let is : ledger_of j (d ∷ past) (JobPut s.new ∷ log) ≡ old =
        ledger_of-accepted j d past log s a appended basis within
        ∙ cond-false (same_uid s.job.uid j) (entered s.job (pods_of j (upto at log)) at (suc (length log)) old) old e in
        subst (Ties (made_as j (JobPut s.new ∷ log)) (JobPut s.new ∷ log)) (sym is)
        (Ties-more j (JobPut s.new) log old p.legal (ap not (ap (λ v. same_uid v j) new_uid ∙ e)) (jobs j))

-- All that ties, once it is shown of the Job that is put and of the syncs under way.
pub tied_accepted : (d : Deed) (past : List Deed) (log : List Entry) (flights next : List Flight) (s : StatusWrite) (made : Job)
    → Tied past log flights → IsAccepted d past log s → IsBasisOf log s.flight.basis → s.job.uid ≡ made.uid
    → Puts made log (ledger_of made.uid past log) (entered s.job (pods_of made.uid (upto s.flight.basis.pods_at.0 log)) s.flight.basis.pods_at.0 (suc (length log)) (ledger_of made.uid past log))
    s.job (pods_of made.uid (upto s.flight.basis.pods_at.0 log)) s.flight.basis.pods_at.0 s.current s.new
    → Each (Flies (JobPut s.new ∷ log)) next → Tied (d ∷ past) (JobPut s.new ∷ log) next
tied_accepted d past log flights next s made t a basis uid puts flying =
    let g = grow d past (JobPut s.new) log flights t a.written in
    let jobs = ties-accepted d past log s made a g.appends basis t.within uid puts t.jobs in
    record {
      legal = g.legal;
      reached = g.reached;
      within = g.within;
      jobs = jobs;
      numbered = PodsHaveIndexes-more (JobPut s.new) log t.numbered (PodsHaveIndexes-job (JobPut s.new) log g.legal refl (PodsHaveIndexes-now log t.numbered));
      totals = totals_more d past (JobPut s.new) log g.legal jobs t.totals;
      once = once_more (JobPut s.new) past log flights t;
      taken = (TakesWell-none d past (JobPut s.new ∷ log) (ap (λ (r : Reply). taking_of (request_of r)) a.reply), g.taken);
      flying = flying;
    }
