-- The two writes of the status by a sync.
use Rattle.std.proofs.Common.{◌≡◌, true, false, List, ◌∷◌, ◌++◌, length, Option, Some, None, is_some, refl, sym, ap, ◌∙◌, subst, true≢false}
use Rattle.std.specs.Option.{unwrap_or}
use Rattle.jc_types.specs.declared.numbers.Uid.{Uid}
use Rattle.jc_types.specs.declared.objects.Entry.{Entry}
use Rattle.jc_types.specs.declared.objects.Entry.TheVariants.{JobPut}
use Rattle.jc_types.specs.declared.objects.Job.{Job}
use Rattle.jc_types.specs.declared.replies.Answer.{Answer}
use Rattle.jc_types.specs.declared.replies.Reply.TheVariants as reply
use Rattle.jc_types.specs.declared.replies.Request.TheVariants as request
use Rattle.jc_types.specs.declared.statuses.JobStatus.{JobStatus}
use Rattle.jc_log.specs.Requests.{Answered, grown, with_status}
use Rattle.jc_log.specs.Deeds.{Deed}
use Rattle.jc_log.specs.Log.{entry_at, job_in}
use Rattle.jc_types.specs.Equality.{same_status}
use Rattle.jc_states.specs.UidLists.{is_in}
use Rattle.jc_log.specs.Writes.{Stored}
use Rattle.jc_log.proofs.PlaceFacts.{job_in-entry}
use Rattle.jc_log.proofs.WriteFacts.{Stored-from_legal}
use Rattle.jc_plan.specs.Accounts.{counted_in}
use Rattle.jc_plan.specs.Plans.{planned}
use Rattle.jc_plan.specs.Statuses.{first_value, second_value}
use Rattle.jc_plan.proofs.ValueFacts.{first-completed, first-failed, first-failed_indexes, first-failed_list, first-index_failures, first-succeeded, first-succeeded_list, second-completed, second-failed, second-failed_indexes}
use Rattle.jc_plan.proofs.ValueFacts.{second-failed_list, second-index_failures, second-succeeded, second-succeeded_list}
use Rattle.jc_ledger.specs.declared.flights.Flight.{Flight}
use Rattle.jc_ledger.specs.EventKinds.{StatusWrite, began, IsAccepted, CountsIn, CountsOut}
use Rattle.jc_ledger.specs.Flights.{known, IsSent, Flies}
use Rattle.jc_ledger.specs.Syncs.{began_of, step_sync}
use Rattle.jc_ledger.specs.Tied.{Tied}
use Rattle.jc_ledger.proofs.FirstStatus.{first_written}
use Rattle.jc_ledger.proofs.FrameFacts.{AllFly-one}
use Rattle.jc_ledger.proofs.QuietFacts.{IfSome-at, tied_quiet}
use Rattle.jc_ledger.proofs.SecondStatus.{second_written}
use Rattle.jc_asks.specs.declared.asks.Ask.{Ask}
use Rattle.jc_asks.specs.Steps.{as_answer, first_answered, status_gives, written_gives}
use Rattle.jc_sync.proofs.ApiFacts.{StatusCases, Accepted, Same, Conflicts, Absent, status_cases}
use Rattle.jc_sync.proofs.EntryFacts.{quiet-by, written-by}
use Rattle.jc_sync.proofs.PlaceFacts.{IsFirstAsk, IsSecondAsk}
use Rattle.jc_plan.proofs.OrderFacts.{due-released}
use Rattle.jc_plan.proofs.PlanFacts.{plan-first, plan-second}
use Rattle.jc_sync.proofs.PlanFacts.{IsChange, changed-some, plan-no_first, plan-no_second}

-- ---- what the status counts

-- The first status counts in what the sync saw; so does what the sync knows, once it knows that.
pub counts-first : (flight : Flight) (job : Job) (status : JobStatus) → status ≡ first_value job flight.basis → CountsIn job flight.basis.pods status
counts-first flight job status is = subst (CountsIn job flight.basis.pods) (sym is) (record {
  uncounted_succeeded = first-succeeded_list job flight.basis;
  uncounted_failed = first-failed_list job flight.basis;
  succeeded = first-succeeded job flight.basis;
  failed = first-failed job flight.basis;
  completed = first-completed job flight.basis;
  index_failures = first-index_failures job flight.basis;
  failed_indexes = first-failed_indexes job flight.basis;
})

-- The second counts out of the first.
pub counts-second : (flight : Flight) (job : Job) (before status : JobStatus) → before ≡ first_value job flight.basis → status ≡ second_value job flight.basis
    → CountsOut before (counted_in job flight.basis.pods).releases status
counts-second flight job before status was is =
    subst (λ s. CountsOut before (counted_in job flight.basis.pods).releases s) (sym is)
    (subst (λ b. CountsOut b (counted_in job flight.basis.pods).releases (second_value job flight.basis)) (sym was) (record {
      uncounted_succeeded = second-succeeded_list job flight.basis;
      uncounted_failed = second-failed_list job flight.basis;
      succeeded = second-succeeded job flight.basis;
      failed = second-failed job flight.basis;
      completed = second-completed job flight.basis ∙ sym (first-completed job flight.basis);
      index_failures = second-index_failures job flight.basis ∙ sym (first-index_failures job flight.basis);
      failed_indexes = second-failed_indexes job flight.basis ∙ sym (first-failed_indexes job flight.basis);
    }))

-- ---- what is there

-- The Job that is there at the version that the sync sends has the status that it knows.
pub current_known : (log : List Entry) (flight : Flight) (job current : Job) → Stored log → Flies log flight → flight.basis.job ≡ Some job
    → job_in flight.basis.key log ≡ Some current → current.version ≡ flight.sends → current.status ≡ known flight job
current_known log flight job current stored flies is there at =
    let sent = IfSome-at flight.basis.job (λ j. IsSent log flight j) job is flies.sent in
    let same : Some (JobPut current) ≡ Some (JobPut sent.put) = sym (job_in-entry flight.basis.key log current stored there) ∙ ap (λ v. entry_at v.0 log) at ∙ sent.is_put in
    ap (λ (o : Option Entry). (job_of o).status) same ∙ sent.status
  where
    job_of : Option Entry → Job
    job_of None = current
    job_of (Some (JobPut j)) = j
    job_of (Some other) = current

-- A status that differs from what the sync knows is not that of the Job that is there.
pub not_same : (log : List Entry) (flight : Flight) (job current : Job) (status : JobStatus) → Stored log → Flies log flight → flight.basis.job ≡ Some job
    → job_in flight.basis.key log ≡ Some current → current.version ≡ flight.sends → same_status (known flight job) status ≡ false → same_status current.status status ≡ true → ⊥
not_same log flight job current status stored flies is there at differs same =
    true≢false (sym same ∙ ap (λ s. same_status s status) (current_known log flight job current stored flies is there at) ∙ differs)

-- ---- the first status

module _ (d : Deed) (past : List Deed) (log : List Entry) (front back : List Flight) (flight : Flight) (given : Answer)
    (t : Tied past log (front ++ flight ∷ back)) (told : d.reply ≡ reply.Stepped request.Status given) (sync : step_sync d past ≡ Some (began flight.basis)) where
  stored : Stored log
  stored = Stored-from_legal log t.legal

  flies : Flies log flight
  flies = AllFly-one log front back flight t.flying

  -- Nothing is appended.
  status_quiet : d.length.0 ≡ length log → Tied (d ∷ past) log (front ++ flight ∷ back)
  status_quiet still = tied_quiet d past log (front ++ flight ∷ back) t (quiet-by d log (ap began_of told) still)

  -- What goes with the write.
  abbrev write_of : Job → Job → JobStatus → StatusWrite
  write_of job current status = record { flight = flight; job = job; current = current; new = with_status log current status; answer = given }

  -- The write is accepted.
  is_accepted : (job current : Job) (status : JobStatus) → flight.basis.job ≡ Some job → job_in flight.basis.key log ≡ Some current → current.uid ≡ job.uid → current.version ≡ flight.sends
      → d.length.0 ≡ length (JobPut (with_status log current status) ∷ log) → Stored (JobPut (with_status log current status) ∷ log)
      → IsAccepted d past log (write_of job current status)
  is_accepted job current status is there own at grew kept = record {
    written = written-by d log (JobPut (with_status log current status)) request.Status given told grew kept tt;
    reply = told;
    sync = sync;
    seen = is;
    there = there;
    uid = own;
    version = at;
    key = refl;
  }

  -- All that ties, with what the request gives the sync.
  abbrev Ties : (Answer → Flight) → Answered → Type 0
  Ties next a = d.length.0 ≡ length (grown log a.entry) → Stored (grown log a.entry) → Tied (d ∷ past) (grown log a.entry) (front ++ next (as_answer a.reply) ∷ back)

  first_of : (status : JobStatus) (job : Job) → flight.basis.job ≡ Some job → flight.written ≡ None → IsChange job.status (first_value job flight.basis) status
      → (a : Answered) → StatusCases log flight.basis.key job.uid flight.sends status a → Ties (λ g. first_answered (Some status) g flight) a
  first_of status job is unwritten change a (Accepted current there own at differs e) =
      subst (Ties (λ g. first_answered (Some status) g flight)) (sym e)
      (λ grew kept. first_written d past log front back (write_of job current status) t (record {
        accepted = is_accepted job current status is there own at grew kept;
        unwritten = unwritten;
        counts = counts-first flight job status change.is;
      }))
  first_of status job is unwritten change a (Same current there own at same e) =
      absurd (not_same log flight job current status stored flies is there at
      (ap (λ (w : Option JobStatus). same_status (unwrap_or w job.status) status) unwritten ∙ ap (same_status job.status) change.is ∙ change.differs) same)
  first_of status job is unwritten change a (Conflicts current there own other e) =
      subst (Ties (λ g. first_answered (Some status) g flight)) (sym e) (λ still kept. status_quiet still)
  first_of status job is unwritten change a (Absent gone e) =
      subst (Ties (λ g. first_answered (Some status) g flight)) (sym e) (λ still kept. status_quiet still)

  -- The first status.
  pub first_ties : (left : List Ask) → IsFirstAsk flight left → Ties (λ g. first_answered (planned flight.basis).first g flight) (written_gives log flight (planned flight.basis).first)
  first_ties left ask =
      subst (λ o. Ties (λ g. first_answered o g flight) (written_gives log flight o)) (sym ask.first) (by flight.basis.job refl)
    where
      by : (o : Option Job) → flight.basis.job ≡ o → Ties (λ g. first_answered (Some ask.status) g flight) (status_gives log flight ask.status o)
      by None is = absurd (true≢false (ap is_some (sym ask.first ∙ plan-no_first flight.basis is)))
      by (Some job) is =
          first_of ask.status job is ask.unwritten (changed-some job.status (first_value job flight.basis) ask.status (sym (plan-first flight.basis job is) ∙ ask.first))
          (status_gives log flight ask.status (Some job)) (status_cases log flight.basis.key job.uid flight.sends ask.status)

  second_of : (status : JobStatus) (job : Job) → flight.basis.job ≡ Some job → known flight job ≡ first_value job flight.basis → IsChange (first_value job flight.basis) (second_value job flight.basis) status
      → ((u : Uid) → is_in u (counted_in job flight.basis.pods).releases ≡ true → is_in u flight.released ≡ true)
      → (a : Answered) → StatusCases log flight.basis.key job.uid flight.sends status a → Ties (λ g. flight) a
  second_of status job is knows change released a (Accepted current there own at differs e) =
      subst (Ties (λ g. flight)) (sym e)
      (λ grew kept. second_written d past log front back (write_of job current status) t (record {
        accepted = is_accepted job current status is there own at grew kept;
        counted = counts-first flight job (known flight job) knows;
        counts = counts-second flight job (known flight job) status knows change.is;
        released = released;
      }))
  second_of status job is knows change released a (Same current there own at same e) =
      absurd (not_same log flight job current status stored flies is there at
      (ap (λ s. same_status s status) knows ∙ ap (same_status (first_value job flight.basis)) change.is ∙ change.differs) same)
  second_of status job is knows change released a (Conflicts current there own other e) =
      subst (Ties (λ g. flight)) (sym e) (λ still kept. status_quiet still)
  second_of status job is knows change released a (Absent gone e) =
      subst (Ties (λ g. flight)) (sym e) (λ still kept. status_quiet still)

  -- The second.
  pub second_ties : (left : List Ask) → IsSecondAsk flight left → Ties (λ g. flight) (written_gives log flight (planned flight.basis).second)
  second_ties left ask = subst (λ o. Ties (λ g. flight) (written_gives log flight o)) (sym ask.second) (by flight.basis.job refl)
    where
      by : (o : Option Job) → flight.basis.job ≡ o → Ties (λ g. flight) (status_gives log flight ask.status o)
      by None is = absurd (true≢false (ap is_some (sym ask.second ∙ plan-no_second flight.basis is)))
      by (Some job) is =
          second_of ask.status job is (IfSome-at flight.basis.job (λ j. known flight j ≡ first_value j flight.basis) job is ask.knows)
          (changed-some (first_value job flight.basis) (second_value job flight.basis) ask.status (sym (plan-second flight.basis job is) ∙ ask.second))
          (λ u h. ask.released u (due-released u job flight.basis is h))
          (status_gives log flight ask.status (Some job)) (status_cases log flight.basis.key job.uid flight.sends ask.status)
