-- What a sync has written is in the log.
use Rattle.std.proofs.Common.{◌≡◌, ℕ, true, false, List, ◌∷◌, [], length, Option, Some, None, is_some, refl, sym, ap, ◌∙◌, subst, arith, true≢false}
use Rattle.jc_types.specs.declared.actions.Fault.{Fault}
use Rattle.jc_types.specs.declared.actions.Fault.TheVariants as fault
use Rattle.jc_types.specs.declared.objects.Entry.{Entry}
use Rattle.jc_types.specs.declared.objects.Entry.TheVariants.{JobPut}
use Rattle.jc_types.specs.declared.objects.Job.{Job}
use Rattle.jc_types.specs.declared.objects.KeyNames.{KeyNames as Key}
use Rattle.jc_types.specs.declared.replies.Answer.{Answer}
use Rattle.jc_types.specs.declared.statuses.JobStatus.{JobStatus}
use Rattle.jc_log.specs.Log.{job_in}
use Rattle.jc_log.specs.Requests.{Answered, grown, with_status}
use Rattle.jc_log.specs.Writes.{Stored}
use Rattle.jc_log.proofs.LogFacts.{entry_at-newest, entry_at-stays}
use Rattle.jc_log.proofs.WriteFacts.{job_in-key}
use Rattle.jc_plan.specs.Plans.{planned}
use Rattle.jc_ledger.specs.declared.flights.Flight.{Flight}
use Rattle.jc_ledger.specs.Flights.{Flies}
use Rattle.jc_asks.specs.declared.asks.Ask.{Ask}
use Rattle.jc_asks.specs.declared.asks.Ask.TheVariants.{MakePod, MarkPod, LetPodGo, WriteFirst, ReleasePod, WriteSecond}
use Rattle.jc_asks.specs.Asks.{asks_after, unchanged_of, writes_status}
use Rattle.jc_asks.specs.Steps.{SyncEnd, answered_to, as_answer, end_given, flight_after, next_unless, refusal, status_gives, stepped_at, written_gives}
use Rattle.jc_sync.specs.SyncPlaces.{IfGoesOn, IsAt, Under}
use Rattle.jc_sync.specs.AllRegisters.{HasLater, WritesShow, NoneWritten, PutLater}
use Rattle.jc_sync.proofs.ApiFacts.{StatusCases, Accepted, Same, Conflicts, Absent, status_cases}
use Rattle.jc_sync.proofs.ConflictFacts.{status_changes}
use Rattle.jc_sync.proofs.StepFacts.{after_basis, pod_next}

-- ---- a log that has grown

later_stays : (k : Key) (n : ℕ) (log : List Entry) (o : Option Entry) → HasLater k n log → HasLater k n (grown log o)
later_stays k n log None h = h
later_stays k n log (Some e) h = record { version = h.version; later = h.later; put = h.put; is_put = entry_at-stays h.version e (JobPut h.put) log h.is_put; key = h.key }

pub shown_stays : (log : List Entry) (o : Option Entry) (flight : Flight) (left : List Ask) → WritesShow log flight left → WritesShow (grown log o) flight left
shown_stays log o flight left (NoneWritten under none) = NoneWritten under none
shown_stays log o flight left (PutLater later) = PutLater (later_stays flight.basis.key flight.basis.jobs_at.0 log o later)

-- ---- a step

module _ (log : List Entry) (now : ℕ) (flight : Flight) (stored : Stored log) (flies : Flies log flight) where
  -- A status with which the sync goes on was put.
  abbrev IsPutBy : Answered → Type 0
  IsPutBy a = refusal (as_answer a.reply) ≡ None → unchanged_of (as_answer a.reply) ≡ None → HasLater flight.basis.key flight.basis.jobs_at.0 (grown log a.entry)

  put_later : (status : JobStatus) (current : Job) → job_in flight.basis.key log ≡ Some current → HasLater flight.basis.key flight.basis.jobs_at.0 (JobPut (with_status log current status) ∷ log)
  put_later status current there = record {
    version = length (JobPut (with_status log current status) ∷ log);
    later = let le = flies.basis.jobs_at in omega (arith, le);
    put = with_status log current status;
    is_put = entry_at-newest (JobPut (with_status log current status)) log;
    key = job_in-key flight.basis.key log current there;
  }

  status_put : (status : JobStatus) (o : Option Job) → IsPutBy (status_gives log flight status o)
  status_put status None = λ goes changes. absurd (true≢false (ap is_some goes))
  status_put status (Some job) = by (status_gives log flight status (Some job)) (status_cases log flight.basis.key job.uid flight.sends status)
    where
      by : (a : Answered) → StatusCases log flight.basis.key job.uid flight.sends status a → IsPutBy a
      by a (Accepted current there own at differs e) = subst IsPutBy (sym e) (λ goes changes. put_later status current there)
      by a (Same current there own at same e) = subst IsPutBy (sym e) (λ goes changes. absurd (true≢false (ap is_some changes)))
      by a (Conflicts current there own other e) = subst IsPutBy (sym e) (λ goes changes. absurd (true≢false (ap is_some goes)))
      by a (Absent gone e) = subst IsPutBy (sym e) (λ goes changes. absurd (true≢false (ap is_some goes)))

  written_put : (o : Option JobStatus) → IsPutBy (written_gives log flight o)
  written_put None = λ goes changes. absurd (true≢false (ap is_some goes))
  written_put (Some status) = status_put status flight.basis.job

  -- After a request on pods nothing more is written.
  pod_shown : (ask : Ask) (left : List Ask) (given : Answer) (o : Option Entry) → writes_status ask ≡ false → (flight_after ask given flight).basis ≡ flight.basis → (flight_after ask given flight).written ≡ flight.written
      → WritesShow log flight (ask ∷ left) → WritesShow (grown log o) (flight_after ask given flight) (asks_after ask given left)
  pod_shown ask left given o pod basis same (NoneWritten under none) = NoneWritten (pod_next log now flight ask left given pod (Under under)) (same ∙ none)
  pod_shown ask left given o pod basis same (PutLater later) =
      PutLater (subst (λ b. HasLater b.key b.jobs_at.0 (grown log o)) (sym basis) (later_stays flight.basis.key flight.basis.jobs_at.0 log o later))

  asked_shown : (ask : Ask) (left : List Ask) → IsAt flight (ask ∷ left) → WritesShow log flight (ask ∷ left) → end_given ask (as_answer (answered_to log now flight ask).reply) ≡ None
      → WritesShow (grown log (answered_to log now flight ask).entry) (flight_after ask (as_answer (answered_to log now flight ask).reply) flight) (asks_after ask (as_answer (answered_to log now flight ask).reply) left)
  asked_shown (MakePod index) left at shown goes = let a = answered_to log now flight (MakePod index) in pod_shown (MakePod index) left (as_answer a.reply) a.entry refl refl refl shown
  asked_shown (MarkPod u) left at shown goes = let a = answered_to log now flight (MarkPod u) in pod_shown (MarkPod u) left (as_answer a.reply) a.entry refl refl refl shown
  asked_shown (LetPodGo u v) left at shown goes = let a = answered_to log now flight (LetPodGo u v) in pod_shown (LetPodGo u v) left (as_answer a.reply) a.entry refl refl refl shown
  asked_shown WriteFirst left at shown goes =
      let a = written_gives log flight (planned flight.basis).first in
      PutLater (subst (λ b. HasLater b.key b.jobs_at.0 (grown log a.entry)) (sym (after_basis WriteFirst (as_answer a.reply) flight))
      (written_put (planned flight.basis).first goes (status_changes log now flight stored flies WriteFirst left at refl)))
  asked_shown (ReleasePod u) left at shown goes = let a = answered_to log now flight (ReleasePod u) in pod_shown (ReleasePod u) left (as_answer a.reply) a.entry refl refl refl shown
  asked_shown WriteSecond left at shown goes = PutLater (written_put (planned flight.basis).second goes (status_changes log now flight stored flies WriteSecond left at refl))

  -- Where the sync goes on after a step, so it is.
  pub stepped_shown : (pending : Option Fault) (left : List Ask) → IsAt flight left → WritesShow log flight left
      → IfGoesOn (stepped_at now pending log flight left).next (λ s. WritesShow (grown log (stepped_at now pending log flight left).entry) s.flight s.left)
  stepped_shown pending [] at shown = tt
  stepped_shown None (ask ∷ left) at shown = by (end_given ask given) refl
    where
      given : Answer
      given = as_answer (answered_to log now flight ask).reply

      by : (o : Option SyncEnd) → end_given ask given ≡ o
          → IfGoesOn (next_unless o (record { flight = flight_after ask given flight; left = asks_after ask given left })) (λ s. WritesShow (grown log (answered_to log now flight ask).entry) s.flight s.left)
      by None goes = asked_shown ask left at shown goes
      by (Some end) goes = tt
  stepped_shown (Some fault.Drop) (ask ∷ left) at shown = tt
  stepped_shown (Some fault.Lose) (ask ∷ left) at shown = tt
