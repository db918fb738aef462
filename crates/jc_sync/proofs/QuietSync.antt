-- A sync on current caches ends with the next status of its Job.
use Rattle.std.proofs.Common.{◌≡◌, ℕ, ◌+◌, ◌<◌, Bool, true, false, cond, List, [], ◌∷◌, Option, Some, None, is_some, refl, sym, ap, ◌∙◌, subst, arith, true≢false}
use Rattle.std.specs.Option.{unwrap_or}
use Rattle.std.proofs.lemmas.Bool.{cond-true}
use Rattle.std.proofs.lemmas.List.{append-nil}
use Rattle.jc_types.specs.declared.numbers.Uid.{Uid}
use Rattle.jc_types.specs.declared.numbers.Version.{Version}
use Rattle.jc_types.specs.declared.objects.Entry.{Entry}
use Rattle.jc_types.specs.declared.objects.Entry.TheVariants.{JobPut, JobGone, PodPut, PodGone}
use Rattle.jc_types.specs.declared.objects.Job.{Job}
use Rattle.jc_types.specs.declared.objects.Pod.{Pod}
use Rattle.jc_types.specs.declared.replies.Answer.{Answer}
use Rattle.jc_types.specs.declared.statuses.JobStatus.{JobStatus}
use Rattle.jc_log.specs.Requests.{Answered, grown, let_go_gives, mark_pod_gives, pod_entry, release_gives, with_mark, with_status, without_finalizer}
use Rattle.jc_types.specs.declared.objects.KeyNames.{KeyNames as Key}
use Rattle.jc_types.specs.Keys.{same_key}
use Rattle.jc_states.specs.PodLists.{IsRising}
use Rattle.jc_log.specs.Log.{job_in, next_version}
use Rattle.jc_types.specs.Equality.{same_status}
use Rattle.jc_states.specs.UidLists.{is_in}
use Rattle.jc_log.specs.Writes.{Stored}
use Rattle.jc_types.proofs.KeyFacts.{same_key-itself}
use Rattle.jc_log.proofs.WriteFacts.{job_in-key}
use Rattle.jc_plan.specs.Plans.{planned}
use Rattle.jc_plan.specs.Statuses.{first_value, second_value}
use Rattle.jc_ledger.specs.declared.flights.Flight.{Flight}
use Rattle.jc_ledger.specs.EventKinds.{pod_of}
use Rattle.jc_ledger.specs.Flights.{known, Flies}
use Rattle.jc_ledger.proofs.QuietFacts.{IfSome-at}
use Rattle.jc_asks.specs.declared.asks.Ask.{Ask}
use Rattle.jc_asks.specs.declared.asks.Ask.TheVariants.{MakePod, MarkPod, LetPodGo, WriteFirst, ReleasePod, WriteSecond}
use Rattle.jc_asks.specs.Asks.{writes_status, asks_of, is_gone, asks_after, second_asks}
use Rattle.jc_sync.specs.SyncPlaces.{IsUnder, Under}
use Rattle.jc_sync.specs.Quiet.{GoesOnTo, IsUndisturbed, Going, Wrote, Leaves, steps_left}
use Rattle.jc_asks.specs.Steps.{as_answer, answered_to, flight_after, make_gives, next_after, status_gives, stepped_at, written_gives}
use Rattle.jc_sync.proofs.ApiFacts.{LetGoCases, LetGone, Other, Refused, let_go_cases, MarkCases, Marked, Unmarked, mark_cases, ReleaseCases, Took, NotThere, release_cases, StatusCases, Accepted, Same, Conflicts, Absent, status_cases}
use Rattle.jc_sync.proofs.EntryFacts.{pod_entry-pod}
use Rattle.jc_sync.proofs.PlaceFacts.{IsFirstAsk, IsSecondAsk, Place, AtEarly, AtFirst, AtLast, at_first, at_second, is_asked, place_of}
use Rattle.jc_plan.proofs.NextFacts.{changed-same}
use Rattle.jc_plan.proofs.PlanFacts.{plan-first, plan-second}
use Rattle.jc_sync.proofs.PlanFacts.{changed-some}
use Rattle.jc_sync.proofs.StatusFacts.{current_known, not_same}
use Rattle.jc_sync.proofs.StepFacts.{begun_under, first_next, pod_next}

-- ---- requests on pods leave the Job as it is

pod_keeps : (k : Key) (e : Entry) (log : List Entry) (pod : Pod) → pod_of e ≡ Some pod → job_in k (e ∷ log) ≡ job_in k log
pod_keeps k (JobPut job) log pod is = absurd (true≢false (sym (ap is_some is)))
pod_keeps k (JobGone job) log pod is = absurd (true≢false (sym (ap is_some is)))
pod_keeps k (PodPut new) log pod is = refl
pod_keeps k (PodGone gone) log pod is = refl

abbrev KeepsJob : Key → List Entry → Answered → Type 0
KeepsJob k log a = job_in k (grown log a.entry) ≡ job_in k log

make_keeps : (k : Key) (log : List Entry) (index : Option ℕ) (now : ℕ) (o : Option Job) → KeepsJob k log (make_gives log index now o)
make_keeps k log index now None = refl
make_keeps k log index now (Some job) = refl

mark_keeps : (k : Key) (log : List Entry) (u : Uid) (now : ℕ) → KeepsJob k log (mark_pod_gives log u now)
mark_keeps k log u now = by (mark_pod_gives log u now) (mark_cases log u now)
  where
    by : (a : Answered) → MarkCases log u now a → KeepsJob k log a
    by a (Marked old there is) = subst (KeepsJob k log) (sym is) (pod_keeps k (pod_entry (with_mark log old now)) log (with_mark log old now) (pod_entry-pod (with_mark log old now)))
    by a (Unmarked r is) = subst (KeepsJob k log) (sym is) refl

let_go_keeps : (k : Key) (log : List Entry) (u : Uid) (v : Version) → KeepsJob k log (let_go_gives log u v)
let_go_keeps k log u v = by (let_go_gives log u v) (let_go_cases log u v)
  where
    by : (a : Answered) → LetGoCases log u v a → KeepsJob k log a
    by a (LetGone old there at is) = subst (KeepsJob k log) (sym is) (pod_keeps k (pod_entry (without_finalizer log old)) log (without_finalizer log old) (pod_entry-pod (without_finalizer log old)))
    by a (Other old there other is) = subst (KeepsJob k log) (sym is) refl
    by a (Refused r is why) = subst (KeepsJob k log) (sym is) refl

release_keeps : (k : Key) (log : List Entry) (u : Uid) → KeepsJob k log (release_gives log u)
release_keeps k log u = by (release_gives log u) (release_cases log u)
  where
    by : (a : Answered) → ReleaseCases log u a → KeepsJob k log a
    by a (Took old there is) = subst (KeepsJob k log) (sym is) (pod_keeps k (pod_entry (without_finalizer log old)) log (without_finalizer log old) (pod_entry-pod (without_finalizer log old)))
    by a (NotThere lost is) = subst (KeepsJob k log) (sym is) refl

-- A status write puts the Job.
status_puts : (k : Key) (log : List Entry) (current : Job) (status : JobStatus) → job_in k log ≡ Some current → job_in k (JobPut (with_status log current status) ∷ log) ≡ Some (with_status log current status)
status_puts k log current status there =
    cond-true (same_key current.key k) (Some (with_status log current status)) (job_in k log) (ap (λ q. same_key q k) (job_in-key k log current there) ∙ same_key-itself k)

-- ---- where the sync begins

pub begun_current : (log : List Entry) (flight : Flight) (job : Job) → IsRising flight.basis.pods → flight.written ≡ None → job_in flight.basis.key log ≡ Some job → flight.sends ≡ job.version
    → IsUndisturbed log flight job (asks_of (planned flight.basis))
begun_current log flight job rising unwritten there sends = Going (begun_under flight rising unwritten) job there refl (sym sends)

-- ---- a step

module _ (log : List Entry) (now : ℕ) (flight : Flight) (job : Job) (stored : Stored log) (flies : Flies log flight) (saw : flight.basis.job ≡ Some job) where
  abbrev Goes : Ask → List Ask → Answered → Type 0
  Goes ask left a = GoesOnTo (next_after flight ask left (as_answer a.reply)) (λ s. IsUndisturbed (grown log a.entry) s.flight job s.left)

  -- After a request on pods.
  pod_goes : (ask : Ask) (left : List Ask) (given : Answer) (entry : Option Entry) → writes_status ask ≡ false → (flight_after ask given flight).basis ≡ flight.basis → (flight_after ask given flight).sends ≡ flight.sends
      → IsUnder flight (ask ∷ left) → (current : Job) → job_in flight.basis.key (grown log entry) ≡ Some current → current.uid ≡ job.uid → current.version ≡ flight.sends
      → IsUndisturbed (grown log entry) (flight_after ask given flight) job (asks_after ask given left)
  pod_goes ask left given entry pod basis sends under current there own at =
      Going (pod_next log now flight ask left given pod (Under under)) current (ap (λ b. job_in b.key (grown log entry)) basis ∙ there) own (at ∙ sym sends)

  -- The Job is there at the version that the sync sends.
  module _ (current : Job) (there : job_in flight.basis.key log ≡ Some current) (own : current.uid ≡ job.uid) (at : current.version ≡ flight.sends) where
    same_job : (other : Job) → job_in flight.basis.key log ≡ Some other → current ≡ other
    same_job other is = ap (λ (o : Option Job). unwrap_or o current) (sym there ∙ is)

    first_goes : (left : List Ask) (ask : IsFirstAsk flight left) → (a : Answered) → StatusCases log flight.basis.key job.uid flight.sends ask.status a → Goes WriteFirst left a
    first_goes left ask a (Accepted now_there is own_it at_it differs e) =
        subst (Goes WriteFirst left) (sym e)
        (Going (first_next log now flight left (next_version log) job saw ask) (with_status log now_there ask.status) (status_puts flight.basis.key log now_there ask.status is) own_it refl)
    first_goes left ask a (Same now_there is own_it at_it same e) =
        let change = changed-some job.status (first_value job flight.basis) ask.status (sym (plan-first flight.basis job saw) ∙ ask.first) in
        absurd (not_same log flight job now_there ask.status stored flies saw is at_it
        (ap (λ (w : Option JobStatus). same_status (unwrap_or w job.status) ask.status) ask.unwritten ∙ ap (same_status job.status) change.is ∙ change.differs) same)
    first_goes left ask a (Conflicts now_there is own_it other e) = absurd (other (ap (λ (j : Job). j.version.0) (sym (same_job now_there is)) ∙ ap (λ v. v.0) at))
    first_goes left ask a (Absent gone e) = absurd (gone current there own)

    second_goes : (left : List Ask) (ask : IsSecondAsk flight left) → (a : Answered) → StatusCases log flight.basis.key job.uid flight.sends ask.status a → Goes WriteSecond left a
    second_goes left ask a (Accepted now_there is own_it at_it differs e) =
        subst (Goes WriteSecond left) (sym e)
        (Wrote ask.is (with_status log now_there ask.status) (status_puts flight.basis.key log now_there ask.status is) own_it
        (changed-some (first_value job flight.basis) (second_value job flight.basis) ask.status (sym (plan-second flight.basis job saw) ∙ ask.second)).is ask.released)
    second_goes left ask a (Same now_there is own_it at_it same e) =
        let change = changed-some (first_value job flight.basis) (second_value job flight.basis) ask.status (sym (plan-second flight.basis job saw) ∙ ask.second) in
        absurd (not_same log flight job now_there ask.status stored flies saw is at_it
        (ap (λ s. same_status s ask.status) (IfSome-at flight.basis.job (λ j. known flight j ≡ first_value j flight.basis) job saw ask.knows) ∙ ap (same_status (first_value job flight.basis)) change.is ∙ change.differs) same)
    second_goes left ask a (Conflicts now_there is own_it other e) = absurd (other (ap (λ (j : Job). j.version.0) (sym (same_job now_there is)) ∙ ap (λ v. v.0) at))
    second_goes left ask a (Absent gone e) = absurd (gone current there own)

    status_at : (status : JobStatus) (o : Option JobStatus) → o ≡ Some status → StatusCases log flight.basis.key job.uid flight.sends status (written_gives log flight o)
    status_at status o is =
        subst (λ p. StatusCases log flight.basis.key job.uid flight.sends status (written_gives log flight p)) (sym is)
        (subst (λ p. StatusCases log flight.basis.key job.uid flight.sends status (status_gives log flight status p)) (sym saw)
        (status_cases log flight.basis.key job.uid flight.sends status))

    asked_goes : (ask : Ask) (left : List Ask) → IsUnder flight (ask ∷ left) → Goes ask left (answered_to log now flight ask)
    asked_goes (MakePod index) left under =
        let a = answered_to log now flight (MakePod index) in
        pod_goes (MakePod index) left (as_answer a.reply) a.entry refl refl refl under current (make_keeps flight.basis.key log index now flight.basis.job ∙ there) own at
    asked_goes (MarkPod u) left under =
        let a = answered_to log now flight (MarkPod u) in
        pod_goes (MarkPod u) left (as_answer a.reply) a.entry refl refl refl under current (mark_keeps flight.basis.key log u now ∙ there) own at
    asked_goes (LetPodGo u v) left under =
        let a = answered_to log now flight (LetPodGo u v) in
        pod_goes (LetPodGo u v) left (as_answer a.reply) a.entry refl refl refl under current (let_go_keeps flight.basis.key log u v ∙ there) own at
    asked_goes WriteFirst left under =
        let ask = at_first flight left (Under under) in
        first_goes left ask (written_gives log flight (planned flight.basis).first) (status_at ask.status (planned flight.basis).first ask.first)
    asked_goes (ReleasePod u) left under =
        let a = answered_to log now flight (ReleasePod u) in
        pod_goes (ReleasePod u) left (as_answer a.reply) a.entry refl refl refl under current (release_keeps flight.basis.key log u ∙ there) own at
    asked_goes WriteSecond left under =
        let ask = at_second flight left (Under under) in
        second_goes left ask (written_gives log flight (planned flight.basis).second) (status_at ask.status (planned flight.basis).second ask.second)

  -- A step with a request left goes on, and the Job stays as the sync last wrote it.
  pub quiet_goes : (ask : Ask) (left : List Ask) → IsUndisturbed log flight job (ask ∷ left)
      → GoesOnTo (stepped_at now None log flight (ask ∷ left)).next (λ s. IsUndisturbed (grown log (stepped_at now None log flight (ask ∷ left)).entry) s.flight job s.left)
  quiet_goes ask left (Going under current there own at) = asked_goes current there own at ask left under
  quiet_goes ask left (Wrote is current there own status released) = absurd (true≢false (ap is_asked is))

  -- With none left the Job has its next status.
  pub quiet_ends : IsUndisturbed log flight job [] → Leaves log flight job
  quiet_ends (Wrote is current there own status released) = record {
    current = current;
    there = there;
    uid = own;
    status = status;
    released = λ u h. flies.released u (released u h);
  }
  quiet_ends (Going under current there own at) = by (place_of flight [] under)
    where
      by : Place flight [] → Leaves log flight job
      by (AtEarly ask front is early others unwritten) = absurd (true≢false (sym (ap is_asked is)))
      by (AtFirst status first is unwritten) = absurd (true≢false (sym (ap is_asked is)))
      by (AtLast made (u ∷ rest) are is knows released) = absurd (true≢false (sym (ap is_asked is)))
      by (AtLast made [] are is knows released) = last (planned flight.basis).second refl is
        where
          last : (o : Option JobStatus) → (planned flight.basis).second ≡ o → [] ≡ second_asks o → Leaves log flight job
          last (Some status) second e = absurd (true≢false (sym (ap is_asked e)))
          last None none e = record {
            current = current;
            there = there;
            uid = own;
            status =
                current_known log flight job current stored flies saw there at
                ∙ IfSome-at flight.basis.job (λ j. known flight j ≡ first_value j flight.basis) job saw knows
                ∙ changed-same (first_value job flight.basis) (second_value job flight.basis) (sym (plan-second flight.basis job saw) ∙ none);
            released = λ u h. flies.released u (released u (sym (ap (is_in u) (are ∙ append-nil made)) ∙ h));
          }

-- ---- it comes to its end

pub fewer_left : (ask : Ask) (given : Answer) (left : List Ask) → steps_left (asks_after ask given left) < steps_left (ask ∷ left)
fewer_left (MakePod index) given left = omega arith
fewer_left (MarkPod u) given left = omega arith
fewer_left (LetPodGo u v) given left = by (is_gone given)
  where
    by : (b : Bool) → steps_left (cond b (MarkPod u ∷ left) left) < 2 + steps_left left
    by true = omega arith
    by false = omega arith
fewer_left WriteFirst given left = omega arith
fewer_left (ReleasePod u) given left = omega arith
fewer_left WriteSecond given left = omega arith
