-- A sync that saw a Job as it is now and its ended pod neither ends well nor finds its Job gone. It wrote no status,
-- since that would be a newer entry of the Job; and a plan that writes none has room for each pod, so it has this one
-- released.
use Rattle.std.proofs.Common.{◌≡◌, ℕ, zero, suc, ◌≤◌, ◌<◌, Bool, true, false, cond, not, ◌&&◌, ◌||◌, List, [], ◌∷◌, filter, find, length, Option, Some, None, IfSome, is_some, refl, sym, ap, ◌∙◌, subst, arith, true≢false}
use Rattle.std.specs.Option.{option_map_or, unwrap_or}
use Rattle.std.proofs.lemmas.Bool.{and_from, and_parts, and_right, cond-true, not_from_false, not_from_true, or_left}
use Rattle.std.proofs.lemmas.List.{append-nil}
use Rattle.jc_plan.specs.Outcome.{Outcome}
use Rattle.jc_plan.specs.Outcome.TheVariants.{Alive, Succeeded, Failed, Ignored}
use Rattle.jc_plan.specs.Outcomes.{counts_marked, failure_of, is_failed, is_ignore, is_succeeded, outcome_of, same_outcome}
use Rattle.jc_plan.specs.Rules.{action_of}
use Rattle.jc_types.specs.declared.actions.Fault.{Fault}
use Rattle.jc_types.specs.declared.actions.Fault.TheVariants.{Drop, Lose}
use Rattle.jc_types.specs.declared.numbers.Uid.{Uid}
use Rattle.jc_types.specs.declared.objects.Entry.{Entry}
use Rattle.jc_types.specs.declared.objects.Entry.TheVariants.{JobPut}
use Rattle.jc_types.specs.declared.objects.Job.{Job}
use Rattle.jc_types.specs.declared.objects.Phase.{Phase}
use Rattle.jc_types.specs.declared.objects.Phase.TheVariants as phase
use Rattle.jc_types.specs.declared.objects.Pod.{Pod}
use Rattle.jc_types.specs.declared.policies.FailurePolicy.{FailurePolicy}
use Rattle.jc_types.specs.declared.replies.Answer.{Answer}
use Rattle.jc_types.specs.declared.replies.Answer.TheVariants as answer
use Rattle.jc_types.specs.declared.replies.Reply.TheVariants as reply
use Rattle.jc_types.specs.declared.specifications.JobSpec.{JobSpec}
use Rattle.jc_types.specs.declared.statuses.JobStatus.{JobStatus}
use Rattle.jc_types.specs.Equality.{same_status}
use Rattle.jc_types.specs.declared.objects.KeyNames.{KeyNames as Key}
use Rattle.jc_types.specs.Keys.{same_key, same_uid}
use Rattle.jc_types.proofs.EqualityFacts.{status-exact}
use Rattle.jc_types.proofs.KeyFacts.{same_key-itself}
use Rattle.jc_states.specs.Bases.{own_pods}
use Rattle.jc_states.specs.Listed.{is_listed}
use Rattle.jc_states.specs.Pods.{is_final, is_marked, is_tracked}
use Rattle.jc_states.specs.UidLists.{is_in}
use Rattle.jc_log.specs.Log.{Live, entry_at, is_lost, job_in, life, living, pod_in, pods_in, upto}
use Rattle.jc_log.specs.Requests.{Answered}
use Rattle.jc_log.specs.Writes.{Stored, Writes}
use Rattle.jc_log.proofs.LogFacts.{entry_at-place, length-upto, upto-all, upto-entry_at}
use Rattle.jc_log.proofs.PlaceFacts.{job_in-within}
use Rattle.jc_log.proofs.PodFacts.{living-live, pods_in-among}
use Rattle.jc_log.proofs.WriteFacts.{Follows-upto, life-uid, place_is_version}
use Rattle.jc_plan.specs.Judged.{fits, is_candidate, is_left_over}
use Rattle.jc_plan.specs.Plans.{WritesNothing, planned}
use Rattle.jc_plan.specs.Statuses.{first_value}
use Rattle.jc_plan.specs.declared.plans.Planned.{Planned}
use Rattle.jc_plan.proofs.PartFacts.{planned-here}
use Rattle.jc_plan.proofs.LeftFacts.{all-fit}
use Rattle.jc_plan.proofs.OrderFacts.{due-released}
use Rattle.jc_plan.proofs.PlanFacts.{plan-first}
use Rattle.jc_sync.specs.Flight.{Flight}
use Rattle.jc_sync.specs.Flights.{Flies, known}
use Rattle.jc_sync.proofs.DuePods.{due_in}
use Rattle.jc_sync.proofs.OwnFacts.{basis-rises}
use Rattle.jc_sync.proofs.QuietFacts.{IfSome-at}
use Rattle.jc_sync.specs.Ask.{Ask}
use Rattle.jc_sync.specs.Ask.TheVariants.{MakePod, MarkPod, LetPodGo, WriteFirst, ReleasePod, WriteSecond}
use Rattle.jc_sync.specs.Asks.{as_request, second_asks}
use Rattle.jc_sync.specs.Steps.{as_answer, answered_to, status_gives, stepped_at, written_gives}
use Rattle.jc_sync.specs.SyncPlaces.{AreReleased, IsAt, IsUnder, KnowsFirst, Over, Under}
use Rattle.jc_sync.specs.AllRegisters.{NoneWritten, PutLater, WritesShow}
use Rattle.jc_sync.proofs.ApiFacts.{Absent, Accepted, Conflicts, Same, StatusCases, status_cases}
use Rattle.jc_sync.proofs.PlaceFacts.{AtEarly, AtFirst, AtLast, Place, at_first, at_second, is_asked, place_of}
use Rattle.jc_history.specs.Delays.{is_retried}
use Rattle.jc_history.specs.Diaries.{end_by}
use Rattle.jc_history.specs.Registers.{asks_status}
use Rattle.jc_order.specs.Restless.{has_forgotten, is_forgotten}
use Rattle.jc_rest.specs.Both.{AreThere, FailsAfter}

-- ---- the pod

-- The pod of the UID.
record ThePod (k : Key) (j u : Uid) (log : List Entry) : Type 0 where
  pod : Pod
  is : life u log ≡ Live pod
  owner : same_key pod.owner k ≡ true
  own : same_uid pod.owner_uid j ≡ true
  tracked : pod.tracked ≡ true
  final : is_final pod.phase ≡ true

the-pod : (k : Key) (j u : Uid) (log : List Entry) → has_forgotten k j u log ≡ true → ThePod k j u log
the-pod k j u log h = by (pod_in u log) refl h
  where
    by : (o : Option Pod) → pod_in u log ≡ o → option_map_or (is_forgotten k j) o false ≡ true → ThePod k j u log
    by None e h = absurd (true≢false (sym h))
    by (Some pod) e h =
        let one = and_parts (same_key pod.owner k) (same_uid pod.owner_uid j && (pod.tracked && is_final pod.phase)) h in
        let two = and_parts (same_uid pod.owner_uid j) (pod.tracked && is_final pod.phase) one.1 in
        let three = and_parts pod.tracked (is_final pod.phase) two.1 in
        record { pod = pod; is = living-live (life u log) pod e; owner = one.0; own = two.0; tracked = three.0; final = three.1 }

-- ---- what has ended is not alive

failure-out : (failure : Option FailurePolicy) (pod : Pod) → same_outcome (failure_of failure pod) Alive ≡ false
failure-out None pod = refl
failure-out (Some policy) pod = by (is_ignore (action_of policy pod))
  where
    by : (b : Bool) → same_outcome (cond b Ignored Failed) Alive ≡ false
    by true = refl
    by false = refl

ended-out : (spec : JobSpec) (pod : Pod) → is_final pod.phase ≡ true → same_outcome (outcome_of spec pod) Alive ≡ false
ended-out spec pod h = by pod.phase (counts_marked spec.replacement && is_marked pod) (failure_of spec.failure pod) (failure-out spec.failure pod) h
  where
    by : (p : Phase) (x : Bool) (o : Outcome) → same_outcome o Alive ≡ false → is_final p ≡ true → same_outcome (cond (is_succeeded p) Succeeded (cond (is_failed p || x) o Alive)) Alive ≡ false
    by phase.Pending x o n h = absurd (true≢false (sym h))
    by phase.Running x o n h = absurd (true≢false (sym h))
    by phase.Succeeded x o n h = refl
    by phase.Failed x o n h = n

-- ---- what is found stays found

pub found-kept : (test keep : Pod → Bool) (pods : List Pod) (pod : Pod) → keep pod ≡ true → find test pods ≡ Some pod → find test (filter keep pods) ≡ Some pod
found-kept test keep [] pod k e = e
found-kept test keep (p ∷ pods) pod k e = by (test p) refl (keep p) refl e (found-kept test keep pods pod k)
  where
    by : (t : Bool) → test p ≡ t → (b : Bool) → keep p ≡ b → cond t (Some p) (find test pods) ≡ Some pod → (find test pods ≡ Some pod → find test (filter keep pods) ≡ Some pod)
        → find test (cond b (p ∷ filter keep pods) (filter keep pods)) ≡ Some pod
    by true s true q e ih = ap (λ t. cond t (Some p) (find test (filter keep pods))) s ∙ e
    by true s false q e ih = absurd (true≢false (sym k ∙ ap (λ (o : Option Pod). elim o [ None ↦ true | Some x ↦ keep x ]) (sym e) ∙ q))
    by false s true q e ih = ap (λ t. cond t (Some p) (find test (filter keep pods))) s ∙ ih e
    by false s false q e ih = ih e

-- ---- the answers

-- A request that writes no status ends its sync only where the answer was lost.
other-fails : (given : Answer) → IfSome (end_by false given) (λ end. is_retried end ≡ true)
other-fails answer.Unavailable = refl
other-fails other = tt

lost-fails : (b : Bool) → IfSome (end_by b answer.Unavailable) (λ end. is_retried end ≡ true)
lost-fails true = refl
lost-fails false = refl

-- Where nothing is left to ask, all releases were answered.
pub all-released : (flight : Flight) → IsAt flight [] → AreReleased flight (planned flight.basis).releases
all-released flight (Over is released) = released
all-released flight (Under under) = by (place_of flight [] under)
  where
    by : Place flight [] → AreReleased flight (planned flight.basis).releases
    by (AtEarly ask front is early others unwritten) = absurd (true≢false (sym (ap is_asked is)))
    by (AtFirst status first is unwritten) = absurd (true≢false (sym (ap is_asked is)))
    by (AtLast made (u ∷ rest) are is knows released) = absurd (true≢false (sym (ap is_asked is)))
    by (AtLast made [] are is knows released) = λ u h. released u (sym (ap (is_in u) (are ∙ append-nil made)) ∙ h)

-- ---- a sync whose Job is as it saw it

-- It is never told that its Job is gone; so where it does not end well, it ends as one that failed.
module _ (k : Key) (log : List Entry) (now : ℕ) (flight : Flight) (named : flight.basis.key ≡ k) (as-is : flight.basis.job ≡ job_in k log) where
  status-fails : (job : Job) → job_in k log ≡ Some job → (status : JobStatus) (given : Answered) → StatusCases log flight.basis.key job.uid flight.sends status given
      → IfSome (end_by true (as_answer given.reply)) (λ end. is_retried end ≡ true)
  status-fails job there status given (Accepted current its own at differs e) = subst (λ (x : Answered). IfSome (end_by true (as_answer x.reply)) (λ end. is_retried end ≡ true)) (sym e) tt
  status-fails job there status given (Same current its own at same e) = subst (λ (x : Answered). IfSome (end_by true (as_answer x.reply)) (λ end. is_retried end ≡ true)) (sym e) tt
  status-fails job there status given (Conflicts current its own other e) = subst (λ (x : Answered). IfSome (end_by true (as_answer x.reply)) (λ end. is_retried end ≡ true)) (sym e) refl
  status-fails job there status given (Absent gone e) = absurd (gone job (ap (λ q. job_in q log) named ∙ there) refl)

  -- Without a Job the plan writes no status.
  written-fails : (status : JobStatus) (o : Option JobStatus) → o ≡ Some status → (flight.basis.job ≡ None → o ≡ None) → IfSome (end_by true (as_answer (written_gives log flight o).reply)) (λ end. is_retried end ≡ true)
  written-fails status o is none = by flight.basis.job refl
    where
      by : (j : Option Job) → flight.basis.job ≡ j → IfSome (end_by true (as_answer (written_gives log flight o).reply)) (λ end. is_retried end ≡ true)
      by None e = absurd (true≢false (sym (ap is_some (sym (none e) ∙ is))))
      by (Some job) e =
          status-fails job (sym as-is ∙ e) status (written_gives log flight o)
          (subst (λ p. StatusCases log flight.basis.key job.uid flight.sends status (written_gives log flight p)) (sym is)
          (subst (λ p. StatusCases log flight.basis.key job.uid flight.sends status (status_gives log flight status p)) (sym e)
          (status_cases log flight.basis.key job.uid flight.sends status)))

  asked-fails : (ask : Ask) (left : List Ask) → IsAt flight (ask ∷ left) → FailsAfter (reply.Stepped (as_request ask) (as_answer (answered_to log now flight ask).reply))
  asked-fails (MakePod index) left at = other-fails (as_answer (answered_to log now flight (MakePod index)).reply)
  asked-fails (MarkPod v) left at = other-fails (as_answer (answered_to log now flight (MarkPod v)).reply)
  asked-fails (LetPodGo v version) left at = other-fails (as_answer (answered_to log now flight (LetPodGo v version)).reply)
  asked-fails WriteFirst left at =
      let ask = at_first flight left at in
      written-fails ask.status (planned flight.basis).first ask.first (λ e. ap (λ (p : Planned). p.first) (sym (planned-here flight.basis None e)))
  asked-fails (ReleasePod v) left at = other-fails (as_answer (answered_to log now flight (ReleasePod v)).reply)
  asked-fails WriteSecond left at =
      let ask = at_second flight left at in
      written-fails ask.status (planned flight.basis).second ask.second (λ e. ap (λ (p : Planned). p.second) (sym (planned-here flight.basis None e)))

  pub fails-unless : (IsAt flight [] → WritesShow log flight [] → ⊥) → (pending : Option Fault) (left : List Ask) → IsAt flight left → WritesShow log flight left → FailsAfter (stepped_at now pending log flight left).reply
  fails-unless never pending [] at wrote = absurd (never at wrote)
  fails-unless never None (ask ∷ left) at wrote = asked-fails ask left at
  fails-unless never (Some Drop) (ask ∷ left) at wrote = lost-fails (asks_status (as_request ask))
  fails-unless never (Some Lose) (ask ∷ left) at wrote = lost-fails (asks_status (as_request ask))

-- ---- an ended pod of a Job that is there

module _ (k : Key) (job : Job) (u : Uid) (a b : ℕ) (log : List Entry) (stored : Stored log) (there : AreThere k job u a b log) (now : ℕ) (flight : Flight) (flies : Flies log flight)
    (named : flight.basis.key ≡ k) (jobs : a ≤ flight.basis.jobs_at.0) (pods : b ≤ flight.basis.pods_at.0) where
  whole : upto (length log) log ≡ log
  whole = upto-all (length log) log (omega arith)

  -- As the sync saw them, and as they are now.
  saw-it : flight.basis.job ≡ Some job
  saw-it = flies.basis.job ∙ ap (λ q. job_in q (upto flight.basis.jobs_at.0 log)) named ∙ there.stays flight.basis.jobs_at.0 jobs flies.basis.jobs_at

  now-there : job_in k log ≡ Some job
  now-there =
      ap (job_in k) (sym whole) ∙ there.stays (length log) (let le = flies.basis.jobs_at in omega (arith, jobs, le)) (omega arith)

  old-pod : ThePod k job.uid u (upto flight.basis.pods_at.0 log)
  old-pod = the-pod k job.uid u (upto flight.basis.pods_at.0 log) (there.pod flight.basis.pods_at.0 pods flies.basis.pods_at)

  new-pod : ThePod k job.uid u log
  new-pod =
      the-pod k job.uid u log
      (ap (has_forgotten k job.uid u) (sym whole)
      ∙ there.pod (length log) (let le = flies.basis.pods_at in omega (arith, pods, le)) (omega arith))

  -- ---- where it has nothing left to ask, it wrote nothing and left nothing over

  seen-by : job.version.0 ≤ flight.basis.jobs_at.0
  seen-by =
      let within = job_in-within k (upto flight.basis.jobs_at.0 log) job (Follows-upto Writes flight.basis.jobs_at.0 log stored) (there.stays flight.basis.jobs_at.0 jobs flies.basis.jobs_at) in
      let long = length-upto flight.basis.jobs_at.0 log flies.basis.jobs_at in
      omega (arith, within, long)

  -- No entry put the Job after that.
  none-newer : (v : ℕ) (put : Job) → entry_at v log ≡ Some (JobPut put) → put.key ≡ flight.basis.key → flight.basis.jobs_at.0 < v → ⊥
  none-newer zero put is key later = omega (arith, later)
  none-newer (suc v) put is key later =
      let version : put.version.0 ≡ suc v = place_is_version (suc v) log (JobPut put) stored is in
      let same : put ≡ job = ap (λ o. unwrap_or o put) (sym found ∙ there.stays (suc v) (omega (arith, jobs, later)) (entry_at-place (suc v) log (JobPut put) is).1) in
      omega (arith, version, ap (λ (x : Job). x.version.0) same, seen-by, later)
    where
      found : job_in k (upto (suc v) log) ≡ Some put
      found =
          ap (job_in k) (upto-entry_at v log (JobPut put) is)
          ∙ cond-true (same_key put.key k) (Some put) (job_in k (upto v log)) (ap (λ q. same_key q k) (key ∙ named) ∙ same_key-itself k)

  unwritten : (left : List Ask) → WritesShow log flight left → IsUnder flight left × (flight.written ≡ None)
  unwritten left (NoneWritten under none) = (under, none)
  unwritten left (PutLater h) = absurd (none-newer h.version h.put h.is_put h.key h.later)

  writes-nothing : IsUnder flight [] × (flight.written ≡ None) → WritesNothing (planned flight.basis)
  writes-nothing h = by (place_of flight [] h.0)
    where
      first : KnowsFirst flight → (planned flight.basis).first ≡ None
      first knows =
          let known-is : known flight job ≡ first_value job flight.basis = IfSome-at flight.basis.job (λ j. known flight j ≡ first_value j flight.basis) job saw-it knows in
          let value : job.status ≡ first_value job flight.basis = sym (ap (λ (w : Option JobStatus). unwrap_or w job.status) h.1) ∙ known-is in
          plan-first flight.basis job saw-it
          ∙ cond-true (same_status job.status (first_value job flight.basis)) None (Some (first_value job flight.basis))
          ((status-exact job.status (first_value job flight.basis)).1 value)

      second : (o : Option JobStatus) → [] ≡ second_asks o → o ≡ None
      second None e = refl
      second (Some status) e = absurd (true≢false (sym (ap is_asked e)))

      by : Place flight [] → WritesNothing (planned flight.basis)
      by (AtEarly ask front is early others none) = absurd (true≢false (sym (ap is_asked is)))
      by (AtFirst status first is none) = absurd (true≢false (sym (ap is_asked is)))
      by (AtLast made (v ∷ rest) are is knows released) = absurd (true≢false (sym (ap is_asked is)))
      by (AtLast made [] are is knows released) = (first knows, second (planned flight.basis).second is)

  -- ---- it does not end well

  pod-uid : old-pod.pod.uid ≡ u
  pod-uid = life-uid u (upto flight.basis.pods_at.0 log) old-pod.pod old-pod.is

  found : find (λ (p : Pod). same_uid p.uid old-pod.pod.uid) flight.basis.pods ≡ Some old-pod.pod
  found =
      ap (find (λ (p : Pod). same_uid p.uid old-pod.pod.uid)) flies.basis.pods
      ∙ found-kept (λ p. same_uid p.uid old-pod.pod.uid) (λ p. same_key p.owner flight.basis.key) (pods_in (upto flight.basis.pods_at.0 log)) old-pod.pod
      (ap (same_key old-pod.pod.owner) named ∙ old-pod.owner)
      (ap (λ v. find (λ (p : Pod). same_uid p.uid v) (pods_in (upto flight.basis.pods_at.0 log))) pod-uid
      ∙ pods_in-among u (upto flight.basis.pods_at.0 log) ∙ ap living old-pod.is)

  -- It has ended, and there is room for it.
  due : WritesNothing (planned flight.basis) → is_in old-pod.pod.uid (planned flight.basis).releases ≡ true
  due writes =
      due-released old-pod.pod.uid job flight.basis saw-it
      (due_in job flight.basis.pods old-pod.pod found old-pod.own
      (and_from (is_tracked old-pod.pod) ((not (same_outcome (outcome_of job.spec old-pod.pod) Alive) && not (is_left_over job own old-pod.pod)) || is_listed job.status old-pod.pod.uid) old-pod.tracked
      (or_left (not (same_outcome (outcome_of job.spec old-pod.pod) Alive) && not (is_left_over job own old-pod.pod)) (is_listed job.status old-pod.pod.uid)
      (and_from (not (same_outcome (outcome_of job.spec old-pod.pod) Alive)) (not (is_left_over job own old-pod.pod))
      (not_from_false (same_outcome (outcome_of job.spec old-pod.pod) Alive) (ended-out job.spec old-pod.pod old-pod.final))
      (not_from_false (is_left_over job own old-pod.pod)
      (and_right (is_candidate job old-pod.pod) (not (fits job own old-pod.pod))
      (not_from_true (fits job own old-pod.pod)
      (all-fit job flight.basis saw-it (basis-rises log flight.basis flies.basis) writes.0 writes.1 old-pod.pod))))))))
    where
      own : List Pod
      own = own_pods job flight.basis.pods

  held : is_lost (life u log) ≡ false
  held = ap is_lost new-pod.is ∙ ap not new-pod.tracked

  never-ends : IsAt flight [] → WritesShow log flight [] → ⊥
  never-ends at wrote =
      true≢false
      (sym (flies.released old-pod.pod.uid (all-released flight at old-pod.pod.uid (due (writes-nothing (unwritten [] wrote)))))
      ∙ ap (λ v. is_lost (life v log)) pod-uid ∙ held)

  -- So no step ends it but as one that failed.
  pub step-fails : (pending : Option Fault) (left : List Ask) → IsAt flight left → WritesShow log flight left → FailsAfter (stepped_at now pending log flight left).reply
  step-fails = fails-unless k log now flight named (saw-it ∙ sym now-there) never-ends
