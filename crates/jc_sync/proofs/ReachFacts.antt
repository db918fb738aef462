-- What a sync on current caches leaves: the next status of its Job, and no finalizer on a pod that had ended.
use Rattle.std.proofs.Common.{◌≡◌, Bool, true, false, not, ◌&&◌, ◌||◌, List, find, Some, refl, sym, ap, ◌∙◌}
use Rattle.std.proofs.lemmas.Bool.{and_from, not_from_false, or_left}
use Rattle.jc_types.specs.declared.objects.Entry.{Entry}
use Rattle.jc_types.specs.declared.objects.Job.{Job}
use Rattle.jc_types.specs.declared.objects.Pod.{Pod}
use Rattle.std.proofs.lemmas.List.Elements.{All-from_recursion}
use Rattle.jc_types.proofs.ListFacts.{Each-both, Each-filter, Each-passes, Each-weaker}
use Rattle.jc_states.proofs.PodListFacts.{pod_among, rises-found}
use Rattle.jc_states.specs.PodLists.{IsRising}
use Rattle.jc_states.specs.Bases.{is_own, own_pods}
use Rattle.jc_log.specs.Deeds.{Deed}
use Rattle.jc_types.specs.Keys.{same_uid}
use Rattle.jc_log.specs.Log.{is_lost, job_in, life, upto}
use Rattle.jc_states.specs.Pods.{is_tracked}
use Rattle.jc_log.specs.Writes.{Stored, Writes}
use Rattle.jc_log.proofs.WriteFacts.{Follows-upto, Stored-from_legal, lost_on}
use Rattle.jc_plan.specs.Judged.{is_left_over}
use Rattle.jc_plan.specs.Outcome.TheVariants.{Alive}
use Rattle.jc_plan.specs.Outcomes.{outcome_of, same_outcome}
use Rattle.jc_states.specs.Listed.{is_listed}
use Rattle.jc_plan.specs.Next.{next_status}
use Rattle.jc_plan.proofs.NextFacts.{second-next}
use Rattle.jc_plan.proofs.OrderFacts.{due-released}
use Rattle.jc_ledger.specs.declared.flights.Flight.{Flight}
use Rattle.jc_ledger.specs.Flights.{Flies}
use Rattle.jc_ledger.specs.Tied.{HasOrderedLists, Tied, made_as}
use Rattle.jc_ledger.proofs.DuePods.{due_in}
use Rattle.jc_ledger.proofs.MadeFacts.{WasMade, job_in-was_made, made_as-upto}
use Rattle.jc_ledger.proofs.OwnFacts.{basis-rises}
use Rattle.jc_ledger.proofs.PutFacts.{ties_of}
use Rattle.jc_ledger.proofs.QuietFacts.{seen_job-entry}
use Rattle.jc_ledger.proofs.SeenFacts.{saw}
use Rattle.jc_sync.specs.Quiet.{EndedAreLost, HasNext, IsLostOnceEnded, Leaves}

module _ (deeds : List Deed) (log : List Entry) (flights : List Flight) (flight : Flight) (job : Job) (t : Tied deeds log flights) (flies : Flies log flight) (there : flight.basis.job ≡ Some job) (l : Leaves log flight job) where
  stored : Stored log
  stored = Stored-from_legal log t.legal

  seen : job_in flight.basis.key (upto flight.basis.jobs_at.0 log) ≡ Some job
  seen = sym flies.basis.job ∙ there

  was : WasMade (upto flight.basis.jobs_at.0 log) job
  was = job_in-was_made flight.basis.key (upto flight.basis.jobs_at.0 log) job (Follows-upto Writes flight.basis.jobs_at.0 log stored) seen

  is_made : made_as was.made.uid log ≡ Some was.made
  is_made = made_as-upto was.made.uid flight.basis.jobs_at.0 log was.made (ap (λ j. made_as j (upto flight.basis.jobs_at.0 log)) (sym was.step.uid) ∙ was.is_made)

  pub tidy : HasOrderedLists job
  tidy = (ties_of deeds log flights was.made t is_made).tidy job.version.0 job (seen_job-entry flight.basis.key flight.basis.jobs_at.0 log job t.legal flies.basis.jobs_at seen) was.step.uid

  -- The status is the next one.
  pub reaches_next : l.current.status ≡ next_status flight.basis.now flight.basis.backoff job (own_pods job flight.basis.pods)
  reaches_next = l.status ∙ second-next job flight.basis (basis-rises log flight.basis flies.basis) tidy.none

  -- An own pod that had ended and was not left over has no finalizer.
  pub ended_lost : (pod : Pod) → find (λ (p : Pod). same_uid p.uid pod.uid) flight.basis.pods ≡ Some pod → is_own job pod ≡ true → same_outcome (outcome_of job.spec pod) Alive ≡ false
      → is_left_over job (own_pods job flight.basis.pods) pod ≡ false → is_lost (life pod.uid log) ≡ true
  ended_lost pod found own ended kept = by pod.tracked refl
    where
      left : Bool
      left = is_left_over job (own_pods job flight.basis.pods) pod

      ends : Bool
      ends = not (same_outcome (outcome_of job.spec pod) Alive) && not left

      by : (b : Bool) → pod.tracked ≡ b → is_lost (life pod.uid log) ≡ true
      by false tracked = lost_on pod.uid flight.basis.pods_at.0 log stored (ap is_lost (saw log flight.basis pod flies.basis found).stood ∙ not_from_false pod.tracked tracked)
      by true tracked =
          l.released pod.uid (due-released pod.uid job flight.basis there
          (due_in job flight.basis.pods pod found own
          (and_from (is_tracked pod) (ends || is_listed job.status pod.uid) tracked
          (or_left ends (is_listed job.status pod.uid)
          (and_from (not (same_outcome (outcome_of job.spec pod) Alive)) (not left)
          (not_from_false (same_outcome (outcome_of job.spec pod) Alive) ended) (not_from_false left kept))))))

  pub has_next : HasNext log flight.basis job
  has_next = record { current = l.current; there = l.there; uid = l.uid; status = reaches_next }

  -- So it is of each own pod.
  pub ended_all : EndedAreLost log flight.basis job
  ended_all =
      All-from_recursion (IsLostOnceEnded log job own) own
      (Each-weaker (λ p. One p × Own p) (IsLostOnceEnded log job own) (λ p h. ended_lost p h.0 h.1) own
      (Each-both One Own own (Each-filter One (is_own job) flight.basis.pods (rises-found 0 flight.basis.pods rising)) (Each-passes (is_own job) flight.basis.pods)))
    where
      own : List Pod
      own = own_pods job flight.basis.pods

      One : Pod → Type 0
      One p = pod_among p.uid flight.basis.pods ≡ Some p

      Own : Pod → Type 0
      Own p = is_own job p ≡ true

      rising : IsRising flight.basis.pods
      rising = basis-rises log flight.basis flies.basis
