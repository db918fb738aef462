-- What a request appends is fit for a log from which each sync can be planned.
use Rattle.std.proofs.Common.{◌≡◌, ℕ, ◌<◌, ◌≤◌, Bool, true, false, cond, ◌&&◌, List, find, ◌∷◌, Option, Some, None, IfSome, refl, sym, ◌∙◌, subst, arith}
use Rattle.std.specs.Option.{unwrap_or}
use Rattle.jc_log.specs.TheConstants.{GREATEST_INDEX}
use Rattle.jc_types.specs.declared.actions.ContainerChange.{ContainerChange}
use Rattle.jc_types.specs.declared.actions.PhaseChange.{PhaseChange}
use Rattle.jc_types.specs.declared.actions.SpecChange.{SpecChange}
use Rattle.jc_types.specs.declared.numbers.Uid.{Uid}
use Rattle.jc_types.specs.declared.numbers.Version.{Version}
use Rattle.jc_types.specs.declared.objects.Entry.{Entry}
use Rattle.jc_types.specs.declared.objects.Entry.TheVariants.{JobPut, PodPut, PodGone}
use Rattle.jc_types.specs.declared.objects.Job.{Job}
use Rattle.jc_types.specs.declared.objects.KeyNames.{KeyNames as Key}
use Rattle.jc_types.specs.declared.objects.Phase.TheVariants.{Pending, Running}
use Rattle.jc_types.specs.declared.objects.Pod.{Pod}
use Rattle.jc_types.specs.declared.replies.Reply.{Reply}
use Rattle.jc_types.specs.declared.replies.Reply.TheVariants.{BadStep, Conflict, Final, Unchanged, Written}
use Rattle.jc_types.specs.declared.specifications.JobSpec.{JobSpec}
use Rattle.jc_types.specs.declared.statuses.JobStatus.{JobStatus}
use Rattle.jc_log.specs.Requests.{Answered, accepted, changed_spec, create_job_at, create_job_gives, delete_job_at, delete_job_gives, is_other, is_unnamed, let_go_gives, mark_pod_gives, pod_entry, refused, release_gives, report_phase_at}
use Rattle.jc_log.specs.Requests.{report_phase_gives, report_unless, same_course_of, update_refusal, update_spec_at, update_spec_gives, update_unless, with_mark, with_report, with_spec, without_finalizer}
use Rattle.jc_log.specs.Log.{Live, job_in, life, next_version, pod_in}
use Rattle.jc_states.specs.Pods.{goes, is_final}
use Rattle.jc_types.specs.Equality.{same_limits, same_phase}
use Rattle.jc_types.specs.ValidSpecs.{IsValidSpec}
use Rattle.jc_log.specs.Writes.{Legal, Stored}
use Rattle.jc_log.proofs.PlaceFacts.{job_in-entry, life-entry}
use Rattle.jc_log.proofs.PodFacts.{living-live}
use Rattle.jc_log.proofs.WriteFacts.{Stored-from_legal}
use Rattle.jc_plan.specs.Plans.{planned}
use Rattle.jc_ledger.specs.declared.flights.Flight.{Flight}
use Rattle.jc_ledger.specs.Flights.{Flies}
use Rattle.jc_ledger.proofs.QuietFacts.{IfSome-at, seen_job-entry}
use Rattle.jc_asks.specs.declared.asks.Ask.{Ask}
use Rattle.jc_asks.specs.declared.asks.Ask.TheVariants.{MakePod, MarkPod, LetPodGo, WriteFirst, ReleasePod, WriteSecond}
use Rattle.jc_plan.specs.Creations.{IsIndexFor}
use Rattle.jc_sync.specs.SyncPlaces.{IsAt}
use Rattle.jc_sync.specs.Plannable.{AppendsFit, FitsIn, IsPlannable}
use Rattle.jc_asks.specs.Steps.{answered_to, make_gives, status_gives, written_gives}
use Rattle.jc_sync.proofs.ApiFacts.{LetGoCases, LetGone, Other, Refused, let_go_cases, MarkCases, Marked, Unmarked, mark_cases, ReleaseCases, Took, NotThere, release_cases, StatusCases, Accepted, Same, Conflicts, Absent, status_cases}
use Rattle.jc_sync.proofs.PlaceFacts.{at_early}

-- An index below the completions of a valid specification is small.
small : (spec : JobSpec) (i : ℕ) → IsValidSpec spec → i < unwrap_or spec.completions 0 → i ≤ 99999
small spec i valid h = by spec.completions valid.completions h
  where
    by : (o : Option ℕ) → IfSome o (λ c. c ≤ 10000) → i < unwrap_or o 0 → i ≤ 99999
    by None le lt = omega (arith, lt)
    by (Some c) le lt = omega (arith, le, lt)

-- ---- commands and the node

module _ (log : List Entry) (legal : Legal log) (p : IsPlannable log) where
  stored : Stored log
  stored = Stored-from_legal log legal

  pub create_fits : (key : Key) (spec : JobSpec) (now : ℕ) → IsValidSpec spec → AppendsFit (create_job_gives log key spec now)
  create_fits key spec now valid = by (job_in key log)
    where
      by : (o : Option Job) → AppendsFit (create_job_at log key spec now o)
      by None = valid
      by (Some job) = tt

  pub update_fits : ((spec : JobSpec) (change : SpecChange) → IsValidSpec spec → update_refusal spec change ≡ None
      → IsValidSpec (changed_spec spec change)) → (key : Key) (version : Option Version) (change : SpecChange)
      → AppendsFit (update_spec_gives log key version change)
  update_fits allowed key version change = by (job_in key log) refl
    where
      changed : (job : Job) → job_in key log ≡ Some job → update_refusal job.spec change ≡ None → (b : Bool)
          → AppendsFit (cond b (refused (Unchanged job.version))
          (accepted (Written (next_version log)) (JobPut (with_spec log job (changed_spec job.spec change)))))
      changed job is may true = tt
      changed job is may false = allowed job.spec change (p.valid job.version.0 job (job_in-entry key log job stored is)) may

      unless : (job : Job) → job_in key log ≡ Some job → (o : Option Reply) → update_refusal job.spec change ≡ o → AppendsFit (update_unless log job change o)
      unless job is None may = changed job is may (same_limits job.spec (changed_spec job.spec change))
      unless job is (Some reply) may = tt

      other : (job : Job) → job_in key log ≡ Some job → (b : Bool) → AppendsFit (cond b (refused (Conflict job.version)) (update_unless log job change (update_refusal job.spec change)))
      other job is true = tt
      other job is false = unless job is (update_refusal job.spec change) refl

      by : (o : Option Job) → job_in key log ≡ o → AppendsFit (update_spec_at log version change o)
      by None is = tt
      by (Some job) is = other job is (is_other version job.version)

  pub delete_fits : (key : Key) → AppendsFit (delete_job_gives log key)
  delete_fits key = by (job_in key log)
    where
      by : (o : Option Job) → AppendsFit (delete_job_at log o)
      by None = tt
      by (Some job) = tt

  -- A write of a pod that is there keeps its index.
  pod_fits : (u : Uid) (old new : Pod) → life u log ≡ Live old → new.index ≡ old.index → FitsIn (pod_entry new)
  pod_fits u old new there same = by (goes new)
    where
      by : (b : Bool) → FitsIn (cond b (PodGone new) (PodPut new))
      by true = tt
      by false = subst (λ (o : Option ℕ). IfSome o (λ index. index ≤ GREATEST_INDEX)) (sym same) (p.indexes old.version.0 old (life-entry u log old stored there))

  pub mark_fits : (u : Uid) (now : ℕ) → AppendsFit (mark_pod_gives log u now)
  mark_fits u now = by (mark_pod_gives log u now) (mark_cases log u now)
    where
      by : (a : Answered) → MarkCases log u now a → AppendsFit a
      by a (Marked old there e) = subst AppendsFit (sym e) (pod_fits u old (with_mark log old now) there refl)
      by a (Unmarked r e) = subst AppendsFit (sym e) tt

  pub let_go_fits : (u : Uid) (v : Version) → AppendsFit (let_go_gives log u v)
  let_go_fits u v = by (let_go_gives log u v) (let_go_cases log u v)
    where
      by : (a : Answered) → LetGoCases log u v a → AppendsFit a
      by a (LetGone old there at e) = subst AppendsFit (sym e) (pod_fits u old (without_finalizer log old) there refl)
      by a (Other old there other e) = subst AppendsFit (sym e) tt
      by a (Refused r e why) = subst AppendsFit (sym e) tt

  pub release_fits : (u : Uid) → AppendsFit (release_gives log u)
  release_fits u = by (release_gives log u) (release_cases log u)
    where
      by : (a : Answered) → ReleaseCases log u a → AppendsFit a
      by a (Took old there e) = subst AppendsFit (sym e) (pod_fits u old (without_finalizer log old) there refl)
      by a (NotThere lost e) = subst AppendsFit (sym e) tt

  pub report_fits : (u : Uid) (change : PhaseChange) → AppendsFit (report_phase_gives log u change)
  report_fits u change = by (pod_in u log) refl
    where
      course : (old : Pod) → pod_in u log ≡ Some old → (b : Bool)
          → AppendsFit (cond b (refused (Unchanged old.version)) (accepted (Written (next_version log)) (pod_entry (with_report log old change))))
      course old is true = tt
      course old is false = pod_fits u old (with_report log old change) (living-live (life u log) old is) refl

      unless : (old : Pod) → pod_in u log ≡ Some old → (o : Option ContainerChange) → AppendsFit (report_unless log old change o)
      unless old is None = course old is (same_course_of old (with_report log old change))
      unless old is (Some unnamed) = tt

      tests : (old : Pod) → pod_in u log ≡ Some old → (a b : Bool)
          → AppendsFit (cond a (refused (Final old.phase)) (cond b (refused (BadStep Running Pending)) (report_unless log old change (find (is_unnamed old) change.containers))))
      tests old is true b = tt
      tests old is false true = tt
      tests old is false false = unless old is (find (is_unnamed old) change.containers)

      by : (o : Option Pod) → pod_in u log ≡ o → AppendsFit (report_phase_at log change o)
      by None is = tt
      by (Some old) is = tests old is (is_final old.phase) (same_phase old.phase Running && same_phase change.phase Pending)

-- ---- a sync

module _ (log : List Entry) (now : ℕ) (flight : Flight) (legal : Legal log) (p : IsPlannable log) (flies : Flies log flight) where
  index_fits : (job : Job) (index : Option ℕ) → IsValidSpec job.spec → IfSome index (λ i. i < unwrap_or job.spec.completions 0) → IfSome index (λ i. i ≤ 99999)
  index_fits job None valid h = tt
  index_fits job (Some i) valid h = small job.spec i valid h

  make_fits : (index : Option ℕ) → IfSome flight.basis.job (λ job. IsIndexFor job index) → (o : Option Job) → flight.basis.job ≡ o → AppendsFit (make_gives log index now o)
  make_fits index early None is = tt
  make_fits index early (Some job) is =
      index_fits job index (p.valid job.version.0 job (seen_job-entry flight.basis.key flight.basis.jobs_at.0 log job legal flies.basis.jobs_at (sym flies.basis.job ∙ is)))
      (IfSome-at flight.basis.job (λ j. IsIndexFor j index) job is early).below

  status_fits : (status : JobStatus) (o : Option Job) → AppendsFit (status_gives log flight status o)
  status_fits status None = tt
  status_fits status (Some job) = by (status_gives log flight status (Some job)) (status_cases log flight.basis.key job.uid flight.sends status)
    where
      by : (a : Answered) → StatusCases log flight.basis.key job.uid flight.sends status a → AppendsFit a
      by a (Accepted current there own at differs e) = subst AppendsFit (sym e) (p.valid current.version.0 current (job_in-entry flight.basis.key log current (Stored-from_legal log legal) there))
      by a (Same current there own at same e) = subst AppendsFit (sym e) tt
      by a (Conflicts current there own other e) = subst AppendsFit (sym e) tt
      by a (Absent gone e) = subst AppendsFit (sym e) tt

  written_fits : (o : Option JobStatus) → AppendsFit (written_gives log flight o)
  written_fits None = tt
  written_fits (Some status) = status_fits status flight.basis.job

  pub asked_fits : (ask : Ask) (left : List Ask) → IsAt flight (ask ∷ left) → AppendsFit (answered_to log now flight ask)
  asked_fits (MakePod index) left at = make_fits index (at_early flight (MakePod index) left refl at).early flight.basis.job refl
  asked_fits (MarkPod u) left at = mark_fits log legal p u now
  asked_fits (LetPodGo u v) left at = let_go_fits log legal p u v
  asked_fits WriteFirst left at = written_fits (planned flight.basis).first
  asked_fits (ReleasePod u) left at = release_fits log legal p u
  asked_fits WriteSecond left at = written_fits (planned flight.basis).second
