-- What counts of a Job of a legal history, and of its own pods.
use Rattle.std.proofs.Common.{◌≡◌, ◌⊎◌, inl, inr, true, false, not, List, [], length, Option, Some, None, is_some, IfSome, refl, sym, ap, ◌∙◌, subst, arith, true≢false}
use Rattle.std.specs.List.{AllByRecursion as Each}
use Rattle.std.proofs.lemmas.Bool.{and_from, and_parts, false_from_ne_true, not-true, or_cases}
use Rattle.std.proofs.lemmas.Option.{same_Some as some_is}
use Rattle.jc_ranges.specs.Sets.{IsIncreasing}
use Rattle.jc_types.proofs.KeyFacts.{same_uid-eq}
use Rattle.jc_types.proofs.ListFacts.{Each-both, Each-filter, Each-passes, Each-weaker, find_passes}
use Rattle.jc_types.specs.declared.objects.KeyNames.{KeyNames as Key}
use Rattle.jc_types.specs.Keys.{same_key, same_uid}
use Rattle.jc_types.specs.ValidSpecs.{IsValidSpec}
use Rattle.jc_types.specs.declared.actions.SpecChange.{SpecChange}
use Rattle.jc_types.specs.declared.objects.Entry.{Entry}
use Rattle.jc_types.specs.declared.objects.Entry.TheVariants.{JobPut}
use Rattle.jc_types.specs.declared.objects.Job.{Job}
use Rattle.jc_types.specs.declared.objects.Pod.{Pod}
use Rattle.jc_types.specs.declared.runs.Shape.{Shape}
use Rattle.jc_types.specs.declared.specifications.JobSpec.{JobSpec}
use Rattle.jc_types.specs.declared.specifications.Mode.{Mode}
use Rattle.jc_types.specs.declared.specifications.Mode.TheVariants.{NonIndexed, Indexed}
use Rattle.jc_states.specs.Bases.{is_own, own_pods}
use Rattle.jc_states.specs.Conditions.{has_end, has_target}
use Rattle.jc_states.specs.Listed.{is_listed}
use Rattle.jc_states.specs.ObjectChanges.{PodStep}
use Rattle.jc_states.specs.Pods.{is_active, is_final, is_marked, is_open}
use Rattle.jc_states.specs.UidLists.{is_in}
use Rattle.jc_states.proofs.PodListFacts.{rises_filter}
use Rattle.jc_log.specs.Deeds.{Deed}
use Rattle.jc_log.specs.Log.{Live, entry_at, job_in, life, made_for, pods_in, pods_under, upto}
use Rattle.jc_log.specs.Requests.{changed_spec, update_refusal}
use Rattle.jc_log.specs.Writes.{Stored}
use Rattle.jc_log.proofs.LastingFacts.{step_on}
use Rattle.jc_log.proofs.LogFacts.{upto-all}
use Rattle.jc_log.proofs.PodFacts.{pods_in-live, pods_in-rises}
use Rattle.jc_log.proofs.WriteFacts.{Stored-from_legal, job_in-key}
use Rattle.jc_ledger.specs.declared.flights.Flight.{Flight}
use Rattle.jc_ledger.specs.Ledger.{Record, ledger_of}
use Rattle.jc_ledger.specs.Once.{IsJudged}
use Rattle.jc_ledger.specs.Tied.{HasOrderedLists, IsCurrent, IsTrueRecord, Tied, TiesJob, made_as}
use Rattle.jc_ledger.proofs.DoneFacts.{done-increases}
use Rattle.jc_ledger.proofs.FrameFacts.{PodsHaveIndexes-now}
use Rattle.jc_ledger.proofs.MadeFacts.{WasMade, job_in-was_made}
use Rattle.jc_ledger.proofs.PutFacts.{ties_of}
use Rattle.jc_ledger.proofs.QuietFacts.{seen_job-entry}
use Rattle.jc_ledger.proofs.SeenFacts.{active_alive}
use Rattle.jc_plan.specs.Outcomes.{is_verdict, outcome_of}
use Rattle.jc_plan.specs.Outcome.{Outcome}
use Rattle.jc_sync.specs.Plannable.{IsPlannable}
use Rattle.jc_runs.specs.Legal.{IsLegal}
use Rattle.jc_runs.specs.Replies.{log_given}
use Rattle.jc_runs.specs.Machines.{AllAskValid}
use Rattle.jc_runs.proofs.LegalRuns.{legal_run}
use Rattle.jc_making.specs.Making.{IsCounted}
use Rattle.jc_counted.proofs.TargetFacts.{ended-by}
use Rattle.jc_counted.proofs.UnmadeFacts.{none-own}

-- A pod that is active was so before.
pub was-active : (old new : Pod) → PodStep old new → is_active new ≡ true → is_active old ≡ true
was-active old new step active = and_from (is_open old) (not (is_marked old)) (ap not still-open) (ap not unmarked)
  where
    parts : (is_open new ≡ true) × (not (is_marked new) ≡ true)
    parts = and_parts (is_open new) (not (is_marked new)) active

    still-open : is_final old.phase ≡ false
    still-open = false_from_ne_true (is_final old.phase) (λ final. true≢false (sym final ∙ ap is_final (sym (step.phase final)) ∙ not-true (is_final new.phase) parts.0))

    unmarked : is_marked old ≡ false
    unmarked = false_from_ne_true (is_marked old) (λ marked. true≢false (sym marked ∙ ap is_some (sym (step.marked marked)) ∙ not-true (is_marked new) parts.1))

module _ (deeds : List Deed) (log : List Entry) (flights : List Flight) (t : Tied deeds log flights) (p : IsPlannable log) (k : Key) (job : Job) (there : job_in k log ≡ Some job) where
  stored : Stored log
  stored = Stored-from_legal log t.legal

  was : WasMade log job
  was = job_in-was_made k log job stored there

  is-made : made_as was.made.uid log ≡ Some was.made
  is-made = ap (λ j. made_as j log) (sym was.step.uid) ∙ was.is_made

  entry : entry_at job.version.0 log ≡ Some (JobPut job)
  entry = seen_job-entry k (length log) log job t.legal (omega arith) (ap (job_in k) (upto-all (length log) log (omega arith)) ∙ there)

  ties : TiesJob was.made log (ledger_of was.made.uid deeds log)
  ties = ties_of deeds log flights was.made t is-made

  tidy : HasOrderedLists job
  tidy = ties.tidy job.version.0 job entry was.step.uid

  current : IsCurrent log (ledger_of was.made.uid deeds log) job
  current = ties.now job (ap (λ q. job_in q log) (sym was.step.key ∙ job_in-key k log job there) ∙ there) was.step.uid

  completed : IsIncreasing job.status.completed
  completed = by job.spec.mode refl
    where
      by : (m : Mode) → job.spec.mode ≡ m → IsIncreasing job.status.completed
      by NonIndexed is = subst IsIncreasing (sym (tidy.plain is)) tt
      by Indexed is = subst IsIncreasing (sym (current.completed is)) (done-increases was.made.uid deeds log)

  -- Its own pods are there.
  own-there : Each (λ (pod : Pod). (life pod.uid log ≡ Live pod) × (is_own job pod ≡ true)) (own_pods job (pods_under k log))
  own-there =
      Each-both (λ (pod : Pod). life pod.uid log ≡ Live pod) (λ (pod : Pod). is_own job pod ≡ true) (own_pods job (pods_under k log))
      (Each-filter (λ (pod : Pod). life pod.uid log ≡ Live pod) (is_own job) (pods_under k log)
      (Each-filter (λ (pod : Pod). life pod.uid log ≡ Live pod) (λ (pod : Pod). same_key pod.owner k) (pods_in log) (pods_in-live log)))
      (Each-passes (is_own job) (pods_under k log))

  numbered : job.spec.mode ≡ Indexed → (pod : Pod) → life pod.uid log ≡ Live pod → is_own job pod ≡ true → is_some pod.index ≡ true
  numbered mode pod live own =
      subst (λ (o : Option Job). IfSome o (λ made. made.spec.mode ≡ Indexed → is_some pod.index ≡ true))
      (ap (λ j. made_as j log) (same_uid-eq pod.owner_uid job.uid own) ∙ was.is_made) (PodsHaveIndexes-now log t.numbered pod.uid pod live) (sym was.step.mode ∙ mode)

  -- What was judged is not active.
  judged-so : (outcome : Outcome) (pod : Pod) → life pod.uid log ≡ Live pod → IsJudged (ledger_of was.made.uid deeds log).records pod.uid outcome job.version.0 → is_active pod ≡ false
  judged-so outcome pod live j = false_from_ne_true (is_active pod) (λ active. true≢false (sym verdict ∙ ap is_verdict (active_alive was.made.spec j.found.pod (was-active j.found.pod pod step active))))
    where
      sound : IsTrueRecord was.made log j.found
      sound = ties.sound pod.uid j.found j.is_found

      uid : j.found.pod.uid ≡ pod.uid
      uid = same_uid-eq j.found.pod.uid pod.uid (find_passes (λ (r : Record). same_uid r.pod.uid pod.uid) (ledger_of was.made.uid deeds log).records j.found j.is_found)

      step : PodStep j.found.pod pod
      step = step_on pod.uid j.found.seen log stored j.found.pod pod (ap (λ u. life u (upto j.found.seen log)) (sym uid) ∙ sound.stood) live

      verdict : is_verdict (outcome_of was.made.spec j.found.pod) ≡ true
      verdict = ap is_verdict sound.judged ∙ sound.verdict

  listed : (pod : Pod) → life pod.uid log ≡ Live pod → is_listed job.status pod.uid ≡ true → is_active pod ≡ false
  listed pod live h = by (or_cases (is_in pod.uid job.status.uncounted_succeeded) (is_in pod.uid job.status.uncounted_failed) h)
    where
      by : (is_in pod.uid job.status.uncounted_succeeded ≡ true) ⊎ (is_in pod.uid job.status.uncounted_failed ≡ true) → is_active pod ≡ false
      by (inl g) = judged-so _ pod live ((ties.listed job.version.0 job entry was.step.uid).succeeded pod.uid g)
      by (inr g) = judged-so _ pod live ((ties.listed job.version.0 job entry was.step.uid).failed pod.uid g)

  counted : (has_end job.status.conditions ≡ true → has_target job.status.conditions ≡ true) → IsCounted job (own_pods job (pods_under k log))
  counted ended = record {
    valid = p.valid job.version.0 job entry;
    ended = ended;
    completed = completed;
    failures = tidy.counts;
    rising = rises_filter 0 (is_own job) (pods_under k log) (rises_filter 0 (λ (pod : Pod). same_key pod.owner k) (pods_in log) (pods_in-rises log));
    none = tidy.none;
    numbered = λ mode.
        Each-weaker (λ (pod : Pod). (life pod.uid log ≡ Live pod) × (is_own job pod ≡ true)) (λ (pod : Pod). is_some pod.index ≡ true) (λ pod h. numbered mode pod h.0 h.1) (own_pods job (pods_under k log)) own-there;
    listed =
        Each-weaker (λ (pod : Pod). (life pod.uid log ≡ Live pod) × (is_own job pod ≡ true)) (λ (pod : Pod). is_listed job.status pod.uid ≡ true → is_active pod ≡ false) (λ pod h. listed pod h.0) (own_pods job (pods_under k log)) own-there;
  }

-- What an update that is not refused gives is valid.
abbrev pub Stay : Type 0
Stay = (spec : JobSpec) (change : SpecChange) → IsValidSpec spec → update_refusal spec change ≡ None → IsValidSpec (changed_spec spec change)

pub legal-counted : Stay → (shape : Shape) (deeds : List Deed) → IsLegal shape deeds → AllAskValid deeds → (k : Key) (job : Job) → job_in k (log_given shape deeds) ≡ Some job
    → IsCounted job (own_pods job (pods_under k (log_given shape deeds)))
legal-counted stay shape deeds legal valid k job there =
    let m = legal_run stay shape deeds legal valid in
    subst (λ log. IsCounted job (own_pods job (pods_under k log))) m.run.log_is
    (counted deeds m.log _ m.run.syncs.tied m.run.plannable k job (ap (job_in k) m.run.log_is ∙ there) (ended-by shape deeds k job there))

-- ---- the UIDs of Jobs that are there

one-key : (log : List Entry) → Stored log → (k l : Key) (one other : Job) → job_in k log ≡ Some one → job_in l log ≡ Some other → same_uid one.uid other.uid ≡ true → k ≡ l
one-key log stored k l one other there too same =
    sym (job_in-key k log one there) ∙ first.step.key
    ∙ ap (λ (j : Job). j.key) (some_is first.made second.made (sym first.is_made ∙ ap (λ u. made_as u log) (same_uid-eq one.uid other.uid same) ∙ second.is_made))
    ∙ sym second.step.key ∙ job_in-key l log other too
  where
    first : WasMade log one
    first = job_in-was_made k log one stored there

    second : WasMade log other
    second = job_in-was_made l log other stored too

pub legal-one-key : Stay → (shape : Shape) (deeds : List Deed) → IsLegal shape deeds → AllAskValid deeds → (k l : Key) (one other : Job) → job_in k (log_given shape deeds) ≡ Some one → job_in l (log_given shape deeds) ≡ Some other
    → same_uid one.uid other.uid ≡ true → k ≡ l
legal-one-key stay shape deeds legal valid =
    let m = legal_run stay shape deeds legal valid in
    one-key (log_given shape deeds) (subst Stored m.run.log_is (Stored-from_legal m.log m.run.syncs.tied.legal))

-- ---- Jobs without pods

pub legal-none-own : Stay → (shape : Shape) (deeds : List Deed) → IsLegal shape deeds → AllAskValid deeds → (job : Job) → made_for job.uid (log_given shape deeds) ≡ 0 → own_pods job (pods_under job.key (log_given shape deeds)) ≡ []
legal-none-own stay shape deeds legal valid job =
    let m = legal_run stay shape deeds legal valid in
    none-own (log_given shape deeds) job (subst Stored m.run.log_is (Stored-from_legal m.log m.run.syncs.tied.legal))
