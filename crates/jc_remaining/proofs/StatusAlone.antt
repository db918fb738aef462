-- A sync that writes its Job's status and no more does all that its plan wants.
use Rattle.std.proofs.Common.{◌≡◌, false, ◌||◌, List, [], ◌∷◌, length, Some, None, is_some, refl, sym, ap, ◌∙◌, subst, arith, true≢false}
use Rattle.std.specs.Option.{unwrap_or}
use Rattle.std.proofs.lemmas.Bool.{cond-false, cond-true}
use Rattle.std.proofs.lemmas.List.{append-nil}
use Rattle.std.proofs.lemmas.Option.{same_Some as some_is}
use Rattle.jc_types.proofs.KeyFacts.{same_key-itself}
use Rattle.jc_types.specs.Keys.{same_key}
use Rattle.jc_types.specs.declared.numbers.Uid.{Uid}
use Rattle.jc_types.specs.declared.objects.Entry.{Entry}
use Rattle.jc_types.specs.declared.objects.Entry.TheVariants.{JobPut}
use Rattle.jc_types.specs.declared.objects.Job.{Job}
use Rattle.jc_types.specs.declared.objects.Pod.{Pod}
use Rattle.jc_types.specs.declared.statuses.JobStatus.{JobStatus}
use Rattle.jc_states.specs.Bases.{is_own, own_pods}
use Rattle.jc_states.specs.UidLists.{is_in}
use Rattle.jc_states.specs.declared.bases.Basis.{Basis}
use Rattle.jc_states.proofs.PodListFacts.{rises_filter}
use Rattle.jc_log.specs.Log.{job_in, made_for, next_version, pods_in, pods_under}
use Rattle.jc_log.specs.Requests.{with_status}
use Rattle.jc_log.proofs.PodFacts.{pods_in-rises}
use Rattle.jc_log.proofs.WriteFacts.{job_in-key}
use Rattle.jc_plan.specs.PodNumbers.{is_let_go_of}
use Rattle.jc_plan.specs.Plans.{last_status, planned}
use Rattle.jc_plan.specs.declared.plans.Planned.{Planned}
use Rattle.jc_retries.specs.Grants.{AllBecome, AreNew, Nothing, Stays, concerns, frees}
use Rattle.jc_bearing.specs.Served.{AllServed, NonePod, Served}
use Rattle.jc_bearing.specs.Whole.{DoesAll, HasAllFor, SawLog}
use Rattle.jc_bearing.proofs.TrackFacts.{rewritten-itself}

module _ (plan : Planned) (marks : plan.marks ≡ []) (let_goes : plan.let_goes ≡ []) (releases : plan.releases ≡ []) where
  frees-none : (u : Uid) → frees plan u ≡ false
  frees-none u = λ i. is_in u (releases i) || is_let_go_of u (let_goes i)

  marks-none : (u : Uid) → is_in u plan.marks ≡ false
  marks-none u = ap (is_in u) marks

  concerns-none : (u : Uid) → concerns plan u ≡ false
  concerns-none u = λ i. frees-none u i || marks-none u i

  all-stay : (pods : List Pod) → AllBecome plan pods pods
  all-stay [] = Nothing
  all-stay (pod ∷ pods) = Stays pod pod pods pods (record {
    phase = refl;
    same = λ h. refl;
    freed = λ h. absurd (true≢false (sym h ∙ frees-none pod.uid));
    marked = λ h. absurd (true≢false (sym h ∙ marks-none pod.uid));
  }) (all-stay pods)

  all-served : (pods : List Pod) → AllServed plan pods pods
  all-served [] = NonePod
  all-served (pod ∷ pods) = Served pod pod pods pods (rewritten-itself pod) (record {
    freed = λ h. absurd (true≢false (sym h ∙ frees-none pod.uid));
    marked = λ h. absurd (true≢false (sym h ∙ marks-none pod.uid));
  }) (all-served pods)

module _ (log : List Entry) (basis : Basis) (job : Job) (status : JobStatus) (saw : SawLog log basis) (this : basis.job ≡ Some job) (first : (planned basis).first ≡ Some status) (second : (planned basis).second ≡ None)
    (creates : (planned basis).creates ≡ []) (marks : (planned basis).marks ≡ []) (let_goes : (planned basis).let_goes ≡ []) (releases : (planned basis).releases ≡ []) where
  abbrev new : List Entry
  new = JobPut (with_status log job status) ∷ log

  there : job_in basis.key log ≡ Some job
  there = sym saw.job ∙ this

  key : job.key ≡ basis.key
  key = job_in-key basis.key log job there

  last : last_status (planned basis) job.status ≡ status
  last = λ i. unwrap_or (second i) (unwrap_or (first i) job.status)

  made-none : 0 ≡ length (planned basis).creates
  made-none = sym (ap length creates)

  its : HasAllFor log basis job (JobPut (with_status log job status) ∷ log)
  its = record {
    version = next_version log;
    job_is =
        cond-true (same_key job.key basis.key) (Some (with_status log job status)) (job_in basis.key log) (ap (λ q. same_key q basis.key) key ∙ same_key-itself basis.key)
        ∙ (λ i. Some (record job { version = next_version log; status = sym last i }));
    own = record {
      after = own_pods job (pods_under basis.key log);
      fresh = [];
      parts = sym (append-nil (own_pods job (pods_under basis.key log)));
      follow = all-stay (planned basis) marks let_goes releases (own_pods job (pods_under basis.key log));
      new = subst (λ indexes. AreNew (made_for job.uid log) indexes []) (sym creates) tt;
      rising = rises_filter 0 (is_own job) (pods_under basis.key log) (rises_filter 0 (λ (pod : Pod). same_key pod.owner basis.key) (pods_in log) (pods_in-rises log));
    };
    looks = tt;
    made = let none = made-none in omega (arith, none);
  }

  pub status-alone : DoesAll log basis (JobPut (with_status log job status) ∷ log)
  status-alone = record {
    its = λ other seen. subst (λ j. HasAllFor log basis j (JobPut (with_status log job status) ∷ log)) (some_is job other (sym this ∙ seen)) its;
    others = record {
      jobs = λ k apart. cond-false (same_key job.key k) (Some (with_status log job status)) (job_in k log) (ap (λ q. same_key q k) key ∙ apart);
      pods = λ k apart. refl;
      made = λ u apart. refl;
      none = λ none. absurd (true≢false (sym (ap is_some this) ∙ ap is_some none));
    };
    all = record {
      after = pods_in log;
      fresh = [];
      parts = sym (append-nil (pods_in log));
      served = all-served (planned basis) marks let_goes releases (pods_in log);
      count = made-none;
      under = tt;
      restarts = λ other seen. tt;
    };
  }
