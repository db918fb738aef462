-- A status that a plan writes, where it asks for no pod, is the next one, and no draft once it is written.
use Rattle.std.proofs.Common.{◌≡◌, ◌+◌, ◌-◌, ◌<◌, ◌≤◌, Bool, true, false, cond, not, ◌&&◌, List, [], ◌∷◌, filter, length, Option, Some, None, is_some, unwrap_or, refl, sym, ap, ◌∙◌, subst, arith, true≢false}
use Rattle.std.proofs.lemmas.Bool.{or_left}
use Rattle.jc_types.specs.declared.numbers.Uid.{Uid}
use Rattle.jc_types.specs.declared.objects.Entry.{Entry}
use Rattle.jc_types.specs.declared.objects.Entry.TheVariants.{JobPut}
use Rattle.jc_types.specs.declared.objects.Job.{Job}
use Rattle.jc_types.specs.declared.objects.Pod.{Pod}
use Rattle.jc_types.specs.declared.statuses.JobStatus.{JobStatus}
use Rattle.jc_types.specs.Equality.{same_status}
use Rattle.jc_types.specs.declared.objects.KeyNames.{KeyNames as Key}
use Rattle.jc_types.specs.Keys.{same_key, same_uid}
use Rattle.jc_types.proofs.KeyFacts.{same_uid-itself}
use Rattle.jc_states.specs.declared.bases.Basis.{Basis}
use Rattle.jc_states.specs.Bases.{own_pods}
use Rattle.jc_states.specs.PodLists.{IsRising}
use Rattle.jc_states.specs.Pods.{active_pods, ending_pods, is_ready}
use Rattle.jc_states.specs.UidLists.{is_in}
use Rattle.jc_states.proofs.PodListFacts.{rises_filter}
use Rattle.jc_log.specs.Log.{job_in, jobs_in, pods_in, pods_under}
use Rattle.jc_log.specs.Requests.{with_status}
use Rattle.jc_log.specs.Tables.{at}
use Rattle.jc_log.proofs.ObjectFacts.{jobs_in-at}
use Rattle.jc_log.proofs.PodFacts.{pods_in-rises}
use Rattle.jc_log.proofs.WriteFacts.{job_in-key}
use Rattle.jc_account.specs.Accounts.{counted_in}
use Rattle.jc_account.specs.Judged.{candidates}
use Rattle.jc_plan.specs.Next.{ListsNoSuccess, next_status}
use Rattle.jc_plan.specs.PodNumbers.{active_after, ending_after, is_let_go_of, ready_after}
use Rattle.jc_plan.specs.Plans.{changed, planned}
use Rattle.jc_plan.specs.Statuses.{first_value, second_value, wants_in}
use Rattle.jc_plan.proofs.NextFacts.{changed-none, second-next}
use Rattle.jc_plan.proofs.OrderFacts.{due-released}
use Rattle.jc_plan.proofs.PartFacts.{planned-here}
use Rattle.jc_plan.proofs.PlanFacts.{plan-creates, plan-first, plan-let_goes, plan-marks, plan-second}
use Rattle.jc_plan.proofs.ValueFacts.{values-same}
use Rattle.jc_coming.specs.Drafts.{AsksForNoPod, deadline_is_ahead, is_draft, next_quiet, nothing_wanted, statuses_to_come}
use Rattle.jc_coming.proofs.AgainFacts.{deadline-was, quiet-again}
use Rattle.jc_coming.proofs.ClockFacts.{no-draft}
use Rattle.jc_coming.proofs.Lists.{one_if, puts-one}
use Rattle.jc_coming.proofs.RoomFacts.{no-candidates, unreleased}

-- ---- what is written

none-in : (uids : List Uid) → ((u : Uid) → is_in u uids ≡ true → is_in u [] ≡ true) → uids ≡ []
none-in [] h = refl
none-in (u ∷ uids) h = absurd (true≢false (sym (h u (or_left (same_uid u u) (is_in u uids) (same_uid-itself u)))))

-- What has changed is the new status, and not the old one.
changed-is : (old new status : JobStatus) → changed old new ≡ Some status → (new ≡ status) × (same_status old new ≡ false)
changed-is old new status e = by (same_status old new) refl e
  where
    by : (b : Bool) → same_status old new ≡ b → cond b None (Some new) ≡ Some status → (new ≡ status) × (same_status old new ≡ false)
    by true s e = absurd (true≢false (sym (ap is_some e)))
    by false s e = (ap (λ o. unwrap_or o new) e, s)

module _ (job : Job) (basis : Basis) (this : basis.job ≡ Some job) (asks : AsksForNoPod (planned basis)) where
  abbrev own : List Pod
  own = own_pods job basis.pods

  pub none-released : (counted_in job basis.pods).releases ≡ []
  none-released =
      none-in (counted_in job basis.pods).releases
      (λ u h. ap (is_in u) (sym asks.releases) ∙ due-released u job basis this h)

  pub second-none : (planned basis).second ≡ None
  second-none = plan-second basis job this ∙ changed-none (first_value job basis) (second_value job basis) (sym (values-same job basis none-released))

  creates-none : (wants_in job basis).creates ≡ []
  creates-none = sym (plan-creates basis job this) ∙ asks.creates

  marks-none : (wants_in job basis).marks ≡ []
  marks-none = sym (plan-marks basis job this) ∙ asks.marks

  let_goes-none : (wants_in job basis).let_goes ≡ []
  let_goes-none = sym (plan-let_goes basis job this) ∙ asks.let_goes

  -- The first status tells the numbers of pods as they are.
  active-is : (first_value job basis).active ≡ active_after nothing_wanted own
  unfolding first_value
  active-is = (λ i. length (active_pods own) + length (creates-none i) - (length (marks-none i) + length (let_goes-none i)))

  ending-is : (first_value job basis).terminating ≡ ending_after nothing_wanted own
  unfolding first_value
  ending-is = (λ i. length (ending_pods own) + (length (marks-none i) + length (let_goes-none i)))

  ready-is : (first_value job basis).ready ≡ ready_after nothing_wanted own
  unfolding first_value
  ready-is = (λ i. length (filter (λ (pod : Pod). is_ready pod && (not (is_in pod.uid (marks-none i)) && not (is_let_go_of pod.uid (let_goes-none i)))) own))

  module _ (rises : IsRising basis.pods) (tidy : ListsNoSuccess job) where
    first-next : first_value job basis ≡ next_status basis.now basis.backoff job own
    first-next = sym (values-same job basis none-released) ∙ second-next job basis rises tidy

    -- The first status is the next one, where nothing is wanted of the pods.
    pub first-quiet : first_value job basis ≡ next_quiet basis.now job own
    unfolding next_status next_quiet
    first-quiet =
        first-next
        ∙ (λ i. record (next_status basis.now basis.backoff job own) {
          active = (sym (ap (λ (s : JobStatus). s.active) first-next) ∙ active-is) i;
          ready = (sym (ap (λ (s : JobStatus). s.ready) first-next) ∙ ready-is) i;
          terminating = (sym (ap (λ (s : JobStatus). s.terminating) first-next) ∙ ending-is) i;
        })

    module _ (status : JobStatus) (written : (planned basis).first ≡ Some status) where
      written-is : (first_value job basis ≡ status) × (same_status job.status (first_value job basis) ≡ false)
      written-is = changed-is job.status (first_value job basis) status (sym (plan-first basis job this) ∙ written)

      status-is : status ≡ next_quiet basis.now job own
      status-is = sym written-is.0 ∙ first-quiet

      -- The status was a draft.
      pub was-draft : is_draft basis.now job own ≡ true
      was-draft = ap (λ s. not (same_status job.status s)) (sym first-quiet) ∙ ap not written-is.1

      module _ (log : List Entry) where
        abbrev new : Job
        new = with_status log job status

        none-left : candidates job own ≡ []
        none-left = no-candidates job basis.pods rises none-released

        pub written-next : next_quiet basis.now (with_status log job status) own ≡ status
        written-next = quiet-again basis.now job new own refl status-is none-left (unreleased job basis.pods rises none-released)

        pub deadline-stood : deadline_is_ahead basis.now (with_status log job status) ≡ true → deadline_is_ahead basis.now job ≡ true
        deadline-stood = deadline-was basis.now job new own refl status-is none-left (unreleased job basis.pods rises none-released)

-- Without a Job nothing is written.
pub none-second : (basis : Basis) → AsksForNoPod (planned basis) → (planned basis).second ≡ None
none-second basis asks = by basis.job refl
  where
    by : (o : Option Job) → basis.job ≡ o → (planned basis).second ≡ None
    by None this = ap (λ p. p.second) (sym (planned-here basis None this))
    by (Some job) this = second-none job basis this asks

-- ---- the log

pub rising : (k : Key) (log : List Entry) (pods : List Pod) → pods ≡ pods_under k log → IsRising pods
rising k log pods e = subst IsRising (sym e) (rises_filter 0 (λ pod. same_key pod.owner k) (pods_in log) (pods_in-rises log))

pub statuses-fewer : (log : List Entry) (job : Job) (basis : Basis) (status : JobStatus) → basis.job ≡ Some job → job_in basis.key log ≡ Some job → basis.pods ≡ pods_under basis.key log
    → ListsNoSuccess job → AsksForNoPod (planned basis) → (planned basis).first ≡ Some status
    → statuses_to_come basis.now (JobPut (with_status log job status) ∷ log) < statuses_to_come basis.now log
statuses-fewer log job basis status this there saw tidy asks written =
    let held = puts-one (λ row. deadline_is_ahead basis.now row.1) (jobs_in log) job.key job new row in
    let draft = puts-one (λ row. is_draft basis.now row.1 (own_pods row.1 (pods_under row.0 log))) (jobs_in log) job.key job new row in
    let was = ap one_if draft-before in
    let is = ap one_if draft-after in
    let fewer = one-below (deadline_is_ahead basis.now new) (deadline_is_ahead basis.now job) (deadline-stood job basis this asks rises tidy status written log) in
    omega (arith, held, draft, was, is, fewer)
  where
    new : Job
    new = with_status log job status

    rises : IsRising basis.pods
    rises = rising basis.key log basis.pods saw

    key : job.key ≡ basis.key
    key = job_in-key basis.key log job there

    row : at same_key (jobs_in log) job.key ≡ Some job
    row = jobs_in-at job.key log ∙ ap (λ k. job_in k log) key ∙ there

    pods-are : pods_under job.key log ≡ basis.pods
    pods-are = ap (λ k. pods_under k log) key ∙ sym saw

    draft-before : is_draft basis.now job (own_pods job (pods_under job.key log)) ≡ true
    draft-before = ap (λ pods. is_draft basis.now job (own_pods job pods)) pods-are ∙ was-draft job basis this asks rises tidy status written

    draft-after : is_draft basis.now new (own_pods new (pods_under job.key log)) ≡ false
    draft-after = ap (λ pods. is_draft basis.now new (own_pods new pods)) pods-are ∙ no-draft basis.now new (own_pods job basis.pods) (written-next job basis this asks rises tidy status written log)

    one-below : (s w : Bool) → (s ≡ true → w ≡ true) → one_if s ≤ one_if w
    one-below false w h = omega arith
    one-below true w h = let is = ap one_if (h refl) in omega (arith, is)
