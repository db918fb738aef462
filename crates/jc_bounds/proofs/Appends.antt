-- What a request of a sync appends, by kinds.
use Rattle.std.proofs.Common.{◌≡◌, ℕ, ◌==◌, Bool, true, false, cond, not, List, Option, Some, None, IfSome, refl, subst, true≢false}
use Rattle.jc_plan.specs.declared.plans.Planned.{Planned}
use Rattle.jc_types.specs.declared.numbers.Uid.{Uid}
use Rattle.jc_types.specs.declared.numbers.Version.{Version}
use Rattle.jc_types.specs.declared.objects.Entry.{Entry}
use Rattle.jc_types.specs.declared.objects.Entry.TheVariants.{JobPut, PodPut}
use Rattle.jc_types.specs.declared.objects.Job.{Job}
use Rattle.jc_types.specs.declared.objects.Pod.{Pod}
use Rattle.jc_types.specs.declared.replies.Answer.{Answer}
use Rattle.jc_types.specs.declared.replies.Reply.TheVariants as reply
use Rattle.jc_types.specs.declared.replies.Request.{Request}
use Rattle.jc_types.specs.declared.statuses.JobStatus.{JobStatus}
use Rattle.jc_log.specs.Requests.{Answered, accepted, let_go_gives, made_pod, mark_pod_gives, refused, release_gives, with_status, write_status_at, write_status_gives}
use Rattle.jc_types.specs.Keys.{same_uid}
use Rattle.jc_log.specs.Log.{job_in, next_version}
use Rattle.jc_types.specs.Equality.{same_status}
use Rattle.jc_types.proofs.KeyFacts.{same_uid-eq}
use Rattle.jc_asks.specs.declared.asks.Ask.{Ask}
use Rattle.jc_asks.specs.declared.asks.Ask.TheVariants.{MakePod, MarkPod, LetPodGo, WriteFirst, ReleasePod, WriteSecond}
use Rattle.jc_plan.specs.Plans.{planned}
use Rattle.jc_states.specs.declared.bases.Basis.{Basis}
use Rattle.jc_asks.specs.Steps.{make_gives, status_gives, written_gives}
use Rattle.jc_history.specs.SoFar.{so_far}
use Rattle.jc_bounds.specs.RequestKinds.{ask_gives}
use Rattle.jc_bounds.proofs.OrderFacts.{is_quiet}
use Rattle.jc_bounds.proofs.Turns.{IsIdleEntry, Quiet, let_go-quiet, mark-quiet, release-quiet}

-- The entry writes this status of the Job that is there.
pub record IsStatus (log : List Entry) (job : Job) (status : JobStatus) (e : Entry) : Type 0 where
  pub current : Job
  pub there : job_in job.key log ≡ Some current
  pub uid : current.uid ≡ job.uid
  pub is : e ≡ JobPut (with_status log current status)
  pub differs : same_status current.status status ≡ false

pub data Appends (log : List Entry) (plan : Planned) (o : Option Job) (ask : Ask) (e : Entry) : Type 0 where
  Idly : is_quiet ask ≡ true → IsIdleEntry log e → Appends log plan o ask e
  Makes : (job : Job) (pod : Pod) (index : Option ℕ) → ask ≡ MakePod index → o ≡ Some job → e ≡ PodPut pod → pod.owner ≡ job.key → pod.owner_uid ≡ job.uid → Appends log plan o ask e
  First : (job : Job) (status : JobStatus) → ask ≡ WriteFirst → o ≡ Some job → plan.first ≡ Some status → IsStatus log job status e → Appends log plan o ask e
  Second : (job : Job) (status : JobStatus) → ask ≡ WriteSecond → o ≡ Some job → plan.second ≡ Some status → IsStatus log job status e → Appends log plan o ask e

status-is : (log : List Entry) (job : Job) (sends : Version) (status : JobStatus) → IfSome (write_status_gives log job.key job.uid sends status).entry (IsStatus log job status)
status-is log job sends status = by (job_in job.key log) refl
  where
    at : (old : Job) → job_in job.key log ≡ Some old → (a : Bool) → not (same_uid old.uid job.uid) ≡ a → (b c : Bool) → same_status old.status status ≡ c
        → IfSome (cond a (refused reply.NotFound)
        (cond b (refused (reply.Conflict old.version))
        (cond c (refused (reply.Unchanged old.version))
        (accepted (reply.Written (next_version log)) (JobPut (with_status log old status)))))).entry
        (IsStatus log job status)
    at old is true e b c d = tt
    at old is false e true c d = tt
    at old is false e false true d = tt
    at old is false e false false d = record { current = old; there = is; uid = same-uid (same_uid old.uid job.uid) refl e; is = refl; differs = d }
      where
        same-uid : (t : Bool) → same_uid old.uid job.uid ≡ t → not t ≡ false → old.uid ≡ job.uid
        same-uid true t n = same_uid-eq old.uid job.uid t
        same-uid false t n = absurd (true≢false n)

    by : (o : Option Job) → job_in job.key log ≡ o → IfSome (write_status_at log job.uid sends status o).entry (IsStatus log job status)
    by None is = tt
    by (Some old) is = at old is (not (same_uid old.uid job.uid)) refl (not (old.version.0 == sends.0)) (same_status old.status status) refl

module _ (log : List Entry) (now : ℕ) (b : Basis) (made : List (Request × Answer)) where
  quietly : (ask : Ask) → is_quiet ask ≡ true → (a : Answered) → Quiet log a → IfSome a.entry (Appends log (planned b) b.job ask)
  quietly ask q a h = by a.entry h
    where
      by : (x : Option Entry) → IfSome x (IsIdleEntry log) → IfSome x (Appends log (planned b) b.job ask)
      by None h = tt
      by (Some e) h = Idly q h

  pub appends : ((job : Job) → b.job ≡ Some job → job.key ≡ b.key) → (ask : Ask) → IfSome (ask_gives log now b made ask).entry (Appends log (planned b) b.job ask)
  appends named ask = by ask
    where
      written : (ask : Ask) (s : Option JobStatus) → ((job : Job) (status : JobStatus) → b.job ≡ Some job → s ≡ Some status → (e : Entry) → IsStatus log job status e → Appends log (planned b) b.job ask e)
          → IfSome (written_gives log (so_far b made).flight s).entry (Appends log (planned b) b.job ask)
      written ask None f = tt
      written ask (Some status) f = of b.job refl
        where
          of : (o : Option Job) → b.job ≡ o → IfSome (status_gives log (so_far b made).flight status o).entry (Appends log (planned b) b.job ask)
          of None e = tt
          of (Some job) e = at (write_status_gives log b.key job.uid (so_far b made).flight.sends status).entry
              (subst (λ k. IfSome (write_status_gives log k job.uid (so_far b made).flight.sends status).entry
              (IsStatus log job status)) (named job e) (status-is log job (so_far b made).flight.sends status))
            where
              at : (x : Option Entry) → IfSome x (IsStatus log job status) → IfSome x (Appends log (planned b) b.job ask)
              at None h = tt
              at (Some x) h = f job status e refl x h

      by : (ask : Ask) → IfSome (ask_gives log now b made ask).entry (Appends log (planned b) b.job ask)
      by (MakePod index) = of b.job refl
        where
          of : (o : Option Job) → b.job ≡ o → IfSome (make_gives log index now o).entry (Appends log (planned b) b.job (MakePod index))
          of None e = tt
          of (Some job) e = Makes job (made_pod log job index now) index refl e refl refl refl
      by (MarkPod pod) = quietly (MarkPod pod) refl (mark_pod_gives log pod now) (mark-quiet log pod now)
      by (LetPodGo pod version) = quietly (LetPodGo pod version) refl (let_go_gives log pod version) (let_go-quiet log pod version)
      by (ReleasePod pod) = quietly (ReleasePod pod) refl (release_gives log pod) (release-quiet log pod)
      by WriteFirst = written WriteFirst (planned b).first (λ job status there is e h. First job status refl there is h)
      by WriteSecond = written WriteSecond (planned b).second (λ job status there is e h. Second job status refl there is h)

  -- A release is answered alike with and without a Job.
  pub release-is : (u : Uid) → ask_gives log now b made (ReleasePod u) ≡ release_gives log u
  release-is u = refl
