-- The store answers each request of a sync.
use Rattle.std.proofs.Common.{◌≡◌, ◌≢◌, ℕ, ◌==◌, Bool, true, false, not, cond, List, Option, Some, None, refl, sym, ap, ◌∙◌, true≢false}
use Rattle.jc_types.specs.declared.numbers.Uid.{Uid}
use Rattle.jc_types.specs.declared.numbers.Version.{Version}
use Rattle.jc_types.specs.declared.objects.Entry.{Entry}
use Rattle.jc_types.specs.declared.objects.Job.{Job}
use Rattle.jc_types.specs.declared.objects.Pod.{Pod}
use Rattle.jc_types.specs.declared.replies.Answer.{Answer}
use Rattle.jc_types.specs.declared.replies.Answer.TheVariants as answer
use Rattle.jc_types.specs.declared.statuses.JobStatus.{JobStatus}
use Rattle.jc_types.specs.Equality.{same_status}
use Rattle.jc_types.specs.Keys.{same_uid}
use Rattle.jc_states.specs.Pods.{is_marked}
use Rattle.jc_log.specs.Log.{job_in, pod_in}
use Rattle.jc_log.specs.Requests.{Answered, let_go_at, mark_pod_at, release_at, write_status_at}
use Rattle.jc_plan.specs.Plans.{planned}
use Rattle.jc_ledger.specs.declared.flights.Flight.{Flight}
use Rattle.jc_asks.specs.declared.asks.Ask.{Ask}
use Rattle.jc_asks.specs.declared.asks.Ask.TheVariants.{MakePod, MarkPod, LetPodGo, WriteFirst, ReleasePod, WriteSecond}
use Rattle.jc_asks.specs.Steps.{answered_to, as_answer, make_gives, status_gives, written_gives}

-- The answer is none.
abbrev is_unanswered : Answer → Bool
is_unanswered answer.Unavailable = true
is_unanswered other = false

abbrev Answers : Answered → Type 0
Answers a = is_unanswered (as_answer a.reply) ≡ false

either : (b : Bool) (x y : Answered) → Answers x → Answers y → Answers (cond b x y)
either true x y p q = p
either false x y p q = q

module _ (log : List Entry) (now : ℕ) (flight : Flight) where
  make_answers : (index : Option ℕ) (o : Option Job) → Answers (make_gives log index now o)
  make_answers index None = refl
  make_answers index (Some job) = refl

  mark_answers : (o : Option Pod) → Answers (mark_pod_at log now o)
  mark_answers None = refl
  mark_answers (Some pod) = either (is_marked pod) _ _ refl refl

  let_go_answers : (v : Version) (o : Option Pod) → Answers (let_go_at log v o)
  let_go_answers v None = refl
  let_go_answers v (Some pod) = either (not (pod.version.0 == v.0)) _ _ refl (either pod.tracked _ _ refl refl)

  release_answers : (o : Option Pod) → Answers (release_at log o)
  release_answers None = refl
  release_answers (Some pod) = either pod.tracked _ _ refl refl

  write_answers : (uid : Uid) (v : Version) (status : JobStatus) (o : Option Job) → Answers (write_status_at log uid v status o)
  write_answers uid v status None = refl
  write_answers uid v status (Some job) =
      either (not (same_uid job.uid uid)) _ _ refl
      (either (not (job.version.0 == v.0)) _ _ refl (either (same_status job.status status) _ _ refl refl))

  status_answers : (status : JobStatus) (o : Option Job) → Answers (status_gives log flight status o)
  status_answers status None = refl
  status_answers status (Some job) = write_answers job.uid flight.sends status (job_in flight.basis.key log)

  written_answers : (o : Option JobStatus) → Answers (written_gives log flight o)
  written_answers None = refl
  written_answers (Some status) = status_answers status flight.basis.job

  asked_answers : (ask : Ask) → Answers (answered_to log now flight ask)
  asked_answers (MakePod index) = make_answers index flight.basis.job
  asked_answers (MarkPod u) = mark_answers (pod_in u log)
  asked_answers (LetPodGo u v) = let_go_answers v (pod_in u log)
  asked_answers WriteFirst = written_answers (planned flight.basis).first
  asked_answers (ReleasePod u) = release_answers (pod_in u log)
  asked_answers WriteSecond = written_answers (planned flight.basis).second

  pub store_answers : (ask : Ask) → as_answer (answered_to log now flight ask).reply ≢ answer.Unavailable
  store_answers ask e = true≢false (sym (ap is_unanswered e) ∙ asked_answers ask)
