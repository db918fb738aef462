-- Which requests are answered without a text.
use Rattle.std.proofs.Common.{◌≡◌, ℕ, ◌==◌, Bool, true, false, not, cond, List, [], ◌∷◌, Option, Some, None, sym, subst}
use Rattle.jc_types.specs.declared.actions.Fault.{Fault}
use Rattle.jc_types.specs.declared.actions.Fault.TheVariants as fault
use Rattle.jc_types.specs.declared.actions.SpecChange.{SpecChange}
use Rattle.jc_types.specs.declared.numbers.Version.{Version}
use Rattle.jc_types.specs.declared.objects.Entry.{Entry}
use Rattle.jc_types.specs.declared.objects.Entry.TheVariants.{JobPut}
use Rattle.jc_types.specs.declared.objects.Job.{Job}
use Rattle.jc_types.specs.declared.replies.Field.TheVariants.{Completions, Parallelism, BackoffLimit, Deadline}
use Rattle.jc_types.specs.declared.replies.Reply.{Reply}
use Rattle.jc_types.specs.declared.replies.Reply.TheVariants as reply
use Rattle.jc_types.specs.declared.specifications.JobSpec.{JobSpec}
use Rattle.jc_types.specs.declared.statuses.JobStatus.{JobStatus}
use Rattle.jc_types.specs.Equality.{same_limits, same_status}
use Rattle.jc_types.specs.declared.objects.KeyNames.{KeyNames as Key}
use Rattle.jc_types.specs.Keys.{same_uid}
use Rattle.jc_types.specs.declared.numbers.Uid.{Uid}
use Rattle.jc_types.specs.declared.objects.Pod.{Pod}
use Rattle.jc_states.specs.Pods.{is_marked}
use Rattle.jc_history.specs.Nodes.{NodeAct}
use Rattle.jc_history.specs.Replies.{node_gives}
use Rattle.jc_log.specs.Log.{job_in, next_version, pod_in}
use Rattle.jc_log.specs.Requests.{Answered, accepted, changed_spec, create_job_at, create_job_gives, delete_job_at, delete_job_gives, is_other, let_go_at, mark_pod_at, mark_pod_gives, pod_entry, refused, release_at, release_gives, released}
use Rattle.jc_log.specs.Requests.{update_refusal, update_spec_at, update_spec_gives, update_unless, with_mark, with_spec, write_status_at}
use Rattle.jc_plan.specs.Plans.{planned}
use Rattle.jc_ledger.specs.declared.flights.Flight.{Flight}
use Rattle.jc_asks.specs.declared.asks.Ask.{Ask}
use Rattle.jc_asks.specs.declared.asks.Ask.TheVariants.{MakePod, MarkPod, LetPodGo, WriteFirst, ReleasePod, WriteSecond}
use Rattle.jc_asks.specs.Steps.{Sync, answered_to, as_answer, make_gives, status_gives, stepped, stepped_at, written_gives}
use Rattle.jc_runs.specs.TextlessReplies.{AnswersNoText, HasNoText}

-- A choice of two such answers.
either : (b : Bool) (x y : Answered) → HasNoText x.reply → HasNoText y.reply → HasNoText (cond b x y).reply
either true x y one other = one
either false x y one other = other

created_texts : (log : List Entry) (key : Key) (spec : JobSpec) (now : ℕ) → HasNoText (create_job_gives log key spec now).reply
created_texts log key spec now = by (job_in key log)
  where
    by : (o : Option Job) → HasNoText (create_job_at log key spec now o).reply
    by None = tt
    by (Some job) = tt

deleted_texts : (log : List Entry) (key : Key) → HasNoText (delete_job_gives log key).reply
deleted_texts log key = by (job_in key log)
  where
    by : (o : Option Job) → HasNoText (delete_job_at log o).reply
    by None = tt
    by (Some job) = tt

-- The reply by which a change is refused, if it is.
refusal_texts : (log : List Entry) (job : Job) (change : SpecChange) (a b c d : Bool)
    → HasNoText (update_unless log job change (cond a (Some (reply.Immutable Completions)) (cond b (Some (reply.Invalid Parallelism)) (cond c (Some (reply.Invalid BackoffLimit)) (cond d (Some (reply.Invalid Deadline)) None))))).reply
refusal_texts log job change true b c d = tt
refusal_texts log job change false true c d = tt
refusal_texts log job change false false true d = tt
refusal_texts log job change false false false true = tt
refusal_texts log job change false false false false =
    either (same_limits job.spec (changed_spec job.spec change)) (refused (reply.Unchanged job.version))
    (accepted (reply.Written (next_version log)) (JobPut (with_spec log job (changed_spec job.spec change)))) tt tt

updated_texts : (log : List Entry) (key : Key) (version : Option Version) (change : SpecChange) → HasNoText (update_spec_gives log key version change).reply
updated_texts log key version change = by (job_in key log)
  where
    by : (o : Option Job) → HasNoText (update_spec_at log version change o).reply
    by None = tt
    by (Some job) = either (is_other version job.version) (refused (reply.Conflict job.version)) (update_unless log job change (update_refusal job.spec change)) tt (refusal_texts log job change _ _ _ _)

marked_texts : (log : List Entry) (pod : Uid) (now : ℕ) → HasNoText (mark_pod_gives log pod now).reply
marked_texts log pod now = by (pod_in pod log)
  where
    by : (o : Option Pod) → HasNoText (mark_pod_at log now o).reply
    by None = tt
    by (Some old) = either (is_marked old) (refused (reply.Unchanged old.version)) (accepted (reply.Written (next_version log)) (pod_entry (with_mark log old now))) tt tt

released_texts : (log : List Entry) (pod : Uid) → HasNoText (release_gives log pod).reply
released_texts log pod = by (pod_in pod log)
  where
    by : (o : Option Pod) → HasNoText (release_at log o).reply
    by None = tt
    by (Some old) = either old.tracked (released log old) (refused reply.NotTracked) tt tt

node_tells : (log : List Entry) (o : Option (Pod × NodeAct)) → HasNoText (node_gives log o).reply
node_tells log None = tt
node_tells log (Some step) = tt

-- A reply that tells of no container is such an answer to a sync.
answer_texts : (r : Reply) → HasNoText r → AnswersNoText (as_answer r)
answer_texts (reply.Created uid version) none = tt
answer_texts (reply.Written version) none = tt
answer_texts (reply.Unchanged version) none = tt
answer_texts (reply.Released version) none = tt
answer_texts (reply.Removed version) none = tt
answer_texts (reply.Conflict current) none = tt
answer_texts reply.NotFound none = tt
answer_texts reply.AlreadyExists none = tt
answer_texts (reply.Immutable field) none = tt
answer_texts (reply.Invalid field) none = tt
answer_texts (reply.Final phase) none = tt
answer_texts (reply.BadStep from to) none = tt
answer_texts (reply.NoContainer name) none = none
answer_texts reply.NotTracked none = tt
answer_texts other none = tt

-- What the store answers a sync.
make_texts : (log : List Entry) (index : Option ℕ) (now : ℕ) (o : Option Job) → HasNoText (make_gives log index now o).reply
make_texts log index now None = tt
make_texts log index now (Some job) = tt

let_go_texts : (log : List Entry) (v : Version) (o : Option Pod) → HasNoText (let_go_at log v o).reply
let_go_texts log v None = tt
let_go_texts log v (Some pod) =
    either (not (pod.version.0 == v.0)) (refused (reply.Conflict pod.version)) (cond pod.tracked (released log pod) (refused reply.NotTracked)) tt
    (either pod.tracked (released log pod) (refused reply.NotTracked) tt tt)

write_texts : (log : List Entry) (uid : Uid) (v : Version) (status : JobStatus) (o : Option Job) → HasNoText (write_status_at log uid v status o).reply
write_texts log uid v status None = tt
write_texts log uid v status (Some job) =
    either (not (same_uid job.uid uid)) _ _ tt
    (either (not (job.version.0 == v.0)) _ _ tt (either (same_status job.status status) _ _ tt tt))

status_texts : (log : List Entry) (flight : Flight) (status : JobStatus) (o : Option Job) → HasNoText (status_gives log flight status o).reply
status_texts log flight status None = tt
status_texts log flight status (Some job) = write_texts log job.uid flight.sends status (job_in flight.basis.key log)

written_texts : (log : List Entry) (flight : Flight) (o : Option JobStatus) → HasNoText (written_gives log flight o).reply
written_texts log flight None = tt
written_texts log flight (Some status) = status_texts log flight status flight.basis.job

asked_texts : (log : List Entry) (now : ℕ) (flight : Flight) (ask : Ask) → HasNoText (answered_to log now flight ask).reply
asked_texts log now flight (MakePod index) = make_texts log index now flight.basis.job
asked_texts log now flight (MarkPod u) = marked_texts log u now
asked_texts log now flight (LetPodGo u v) = let_go_texts log v (pod_in u log)
asked_texts log now flight WriteFirst = written_texts log flight (planned flight.basis).first
asked_texts log now flight (ReleasePod u) = released_texts log u
asked_texts log now flight WriteSecond = written_texts log flight (planned flight.basis).second

stepped_texts : (now : ℕ) (pending : Option Fault) (log : List Entry) (sync : Sync) → HasNoText (stepped now pending log sync).reply
stepped_texts now pending log sync = by sync.left pending
  where
    by : (left : List Ask) (pending : Option Fault) → HasNoText (stepped_at now pending log sync.flight left).reply
    by [] pending = tt
    by (ask ∷ left) None = answer_texts (answered_to log now sync.flight ask).reply (asked_texts log now sync.flight ask)
    by (ask ∷ left) (Some fault.Drop) = tt
    by (ask ∷ left) (Some fault.Lose) = tt

-- In the words of the code.
pub no_text_of : (given : Reply) (a : Reply) → given ≡ a → HasNoText a → HasNoText given
no_text_of given a is none = subst HasNoText (sym is) none

pub create_texts : (given : Reply) (log : List Entry) (key : Key) (spec : JobSpec) (now : ℕ) → given ≡ (create_job_gives log key spec now).reply → HasNoText given
create_texts given log key spec now is = no_text_of given _ is (created_texts log key spec now)

pub update_texts : (given : Reply) (log : List Entry) (key : Key) (version : Option Version) (change : SpecChange) → given ≡ (update_spec_gives log key version change).reply → HasNoText given
update_texts given log key version change is = no_text_of given _ is (updated_texts log key version change)

pub delete_texts : (given : Reply) (log : List Entry) (key : Key) → given ≡ (delete_job_gives log key).reply → HasNoText given
delete_texts given log key is = no_text_of given _ is (deleted_texts log key)

pub mark_texts : (given : Reply) (log : List Entry) (pod : Uid) (now : ℕ) → given ≡ (mark_pod_gives log pod now).reply → HasNoText given
mark_texts given log pod now is = no_text_of given _ is (marked_texts log pod now)

pub strip_texts : (given : Reply) (log : List Entry) (pod : Uid) → given ≡ (release_gives log pod).reply → HasNoText given
strip_texts given log pod is = no_text_of given _ is (released_texts log pod)

pub step_texts : (given : Reply) (now : ℕ) (pending : Option Fault) (log : List Entry) (sync : Sync) → given ≡ (stepped now pending log sync).reply → HasNoText given
step_texts given now pending log sync is = no_text_of given _ is (stepped_texts now pending log sync)
