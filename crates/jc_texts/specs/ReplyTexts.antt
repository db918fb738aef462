-- The texts of requests, of answers and of replies, a line for each.
--     request_text request     what a sync asks
--     answer_text answer       what it is answered
--     reply_text reply         the reply to an event
--     TellsThree reply         it tells of three things
use Rattle.std.specs.Prelude.{ℕ, List, ◌++◌, Option, None, Some, codes, decimal}
use Rattle.jc_moment.specs.Text.{moment_text}
use Rattle.jc_types.specs.declared.replies.Answer.{Answer}
use Rattle.jc_types.specs.declared.replies.Answer.TheVariants as answer
use Rattle.jc_types.specs.declared.replies.Reply.{Reply}
use Rattle.jc_types.specs.declared.replies.Reply.TheVariants as reply
use Rattle.jc_types.specs.declared.replies.Request.{Request}
use Rattle.jc_types.specs.declared.replies.Request.TheVariants.{CreatePod, MarkPod, LetGo, Status, Release}
use Rattle.jc_texts.specs.ReportWords.{field_word, key_text, objects_word, phase_word, version_text}

-- The index of a pod, or `-` where it has none.
abbrev pub index_text : Option ℕ → List ℕ
index_text None = codes "-"
index_text (Some index) = decimal index

abbrev pub request_text : Request → List ℕ
request_text (CreatePod index) = codes "create-pod " ++ index_text index
request_text (MarkPod pod) = codes "mark " ++ decimal pod.0
request_text (LetGo pod) = codes "let-go " ++ decimal pod.0
request_text Status = codes "status"
request_text (Release pod) = codes "release " ++ decimal pod.0

abbrev pub answer_text : Answer → List ℕ
answer_text (answer.Created uid version) = codes "created " ++ (decimal uid.0 ++ (codes " " ++ version_text version))
answer_text (answer.Written version) = codes "written " ++ version_text version
answer_text (answer.Unchanged version) = codes "unchanged " ++ version_text version
answer_text (answer.Released version) = codes "released " ++ version_text version
answer_text (answer.Removed version) = codes "removed " ++ version_text version
answer_text (answer.Conflict current) = codes "conflict " ++ version_text current
answer_text answer.NotFound = codes "not-found"
answer_text answer.AlreadyExists = codes "exists"
answer_text (answer.Immutable field) = codes "immutable " ++ field_word field
answer_text (answer.Invalid field) = codes "invalid " ++ field_word field
answer_text (answer.Final phase) = codes "final " ++ phase_word phase
answer_text (answer.BadStep from to) = codes "bad-step " ++ (phase_word from ++ (codes " " ++ phase_word to))
answer_text (answer.NoContainer name) = codes "no-container " ++ name
answer_text answer.NotTracked = codes "not-tracked"
answer_text answer.Unavailable = codes "unavailable"

abbrev pub reply_text : Reply → List ℕ
reply_text (reply.Created uid version) = codes "created " ++ (decimal uid.0 ++ (codes " " ++ version_text version))
reply_text (reply.Written version) = codes "written " ++ version_text version
reply_text (reply.Unchanged version) = codes "unchanged " ++ version_text version
reply_text (reply.Released version) = codes "released " ++ version_text version
reply_text (reply.Removed version) = codes "removed " ++ version_text version
reply_text (reply.Conflict current) = codes "conflict " ++ version_text current
reply_text reply.NotFound = codes "not-found"
reply_text reply.AlreadyExists = codes "exists"
reply_text (reply.Immutable field) = codes "immutable " ++ field_word field
reply_text (reply.Invalid field) = codes "invalid " ++ field_word field
reply_text (reply.Final phase) = codes "final " ++ phase_word phase
reply_text (reply.BadStep from to) = codes "bad-step " ++ (phase_word from ++ (codes " " ++ phase_word to))
reply_text (reply.NoContainer name) = codes "no-container " ++ name
reply_text reply.NotTracked = codes "not-tracked"
reply_text (reply.Now moment) = codes "now " ++ moment_text moment
reply_text reply.ClockEnd = codes "clock-end"
reply_text (reply.Listed at) = codes "listed " ++ version_text at
reply_text (reply.Delivered version) = codes "entry " ++ version_text version
reply_text reply.UpToDate = codes "up-to-date"
reply_text (reply.Expired floor) = codes "expired " ++ version_text floor
reply_text reply.NotSynced = codes "not-synced"
reply_text (reply.Begun key jobs_at pods_at) =
    codes "begun " ++ (key_text key
    ++ (codes " jobs " ++ (version_text jobs_at ++ (codes " pods " ++ version_text pods_at))))
reply_text reply.NoKey = codes "no-key"
reply_text (reply.Behind kind need have) =
    codes "behind " ++ (objects_word kind
    ++ (codes " need " ++ (version_text need ++ (codes " have " ++ version_text have))))
reply_text reply.WorkerBusy = codes "worker-busy"
reply_text (reply.Stepped request answer) = request_text request ++ (codes " " ++ answer_text answer)
reply_text reply.Ended = codes "ended"
reply_text reply.Idle = codes "idle"
reply_text (reply.NodeDone pod phase version) =
    codes "pod " ++ (decimal pod.0
    ++ (codes " " ++ (phase_word phase ++ (codes " written " ++ version_text version))))
reply_text reply.Done = codes "done"

-- The reply tells of three things: of a key or a kind and two versions, or of a pod, its phase and a version.
abbrev pub TellsThree : Reply → Type 0
TellsThree (reply.Begun key jobs_at pods_at) = Unit {0}
TellsThree (reply.Behind kind need have) = Unit {0}
TellsThree (reply.NodeDone pod phase version) = Unit {0}
TellsThree other = ⊥
