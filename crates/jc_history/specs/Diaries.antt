-- What each controller has taken note of, read off the deeds and the log, both newest first.
--     moment shape deeds          the moment
--     all_jobs log                all Jobs of the log
--     listed_keys kind log        the keys that a list adds
--     on_list, .., on_clock       the notes of an act by its reply, the newest first
--     notes_taken c act reply ..  those that the controller takes of the act
--     notes shape c deeds log     all that it took since its last restart
use Rattle.std.specs.Prelude.{ℕ, ◌+◌, ◌==◌, Bool, true, false, List, [], ◌∷◌, ◌++◌, map, if◌then◌else◌, Option, Some, None, option_and_then}
use Rattle.std.specs.Option.{option_map, option_to_list}
use Rattle.jc_log.specs.Acts as does
use Rattle.jc_control.specs.ControllerCalls.{job_keys, pod_owners, told}
use Rattle.jc_control.specs.declared.ends.SyncEnd.{SyncEnd}
use Rattle.jc_control.specs.declared.ends.SyncEnd.TheVariants as end
use Rattle.jc_plan.specs.Plans.{planned}
use Rattle.jc_types.specs.declared.objects.Entry.{Entry}
use Rattle.jc_types.specs.declared.objects.Job.{Job}
use Rattle.jc_types.specs.declared.objects.KeyNames.{KeyNames as Key}
use Rattle.jc_types.specs.declared.objects.Kind.{Kind}
use Rattle.jc_types.specs.declared.objects.Kind.TheVariants.{Jobs, Pods}
use Rattle.jc_types.specs.declared.replies.Answer.{Answer}
use Rattle.jc_types.specs.declared.replies.Answer.TheVariants as answer
use Rattle.jc_types.specs.declared.replies.Reply.{Reply}
use Rattle.jc_types.specs.declared.replies.Reply.TheVariants as reply
use Rattle.jc_types.specs.declared.replies.Request.{Request}
use Rattle.jc_types.specs.declared.runs.Shape.{Shape}
use Rattle.jc_states.specs.declared.bases.Basis.{Basis}
use Rattle.jc_log.specs.Acts.{Act}
use Rattle.jc_log.specs.Deeds.{Deed}
use Rattle.jc_log.specs.Log.{entry_at, jobs_in, pods_in, upto}
use Rattle.jc_history.specs.Fresh.{basis}
use Rattle.jc_history.specs.Lines.{line}
use Rattle.jc_history.specs.Notes.{Note, Listed, Told, Expired, Began, SentBack, Asked, Ended, Faulted, Ticked}
use Rattle.jc_history.specs.Registers.{asks_status, register}

-- ---- the moment

-- The seconds of a clock's act.
abbrev pub ticks : Act → ℕ
ticks (does.Clock add) = add
ticks other = 0

-- The reply tells a moment.
abbrev pub is_now : Reply → Bool
is_now (reply.Now moment) = true
is_now other = false

-- The seconds that the deed adds.
abbrev pub seconds : Deed → ℕ
seconds d = if is_now d.reply then ticks d.act else 0

-- The moment: that of the shape and all seconds since.
abbrev pub moment : Shape → List Deed → ℕ
moment shape [] = shape.start
moment shape (d ∷ past) = moment shape past + seconds d

-- ---- caches

-- All Jobs of the log, in the order in which they were made.
abbrev pub all_jobs : List Entry → List Job
all_jobs log = map (λ row. row.1) (jobs_in log)

-- The keys that a list of the log adds: of all Jobs, or of the owners of all pods, in ascending UID.
abbrev pub listed_keys : Kind → List Entry → List Key
listed_keys Jobs log = job_keys (all_jobs log)
listed_keys Pods log = pod_owners (pods_in log)

-- A cache is listed.
abbrev pub on_list : Kind → List Entry → Reply → List Note
on_list kind log (reply.Listed at) = Listed kind at (listed_keys kind (upto at.0 log)) ∷ []
on_list kind log other = []

-- A cache is told of an entry, or has fallen out of the window.
abbrev pub on_delivery : Kind → List Entry → Reply → List Note
on_delivery kind log (reply.Delivered version) =
    Told kind version (option_and_then (told kind) (entry_at version.0 log)) ∷ []
on_delivery kind log (reply.Expired floor) = Expired kind ∷ []
on_delivery kind log other = []

-- ---- syncs

-- The first key of the line goes back.
abbrev pub on_lag : List Key → List Note
on_lag [] = []
on_lag (k ∷ rest) = SentBack k ∷ []

-- A sync begins, or a cache is behind.
abbrev pub on_begin : ℕ → ℕ → List Entry → List Note → Reply → List Note
on_begin worker now log older (reply.Begun key jobs_at pods_at) =
    Began worker (basis older log now key jobs_at pods_at) ∷ []
on_begin worker now log older (reply.Behind kind need have) = on_lag (line older)
on_begin worker now log older other = []

-- How a request ends its sync, where it does.
abbrev pub end_by : Bool → Answer → Option SyncEnd
end_by status answer.Unavailable = Some end.Unavailable
end_by true (answer.Conflict current) = Some end.Retry
end_by true answer.NotFound = Some end.Gone
end_by status other = None

-- A request of a sync was answered.
abbrev pub on_answer : ℕ → Basis → ℕ → Request → Answer → List Note
on_answer worker basis now asked given =
    option_to_list (option_map (λ end. Ended worker basis end now) (end_by (asks_status asked) given))
    ++ Asked worker basis asked given ∷ []

-- A step of the worker with this register.
abbrev pub on_step : ℕ → ℕ → Option Basis → Reply → List Note
on_step worker now (Some basis) (reply.Stepped asked given) = on_answer worker basis now asked given
on_step worker now (Some basis) reply.Ended =
    Ended worker basis (end.Ended (planned basis).next) now ∷ []
on_step worker now register other = []

-- ---- all notes

-- The clock goes on.
abbrev pub on_clock : Reply → List Note
on_clock (reply.Now moment) = Ticked moment ∷ []
on_clock other = []

-- The notes that the controller takes of an act and its reply.
abbrev pub notes_taken : ℕ → Act → Reply → ℕ → List Entry → List Note → List Note
notes_taken c (does.List controller kind) reply now log older =
    if controller == c then on_list kind log reply else []
notes_taken c (does.Deliver controller kind) reply now log older =
    if controller == c then on_delivery kind log reply else []
notes_taken c (does.Begin controller worker) reply now log older =
    if controller == c then on_begin worker now log older reply else []
notes_taken c (does.Step controller worker) reply now log older =
    if controller == c then on_step worker now (register worker older) reply else []
notes_taken c (does.PutFault controller worker fault) reply now log older =
    if controller == c then Faulted worker fault ∷ [] else []
notes_taken c (does.Clock add) reply now log older = on_clock reply
notes_taken c other reply now log older = []

-- The controller restarts.
abbrev pub restarts : ℕ → Act → Bool
restarts c (does.Restart controller) = controller == c
restarts c other = false

-- The notes after a deed: a restart loses all.
abbrev pub notes_after : ℕ → Deed → ℕ → List Entry → List Note → List Note
notes_after c d now log older =
    if restarts c d.act then [] else notes_taken c d.act d.reply now log older ++ older

-- All notes since the last restart.
abbrev pub notes : Shape → ℕ → List Deed → List Entry → List Note
notes shape c [] log = []
notes shape c (d ∷ past) log = notes_after c d (moment shape past) log (notes shape c past log)
