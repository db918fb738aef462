-- What the commands of a reaper find when they come; deeds and logs are newest first.
--     FindsExpired ttl log now k reply    a delete of the key removed a Job whose time was over
--     FindsOwnerless log u reply          a mark found a pod whose Job is gone
--     FindsDue ttl shape past act reply   the act did the one or the other, if it is a delete or a mark
--     AreDue ttl shape past more          so did each of the deeds behind the past
--     CollectsAll ttl log acts            by these acts all was collected that was due by the log
--     IsCollected ttl shape before full after   so did each of the deeds by which the ones went on to the others, and
--                                               all was collected, where the history is not full
--     seen_at_end script shape            what a reaper sees at the end of the script's play
--     IsToReap script seen ttls place p   the play has come to what the reaper saw, and its commands come next
--     CollectsSeen seen ttls script p     so did each deed of the play behind what the reaper saw, and all was collected
use Rattle.std.specs.Prelude.{◌≡◌, ℕ, ◌+◌, ◌≤◌, Bool, false, true, List, [], ◌∷◌, ◌++◌, map, Option, Some, if◌then◌else◌, slice_get}
use Rattle.std.specs.List.{Contains, list_any}
use Rattle.jc_types.specs.declared.actions.Script.{Script}
use Rattle.jc_types.specs.declared.numbers.Uid.{Uid}
use Rattle.jc_types.specs.declared.objects.Entry.{Entry}
use Rattle.jc_types.specs.declared.objects.Job.{Job}
use Rattle.jc_types.specs.declared.objects.KeyNames.{KeyNames as Key}
use Rattle.jc_types.specs.declared.objects.Pod.{Pod}
use Rattle.jc_types.specs.declared.replies.Reply.{Reply}
use Rattle.jc_types.specs.declared.replies.Reply.TheVariants.{Removed, Unchanged, Written}
use Rattle.jc_types.specs.declared.runs.Shape.{Shape}
use Rattle.jc_log.specs.Acts.{Act}
use Rattle.jc_log.specs.Acts as does
use Rattle.jc_log.specs.Deeds.{Deed}
use Rattle.jc_log.specs.Log.{job_in, next_version, pod_in}
use Rattle.jc_runs.specs.Diaries.{all_jobs, moment}
use Rattle.jc_runs.specs.Legal.{IsLegal}
use Rattle.jc_runs.specs.Machines.{AllAskValid}
use Rattle.jc_runs.specs.Play.{Playing, deeds_played, is_command, whole_play}
use Rattle.jc_runs.specs.Replies.{log_given}
use Rattle.jc_runs.specs.Seen.{Seen, deeds_seen, log_seen}
use Rattle.jc_runs.specs.Pods.{is_marked}
use Rattle.jc_reap.specs.declared.expiries.Expiry.{Expiry}
use Rattle.jc_reap.specs.Expiries.{MayGo, ended_at}
use Rattle.jc_reap.specs.Reaping.{is_ownerless, reap_list, ttl_seen}

-- A delete of the key finds a Job that has ended and that has a TTL, so many seconds after whose end the
-- moment is not before; and it removes the Job.
pub record FindsExpired (ttl : Uid → Option ℕ) (log : List Entry) (now : ℕ) (k : Key) (reply : Reply) : Type 0
  where
    pub job : Job
    pub there : job_in k log ≡ Some job
    pub end : ℕ
    pub ended : ended_at job.status.conditions ≡ Some end
    pub seconds : ℕ
    pub given : ttl job.uid ≡ Some seconds
    pub over : end + seconds ≤ now
    pub removed : reply ≡ Removed (next_version log)

-- A mark finds a pod that no Job that is there made, and marks it, where it is not marked already.
pub record FindsOwnerless (log : List Entry) (u : Uid) (reply : Reply) : Type 0 where
  pub pod : Pod
  pub there : pod_in u log ≡ Some pod
  pub gone : is_ownerless (all_jobs log) pod ≡ true
  pub marks : reply ≡ (if is_marked pod then Unchanged pod.version else Written (next_version log))

-- A delete or a mark finds this, after these deeds. Of other acts nothing is said.
abbrev pub FindsDue : (Uid → Option ℕ) → Shape → List Deed → Act → Reply → Type 0
FindsDue ttl shape past (does.Delete k) reply =
    FindsExpired ttl (log_given shape past) (moment shape past) k reply
FindsDue ttl shape past (does.Mark u) reply = FindsOwnerless (log_given shape past) u reply
FindsDue ttl shape past other reply = Unit {0}

-- So does each of the deeds that came behind the past.
abbrev pub AreDue : (Uid → Option ℕ) → Shape → List Deed → List Deed → Type 0
AreDue ttl shape past [] = Unit {0}
AreDue ttl shape past (d ∷ more) = FindsDue ttl shape (more ++ past) d.act d.reply × AreDue ttl shape past more

-- By the acts each Job was deleted that may go by the log; and each pod was marked that no Job made that is there by
-- the log, or that such a Job made.
pub record CollectsAll (ttl : Uid → Option ℕ) (log : List Entry) (acts : List Act) : Type 0 where
  pub jobs : (row : Expiry × Uid) → MayGo ttl log row → Contains acts (does.Delete row.0.key)
  pub left : (pod : Pod) → pod_in pod.uid log ≡ Some pod → is_ownerless (all_jobs log) pod ≡ true
      → Contains acts (does.Mark pod.uid)
  pub pods : (pod : Pod) → pod_in pod.uid log ≡ Some pod → (row : Expiry × Uid) → MayGo ttl log row
      → pod.owner_uid ≡ row.1 → Contains acts (does.Mark pod.uid)

-- The deeds went on from those before, and each delete and each mark among what came behind them found what is due.
-- Unless the history is full, all was collected that was due when they began.
pub record IsCollected (ttl : Uid → Option ℕ) (shape : Shape) (before : List Deed) (full : Bool) (after : List Deed)
    : Type 0 where
  pub more : List Deed
  pub parts : after ≡ more ++ before
  pub due : AreDue ttl shape before more
  pub all : full ≡ false → CollectsAll ttl (log_given shape before) (map (λ (d : Deed). d.act) more)

-- What a reaper sees at the end of the play of the script.
abbrev pub seen_at_end : Script → Shape → Seen
seen_at_end script shape =
    record { script = script; shape = shape; pasts = (whole_play script shape).pasts }

-- The play of the script has come to the deeds that the reaper saw, which are legal and ask for what is valid. What is
-- played next are the reaper's commands: they stand from the place on, and none from there on was played.
pub record IsToReap (script : Script) (seen : Seen) (ttls : List (Option ℕ)) (place : ℕ) (p : Playing) : Type 0 where
  pub deeds_are : deeds_seen seen ≡ deeds_played script p
  pub log_is : p.log ≡ log_seen seen
  pub valid : AllAskValid (deeds_seen seen)
  pub legal : IsLegal seen.shape (deeds_seen seen)
  pub stand : (i : ℕ) → slice_get script.commands (place + i) ≡ slice_get (reap_list seen ttls) i
  pub fresh : (n : ℕ) → place ≤ n → list_any (is_command n) p.pasts ≡ false

-- In the play each deed behind what the reaper saw found what is due. Unless it is full, all was collected that was due.
abbrev pub CollectsSeen : Seen → List (Option ℕ) → Script → Playing → Type 0
CollectsSeen seen ttls script p =
    IsCollected (ttl_seen seen ttls) seen.shape (deeds_seen seen) p.full (deeds_played script p)
