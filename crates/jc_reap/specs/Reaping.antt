-- The commands that a reaper gives to a cluster at rest.
--     is_present u jobs           one of the Jobs has the UID
--     HasUids uids jobs           a table has just the UIDs of the Jobs
--     ownerless log               the pods whose Job is gone, in ascending UID
--     command action              the command of lane 0
--     mark_commands pods                  a mark of each of the pods
--     later_moment a b                   the later of two moments
--     clock_to reached moment     a clock to the moment, where it is later than the one reached
--     removal log row             the delete of a Job, and marks of its pods
--     removals log reached rows   those of all Jobs, each at its moment
--     unsettled seen ttls         all but the settle at the end
--     reached_after reached rows  the moment that is reached by then
--     reap_list seen ttls         all commands
--     reaped_script seen ttls     the script that the reaper saw, with them behind it
--     AskReaped seen ttls deeds left      the deeds ask for a front of them, and the acts are left of it
use Rattle.std.specs.Prelude.{◌≡◌, ℕ, ◌-◌, nat_lt, Bool, not, List, [], ◌∷◌, ◌++◌, filter, map, reverse, Option, is_some, if◌then◌else◌}
use Rattle.std.specs.List.{list_any}
use Rattle.jc_types.specs.declared.actions.Action1.{Action1}
use Rattle.jc_types.specs.declared.actions.Action1.TheVariants as act
use Rattle.jc_types.specs.declared.actions.Command.{Command}
use Rattle.jc_types.specs.declared.actions.Script.{Script}
use Rattle.jc_types.specs.declared.numbers.Uid.{Uid}
use Rattle.jc_types.specs.declared.objects.Entry.{Entry}
use Rattle.jc_types.specs.declared.objects.Job.{Job}
use Rattle.jc_types.specs.declared.objects.Pod.{Pod}
use Rattle.jc_types.specs.Keys.{same_uid}
use Rattle.jc_log.specs.Acts.{Act}
use Rattle.jc_log.specs.Deeds.{Deed, act_of_action}
use Rattle.jc_log.specs.Log.{jobs_in, pods_in, pods_of}
use Rattle.jc_log.specs.Tables.{at}
use Rattle.jc_runs.specs.Diaries.{all_jobs, moment}
use Rattle.jc_runs.specs.Seen.{Seen, deeds_seen, log_seen}
use Rattle.jc_reap.specs.declared.expiries.Expiry.{Expiry}
use Rattle.jc_reap.specs.Expiries.{expired, ttl_at}
use Rattle.jc_reap.specs.Makers.{maker}

-- ---- pods without a Job

-- One of the Jobs has the UID.
abbrev pub is_present : Uid → List Job → Bool
is_present u jobs = list_any (λ job. same_uid job.uid u) jobs

-- The table has just the UIDs of the Jobs.
abbrev pub HasUids : {A : Type 0} → List (Uid × A) → List Job → Type 0
HasUids uids jobs = (u : Uid) → is_some (at same_uid uids u) ≡ is_present u jobs

-- No Job that is there made the pod.
abbrev pub is_ownerless : List Job → Pod → Bool
is_ownerless jobs pod = not (is_present pod.owner_uid jobs)

-- The pods whose Job is gone, in ascending UID, also those that are marked already.
abbrev pub ownerless : List Entry → List Pod
ownerless log = filter (is_ownerless (all_jobs log)) (pods_in log)

-- ---- commands

-- The command of lane 0.
abbrev pub command : Action1 → Command
command action = record { lane = 0; action = action }

-- A mark of each of the pods.
abbrev pub mark_commands : List Pod → List Command
mark_commands pods = map (λ pod. command (act.Mark pod.uid)) pods

-- The later of two moments.
abbrev pub later_moment : ℕ → ℕ → ℕ
later_moment a b = if nat_lt a b then b else a

-- A clock to the moment, where it is later than the one that was reached.
abbrev pub clock_to : ℕ → ℕ → List Command
clock_to reached due = if nat_lt reached due then command (act.Clock (due - reached)) ∷ [] else []

-- The delete of the Job's key, and marks of its pods in ascending UID.
abbrev pub removal : List Entry → Expiry × Uid → List Command
removal log row = command (act.Delete row.0.key) ∷ mark_commands (pods_of row.1 log)

-- One Job after the other is removed, each at its moment.
abbrev pub removals : List Entry → ℕ → List (Expiry × Uid) → List Command
removals log reached [] = []
removals log reached (row ∷ rows) =
    clock_to reached row.0.moment ++ (removal log row ++ removals log (later_moment reached row.0.moment) rows)

-- A settle ends a list that is not empty.
abbrev pub then_settle : List Command → List Command
then_settle [] = []
then_settle (first ∷ more) = (first ∷ more) ++ command act.Settle ∷ []

-- The moment that is reached once the Jobs are gone.
abbrev pub reached_after : ℕ → List (Expiry × Uid) → ℕ
reached_after reached [] = reached
reached_after reached (row ∷ rows) = reached_after (later_moment reached row.0.moment) rows

-- ---- the whole list

-- The TTL of the Job of the UID: that of the create command that made it.
abbrev pub ttl_seen : Seen → List (Option ℕ) → Uid → Option ℕ
ttl_seen seen ttls u = ttl_at ttls (maker seen.script.commands seen.pasts u)

-- Marks of the pods whose Job is gone, and then the Jobs whose time is over.
abbrev pub unsettled : Seen → List (Option ℕ) → List Command
unsettled seen ttls =
    let log = log_seen seen in
    mark_commands (ownerless log)
    ++ removals log (moment seen.shape (deeds_seen seen)) (expired (ttl_seen seen ttls) (jobs_in log))

-- All commands: behind them the cluster comes to rest again.
abbrev pub reap_list : Seen → List (Option ℕ) → List Command
reap_list seen ttls = then_settle (unsettled seen ttls)

-- The script that the reaper saw, with its commands behind it.
abbrev pub reaped_script : Seen → List (Option ℕ) → Script
reaped_script seen ttls = record { commands = seen.script.commands ++ reap_list seen ttls }

-- The deeds, newest first, ask for a front of the commands, one after the other, and these acts are left of them.
abbrev pub AskReaped : Seen → List (Option ℕ) → List Deed → List Act → Type 0
AskReaped seen ttls deeds left = map (λ (d : Deed). d.act) (reverse deeds) ++ left
    ≡ map (λ (command : Command). act_of_action command.action) (reap_list seen ttls)
