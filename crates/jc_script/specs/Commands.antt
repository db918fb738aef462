-- What a line's members say: a command, and how often it is given.
--     action_said shape verb d   what the command does
--     object_says shape d        the command of a line's value and how often it is given, or the cause that it is bad
use Rattle.std.specs.Prelude.{ℕ, List, [], bytes_eq, codes, replicate, Option, Some, None, Result, Ok, Err, pos, unwrap_or, if◌then◌else◌}
use Rattle.serde_json.specs.Data.{Data}
use Rattle.jc_json.specs.Field.{◌>>=◌, needed_number, needed_object, object_of}
use Rattle.jc_json.specs.Place.{path_to}
use Rattle.jc_manifest.specs.Manifests.{manifest_refusal, key_of, spec_of}
use Rattle.jc_rows.specs.ManifestRows.{Row, unread, invalid}
use Rattle.jc_types.specs.declared.actions.Action1.{Action1}
use Rattle.jc_types.specs.declared.actions.Action1.TheVariants as act
use Rattle.jc_types.specs.declared.actions.Command.{Command}
use Rattle.jc_types.specs.declared.actions.Fault.{Fault}
use Rattle.jc_types.specs.declared.actions.Fault.TheVariants.{Drop, Lose}
use Rattle.jc_types.specs.declared.objects.KeyNames.{KeyNames as Key}
use Rattle.jc_types.specs.declared.objects.Kind.{Kind}
use Rattle.jc_types.specs.declared.objects.Kind.TheVariants.{Jobs, Pods}
use Rattle.jc_types.specs.declared.runs.Shape.{Shape}
use Rattle.jc_types.specs.declared.specifications.JobSpec.{JobSpec}
use Rattle.jc_members.specs.declared.causes.Cause.{Cause}
use Rattle.jc_members.specs.declared.causes.Cause.TheVariants.{Invalid}
use Rattle.jc_script.specs.declared.commands.Said.{Said}
use Rattle.jc_script.specs.declared.verbs.Verb.{Verb}
use Rattle.jc_script.specs.declared.verbs.Verb.TheVariants as verb
use Rattle.jc_members.specs.LineCauses.{read_as, cause_of}
use Rattle.jc_members.specs.EndMembers.{ends_said}
use Rattle.jc_members.specs.Members.{whole_number_in, given_number_in, word_in}
use Rattle.jc_members.specs.Named.{job_key_in, pod_named, controller_in, seat_in, times_in}
use Rattle.jc_members.specs.Phases.{report_in}
use Rattle.jc_script.specs.Updates.{version_said, change_in}
use Rattle.jc_script.specs.Verbs.{verb_in}

-- ---- words

abbrev pub kind_named : List ℕ → Option Kind
kind_named s =
    if bytes_eq s (codes "jobs") then Some Jobs
    else if bytes_eq s (codes "pods") then Some Pods
    else None

abbrev pub fault_of : List ℕ → Option Fault
fault_of s =
    if bytes_eq s (codes "drop") then Some Drop
    else if bytes_eq s (codes "lose") then Some Lose
    else None

unfoldable pub kind_in : Data → Result Kind Cause
kind_in d = word_in [] (codes "kind") kind_named d

unfoldable pub fault_kind_in : Data → Result Fault Cause
fault_kind_in d = word_in [] (codes "kind") fault_of d

-- ---- Jobs

-- what the rows of a manifest let be said, or their refusal
abbrev pub said_unless : {A : Type 0} → Row → A → Result A Cause
said_unless None a = Ok a
said_unless (Some (unread refusal)) a = Err (cause_of refusal)
said_unless (Some (invalid path rule)) a = Err (Invalid path rule)

abbrev pub job_said : List ℕ → Data → Result (Key × JobSpec) Cause
job_said path job = said_unless (manifest_refusal path job) (key_of path job, spec_of path job)

unfoldable pub create_in : Data → Result Action1 Cause
create_in d = do
  job ← read_as (needed_object [] (codes "job") d)
  said ← job_said (path_to [] (codes "job")) job
  Ok (act.Create said.0 said.1)

unfoldable pub update_in : Data → Result Action1 Cause
update_in d = do
  key ← job_key_in d
  version ← version_said d
  change ← change_in d
  Ok (act.Update key version change)

unfoldable pub delete_in : Data → Result Action1 Cause
delete_in d = do
  key ← job_key_in d
  Ok (act.Delete key)

unfoldable pub fate_in : Data → Result Action1 Cause
fate_in d = do
  key ← job_key_in d
  ends ← ends_said d
  Ok (act.Fate key ends)

-- ---- pods

unfoldable pub mark_in : Data → Result Action1 Cause
mark_in d = do
  pod ← pod_named d
  Ok (act.Mark pod)

unfoldable pub strip_in : Data → Result Action1 Cause
strip_in d = do
  pod ← pod_named d
  Ok (act.Strip pod)

unfoldable pub finish_in : Data → Result Action1 Cause
finish_in d = do
  pod ← pod_named d
  exit ← read_as (needed_number [] (codes "exit") (pos 0) (pos 255) d)
  Ok (act.Finish pod exit)

unfoldable pub phase_in : Data → Result Action1 Cause
phase_in d = do
  pod ← pod_named d
  change ← report_in d
  Ok (act.Report pod change)

-- ---- time

unfoldable pub clock_in : Data → Result Action1 Cause
clock_in d = do
  add ← whole_number_in [] (codes "add") 0 4294967295 d
  Ok (act.Clock add)

-- ---- controllers and workers

unfoldable pub list_command_in : Shape → Data → Result Action1 Cause
list_command_in shape d = do
  controller ← controller_in shape d
  kind ← kind_in d
  Ok (act.List controller kind)

unfoldable pub deliver_in : Shape → Data → Result Action1 Cause
deliver_in shape d = do
  controller ← controller_in shape d
  kind ← kind_in d
  Ok (act.Deliver controller kind)

unfoldable pub begin_in : Shape → Data → Result Action1 Cause
begin_in shape d = do
  seat ← seat_in shape d
  Ok (act.Begin seat.controller seat.worker)

unfoldable pub sync_in : Shape → Data → Result Action1 Cause
sync_in shape d = do
  seat ← seat_in shape d
  Ok (act.Sync seat.controller seat.worker)

unfoldable pub step_in : Shape → Data → Result Action1 Cause
step_in shape d = do
  seat ← seat_in shape d
  Ok (act.Step seat.controller seat.worker)

unfoldable pub restart_command_in : Shape → Data → Result Action1 Cause
restart_command_in shape d = do
  controller ← controller_in shape d
  Ok (act.Restart controller)

unfoldable pub fault_in : Shape → Data → Result Action1 Cause
fault_in shape d = do
  seat ← seat_in shape d
  fault ← fault_kind_in d
  Ok (act.PutFault seat.controller seat.worker fault)

-- ---- all commands

abbrev pub action_said : Shape → Verb → Data → Result Action1 Cause
action_said shape verb.Create d = create_in d
action_said shape verb.Update d = update_in d
action_said shape verb.Delete d = delete_in d
action_said shape verb.Mark d = mark_in d
action_said shape verb.Strip d = strip_in d
action_said shape verb.Finish d = finish_in d
action_said shape verb.Phase d = phase_in d
action_said shape verb.Fate d = fate_in d
action_said shape verb.Clock d = clock_in d
action_said shape verb.List d = list_command_in shape d
action_said shape verb.Deliver d = deliver_in shape d
action_said shape verb.Begin d = begin_in shape d
action_said shape verb.Sync d = sync_in shape d
action_said shape verb.Step d = step_in shape d
action_said shape verb.Node d = Ok act.Node
action_said shape verb.Restart d = restart_command_in shape d
action_said shape verb.Fault d = fault_in shape d
action_said shape verb.Settle d = Ok act.Settle

-- the lane is 0 where none is given
unfoldable pub lane_in : Data → Result ℕ Cause
lane_in d = do
  o ← given_number_in [] (codes "lane") 0 15 d
  Ok (unwrap_or o 0)

-- the lane comes before the members of the command
unfoldable pub command_in : Shape → Verb → Data → Result Command Cause
command_in shape verb d = do
  lane ← lane_in d
  action ← action_said shape verb d
  Ok (record { lane = lane; action = action })

-- the command is given that many times
abbrev pub commands_of : Said → List Command
commands_of said = replicate said.times said.command

-- A command that is given once has no known member `times`, so that it says nothing.
unfoldable pub object_says : Shape → Data → Result Said Cause
object_says shape d = do
  verb ← verb_in d
  command ← command_in shape verb d
  times ← times_in d
  Ok (record { command = command; times = times })

-- only an object says something
unfoldable pub value_says : Shape → Data → Result Said Cause
value_says shape d = do
  found ← read_as (object_of [] d)
  object_says shape found
