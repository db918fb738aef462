-- What the words of a line say, as functions of the words. Zeros may stand in front of a number here: the line is
-- compared with what is printed of the act that was read.
--     digits_said, number_below     a number, and one below a bound
--     pod_said, version_printed, tag_said, kind_said, fault_said, verb_said     what a word says
--     printed_job, change_said, report_said, ends_printed     what a word of JSON says
--     act_said words     the act of a command
--     system_said words     that of an event of the system
use Rattle.std.specs.Prelude.{ℕ, suc, ◌+◌, ◌-◌, ◌*◌, ◌==◌, Bool, ◌&&◌, nat_le, nat_lt, List, [], ◌∷◌, bytes_eq, codes, pos, Option, Some, None, is_none, option_and_then, option_map, if◌then◌else◌}
use Rattle.std.specs.Result.{result_ok}
use Rattle.std.specs.Str.{is_utf8}
use Rattle.serde_json.specs.Data.{Data}
use Rattle.jc_json.specs.Line.{data_of}
use Rattle.jc_manifest.specs.Manifests.{key_of, manifest_refusal, spec_of}
use Rattle.jc_rows.specs.NameForms.{is_label, is_subdomain}
use Rattle.jc_script.specs.EndMembers.{ends_said}
use Rattle.jc_script.specs.Phases.{report_in}
use Rattle.jc_script.specs.Updates.{change_in}
use Rattle.jc_types.specs.declared.actions.Action1.{Action1}
use Rattle.jc_types.specs.declared.actions.Action1.TheVariants as act
use Rattle.jc_types.specs.declared.actions.End.{End}
use Rattle.jc_types.specs.declared.actions.Fault.{Fault}
use Rattle.jc_types.specs.declared.actions.Fault.TheVariants.{Drop, Lose}
use Rattle.jc_types.specs.declared.actions.PhaseChange.{PhaseChange}
use Rattle.jc_types.specs.declared.actions.SpecChange.{SpecChange}
use Rattle.jc_types.specs.declared.numbers.Uid.{Uid}
use Rattle.jc_types.specs.declared.numbers.Version.{Version}
use Rattle.jc_types.specs.declared.objects.KeyNames.{KeyNames as Key}
use Rattle.jc_types.specs.declared.objects.Kind.{Kind}
use Rattle.jc_types.specs.declared.objects.Kind.TheVariants.{Jobs, Pods}
use Rattle.jc_types.specs.declared.runs.Sys.{Sys}
use Rattle.jc_types.specs.declared.runs.Sys.TheVariants as sys
use Rattle.jc_types.specs.declared.specifications.JobSpec.{JobSpec}
use Rattle.jc_reading.specs.Cuts.{behind_word, first_word_in}
use Rattle.jc_reading.specs.Manifested.{manifest_data}
use Rattle.jc_reading.specs.Turned.{of_member, report_of}
use Rattle.jc_reading.specs.declared.reading.Verb.{Verb}
use Rattle.jc_reading.specs.declared.reading.Verb.TheVariants as verb

-- ---- numbers

abbrev pub is_digit : ℕ → Bool
is_digit b = nat_le 48 b && nat_le b 57

abbrev pub digits_from : ℕ → List ℕ → Option ℕ
digits_from n [] = Some n
digits_from n (b ∷ bs) =
    if is_digit b && nat_lt (n * 10 + (b - 48)) 18446744073709551616 then digits_from (n * 10 + (b - 48)) bs else None

unfoldable pub digits_said : List ℕ → Option ℕ
digits_said word = digits_from 0 word

-- then: nothing where one of them says nothing
infixl 10 ◌>>=◌
abbrev pub ◌>>=◌ : {A B : Type 0} → Option A → (A → Option B) → Option B
o >>= f = option_and_then f o

abbrev pub number_below : List ℕ → ℕ → Option ℕ
number_below word bound = do
  n ← digits_said word
  if nat_lt n bound then Some n else None

-- ---- words

abbrev pub uid_at : ℕ → Uid
uid_at n = record { 0 = n }

abbrev pub version_from : ℕ → Version
version_from n = record { 0 = n }

abbrev pub pod_said : List ℕ → Option Uid
pod_said word = do
  n ← number_below word 4294967296
  if nat_lt 0 n then Some (uid_at n) else None

abbrev pub version_behind : List ℕ → Option (Option Version)
version_behind [] = None
version_behind (b ∷ digits) =
    if b == 118 then option_map (λ n. Some (version_from n)) (number_below digits 4294967296) else None

abbrev pub version_printed : List ℕ → Option (Option Version)
version_printed word = if bytes_eq word (codes "any") then Some None else version_behind word

abbrev pub lane_behind : List ℕ → Option (Option ℕ)
lane_behind [] = None
lane_behind (b ∷ digits) = if b == 64 then option_map (λ n. Some n) (number_below digits 16) else None

abbrev pub tag_said : List ℕ → Option (Option ℕ)
tag_said word = if bytes_eq word (codes "-") then Some None else lane_behind word

abbrev pub kind_said : List ℕ → Option Kind
kind_said word =
    if bytes_eq word (codes "jobs") then Some Jobs
    else if bytes_eq word (codes "pods") then Some Pods
    else None

abbrev pub fault_said : List ℕ → Option Fault
fault_said word =
    if bytes_eq word (codes "drop") then Some Drop
    else if bytes_eq word (codes "lose") then Some Lose
    else None

abbrev pub verb_named : List ℕ → Option Verb
verb_named word =
    if bytes_eq word (codes "create") then Some verb.Create
    else if bytes_eq word (codes "update") then Some verb.Update
    else if bytes_eq word (codes "delete") then Some verb.Delete
    else if bytes_eq word (codes "mark") then Some verb.Mark
    else if bytes_eq word (codes "strip") then Some verb.Strip
    else if bytes_eq word (codes "finish") then Some verb.Finish
    else if bytes_eq word (codes "report") then Some verb.Report
    else if bytes_eq word (codes "fate") then Some verb.Fate
    else if bytes_eq word (codes "clock") then Some verb.Clock
    else if bytes_eq word (codes "list") then Some verb.List
    else if bytes_eq word (codes "deliver") then Some verb.Deliver
    else if bytes_eq word (codes "begin") then Some verb.Begin
    else if bytes_eq word (codes "step") then Some verb.Step
    else if bytes_eq word (codes "node") then Some verb.Node
    else if bytes_eq word (codes "restart") then Some verb.Restart
    else if bytes_eq word (codes "fault") then Some verb.Fault
    else if bytes_eq word (codes "settled") then Some verb.Settle
    else None

-- Where the word is text.
unfoldable pub verb_said : List ℕ → Option Verb
verb_said word = if is_utf8 word then verb_named word else None

-- ---- keys

-- The bytes before the first slash, and those behind it.
abbrev pub onto_front : ℕ → List ℕ × List ℕ → List ℕ × List ℕ
onto_front b parts = (b ∷ parts.0, parts.1)

abbrev pub parted : List ℕ → List ℕ × List ℕ
parted [] = ([], [])
parted (b ∷ bs) = if b == 47 then ([], bs) else onto_front b (parted bs)

-- Where the first slash stands.
abbrev pub slash_in : List ℕ → ℕ
slash_in [] = 0
slash_in (b ∷ bs) = if b == 47 then 0 else suc (slash_in bs)

abbrev pub label_if : List ℕ → Option (List ℕ)
label_if s = if is_label s then Some s else None

abbrev pub subdomain_if : List ℕ → Option (List ℕ)
subdomain_if s = if is_subdomain s then Some s else None

abbrev pub key_if : List ℕ × List ℕ → Option Key
key_if parts = do
  namespace ← label_if parts.0
  name ← subdomain_if parts.1
  Some (record { namespace = namespace; name = name })

unfoldable pub key_said : List ℕ → Option Key
key_said word = key_if (parted word)

-- ---- JSON

-- What an accepted manifest says.
abbrev pub job_if : Data → Option (Key × JobSpec)
job_if d = if is_none (manifest_refusal [] d) then Some (key_of [] d, spec_of [] d) else None

unfoldable pub printed_job : Key → List ℕ → Option (Key × JobSpec)
printed_job key word = do
  d ← data_of word
  job_if (manifest_data key d)

-- What a line of a script says of a specification, of a pod, and of how pods are to end.
abbrev pub change_if : Data → Option SpecChange
change_if line = result_ok (change_in line)

abbrev pub report_if : Data → Option PhaseChange
report_if line = result_ok (report_in line)

abbrev pub ends_if : Data → Option (List End)
ends_if line = result_ok (ends_said line)

unfoldable pub change_said : List ℕ → Option SpecChange
change_said word = do
  d ← data_of word
  change_if (of_member (codes "spec") d)

unfoldable pub report_said : List ℕ → Option PhaseChange
report_said word = do
  d ← data_of word
  report_if (report_of d)

unfoldable pub ends_printed : List ℕ → Option (List End)
ends_printed word = do
  d ← data_of word
  ends_if (of_member (codes "ends") d)

-- ---- acts

-- That of a command on one pod, on the clock or on the node.
abbrev pub plain_said : Verb → List ℕ → List ℕ → Option Action1
plain_said verb.Mark first second = do
  pod ← pod_said first
  Some (act.Mark pod)
plain_said verb.Strip first second = do
  pod ← pod_said first
  Some (act.Strip pod)
plain_said verb.Finish first second = do
  pod ← pod_said first
  code ← number_below second 256
  Some (act.Finish pod (pos code))
plain_said verb.Clock first second = do
  add ← number_below first 4294967296
  Some (act.Clock add)
plain_said verb.Node first second = Some act.Node
plain_said verb.Settle first second = Some act.Settle
plain_said other first second = None

-- That of a command on a controller.
abbrev pub turn_said : Verb → List ℕ → List ℕ → List ℕ → Option Action1
turn_said verb.List first second third = do
  controller ← number_below first 4
  kind ← kind_said second
  Some (act.List controller kind)
turn_said verb.Deliver first second third = do
  controller ← number_below first 4
  kind ← kind_said second
  Some (act.Deliver controller kind)
turn_said verb.Begin first second third = do
  controller ← number_below first 4
  worker ← number_below second 16
  Some (act.Begin controller worker)
turn_said verb.Step first second third = do
  controller ← number_below first 4
  worker ← number_below second 16
  Some (act.Step controller worker)
turn_said verb.Restart first second third = do
  controller ← number_below first 4
  Some (act.Restart controller)
turn_said verb.Fault first second third = do
  controller ← number_below first 4
  worker ← number_below second 16
  fault ← fault_said third
  Some (act.PutFault controller worker fault)
turn_said other first second third = None

-- That of a command with a key or with JSON, by its words.
abbrev pub create_said : List ℕ → List ℕ → Option Action1
create_said first second = do
  key ← key_said first
  job ← printed_job key second
  Some (act.Create job.0 job.1)

abbrev pub update_said : List ℕ → List ℕ → List ℕ → Option Action1
update_said first second third = do
  key ← key_said first
  version ← version_printed second
  change ← change_said third
  Some (act.Update key version change)

abbrev pub delete_said : List ℕ → Option Action1
delete_said first = do
  key ← key_said first
  Some (act.Delete key)

abbrev pub reported_said : List ℕ → List ℕ → Option Action1
reported_said first second = do
  pod ← pod_said first
  change ← report_said second
  Some (act.Report pod change)

abbrev pub fate_said : List ℕ → List ℕ → Option Action1
fate_said first second = do
  key ← key_said first
  ends ← ends_printed second
  Some (act.Fate key ends)

-- The act of a command, by its verb and the words behind it.
unfoldable pub act_said : Verb → List ℕ → List ℕ → List ℕ → Option Action1
act_said verb.Create first second third = create_said first second
act_said verb.Update first second third = update_said first second third
act_said verb.Delete first second third = delete_said first
act_said verb.Report first second third = reported_said first second
act_said verb.Fate first second third = fate_said first second
act_said verb.Mark first second third = plain_said verb.Mark first second
act_said verb.Strip first second third = plain_said verb.Strip first second
act_said verb.Finish first second third = plain_said verb.Finish first second
act_said verb.Clock first second third = plain_said verb.Clock first second
act_said verb.Node first second third = plain_said verb.Node first second
act_said verb.Settle first second third = plain_said verb.Settle first second
act_said other first second third = turn_said other first second third

-- The act of an event of the system.
unfoldable pub system_said : Verb → List ℕ → List ℕ → Option Sys
system_said verb.List first second = do
  controller ← number_below first 4
  kind ← kind_said second
  Some (sys.List controller kind)
system_said verb.Deliver first second = do
  controller ← number_below first 4
  kind ← kind_said second
  Some (sys.Deliver controller kind)
system_said verb.Begin first second = do
  controller ← number_below first 4
  worker ← number_below second 16
  Some (sys.Begin controller worker)
system_said verb.Step first second = do
  controller ← number_below first 4
  worker ← number_below second 16
  Some (sys.Step controller worker)
system_said verb.Node first second = Some sys.Node
system_said verb.Clock first second = do
  add ← digits_said first
  Some (sys.Clock add)
system_said other first second = None

-- The act that a text says whose first word is its verb.
abbrev pub action_by : List ℕ → List ℕ → List ℕ → List ℕ → Option Action1
action_by verb first second third = option_and_then (λ v. act_said v first second third) (verb_said verb)

abbrev pub action_read : List ℕ → Option Action1
action_read text =
    action_by (first_word_in text) (first_word_in (behind_word text)) (first_word_in (behind_word (behind_word text)))
    (first_word_in (behind_word (behind_word (behind_word text))))
