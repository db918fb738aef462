-- The commands of a script that was read are proper.
use Rattle.std.proofs.Common.{◌≡◌, ℕ, ℤ, zero, suc, ◌+◌, ◌<◌, ◌≤◌, ◌^◌, pos, negsuc, nat_abs, List, [], ◌∷◌, ◌++◌, length, replicate, Bool, true, false, cond, ◌&&◌, nat_le, nat_lt, codes, Option, Some, None, option_map, option_and_then}
use Rattle.std.proofs.Common.{IfSome, Result, Ok, Err, refl, sym, arith, true≢false, leb-true}
use Rattle.std.specs.List.{AllByRecursion as Each}
use Rattle.std.specs.Prelude.{IfOk, int_le, ok_or, unwrap_or}
use Rattle.std.specs.Str.Lines.{strip_carriage_return}
use Rattle.std.proofs.lemmas.Result.{IfOk-at_ok}
use Rattle.serde_json.specs.Data.{Data}
use Rattle.serde_json.specs.Find.{as_integer, as_number}
use Rattle.jc_json.specs.Field.{◌>>=◌, bounded_number, member_of, missing, needed_number, needed_object, object_of, out_of_range, within_bounds, wrong_type}
use Rattle.jc_json.specs.Line.{data_of}
use Rattle.jc_json.specs.Place.{path_to}
use Rattle.jc_manifest.specs.Manifests.{key_of, manifest_refusal, spec_of}
use Rattle.jc_members.specs.declared.causes.Cause.{Cause}
use Rattle.jc_members.specs.declared.causes.Cause.TheVariants.{LineTooLong, TooMany}
use Rattle.jc_members.specs.LineCauses.{read_as}
use Rattle.jc_members.specs.EndMembers.{ends_said}
use Rattle.jc_members.specs.Items.{with_front}
use Rattle.jc_members.specs.Members.{given_number_in, given_text_in, text_in, whole_number_in}
use Rattle.jc_members.specs.Named.{controller_in, job_key_in, job_name_in, job_namespace_in, pod_named, seat_in, times_in}
use Rattle.jc_members.specs.Phases.{report_in}
use Rattle.jc_members.proofs.Within.{IsUpTo, given_is_within, using_first, whatever}
use Rattle.jc_rows.specs.ManifestRows.{Row, invalid, unread}
use Rattle.jc_rows.specs.NameForms.{has_length_of_name, is_label, is_part, is_subdomain}
use Rattle.jc_script.specs.declared.commands.Said.{Said}
use Rattle.jc_script.specs.declared.verbs.Verb.{Verb}
use Rattle.jc_script.specs.declared.verbs.Verb.TheVariants as verb
use Rattle.jc_script.specs.Commands.{action_said, begin_in, clock_in, command_in, create_in, delete_in, deliver_in, fate_in, fault_in, fault_kind_in, finish_in, job_said, kind_in, lane_in, list_command_in, mark_in, object_says, phase_in}
use Rattle.jc_script.specs.Commands.{restart_command_in, said_unless, step_in, strip_in, sync_in, update_in, value_says}
use Rattle.jc_script.specs.Fits.{NamesShape}
use Rattle.jc_script.specs.TextLines.{lines_of}
use Rattle.jc_script.specs.Scripts.{BadLine, commands_said, json_says, line_before, line_says, lines_say, most_commands, most_line_bytes, script_of, text_says}
use Rattle.jc_script.specs.Updates.{change_in, version_said}
use Rattle.jc_script.specs.Verbs.{verb_in}
use Rattle.jc_script.proofs.FitFacts.{IsFit, script_fits}
use Rattle.jc_types.specs.declared.actions.Action1.{Action1}
use Rattle.jc_types.specs.declared.actions.Action1.TheVariants as act
use Rattle.jc_types.specs.declared.actions.Command.{Command}
use Rattle.jc_types.specs.declared.numbers.Version.{Version}
use Rattle.jc_types.specs.declared.objects.KeyNames.{KeyNames as Key}
use Rattle.jc_types.specs.declared.runs.Shape.{Shape}
use Rattle.jc_types.specs.declared.specifications.JobSpec.{JobSpec}
use Rattle.jc_reading.specs.Allowed.{IsAllowedKey, IsAllowedSpec}
use Rattle.jc_reading.specs.Proper.{AreAllowedEnds, HasUnicodeTypes, IsAllowedChange, IsAllowedReport, IsExit, IsPod, IsPossibleSeat, IsProperAction, IsProperCommand}
use Rattle.jc_reading.specs.Spelled.{IsSpelled}
use Rattle.jc_reading.proofs.AllowedWhole.{manifest_allowed, names_allowed}
use Rattle.jc_reading.proofs.JobTexts.{IsAllowedJob, spec_types}
use Rattle.jc_reading.proofs.AllowedEnds.{ends_allowed, exit_is_allowed}
use Rattle.jc_reading.proofs.SpelledMembers.{IsTestedText, given_text_tested, needed_object_spelled, object_spelled, read_ok, text_tested}
use Rattle.jc_reading.proofs.AllowedReports.{report_allowed}
use Rattle.jc_reading.proofs.RangeFacts.{change_allowed}
use Rattle.jc_reading.proofs.SpelledFacts.{line_spelled}

-- ---- keys

name_allowed : (d : Data) → IsSpelled d → IfOk (job_name_in d) (λ s. is_subdomain s ≡ true)
unfolding job_name_in
name_allowed d h = first_of (text_in [] (codes "name") 3 is_subdomain d) (text_tested [] (codes "name") 3 is_subdomain d h)
  where
    first_of : (r : Result (List ℕ) Cause) → IfOk r (IsTestedText is_subdomain) → IfOk r (λ s. is_subdomain s ≡ true)
    first_of (Ok s) h = h.0
    first_of (Err cause) h = tt

usual_label : is_label (codes "default") ≡ true
unfolding has_length_of_name is_part
usual_label = refl

namespace_allowed : (d : Data) → IsSpelled d → IfOk (job_namespace_in d) (λ s. is_label s ≡ true)
unfolding job_namespace_in
namespace_allowed d h =
    using_first (λ s. is_label s ≡ true) (λ o. IfSome o (IsTestedText is_label)) (given_text_in [] (codes "namespace") 4 is_label d) _
    (given_text_tested [] (codes "namespace") 4 is_label d h) by
  where
    by : (o : Option (List ℕ)) → IfSome o (IsTestedText is_label) → is_label (unwrap_or o (codes "default")) ≡ true
    by None h = usual_label
    by (Some s) h = h.0

key_allowed : (d : Data) → IsSpelled d → IfOk (job_key_in d) IsAllowedKey
unfolding job_key_in
key_allowed d h =
    using_first IsAllowedKey (λ s. is_subdomain s ≡ true) (job_name_in d) _ (name_allowed d h)
    (λ name first. using_first IsAllowedKey (λ s. is_label s ≡ true) (job_namespace_in d) _ (namespace_allowed d h)
    (λ namespace second. record { name = first; namespace = second }))

-- ---- numbers

abbrev IsFrom : ℕ → ℕ → ℕ → Type 0
IsFrom least greatest n = (least ≤ n) × (n ≤ greatest)

whole_read : (path : List ℕ) (least greatest : ℕ) (z : ℤ) (p q : Bool) → int_le (pos least) z ≡ p → int_le z (pos greatest) ≡ q
    → IfOk (read_as (cond (p && q) (Ok z) (Err (out_of_range path))) >>= λ n. Ok (nat_abs n)) (IsFrom least greatest)
whole_read path least greatest (pos n) true true i j = (leb-true least n i, leb-true n greatest j)
whole_read path least greatest (negsuc n) true true i j = absurd (true≢false (sym i))
whole_read path least greatest z true false i j = tt
whole_read path least greatest z false q i j = tt

whole_number : (path : List ℕ) (least greatest : ℕ) (w : Option ℤ)
    → IfOk (read_as (ok_or w (wrong_type path) >>= within_bounds path (pos least) (pos greatest)) >>= λ n. Ok (nat_abs n)) (IsFrom least greatest)
whole_number path least greatest None = tt
whole_number path least greatest (Some z) = whole_read path least greatest z (int_le (pos least) z) (int_le z (pos greatest)) refl refl

whole_member : (path : List ℕ) (least greatest : ℕ) (o : Option Data)
    → IfOk (read_as (ok_or o (missing path) >>= bounded_number path (pos least) (pos greatest)) >>= λ n. Ok (nat_abs n)) (IsFrom least greatest)
whole_member path least greatest None = tt
whole_member path least greatest (Some d) = whole_number path least greatest (option_and_then as_integer (as_number d))

whole_allowed : (path name : List ℕ) (least greatest : ℕ) (d : Data) → IfOk (whole_number_in path name least greatest d) (IsFrom least greatest)
unfolding whole_number_in needed_number
whole_allowed path name least greatest d = whole_member (path_to path name) least greatest (member_of name d)

pod_allowed : (d : Data) → IfOk (pod_named d) IsPod
unfolding pod_named
pod_allowed d =
    using_first IsPod (IsFrom 1 4294967295) (whole_number_in [] (codes "pod") 1 4294967295 d) _ (whole_allowed [] (codes "pod") 1 4294967295 d)
    (λ n h. let few = h.1 in record { some = h.0; few = omega (arith, few) })

abbrev IsFewVersion : Option Version → Type 0
IsFewVersion o = IfSome o (λ (v : Version). v.0 < 2 ^ 32)

version_allowed : (d : Data) → IfOk (version_said d) IsFewVersion
unfolding version_said
version_allowed d =
    using_first IsFewVersion (IsUpTo 4294967295) (given_number_in [] (codes "version") 0 4294967295 d) _ (given_is_within [] (codes "version") 0 4294967295 d) by
  where
    by : (o : Option ℕ) → IsUpTo 4294967295 o → IsFewVersion (option_map (λ n. record { 0 = n }) o)
    by None h = tt
    by (Some n) h = omega (arith, h)

-- ---- the parts of an action that name nothing of a shape

abbrev HasAllowedParts : Action1 → Type 0
HasAllowedParts (act.Create key spec) = IsAllowedKey key × IsAllowedSpec spec × HasUnicodeTypes spec
HasAllowedParts (act.Update key version change) = IsAllowedKey key × IsFewVersion version × IsAllowedChange change
HasAllowedParts (act.Delete key) = IsAllowedKey key
HasAllowedParts (act.Mark pod) = IsPod pod
HasAllowedParts (act.Strip pod) = IsPod pod
HasAllowedParts (act.Finish pod exit) = IsPod pod × IsExit exit
HasAllowedParts (act.Report pod change) = IsPod pod × IsAllowedReport change
HasAllowedParts (act.Fate key ends) = IsAllowedKey key × AreAllowedEnds ends
HasAllowedParts (act.Clock add) = add < 2 ^ 32
HasAllowedParts other = Unit {0}

pub job_proper : (path : List ℕ) (job : Data) → IsSpelled job → manifest_refusal path job ≡ None → IsProperAction (act.Create (key_of path job) (spec_of path job))
job_proper path job h accepted = (names_allowed path job accepted, manifest_allowed path job accepted, spec_types path job h)

job_allowed : (path : List ℕ) (job : Data) → IsSpelled job → IfOk (job_said path job) IsAllowedJob
job_allowed path job h = by (manifest_refusal path job) refl
  where
    by : (row : Row) → manifest_refusal path job ≡ row → IfOk {T = Key × JobSpec} (said_unless row (key_of path job, spec_of path job)) IsAllowedJob
    by None e =
        job_proper path job h e
    by (Some (unread refusal)) e = tt
    by (Some (invalid at rule)) e = tt

create_allowed : (d : Data) → IsSpelled d → IfOk (create_in d) HasAllowedParts
unfolding create_in
create_allowed d h =
    using_first HasAllowedParts IsSpelled (read_as (needed_object [] (codes "job") d)) _ (read_ok IsSpelled (needed_object [] (codes "job") d) (needed_object_spelled [] (codes "job") d h))
    (λ job spelled. using_first HasAllowedParts IsAllowedJob (job_said (path_to [] (codes "job")) job) _ (job_allowed (path_to [] (codes "job")) job spelled)
    (λ said right. right))

update_allowed : (d : Data) → IsSpelled d → IfOk (update_in d) HasAllowedParts
unfolding update_in
update_allowed d h =
    using_first HasAllowedParts IsAllowedKey (job_key_in d) _ (key_allowed d h)
    (λ key first. using_first HasAllowedParts IsFewVersion (version_said d) _ (version_allowed d)
    (λ version second. using_first HasAllowedParts IsAllowedChange (change_in d) _ (change_allowed d)
    (λ change third. (first, second, third))))

delete_allowed : (d : Data) → IsSpelled d → IfOk (delete_in d) HasAllowedParts
unfolding delete_in
delete_allowed d h = using_first HasAllowedParts IsAllowedKey (job_key_in d) _ (key_allowed d h) (λ key first. first)

fate_allowed : (d : Data) → IsSpelled d → IfOk (fate_in d) HasAllowedParts
unfolding fate_in
fate_allowed d h =
    using_first HasAllowedParts IsAllowedKey (job_key_in d) _ (key_allowed d h)
    (λ key first. using_first HasAllowedParts AreAllowedEnds (ends_said d) _ (ends_allowed d h) (λ ends second. (first, second)))

mark_allowed : (d : Data) → IfOk (mark_in d) HasAllowedParts
unfolding mark_in
mark_allowed d = using_first HasAllowedParts IsPod (pod_named d) _ (pod_allowed d) (λ pod first. first)

strip_allowed : (d : Data) → IfOk (strip_in d) HasAllowedParts
unfolding strip_in
strip_allowed d = using_first HasAllowedParts IsPod (pod_named d) _ (pod_allowed d) (λ pod first. first)

finish_allowed : (d : Data) → IfOk (finish_in d) HasAllowedParts
unfolding finish_in
finish_allowed d =
    using_first HasAllowedParts IsPod (pod_named d) _ (pod_allowed d)
    (λ pod first. using_first HasAllowedParts IsExit (read_as (needed_number [] (codes "exit") (pos 0) (pos 255) d)) _ (exit_is_allowed [] (codes "exit") d)
    (λ exit second. (first, second)))

phase_allowed : (d : Data) → IsSpelled d → IfOk (phase_in d) HasAllowedParts
unfolding phase_in
phase_allowed d h =
    using_first HasAllowedParts IsPod (pod_named d) _ (pod_allowed d)
    (λ pod first. using_first HasAllowedParts IsAllowedReport (report_in d) _ (report_allowed d h) (λ change second. (first, second)))

clock_allowed : (d : Data) → IfOk (clock_in d) HasAllowedParts
unfolding clock_in
clock_allowed d =
    using_first HasAllowedParts (IsFrom 0 4294967295) (whole_number_in [] (codes "add") 0 4294967295 d) _ (whole_allowed [] (codes "add") 0 4294967295 d)
    (λ add h. let few = h.1 in omega (arith, few))

-- ---- commands that name something of a shape

list_allowed : (shape : Shape) (d : Data) → IfOk (list_command_in shape d) HasAllowedParts
unfolding list_command_in
list_allowed shape d = whatever HasAllowedParts (controller_in shape d) _ (λ controller. whatever HasAllowedParts (kind_in d) _ (λ kind. tt))

deliver_allowed : (shape : Shape) (d : Data) → IfOk (deliver_in shape d) HasAllowedParts
unfolding deliver_in
deliver_allowed shape d = whatever HasAllowedParts (controller_in shape d) _ (λ controller. whatever HasAllowedParts (kind_in d) _ (λ kind. tt))

begin_allowed : (shape : Shape) (d : Data) → IfOk (begin_in shape d) HasAllowedParts
unfolding begin_in
begin_allowed shape d = whatever HasAllowedParts (seat_in shape d) _ (λ seat. tt)

sync_allowed : (shape : Shape) (d : Data) → IfOk (sync_in shape d) HasAllowedParts
unfolding sync_in
sync_allowed shape d = whatever HasAllowedParts (seat_in shape d) _ (λ seat. tt)

step_allowed : (shape : Shape) (d : Data) → IfOk (step_in shape d) HasAllowedParts
unfolding step_in
step_allowed shape d = whatever HasAllowedParts (seat_in shape d) _ (λ seat. tt)

restart_allowed : (shape : Shape) (d : Data) → IfOk (restart_command_in shape d) HasAllowedParts
unfolding restart_command_in
restart_allowed shape d = whatever HasAllowedParts (controller_in shape d) _ (λ controller. tt)

fault_allowed : (shape : Shape) (d : Data) → IfOk (fault_in shape d) HasAllowedParts
unfolding fault_in
fault_allowed shape d = whatever HasAllowedParts (seat_in shape d) _ (λ seat. whatever HasAllowedParts (fault_kind_in d) _ (λ fault. tt))

action_allowed : (shape : Shape) (verb : Verb) (d : Data) → IsSpelled d → IfOk (action_said shape verb d) HasAllowedParts
action_allowed shape verb.Create d h = create_allowed d h
action_allowed shape verb.Update d h = update_allowed d h
action_allowed shape verb.Delete d h = delete_allowed d h
action_allowed shape verb.Mark d h = mark_allowed d
action_allowed shape verb.Strip d h = strip_allowed d
action_allowed shape verb.Finish d h = finish_allowed d
action_allowed shape verb.Phase d h = phase_allowed d h
action_allowed shape verb.Fate d h = fate_allowed d h
action_allowed shape verb.Clock d h = clock_allowed d
action_allowed shape verb.List d h = list_allowed shape d
action_allowed shape verb.Deliver d h = deliver_allowed shape d
action_allowed shape verb.Begin d h = begin_allowed shape d
action_allowed shape verb.Sync d h = sync_allowed shape d
action_allowed shape verb.Step d h = step_allowed shape d
action_allowed shape verb.Node d h = tt
action_allowed shape verb.Restart d h = restart_allowed shape d
action_allowed shape verb.Fault d h = fault_allowed shape d
action_allowed shape verb.Settle d h = tt

-- ---- lines

abbrev IsAllowedCommand : Command → Type 0
IsAllowedCommand command = HasAllowedParts command.action

command_allowed : (shape : Shape) (verb : Verb) (d : Data) → IsSpelled d → IfOk (command_in shape verb d) IsAllowedCommand
unfolding command_in
command_allowed shape verb d h =
    whatever IsAllowedCommand (lane_in d) _
    (λ lane. using_first IsAllowedCommand HasAllowedParts (action_said shape verb d) _ (action_allowed shape verb d h) (λ action right. right))

abbrev SaysAllowed : Said → Type 0
SaysAllowed said = IsAllowedCommand said.command

object_allowed : (shape : Shape) (d : Data) → IsSpelled d → IfOk (object_says shape d) SaysAllowed
unfolding object_says
object_allowed shape d h =
    whatever SaysAllowed (verb_in d) _
    (λ verb. using_first SaysAllowed IsAllowedCommand (command_in shape verb d) _ (command_allowed shape verb d h)
    (λ command right. whatever SaysAllowed (times_in d) _ (λ times. right)))

value_allowed : (shape : Shape) (d : Data) → IsSpelled d → IfOk (value_says shape d) SaysAllowed
unfolding value_says
value_allowed shape d h =
    using_first SaysAllowed IsSpelled (read_as (object_of [] d)) _ (read_ok IsSpelled (object_of [] d) (object_spelled [] d h)) (λ found spelled. object_allowed shape found spelled)

json_allowed : (shape : Shape) (o : Option Data) → IfSome o IsSpelled → IfOk (json_says shape o) SaysAllowed
json_allowed shape None h = tt
json_allowed shape (Some d) h = value_allowed shape d h

unless_long : {A E : Type 0} (P : A → Type 0) (refused : Bool) (fault : E) (said : Result A E) → IfOk said P → IfOk (cond refused (Err fault) said) P
unless_long P true fault said holds = tt
unless_long P false fault said holds = holds

text_allowed : (shape : Shape) (text : List ℕ) → IfOk (text_says shape text) SaysAllowed
unfolding text_says
text_allowed shape text =
    unless_long SaysAllowed (nat_lt most_line_bytes (length text)) LineTooLong (json_says shape (data_of text)) (json_allowed shape (data_of text) (line_spelled text))

each_times : (n : ℕ) (command : Command) → IsAllowedCommand command → Each IsAllowedCommand (replicate n command)
each_times zero command holds = tt
each_times (suc n) command holds = (holds, each_times n command holds)

each_both : (xs ys : List Command) → Each IsAllowedCommand xs → Each IsAllowedCommand ys → Each IsAllowedCommand (xs ++ ys)
each_both [] ys first second = second
each_both (x ∷ xs) ys first second = (first.0, each_both xs ys first.1 second)

commands_allowed : (shape : Shape) (text : List ℕ) → IfOk (commands_said shape text) (Each IsAllowedCommand)
commands_allowed shape [] = tt
commands_allowed shape (b ∷ bs) =
    using_first (Each IsAllowedCommand) SaysAllowed (text_says shape (b ∷ bs)) _ (text_allowed shape (b ∷ bs)) (λ said right. each_times said.times said.command right)

-- ---- all lines

front_allowed : (front : List Command) (rest : Result (List Command) BadLine) → Each IsAllowedCommand front → IfOk rest (Each IsAllowedCommand) → IfOk (with_front front rest) (Each IsAllowedCommand)
front_allowed front (Ok commands) first more = each_both front commands first more
front_allowed front (Err bad) first more = tt

line_allowed : (number before : ℕ) (said : Result (List Command) Cause) (rest : ℕ → Result (List Command) BadLine) → IfOk said (Each IsAllowedCommand)
    → ((count : ℕ) → IfOk (rest count) (Each IsAllowedCommand)) → IfOk (line_before number before said rest) (Each IsAllowedCommand)
line_allowed number before (Err cause) rest first more = tt
line_allowed number before (Ok commands) rest first more = by (nat_le (before + length commands) most_commands)
  where
    by : (few : Bool) → IfOk (cond few (with_front commands (rest (before + length commands))) (Err (record { number = number; cause = TooMany }))) (Each IsAllowedCommand)
    by true = front_allowed commands (rest (before + length commands)) first (more (before + length commands))
    by false = tt

lines_allowed : (shape : Shape) (number before : ℕ) (lines : List (List ℕ)) → IfOk (lines_say shape number before lines) (Each IsAllowedCommand)
lines_allowed shape number before [] = tt
lines_allowed shape number before (line ∷ lines) =
    line_allowed number before (line_says shape line) (λ count. lines_say shape (number + 1) count lines)
    (commands_allowed shape (strip_carriage_return line)) (λ count. lines_allowed shape (number + 1) count lines)

script_allowed : (shape : Shape) (text : List ℕ) (commands : List Command) → script_of shape text ≡ Ok commands → Each IsAllowedCommand commands
unfolding script_of
script_allowed shape text commands said = IfOk-at_ok (Each IsAllowedCommand) said (lines_allowed shape 1 0 (lines_of text))

-- ---- the law

-- A shape of which a line can name each controller and each worker.
module _ (shape : Shape) (few_controllers : shape.controllers ≤ 4) (few_workers : shape.workers ≤ 16) where
  seat_possible : (controller worker : ℕ) → (controller < shape.controllers) × (worker < shape.workers) → IsPossibleSeat controller worker
  seat_possible controller worker h =
      let first = h.0 in
      let second = h.1 in
      record { controllers = omega (arith, first, few_controllers); workers = omega (arith, second, few_workers) }

  controller_possible : (controller : ℕ) → controller < shape.controllers → controller < 4
  controller_possible controller less = omega (arith, less, few_controllers)

  pub action_proper : (action : Action1) → HasAllowedParts action → NamesShape shape action → IsProperAction action
  action_proper (act.Create key spec) right names = right
  action_proper (act.Update key version change) right names = right
  action_proper (act.Delete key) right names = right
  action_proper (act.Mark pod) right names = right
  action_proper (act.Strip pod) right names = right
  action_proper (act.Finish pod exit) right names = right
  action_proper (act.Report pod change) right names = right
  action_proper (act.Fate key ends) right names = right
  action_proper (act.Clock add) right names = right
  action_proper (act.List controller kind) right names = controller_possible controller names
  action_proper (act.Deliver controller kind) right names = controller_possible controller names
  action_proper (act.Begin controller worker) right names = seat_possible controller worker names
  action_proper (act.Sync controller worker) right names = seat_possible controller worker names
  action_proper (act.Step controller worker) right names = seat_possible controller worker names
  action_proper act.Node right names = tt
  action_proper (act.Restart controller) right names = controller_possible controller names
  action_proper (act.PutFault controller worker fault) right names = seat_possible controller worker names
  action_proper act.Settle right names = tt

  both_proper : 0 < shape.controllers → 0 < shape.workers → (commands : List Command) → Each IsAllowedCommand commands → Each (IsFit shape) commands → Each IsProperCommand commands
  both_proper some others [] right fits = tt
  both_proper some others (command ∷ commands) right fits =
      (record { lane = fits.0.lane; action = action_proper command.action right.0 (fits.0.fits.within some others) }, both_proper some others commands right.1 fits.1)

  pub script_proper : 0 < shape.controllers → 0 < shape.workers → (text : List ℕ) (commands : List Command) → script_of shape text ≡ Ok commands → Each IsProperCommand commands
  script_proper some others text commands said =
      both_proper some others commands (script_allowed shape text commands said) (script_fits shape text commands said).each
