-- What each command of a script keeps.
use Rattle.std.proofs.Common.{◌≡◌, ◌≢◌, refl, ap, ℕ, zero, suc, ◌+◌, ◌-◌, ◌<◌, ◌≤◌, pos, List, [], ◌∷◌, ◌++◌, length, nat_lt, nat_le, Bool, true, false, cond, Option, Some, None, Result, Ok, Err, codes, replicate, arith}
use Rattle.std.specs.Prelude.{IfOk, unwrap_or}
use Rattle.std.specs.List.{AllByRecursion as Each}
use Rattle.std.specs.Str.Lines.{strip_carriage_return}
use Rattle.std.proofs.lemmas.Bool.{leb-true}
use Rattle.std.proofs.lemmas.List.{length-append}
use Rattle.std.proofs.lemmas.Result.{IfOk-at_ok}
use Rattle.serde_json.specs.Data.{Data}
use Rattle.jc_json.specs.Field.{◌>>=◌, needed_number, needed_list, needed_object, object_of}
use Rattle.jc_json.specs.Line.{data_of}
use Rattle.jc_json.specs.Place.{path_to}
use Rattle.jc_manifest.proofs.AcceptedFacts.{accepted_is_valid}
use Rattle.jc_manifest.specs.Manifests.{manifest_refusal, spec_of, key_of}
use Rattle.jc_rows.specs.ManifestRows.{Row, unread, invalid}
use Rattle.jc_states.specs.ValidActions.{IsValidAction}
use Rattle.jc_types.specs.ValidSpecs.{IsValidSpec}
use Rattle.jc_types.specs.declared.actions.Action1.{Action1}
use Rattle.jc_types.specs.declared.actions.End.{End}
use Rattle.jc_types.specs.declared.actions.Command.{Command}
use Rattle.jc_types.specs.declared.objects.KeyNames.{KeyNames as Key}
use Rattle.jc_types.specs.declared.runs.Shape.{Shape}
use Rattle.jc_types.specs.declared.specifications.JobSpec.{JobSpec}
use Rattle.jc_members.specs.declared.causes.Cause.{Cause}
use Rattle.jc_members.specs.declared.causes.Cause.TheVariants.{LineTooLong, TooMany}
use Rattle.jc_script.specs.declared.commands.Said.{Said}
use Rattle.jc_members.specs.declared.names.Seat.{Seat}
use Rattle.jc_script.specs.declared.verbs.Verb.{Verb}
use Rattle.jc_script.specs.declared.verbs.Verb.TheVariants as verb
use Rattle.jc_members.specs.LineCauses.{read_as}
use Rattle.jc_script.specs.Commands.{said_unless, job_said, create_in, update_in, delete_in, fate_in, mark_in, strip_in, finish_in, phase_in, clock_in, list_command_in, deliver_in, begin_in, sync_in, step_in, restart_command_in, fault_in}
use Rattle.jc_script.specs.Commands.{kind_in, fault_kind_in, action_said, lane_in, command_in, object_says, value_says}
use Rattle.jc_members.specs.EndMembers.{rightly_many, end_said_at, ends_said}
use Rattle.jc_script.specs.Fits.{NamesShape}
use Rattle.jc_members.specs.Items.{with_front, then_each, each_said}
use Rattle.jc_script.specs.TextLines.{lines_of}
use Rattle.jc_members.specs.Members.{given_number_in, whole_number_in}
use Rattle.jc_members.specs.Named.{job_key_in, pod_named, controller_in, worker_in, seat_in, times_in}
use Rattle.jc_members.specs.Phases.{report_in}
use Rattle.jc_script.specs.Scripts.{BadLine, most_line_bytes, most_commands, json_says, text_says, commands_said, line_says, line_before, lines_say, script_of}
use Rattle.jc_script.specs.Updates.{version_said, change_in}
use Rattle.jc_script.specs.Verbs.{verb_in}
use Rattle.jc_members.proofs.Within.{IsUpTo, given_is_within, or_zero, using_first, whatever}

-- ---- lanes, controllers and workers

lane_is_small : (d : Data) → IfOk (lane_in d) (λ lane. lane < 16)
unfolding lane_in
lane_is_small d =
    using_first (λ lane. lane < 16) (IsUpTo 15) (given_number_in [] (codes "lane") 0 15 d) (λ o. Ok (unwrap_or o 0))
    (given_is_within [] (codes "lane") 0 15 d)
    (λ o within_bounds. let small = or_zero o 15 within_bounds in omega (arith, small))

abbrev IsController : Shape → ℕ → Type 0
IsController shape controller = 0 < shape.controllers → controller < shape.controllers

abbrev IsWorker : Shape → ℕ → Type 0
IsWorker shape worker = 0 < shape.workers → worker < shape.workers

abbrev IsSeat : Shape → Seat → Type 0
IsSeat shape seat =
    0 < shape.controllers → 0 < shape.workers → (seat.controller < shape.controllers) × (seat.worker < shape.workers)

is_below : (o : Option ℕ) (n : ℕ) → IsUpTo (n - 1) o → 0 < n → unwrap_or o 0 < n
is_below o n within_bounds some = let small = or_zero o (n - 1) within_bounds in omega (arith, small, some)

controller_is_within : (shape : Shape) (d : Data) → IfOk (controller_in shape d) (IsController shape)
unfolding controller_in
controller_is_within shape d =
    using_first (IsController shape) (IsUpTo (shape.controllers - 1))
    (given_number_in [] (codes "controller") 0 (shape.controllers - 1) d) _
    (given_is_within [] (codes "controller") 0 (shape.controllers - 1) d) (λ o. is_below o shape.controllers)

worker_is_within : (shape : Shape) (d : Data) → IfOk (worker_in shape d) (IsWorker shape)
unfolding worker_in
worker_is_within shape d =
    using_first (IsWorker shape) (IsUpTo (shape.workers - 1))
    (given_number_in [] (codes "worker") 0 (shape.workers - 1) d) _
    (given_is_within [] (codes "worker") 0 (shape.workers - 1) d) (λ o. is_below o shape.workers)

seat_is_within : (shape : Shape) (d : Data) → IfOk (seat_in shape d) (IsSeat shape)
unfolding seat_in
seat_is_within shape d =
    using_first (IsSeat shape) (IsController shape) (controller_in shape d) _ (controller_is_within shape d)
    (λ controller first. using_first (IsSeat shape) (IsWorker shape) (worker_in shape d) _ (worker_is_within shape d)
    (λ worker second some others. (first some, second others)))

-- ---- Jobs and their pods

said_is_valid : (row : Row) (key : Key) (spec : JobSpec) → (row ≡ None → IsValidSpec spec)
    → IfOk {T = Key × JobSpec} (said_unless row (key, spec)) (λ said. IsValidSpec said.1)
said_is_valid None key spec valid = valid refl
said_is_valid (Some (unread refusal)) key spec valid = tt
said_is_valid (Some (invalid path rule)) key spec valid = tt

abbrev AreSome : List End → Type 0
AreSome ends = ends ≢ []

first_stays : (first : Result End Cause) (rest : Result (List End) Cause) → IfOk (then_each first rest) AreSome
first_stays (Ok end) (Ok ends) = λ none. absurd (omega (arith, ap length none))
first_stays (Ok end) (Err cause) = tt
first_stays (Err cause) rest = tt

some_of_items : (path : List ℕ) (read : ℕ → Data → Result End Cause) (ds : List Data)
    → IfOk (rightly_many path ds >>= λ many. each_said read 0 ds) AreSome
unfolding rightly_many
some_of_items path read [] = tt
some_of_items path read (d ∷ ds) =
    whatever AreSome (rightly_many path (d ∷ ds)) _ (λ many. first_stays (read 0 d) (each_said read 1 ds))

ends_are_some : (d : Data) → IfOk (ends_said d) AreSome
unfolding ends_said
ends_are_some d =
    whatever AreSome (read_as (needed_list [] (codes "ends") d)) _
    (λ items. some_of_items (path_to [] (codes "ends")) (end_said_at (path_to [] (codes "ends"))) items)

-- ---- commands

-- the action is valid, and names nothing outside the shape
pub record IsFitAction (shape : Shape) (action : Action1) : Type 0 where
  pub valid : IsValidAction action
  pub within : 0 < shape.controllers → 0 < shape.workers → NamesShape shape action

-- so is the command's, and the lane is one of 16
pub record IsFit (shape : Shape) (command : Command) : Type 0 where
  pub lane : command.lane < 16
  pub fits : IsFitAction shape command.action

create_fits : (shape : Shape) (d : Data) → IfOk (create_in d) (IsFitAction shape)
unfolding create_in
create_fits shape d =
    whatever (IsFitAction shape) (read_as (needed_object [] (codes "job") d)) _
    (λ job. using_first (IsFitAction shape) (λ said. IsValidSpec said.1) (job_said (path_to [] (codes "job")) job) _
    (said_is_valid (manifest_refusal (path_to [] (codes "job")) job) (key_of (path_to [] (codes "job")) job)
    (spec_of (path_to [] (codes "job")) job) (accepted_is_valid (path_to [] (codes "job")) job))
    (λ said valid. record { valid = valid; within = λ _ _. tt }))

fate_fits : (shape : Shape) (d : Data) → IfOk (fate_in d) (IsFitAction shape)
unfolding fate_in
fate_fits shape d =
    whatever (IsFitAction shape) (job_key_in d) _
    (λ key. using_first (IsFitAction shape) AreSome (ends_said d) _ (ends_are_some d)
    (λ ends some. record { valid = some; within = λ _ _. tt }))

update_fits : (shape : Shape) (d : Data) → IfOk (update_in d) (IsFitAction shape)
unfolding update_in
update_fits shape d =
    whatever (IsFitAction shape) (job_key_in d) _
    (λ key. whatever (IsFitAction shape) (version_said d) _
    (λ version. whatever (IsFitAction shape) (change_in d) _
    (λ change. record { valid = tt; within = λ _ _. tt })))

delete_fits : (shape : Shape) (d : Data) → IfOk (delete_in d) (IsFitAction shape)
unfolding delete_in
delete_fits shape d =
    whatever (IsFitAction shape) (job_key_in d) _
    (λ key. record { valid = tt; within = λ _ _. tt })

mark_fits : (shape : Shape) (d : Data) → IfOk (mark_in d) (IsFitAction shape)
unfolding mark_in
mark_fits shape d =
    whatever (IsFitAction shape) (pod_named d) _
    (λ pod. record { valid = tt; within = λ _ _. tt })

strip_fits : (shape : Shape) (d : Data) → IfOk (strip_in d) (IsFitAction shape)
unfolding strip_in
strip_fits shape d =
    whatever (IsFitAction shape) (pod_named d) _
    (λ pod. record { valid = tt; within = λ _ _. tt })

finish_fits : (shape : Shape) (d : Data) → IfOk (finish_in d) (IsFitAction shape)
unfolding finish_in
finish_fits shape d =
    whatever (IsFitAction shape) (pod_named d) _
    (λ pod. whatever (IsFitAction shape) (read_as (needed_number [] (codes "exit") (pos 0) (pos 255) d)) _
    (λ exit. record { valid = tt; within = λ _ _. tt }))

phase_fits : (shape : Shape) (d : Data) → IfOk (phase_in d) (IsFitAction shape)
unfolding phase_in
phase_fits shape d =
    whatever (IsFitAction shape) (pod_named d) _
    (λ pod. whatever (IsFitAction shape) (report_in d) _
    (λ change. record { valid = tt; within = λ _ _. tt }))

clock_fits : (shape : Shape) (d : Data) → IfOk (clock_in d) (IsFitAction shape)
unfolding clock_in
clock_fits shape d =
    whatever (IsFitAction shape) (whole_number_in [] (codes "add") 0 4294967295 d) _
    (λ add. record { valid = tt; within = λ _ _. tt })

list_fits : (shape : Shape) (d : Data) → IfOk (list_command_in shape d) (IsFitAction shape)
unfolding list_command_in
list_fits shape d =
    using_first (IsFitAction shape) (IsController shape) (controller_in shape d) _ (controller_is_within shape d)
    (λ controller is. whatever (IsFitAction shape) (kind_in d) _
    (λ kind. record { valid = tt; within = λ some _. is some }))

deliver_fits : (shape : Shape) (d : Data) → IfOk (deliver_in shape d) (IsFitAction shape)
unfolding deliver_in
deliver_fits shape d =
    using_first (IsFitAction shape) (IsController shape) (controller_in shape d) _ (controller_is_within shape d)
    (λ controller is. whatever (IsFitAction shape) (kind_in d) _
    (λ kind. record { valid = tt; within = λ some _. is some }))

restart_fits : (shape : Shape) (d : Data) → IfOk (restart_command_in shape d) (IsFitAction shape)
unfolding restart_command_in
restart_fits shape d =
    using_first (IsFitAction shape) (IsController shape) (controller_in shape d) _ (controller_is_within shape d)
    (λ controller is. record { valid = tt; within = λ some _. is some })

begin_fits : (shape : Shape) (d : Data) → IfOk (begin_in shape d) (IsFitAction shape)
unfolding begin_in
begin_fits shape d =
    using_first (IsFitAction shape) (IsSeat shape) (seat_in shape d) _ (seat_is_within shape d)
    (λ seat is. record { valid = tt; within = is })

sync_fits : (shape : Shape) (d : Data) → IfOk (sync_in shape d) (IsFitAction shape)
unfolding sync_in
sync_fits shape d =
    using_first (IsFitAction shape) (IsSeat shape) (seat_in shape d) _ (seat_is_within shape d)
    (λ seat is. record { valid = tt; within = is })

step_fits : (shape : Shape) (d : Data) → IfOk (step_in shape d) (IsFitAction shape)
unfolding step_in
step_fits shape d =
    using_first (IsFitAction shape) (IsSeat shape) (seat_in shape d) _ (seat_is_within shape d)
    (λ seat is. record { valid = tt; within = is })

fault_fits : (shape : Shape) (d : Data) → IfOk (fault_in shape d) (IsFitAction shape)
unfolding fault_in
fault_fits shape d =
    using_first (IsFitAction shape) (IsSeat shape) (seat_in shape d) _ (seat_is_within shape d)
    (λ seat is. whatever (IsFitAction shape) (fault_kind_in d) _
    (λ fault. record { valid = tt; within = is }))

action_fits : (shape : Shape) (verb : Verb) (d : Data) → IfOk (action_said shape verb d) (IsFitAction shape)
action_fits shape verb.Create d = create_fits shape d
action_fits shape verb.Update d = update_fits shape d
action_fits shape verb.Delete d = delete_fits shape d
action_fits shape verb.Mark d = mark_fits shape d
action_fits shape verb.Strip d = strip_fits shape d
action_fits shape verb.Finish d = finish_fits shape d
action_fits shape verb.Phase d = phase_fits shape d
action_fits shape verb.Fate d = fate_fits shape d
action_fits shape verb.Clock d = clock_fits shape d
action_fits shape verb.List d = list_fits shape d
action_fits shape verb.Deliver d = deliver_fits shape d
action_fits shape verb.Begin d = begin_fits shape d
action_fits shape verb.Sync d = sync_fits shape d
action_fits shape verb.Step d = step_fits shape d
action_fits shape verb.Node d = record { valid = tt; within = λ _ _. tt }
action_fits shape verb.Restart d = restart_fits shape d
action_fits shape verb.Fault d = fault_fits shape d
action_fits shape verb.Settle d = record { valid = tt; within = λ _ _. tt }

command_fits : (shape : Shape) (verb : Verb) (d : Data) → IfOk (command_in shape verb d) (IsFit shape)
unfolding command_in
command_fits shape verb d =
    using_first (IsFit shape) (λ lane. lane < 16) (lane_in d) _ (lane_is_small d)
    (λ lane small. using_first (IsFit shape) (IsFitAction shape) (action_said shape verb d) _ (action_fits shape verb d)
    (λ action fits. record { lane = small; fits = fits }))

abbrev SaysFit : Shape → Said → Type 0
SaysFit shape said = IsFit shape said.command

object_fits : (shape : Shape) (d : Data) → IfOk (object_says shape d) (SaysFit shape)
unfolding object_says
object_fits shape d =
    whatever (SaysFit shape) (verb_in d) _
    (λ verb. using_first (SaysFit shape) (IsFit shape) (command_in shape verb d) _ (command_fits shape verb d)
    (λ command fits. whatever (SaysFit shape) (times_in d) _ (λ times. fits)))

value_fits : (shape : Shape) (d : Data) → IfOk (value_says shape d) (SaysFit shape)
unfolding value_says
value_fits shape d = whatever (SaysFit shape) (read_as (object_of [] d)) _ (object_fits shape)

-- ---- lines

json_fits : (shape : Shape) (o : Option Data) → IfOk (json_says shape o) (SaysFit shape)
json_fits shape None = tt
json_fits shape (Some d) = value_fits shape d

unless_refused : {A E : Type 0} (P : A → Type 0) (refused : Bool) (fault : E) (said : Result A E)
    → IfOk said P → IfOk (cond refused (Err fault) said) P
unless_refused P true fault said holds = tt
unless_refused P false fault said holds = holds

text_fits : (shape : Shape) (text : List ℕ) → IfOk (text_says shape text) (SaysFit shape)
unfolding text_says
text_fits shape text =
    unless_refused (SaysFit shape) (nat_lt most_line_bytes (length text)) LineTooLong (json_says shape (data_of text))
    (json_fits shape (data_of text))

each_replicate : {A : Type 0} (P : A → Type 0) (n : ℕ) (a : A) → P a → Each P (replicate n a)
each_replicate P zero a holds = tt
each_replicate P (suc n) a holds = (holds, each_replicate P n a holds)

each_append : {A : Type 0} (P : A → Type 0) (xs ys : List A) → Each P xs → Each P ys → Each P (xs ++ ys)
each_append P [] ys first second = second
each_append P (x ∷ xs) ys first second = (first.0, each_append P xs ys first.1 second)

pub each_map : {A : Type 0} (P Q : A → Type 0) → ((a : A) → P a → Q a) → (xs : List A) → Each P xs → Each Q xs
each_map P Q f [] holds = tt
each_map P Q f (x ∷ xs) holds = (f x holds.0, each_map P Q f xs holds.1)

commands_fit : (shape : Shape) (text : List ℕ) → IfOk (commands_said shape text) (Each (IsFit shape))
commands_fit shape [] = tt
commands_fit shape (b ∷ bs) =
    using_first (Each (IsFit shape)) (SaysFit shape) (text_says shape (b ∷ bs)) _ (text_fits shape (b ∷ bs))
    (λ said fits. each_replicate (IsFit shape) said.times said.command fits)

-- ---- all lines

-- behind some commands, these fit and are not too many
pub record AreFit (shape : Shape) (before : ℕ) (commands : List Command) : Type 0 where
  pub each : Each (IsFit shape) commands
  pub few : before + length commands ≤ most_commands

front_fits : (shape : Shape) (before : ℕ) (front : List Command) (rest : Result (List Command) BadLine)
    → Each (IsFit shape) front → IfOk rest (AreFit shape (before + length front))
    → IfOk (with_front front rest) (AreFit shape before)
front_fits shape before front (Ok commands) first more =
    let both = length-append front commands in
    let few = more.few in
    record { each = each_append (IsFit shape) front commands first more.each; few = omega (arith, both, few) }
front_fits shape before front (Err bad) first more = tt

line_fits : (shape : Shape) (number before : ℕ) (said : Result (List Command) Cause)
    (rest : ℕ → Result (List Command) BadLine) → IfOk said (Each (IsFit shape))
    → ((count : ℕ) → count ≤ most_commands → IfOk (rest count) (AreFit shape count))
    → IfOk (line_before number before said rest) (AreFit shape before)
line_fits shape number before (Err cause) rest first more = tt
line_fits shape number before (Ok commands) rest first more =
    by (nat_le (before + length commands) most_commands) refl
  where
    by : (few : Bool) → nat_le (before + length commands) most_commands ≡ few
        → IfOk (cond few (with_front commands (rest (before + length commands))) (Err (record { number = number; cause = TooMany })))
        (AreFit shape before)
    by true e =
        front_fits shape before commands (rest (before + length commands)) first
        (more (before + length commands) (leb-true (before + length commands) most_commands e))
    by false e = tt

lines_fit : (shape : Shape) (number before : ℕ) (lines : List (List ℕ)) → before ≤ most_commands
    → IfOk (lines_say shape number before lines) (AreFit shape before)
lines_fit shape number before [] few = record { each = tt; few = omega (arith, few) }
lines_fit shape number before (line ∷ lines) few =
    line_fits shape number before (line_says shape line) (λ count. lines_say shape (number + 1) count lines)
    (commands_fit shape (strip_carriage_return line)) (λ count. lines_fit shape (number + 1) count lines)

pub script_fits : (shape : Shape) (text : List ℕ) (commands : List Command)
    → script_of shape text ≡ Ok commands → AreFit shape 0 commands
unfolding script_of
script_fits shape text commands said =
    IfOk-at_ok (AreFit shape 0) said (lines_fit shape 1 0 (lines_of text) (omega arith))
