-- A script with a settle and the commands of a reaper behind it.
use Rattle.std.proofs.Common.{◌≡◌, ℕ, ◌<◌, ◌≤◌, ◌^◌, Bool, true, false, List, [], ◌∷◌, ◌++◌, length, reverse, Option, Result, Ok, Err, ap, arith, refl, subst, sym, ◌∙◌}
use Rattle.std.specs.Prelude.{IfOk, if◌then◌else◌}
use Rattle.std.specs.List.{AllByRecursion as Each}
use Rattle.std.proofs.lemmas.List.{length-append, reverse-reverse}
use Rattle.jc_types.specs.declared.actions.Action1.TheVariants as act
use Rattle.jc_types.specs.declared.actions.Command.{Command}
use Rattle.jc_types.specs.declared.actions.Script.{Script}
use Rattle.jc_types.specs.declared.runs.History.{History}
use Rattle.jc_types.specs.declared.runs.Past.{Past}
use Rattle.jc_types.specs.declared.runs.Shape.{Shape}
use Rattle.jc_promise.specs.ValidActions.{AreValidCommands, IsValidAction}
use Rattle.jc_promise.specs.Deeds.{act_of_action, deeds}
use Rattle.jc_promise.specs.Available.{is_quiescent}
use Rattle.jc_promise.specs.Legal.{IsOfShape}
use Rattle.jc_promise.specs.Play.{Playing, is_full, play_of, whole_play}
use Rattle.jc_promise.specs.Replies.{log_given}
use Rattle.jc_promise.specs.Plays.{AreWithin, IsScriptFor, ends_in_settle}
use Rattle.jc_promise.proofs.DeedFacts.{deeds-are}
use Rattle.jc_reap.specs.Finds.{seen_at_end}
use Rattle.jc_reap.specs.Reaping.{command, reap_list}
use Rattle.jc_promise.specs.Seen.{Seen, deeds_in, deeds_seen, log_seen}
use Rattle.jc_script.specs.Scripts.{BadLine}
use Rattle.jc_report.specs.Turns.{playing_of}
use Rattle.jc_single.specs.Played.{at_rest, reaped_of, then_reaped}
use Rattle.jc_single.specs.RunAnswers.{Printed, printed_by, report_printed, reported}
use Rattle.jc_single.specs.declared.orders.Output.{Output}

-- What holds where the answer is Ok gives more of it.
pub if-ok : {A E : Type 0} (P Q : A → Type 0) (r : Result A E) → ((a : A) → P a → Q a) → IfOk r P → IfOk r Q
if-ok P Q (Ok a) more h = more a h
if-ok P Q (Err e) more h = tt

-- ---- commands behind others

pub both : (P : Command → Type 0) (xs ys : List Command) → Each P xs → Each P ys → Each P (xs ++ ys)
both P [] ys a b = b
both P (x ∷ xs) ys a b = (a.0, both P xs ys a.1 b)

abbrev pub AreValid : List Command → Type 0
AreValid commands = AreValidCommands commands

-- The lanes of the commands are bytes.
abbrev pub AreByteLanes : List Command → Type 0
AreByteLanes commands = Each (λ (command : Command). command.lane < 2 ^ 8) commands

-- What is asked of the commands is asked of a settle behind them.
pub settled_valid : (commands : List Command) → AreValid commands → AreValid (at_rest commands).commands
settled_valid commands h = both (λ (c : Command). IsValidAction c.action) commands (command act.Settle ∷ []) h (tt, tt)

pub settled_lanes : (commands : List Command) → AreByteLanes commands → AreByteLanes (at_rest commands).commands
settled_lanes commands h = both (λ (c : Command). c.lane < 2 ^ 8) commands (command act.Settle ∷ []) h (omega arith, tt)

pub settled_within : (shape : Shape) (commands : List Command) → AreWithin shape commands → IsScriptFor (at_rest commands) shape
settled_within shape commands h =
    both (λ (c : Command). IsOfShape shape (act_of_action c.action)) commands (command act.Settle ∷ []) h (tt, tt)

pub settled_ends : (commands : List Command) → ends_in_settle (at_rest commands).commands ≡ true
settled_ends [] = refl
settled_ends (one ∷ []) = refl
settled_ends (one ∷ next ∷ more) = settled_ends (next ∷ more)

pub settled_few : (commands : List Command) → length commands ≤ 200000 → length (at_rest commands).commands < 2 ^ 32
settled_few commands few =
    let more = length-append commands (command act.Settle ∷ []) in
    omega (arith, few, more)

pub settled_more : (commands : List Command) (n : ℕ) → n ≤ length commands → n ≤ length (at_rest commands).commands
settled_more commands n few =
    let more = length-append commands (command act.Settle ∷ []) in
    omega (arith, few, more)

-- ---- the script that is played last

-- What holds of the script, where its play is full, and of it with commands behind, holds of what a reaper plays last.
pub last-where : (P : Script → Type 0) (script : Script) (shape : Shape) (ttls : List (Option ℕ))
    → (is_full script shape ≡ true → P script)
    → P (record { commands = script.commands ++ reap_list (seen_at_end script shape) ttls }) → P (then_reaped script shape ttls)
unfolding then_reaped
last-where P script shape ttls alone more = by (is_full script shape) refl
  where
    by : (b : Bool) → is_full script shape ≡ b
        → P (if b then script else record { commands = script.commands ++ reap_list (seen_at_end script shape) ttls })
    by true full = alone full
    by false full = more

pub last-holds : (P : Script → Type 0) (script : Script) (shape : Shape) (ttls : List (Option ℕ)) → P script
    → P (record { commands = script.commands ++ reap_list (seen_at_end script shape) ttls }) → P (then_reaped script shape ttls)
last-holds P script shape ttls alone more = last-where P script shape ttls (λ full. alone) more

pub full-last : (script : Script) (shape : Shape) (ttls : List (Option ℕ)) → is_full script shape ≡ true
    → then_reaped script shape ttls ≡ script
unfolding then_reaped
full-last script shape ttls e =
    ap (λ b. if b then script else record { commands = script.commands ++ reap_list (seen_at_end script shape) ttls }) e

pub more-last : (script : Script) (shape : Shape) (ttls : List (Option ℕ)) → is_full script shape ≡ false
    → then_reaped script shape ttls ≡ record { commands = script.commands ++ reap_list (seen_at_end script shape) ttls }
unfolding then_reaped
more-last script shape ttls e =
    ap (λ b. if b then script else record { commands = script.commands ++ reap_list (seen_at_end script shape) ttls }) e

-- ---- what a play has left

abbrev seen_of : Script → Shape → List Past → Seen
seen_of script shape pasts = record { script = script; shape = shape; pasts = pasts }

-- What is left is the script, the shape and the events of the play.
module _ (script : Script) (shape : Shape) (seen : Seen) (full : Bool) (script_is : seen.script ≡ script)
    (shape_is : seen.shape ≡ shape) (e : whole_play script shape ≡ playing_of full seen) where
  pub left-is : seen ≡ seen_at_end script shape
  left-is =
      ap (λ s. seen_of s seen.shape seen.pasts) script_is ∙ ap (λ s. seen_of script s seen.pasts) shape_is
      ∙ ap (λ (p : Playing). seen_of script shape p.pasts) (sym e)

  pub full-is : is_full script shape ≡ full
  full-is = ap (λ (p : Playing). p.full) e

abbrev pub history_of : Script → Shape → History
history_of script shape = record { events = record { items = play_of script shape; room = 0 } }

-- The deeds of what is left are those of the play.
deeds-left : (script : Script) (shape : Shape) → deeds_seen (seen_at_end script shape) ≡ deeds script (history_of script shape)
deeds-left script shape =
    let pasts = (whole_play script shape).pasts in
    ap (deeds_in script) (sym (reverse-reverse pasts)) ∙ deeds-are script (reverse pasts)

abbrev Rests : Seen → Type 0
Rests seen = is_quiescent seen.shape (deeds_seen seen) (log_seen seen) ≡ true

-- Nothing is left to do.
pub rests-left : (script : Script) (shape : Shape) (seen : Seen) → seen ≡ seen_at_end script shape
    → is_quiescent shape (deeds script (history_of script shape)) (log_given shape (deeds script (history_of script shape))) ≡ true
    → is_quiescent seen.shape (deeds_seen seen) (log_seen seen) ≡ true
rests-left script shape seen is rests =
    subst Rests (sym is)
    (subst (λ ds. is_quiescent shape ds (log_given shape ds) ≡ true) (sym (deeds-left script shape)) rests)

abbrev script_with : List Command → Script
script_with commands = record { commands = commands }

-- The script with the commands behind it is what is played last.
pub last-is : (script : Script) (shape : Shape) (seen : Seen) (ttls : List (Option ℕ)) (last : Script)
    → seen ≡ seen_at_end script shape → seen.script ≡ script → is_full script shape ≡ false
    → last.commands ≡ seen.script.commands ++ reap_list seen ttls → last ≡ then_reaped script shape ttls
last-is script shape seen ttls last is script_is room e =
    ap script_with (e ∙ ap (λ (s : Seen). s.script.commands ++ reap_list s ttls) is)
    ∙ sym (more-last script shape ttls room)

-- ---- what is printed

pub reaped-is : (shape : Shape) (commands : List Command) (ttls : List (Option ℕ)) (output : Output)
    (said : Result (List Command) BadLine) (given : Result (List (Option ℕ)) BadLine)
    → said ≡ Ok commands → given ≡ Ok ttls
    → printed_by output ≡ report_printed (then_reaped (at_rest commands) shape ttls) shape
    → reported shape (reaped_of shape said given) ≡ Ok (printed_by output)
reaped-is shape commands ttls output said given commands_are ttls_are is =
    ap (λ r. reported shape (reaped_of shape r given)) commands_are
    ∙ ap (λ r. reported shape (reaped_of shape (Ok commands) r)) ttls_are
    ∙ ap (λ (p : Printed). Ok p) (sym is)

pub script-bad : (shape : Shape) (said : Result (List Command) BadLine) (given : Result (List (Option ℕ)) BadLine) (bad : BadLine)
    → said ≡ Err bad → reaped_of shape said given ≡ Err bad
script-bad shape said given bad e = ap (λ r. reaped_of shape r given) e

pub ttls-bad : (shape : Shape) (commands : List Command) (said : Result (List Command) BadLine)
    (given : Result (List (Option ℕ)) BadLine) (bad : BadLine) → said ≡ Ok commands → given ≡ Err bad
    → reaped_of shape said given ≡ Err bad
ttls-bad shape commands said given bad commands_are e =
    ap (λ r. reaped_of shape r given) commands_are ∙ ap (λ r. reaped_of shape (Ok commands) r) e
