-- A play goes on with more commands at the end of its script: those that were played are passed, and what comes is the play of all.
use Rattle.std.proofs.Common.{◌≡◌, ℕ, suc, ◌+◌, Bool, false, true, ◌||◌, List, [], ◌∷◌, ◌++◌, length, slice_get, Option, Some, refl, sym, ap, ◌∙◌, arith, subst}
use Rattle.std.specs.Prelude.{if◌then◌else◌}
use Rattle.std.specs.List.{list_any}
use Rattle.std.proofs.Math.Bool.{or-true}
use Rattle.jc_types.specs.declared.actions.Command.{Command}
use Rattle.jc_types.specs.declared.actions.Script.{Script}
use Rattle.jc_types.specs.declared.runs.Event.TheVariants as event
use Rattle.jc_types.specs.declared.runs.Shape.{Shape}
use Rattle.jc_promise.specs.Deeds.{Deed, act_of_action}
use Rattle.jc_promise.specs.Play.{Playing, commanded, deeds_played, is_command, rest_played, whole_play}
use Rattle.jc_promise.specs.Legal.{IsOfShape}
use Rattle.jc_promise.specs.Plays.{AreWithin, IsScriptFor}
use Rattle.jc_promise.specs.Replies.{log_given}
use Rattle.jc_promise.specs.Seen.{Seen, deeds_seen, log_seen}
use Rattle.jc_order.proofs.PlayFacts.{plays-whole}
use Rattle.jc_reap.specs.Reaping.{reap_list, reaped_script}
use Rattle.jc_report.specs.Turns.{playing_of}
use Rattle.jc_single.specs.Played.{with_commands}
use Rattle.jc_single.proofs.ReapFacts.{both}

-- ---- commands that were played

pass-one : (script : Script) (shape : Shape) (place : ℕ) (command : Command) (commands : List Command) (p : Playing)
    → list_any (is_command place) p.pasts ≡ true
    → rest_played script shape place (command ∷ commands) p ≡ rest_played script shape (place + 1) commands p
pass-one script shape place command commands p there =
    let own = commanded script shape command.action (event.Command command.lane place) p in
    ap (λ b. rest_played script shape (place + 1) commands (if p.full || b then p else own)) there
    ∙ ap (λ b. rest_played script shape (place + 1) commands (if b then p else own)) (or-true p.full)

pass : (script : Script) (shape : Shape) (more : List Command) (place : ℕ) (front : List Command) (p : Playing)
    → ((i : ℕ) (command : Command) → slice_get front i ≡ Some command → list_any (is_command (place + i)) p.pasts ≡ true)
    → rest_played script shape place (front ++ more) p ≡ rest_played script shape (place + length front) more p
pass script shape more place [] p there =
    let is : place ≡ place + 0 = omega arith in
    ap (λ n. rest_played script shape n more p) is
pass script shape more place (command ∷ front) p there =
    let here : place ≡ place + 0 = omega arith in
    let is : place + 1 + length front ≡ place + length (command ∷ front) = omega arith in
    pass-one script shape place command (front ++ more) p
    (ap (λ n. list_any (is_command n) p.pasts) here ∙ there 0 command refl)
    ∙ pass script shape more (place + 1) front p (λ i other e.
    let next : place + 1 + i ≡ place + suc i = omega arith in
    ap (λ n. list_any (is_command n) p.pasts) next ∙ there (suc i) other e)
    ∙ ap (λ n. rest_played script shape n more p) is

-- ---- a play that goes on

abbrev of : List Command → Script
of commands = record { commands = commands }

module _ (old : Seen) (more : List Command) (fits : IsScriptFor old.script old.shape)
    (is : whole_play old.script old.shape ≡ playing_of false old)
    (deeds : deeds_played (of old.script.commands) (whole_play (of old.script.commands) old.shape)
    ≡ deeds_played (of (old.script.commands ++ more)) (whole_play (of old.script.commands) old.shape)) where
  abbrev after : Seen
  after = with_commands old more

  same-deeds : deeds_seen after ≡ deeds_seen old
  same-deeds =
      ap (λ (p : Playing). deeds_played after.script p) (sym is) ∙ sym deeds
      ∙ ap (λ (p : Playing). deeds_played old.script p) is

  played-of : playing_of false after ≡ playing_of false old
  played-of =
      ap (λ (ds : List Deed). record { pasts = old.pasts; log = log_given old.shape ds; full = false }) same-deeds

  all-played : (i : ℕ) (command : Command) → slice_get old.script.commands i ≡ Some command
      → list_any (is_command (0 + i)) (playing_of false old).pasts ≡ true
  all-played i command e =
      let same : 0 + i ≡ i = omega arith in
      ap (λ n. list_any (is_command n) old.pasts) same
      ∙ ap (λ (p : Playing). list_any (is_command i) p.pasts) (sym is)
      ∙ (plays-whole old.script old.shape fits).all (ap (λ (p : Playing). p.full) is) i command e

  -- What is played of the longer script is the play of the whole.
  pub goes-on : (new : Seen) (full : Bool)
      → whole_play after.script old.shape
      ≡ rest_played after.script old.shape (length old.script.commands) more (whole_play old.script old.shape)
      → rest_played after.script after.shape 0 after.script.commands (playing_of false after) ≡ playing_of full new
      → whole_play after.script old.shape ≡ playing_of full new
  goes-on new full whole played =
      let none : length old.script.commands ≡ 0 + length old.script.commands = omega arith in
      whole ∙ ap (rest_played after.script old.shape (length old.script.commands) more) is
      ∙ ap (λ n. rest_played after.script old.shape n more (playing_of false old)) none
      ∙ sym (pass after.script old.shape more 0 old.script.commands (playing_of false old) all-played)
      ∙ ap (rest_played after.script old.shape 0 after.script.commands) (sym played-of) ∙ played

-- ---- with a reaper's commands

-- The script with them fits the shape.
pub reaped-fits : (old longer : Seen) (commands : List Command) (ttls : List (Option ℕ)) → commands ≡ reap_list old ttls
    → longer ≡ with_commands old commands → IsScriptFor old.script old.shape → AreWithin old.shape (reap_list old ttls)
    → IsScriptFor longer.script longer.shape
reaped-fits old longer commands ttls are is front more =
    subst (λ (s : Seen). IsScriptFor s.script s.shape) (sym (is ∙ ap (with_commands old) are))
    (both (λ (c : Command). IsOfShape old.shape (act_of_action c.action)) old.script.commands (reap_list old ttls) front more)

-- What is played of it then is its whole play.
pub reaped-goes-on : (old longer new : Seen) (commands : List Command) (ttls : List (Option ℕ)) (full : Bool)
    → commands ≡ reap_list old ttls → longer ≡ with_commands old commands → IsScriptFor old.script old.shape
    → whole_play old.script old.shape ≡ playing_of false old
    → deeds_played (of old.script.commands) (whole_play (of old.script.commands) old.shape)
    ≡ deeds_played (of (old.script.commands ++ reap_list old ttls)) (whole_play (of old.script.commands) old.shape)
    → whole_play (of (old.script.commands ++ reap_list old ttls)) old.shape
    ≡ rest_played (of (old.script.commands ++ reap_list old ttls)) old.shape (length old.script.commands) (reap_list old ttls)
    (whole_play (of old.script.commands) old.shape)
    → rest_played longer.script longer.shape 0 longer.script.commands (playing_of false longer) ≡ playing_of full new
    → whole_play (reaped_script old ttls) old.shape ≡ playing_of full new
reaped-goes-on old longer new commands ttls full are is fits played deeds whole rest =
    let same : with_commands old (reap_list old ttls) ≡ longer = sym (is ∙ ap (with_commands old) are) in
    goes-on old (reap_list old ttls) fits played deeds new full whole
    (ap (λ (s : Seen). rest_played s.script s.shape 0 s.script.commands (playing_of false s)) same ∙ rest)
