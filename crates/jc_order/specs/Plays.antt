-- Plays that are histories.
--     IsScriptFor script shape         each command names a controller and a worker of the shape
--     IsPlayed script shape start p    the play is a legal history of the script, after the start
--     ends_in_settle commands          the last command is a settle
--     allowing n shape                 the shape, with so many events allowed
--     PlayEnds script shape            with so many events allowed, or more, the play is the same and not full
use Rattle.std.specs.Prelude.{◌≡◌, ℕ, ◌≤◌, Bool, true, false, List, [], ◌∷◌, length}
use Rattle.std.specs.List.{AllByRecursion as Each}
use Rattle.jc_types.specs.declared.actions.Action1.{Action1}
use Rattle.jc_types.specs.declared.actions.Action1.TheVariants as action
use Rattle.jc_types.specs.declared.actions.Command.{Command}
use Rattle.jc_types.specs.declared.actions.Script.{Script}
use Rattle.jc_types.specs.declared.runs.Shape.{Shape}
use Rattle.jc_log.specs.Deeds.{Deed, act_of_action}
use Rattle.jc_history.specs.Available.{IsOrderly}
use Rattle.jc_history.specs.Legal.{InLanes, IsLegal, IsOfShape}
use Rattle.jc_history.specs.Play.{Playing, deeds_played, is_full, play_of}
use Rattle.jc_history.specs.Replies.{log_given}

-- The commands name controllers and workers of the shape.
abbrev pub AreWithin : Shape → List Command → Type 0
AreWithin shape commands =
    Each (λ (command : Command). IsOfShape shape (act_of_action command.action)) commands

-- So do those of the script.
abbrev pub IsScriptFor : Script → Shape → Type 0
IsScriptFor script shape = AreWithin shape script.commands

-- The play is a legal history of the script and the shape, orderly where the deeds were from which
-- it went on. It is full only where it has all its events.
pub record IsPlayed (script : Script) (shape : Shape) (start : List Deed) (p : Playing) : Type 0 where
  pub log_is : p.log ≡ log_given shape (deeds_played script p)
  pub few : length p.pasts ≤ shape.events
  pub filled : p.full ≡ true → length p.pasts ≡ shape.events
  pub lanes : InLanes script.commands p.pasts
  pub legal : IsLegal shape (deeds_played script p)
  pub orderly : IsOrderly shape start → IsOrderly shape (deeds_played script p)

-- The command is a settle.
abbrev pub is_settle_action : Action1 → Bool
is_settle_action action.Settle = true
is_settle_action other = false

-- The last command is a settle.
abbrev pub ends_in_settle : List Command → Bool
ends_in_settle [] = false
ends_in_settle (command ∷ []) = is_settle_action command.action
ends_in_settle (command ∷ next ∷ more) = ends_in_settle (next ∷ more)

-- The shape, with so many events allowed.
abbrev pub allowing : ℕ → Shape → Shape
allowing n shape = record shape { events = n }

-- The play of the script ends: with so many events allowed, or any number more, it is not full, and is one and the same.
pub record PlayEnds (script : Script) (shape : Shape) : Type 0 where
  pub events : ℕ
  pub unfull : (n : ℕ) → events ≤ n → is_full script (allowing n shape) ≡ false
  pub same : (n : ℕ) → events ≤ n → play_of script (allowing n shape) ≡ play_of script (allowing events shape)
