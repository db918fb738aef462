-- The script that is played last.
--     Staging                          on how many threads a script is played, and in which shape
--     staging_of order                 those of an order that has a report written
--     as_script commands               the script of the commands that a text says
--     at_rest commands                 the script of the commands, with a settle behind them
--     with_commands seen more          what is seen, once more commands stand at the end of the script
--     then_reaped script shape ttls    the script with a reaper's commands behind it, unless its play is full
--     CollectsDue script shape ttls    what a reaper's commands find in that script's play
--     script_played order input        the script that is played last, or the first bad line
--     OfPlayed order left P            P holds of how it is played, and of that script
use Rattle.std.specs.Prelude.{ℕ, List, [], ◌∷◌, ◌++◌, Option, Some, None, Result, Ok, Err, IfSome, IsOkAnd, if◌then◌else◌}
use Rattle.jc_types.specs.declared.actions.Action1.TheVariants as act
use Rattle.jc_types.specs.declared.actions.Command.{Command}
use Rattle.jc_types.specs.declared.actions.Script.{Script}
use Rattle.jc_types.specs.declared.runs.Shape.{Shape}
use Rattle.jc_promise.specs.Play.{deeds_played, is_full, whole_play}
use Rattle.jc_promise.specs.Seen.{Seen, deeds_seen}
use Rattle.jc_reap.specs.Finds.{IsCollected, seen_at_end}
use Rattle.jc_reap.specs.Reaping.{command, reap_list, ttl_seen}
use Rattle.jc_reap.specs.TtlLines.{ttls_of}
use Rattle.jc_script.specs.Scripts.{BadLine, script_of}
use Rattle.jc_gen.specs.Generated.{generated}
use Rattle.jc_words.specs.declared.words.Order.{Order}
use Rattle.jc_words.specs.declared.words.Order.TheVariants as order

-- ---- how a script is played

-- On so many threads (0: on one, in the order of the script), in the shape.
pub record Staging : Type 0 where
  pub threads : ℕ
  pub shape : Shape

-- That of an order that has a report written. Of a generated script a summary is, of a report a verdict.
abbrev pub staging_of : Order → Option Staging
staging_of (order.Run threads lock shape) = Some (record { threads = threads; shape = shape })
staging_of (order.Reap shape) = Some (record { threads = 0; shape = shape })
staging_of (order.Audit shape) = None
staging_of (order.Generate number jobs pods) = None

-- ---- scripts

-- The script of the commands that a text says, or its first bad line.
abbrev pub as_script : Result (List Command) BadLine → Result Script BadLine
as_script (Ok commands) = Ok (record { commands = commands })
as_script (Err bad) = Err bad

-- The script of the commands, with a settle behind them.
abbrev pub at_rest : List Command → Script
at_rest commands = record { commands = commands ++ command act.Settle ∷ [] }

-- What is seen, once more commands stand at the end of the script: what happened stays.
abbrev pub with_commands : Seen → List Command → Seen
with_commands seen more = record seen { script = record { commands = seen.script.commands ++ more } }

-- The script with the commands behind it that a reaper gives to what its play leaves. Where that play is full it is
-- the script itself.
unfoldable pub then_reaped : Script → Shape → List (Option ℕ) → Script
then_reaped script shape ttls =
    if is_full script shape then script
    else record { commands = script.commands ++ reap_list (seen_at_end script shape) ttls }

-- In the play of that script, behind the events of the first play, each delete that was made removed a Job that had
-- ended and whose TTL had passed, and each mark found a pod whose Job was gone. Unless that play is full, each Job and
-- each pod of which this was due at the end of the first play was collected so.
abbrev pub CollectsDue : Script → Shape → List (Option ℕ) → Type 0
CollectsDue script shape ttls =
    IsCollected (ttl_seen (seen_at_end script shape) ttls) shape (deeds_seen (seen_at_end script shape))
    (is_full (then_reaped script shape ttls) shape)
    (deeds_played (then_reaped script shape ttls) (whole_play (then_reaped script shape ttls) shape))

-- The script that a reaper plays last, of the commands and the TTLs that a text says, or its first bad line.
abbrev pub reaped_of : Shape → Result (List Command) BadLine → Result (List (Option ℕ)) BadLine → Result Script BadLine
reaped_of shape (Err bad) ttls = Err bad
reaped_of shape (Ok commands) (Err bad) = Err bad
reaped_of shape (Ok commands) (Ok ttls) = Ok (then_reaped (at_rest commands) shape ttls)

-- The script that is played last, where the source has these bytes, or the first bad line. An audit reads no script, and
-- so finds no bad line in one.
abbrev pub script_played : Order → List ℕ → Result Script BadLine
script_played (order.Run threads lock shape) input = as_script (script_of shape input)
script_played (order.Reap shape) input = reaped_of shape (script_of shape input) (ttls_of shape input)
script_played (order.Audit shape) input = Ok (record { commands = [] })
script_played (order.Generate number jobs pods) input = Ok (generated number jobs pods)

-- Where the order has a report written, and the source tells what it has left, there is a script that is played last, and
-- it holds of how that is played and of it.
abbrev pub OfPlayed : Order → Option (List ℕ) → (Staging → Script → Type 0) → Type 0
OfPlayed order left P =
    IfSome (staging_of order) (λ staging. IfSome left (λ input. IsOkAnd (script_played order input) (λ script. P staging script)))
