-- The scripts that are played have proper commands: those that were read, and those with a reaper's commands behind them.
use Rattle.std.proofs.Common.{◌≡◌, ℕ, ◌<◌, ◌≤◌, ◌^◌, ◌&&◌, true, List, [], ◌∷◌, length, Option, Result, Ok, Err, ap₂, arith, refl}
use Rattle.std.specs.Prelude.{IfOk}
use Rattle.std.specs.List.{AllByRecursion as Each}
use Rattle.std.proofs.lemmas.Bool.{and_parts}
use Rattle.std.proofs.lemmas.List.{length-reverse}
use Rattle.jc_types.specs.declared.actions.Action1.{Action1}
use Rattle.jc_types.specs.declared.actions.Action1.TheVariants as act
use Rattle.jc_types.specs.declared.actions.Command.{Command}
use Rattle.jc_types.specs.declared.actions.Script.{Script}
use Rattle.jc_types.specs.declared.objects.KeyNames.{KeyNames as Key}
use Rattle.jc_types.specs.declared.runs.Shape.{Shape}
use Rattle.jc_audit.specs.Allowed.{IsAllowedKey, is_allowed_key}
use Rattle.jc_audit.specs.Proper.{IsProperAction, IsProperCommand}
use Rattle.jc_single.specs.Legal.{IsHistory}
use Rattle.jc_single.specs.Play.{whole_play}
use Rattle.jc_single.specs.Plays.{IsScriptFor}
use Rattle.jc_single.specs.Seen.{Seen}
use Rattle.jc_single.specs.Finds.{seen_at_end}
use Rattle.jc_single.specs.ReapedCommands.{Creates, CanBeSaid, IsSmallTtl}
use Rattle.jc_single.specs.Reaping.{command, reap_list}
use Rattle.jc_script.specs.Scripts.{BadLine}
use Rattle.jc_single.proofs.ReapFacts.{both, history_of, last-holds}
use Rattle.jc_single.specs.Played.{as_script, at_rest, reaped_of}

-- ---- keys

-- The test says of the key that it is allowed.
abbrev IsTested : Key → Type 0
IsTested key = is_allowed_key key ≡ true

tested : (key : Key) → IsAllowedKey key → IsTested key
tested key h = ap₂ (λ a b. a && b) h.name h.namespace

allowed : (key : Key) → IsTested key → IsAllowedKey key
allowed key h =
    let both = and_parts _ _ h in
    record { name = both.0; namespace = both.1 }

-- ---- commands

abbrev pub AreProper : List Command → Type 0
AreProper commands = Each IsProperCommand commands

creates : (a : Action1) → IsProperAction a → Creates IsTested a
creates (act.Create key spec) h = tested key h.0
creates other h = tt

pub all-create : (commands : List Command) → AreProper commands → Each (λ (command : Command). Creates IsTested command.action) commands
all-create [] h = tt
all-create (command ∷ commands) h = (creates command.action h.0.action, all-create commands h.1)

given : (a : Action1) → CanBeSaid IsTested a → IsProperAction a
given (act.Delete key) h = allowed key h
given (act.Mark pod) h = record { some = h.0; few = h.1 }
given (act.Clock add) h = h
given act.Settle h = tt
given other h = absurd h

pub all-proper : (commands : List Command) → Each (λ (command : Command). CanBeSaid IsTested command.action) commands
    → Each (λ (command : Command). command.lane ≡ 0) commands → AreProper commands
all-proper [] h lanes = tt
all-proper (command ∷ commands) h lanes =
    let first = lanes.0 in
    (record { lane = omega (arith, first); action = given command.action h.0 }, all-proper commands h.1 lanes.1)

settled-proper : (commands : List Command) → AreProper commands → AreProper (at_rest commands).commands
settled-proper commands h = both IsProperCommand commands (command act.Settle ∷ []) h (record { lane = omega arith; action = tt }, tt)

-- ---- scripts

module _ (shape : Shape) where
  -- The commands of a text are proper.
  pub read-proper : (r : Result (List Command) BadLine) → ((commands : List Command) → r ≡ Ok commands → AreProper commands)
      → IfOk (as_script r) (λ script. AreProper script.commands)
  read-proper (Ok commands) proper = proper commands refl
  read-proper (Err bad) proper = tt

  -- The events of a play are fewer than the numbers of 32 bits.
  few-pasts : (script : Script) → shape.events ≤ 200000 → IsHistory script shape (history_of script shape)
      → length (seen_at_end script shape).pasts < 2 ^ 32
  few-pasts script bound history =
      let few = history.few in
      let same = length-reverse (whole_play script shape).pasts in
      omega (arith, few, same, bound)

  -- So are a settle and a reaper's behind them.
  module _ (bound : shape.events ≤ 200000)
      (plays : (script : Script) → IsScriptFor script shape → IsHistory script shape (history_of script shape))
      (gives : (seen : Seen) (ttls : List (Option ℕ)) → Each (λ (command : Command). Creates IsTested command.action) seen.script.commands
      → length seen.pasts < 2 ^ 32 → Each IsSmallTtl ttls
      → Each (λ (command : Command). CanBeSaid IsTested command.action) (reap_list seen ttls))
      (lane : (seen : Seen) (ttls : List (Option ℕ)) → Each (λ (command : Command). command.lane ≡ 0) (reap_list seen ttls)) where
    last-proper : (commands : List Command) (ttls : List (Option ℕ)) → AreProper commands → IsScriptFor (at_rest commands) shape
        → Each IsSmallTtl ttls → IfOk (reaped_of shape (Ok commands) (Ok ttls)) (λ script. AreProper script.commands)
    last-proper commands ttls proper within small =
        let first = at_rest commands in
        let seen = seen_at_end first shape in
        let rested = settled-proper commands proper in
        last-holds (λ s. AreProper s.commands) first shape ttls rested
        (both IsProperCommand first.commands (reap_list seen ttls) rested
        (all-proper (reap_list seen ttls)
        (gives seen ttls (all-create first.commands rested) (few-pasts first bound (plays first within)) small) (lane seen ttls)))

    pub reaped-proper : (r : Result (List Command) BadLine) (t : Result (List (Option ℕ)) BadLine)
        → ((commands : List Command) → r ≡ Ok commands → AreProper commands)
        → ((commands : List Command) → r ≡ Ok commands → IsScriptFor (at_rest commands) shape)
        → ((ttls : List (Option ℕ)) → t ≡ Ok ttls → Each IsSmallTtl ttls)
        → IfOk (reaped_of shape r t) (λ script. AreProper script.commands)
    reaped-proper (Err bad) t proper within small = tt
    reaped-proper (Ok commands) (Err bad) proper within small = tt
    reaped-proper (Ok commands) (Ok ttls) proper within small =
        last-proper commands ttls (proper commands refl) (within commands refl) (small ttls refl)
