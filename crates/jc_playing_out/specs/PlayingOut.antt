-- When the play of a script ends, with events enough.
--     EndsSucceed action            each end of a fate is a success
--     FatesSucceed script           so it is of each command
--     LastEndSucceeds action        the last end of a fate is one
--     LastEndCountsFor key spec action  the last end of a fate of the key is none that a Job of the specification ignores
--     CountsInTheEnd commands action    where a Job is created, it ignores the last end of no fate of its key
--     EndsSucceedFor key action     each end of a fate of the key is a success
--     RestartsWell commands action  where a Job of OnFailure is created, each end of each fate of its key is one
--     FatesEndWell script           the last end of each fate counts, and what is created restarts well
--     CountsFor key action          each end of a fate of the key that is a success has no more restarts than are counted
--     KeepsJob key action           no Job of the key is deleted
--     RestartsUntilStopped commands action   what is created restarts well, or its Job is there to stop it
--     FatesStopWell script          the last end of each fate counts, and what is created restarts until it is stopped
--     PlaysInFull script shape it history    the history is the play's, with events enough
--     GivesFew action               a report gives at most 2 ^ 31 - 1 restarts
--     played_first script shape place    the play of the first so many commands of the script
--     PlayFillsACount script shape    in a settle of the play a container restarts as often as is counted
use Rattle.std.specs.Prelude.{◌≡◌, ◌⊎◌, ℕ, ◌-◌, ◌^◌, ◌≤◌, true, false, List, map, take, slice_get, Some}
use Rattle.std.specs.List.{AllByRecursion as Each}
use Rattle.jc_types.specs.declared.objects.KeyNames.{KeyNames as Key}
use Rattle.jc_types.specs.Keys.{same_key}
use Rattle.jc_types.specs.declared.actions.Action1.{Action1}
use Rattle.jc_types.specs.declared.actions.Action1.TheVariants as act
use Rattle.jc_types.specs.declared.actions.Command.{Command}
use Rattle.jc_types.specs.declared.actions.Script.{Script}
use Rattle.jc_types.specs.declared.runs.History.{History}
use Rattle.jc_types.specs.declared.runs.Past.{Past}
use Rattle.jc_types.specs.declared.runs.Shape.{Shape}
use Rattle.jc_types.specs.declared.specifications.JobSpec.{JobSpec}
use Rattle.jc_log.specs.Deeds.{deed}
use Rattle.jc_history.specs.Play.{Playing, nothing, play_of, rest_played}
use Rattle.jc_order.specs.Plays.{PlayEnds, allowing}
use Rattle.jc_finite.specs.Decisions.{restarts_on_failure}
use Rattle.jc_finite.specs.Making.{LastIsSuccess}
use Rattle.jc_finite.specs.Restarts.{given_restarts}
use Rattle.jc_finite.specs.Retries.{CountsAtLast}
use Rattle.jc_finite.specs.Finite.{CountSuccesses, FillsACount, SucceedAll}

-- Each end of a fate is a success, and has no more restarts than are counted; of other commands nothing is asked.
abbrev pub EndsSucceed : Action1 → Type 0
EndsSucceed (act.Fate key ends) = SucceedAll ends
EndsSucceed other = Unit {0}

-- So it is of each command of the script.
abbrev pub FatesSucceed : Script → Type 0
FatesSucceed script = Each (λ (command : Command). EndsSucceed command.action) script.commands

-- The last end of a fate is a success.
abbrev pub LastEndSucceeds : Action1 → Type 0
LastEndSucceeds (act.Fate key ends) = LastIsSuccess ends
LastEndSucceeds other = Unit {0}

-- The last end of a fate of the key is no failure that a Job of the specification ignores.
abbrev pub LastEndCountsFor : Key → JobSpec → Action1 → Type 0
LastEndCountsFor key spec (act.Fate other ends) = same_key other key ≡ true → CountsAtLast ends spec
LastEndCountsFor key spec other = Unit {0}

-- Where a Job is created, it ignores the last end of no fate of its key.
abbrev pub CountsInTheEnd : List Command → Action1 → Type 0
CountsInTheEnd commands (act.Create key spec) =
    Each (λ (command : Command). LastEndCountsFor key spec command.action) commands
CountsInTheEnd commands other = Unit {0}

-- Each end of a fate of the key is a success.
abbrev pub EndsSucceedFor : Key → Action1 → Type 0
EndsSucceedFor key (act.Fate other ends) = same_key other key ≡ true → SucceedAll ends
EndsSucceedFor key other = Unit {0}

-- Where a Job is created whose containers restart after a failure, each end of each fate of its key is a success.
abbrev pub RestartsWell : List Command → Action1 → Type 0
RestartsWell commands (act.Create key spec) =
    restarts_on_failure spec.template.restart ≡ true
    → Each (λ (command : Command). EndsSucceedFor key command.action) commands
RestartsWell commands other = Unit {0}

-- The last end of each fate counts for each Job of its key, and no containers restart for ever.
pub record FatesEndWell (script : Script) : Type 0 where
  pub lasts : Each (λ (command : Command). CountsInTheEnd script.commands command.action) script.commands
  pub restarts : Each (λ (command : Command). RestartsWell script.commands command.action) script.commands

-- Each end of a fate of the key that is a success has no more restarts than are counted.
abbrev pub CountsFor : Key → Action1 → Type 0
CountsFor key (act.Fate other ends) = same_key other key ≡ true → CountSuccesses ends
CountsFor key other = Unit {0}

-- The command deletes no Job of the key.
abbrev pub KeepsJob : Key → Action1 → Type 0
KeepsJob key (act.Delete other) = same_key other key ≡ false
KeepsJob key other = Unit {0}

-- Where a Job is created whose containers restart after a failure, each end of each fate of its key is a success; or each
-- success has no more restarts than are counted, and no command deletes a Job of the key, so that the Job stops them once
-- they have restarted too often.
abbrev pub RestartsUntilStopped : List Command → Action1 → Type 0
RestartsUntilStopped commands (act.Create key spec) =
    restarts_on_failure spec.template.restart ≡ true
    → Each (λ (command : Command). EndsSucceedFor key command.action) commands
    ⊎ (Each (λ (command : Command). CountsFor key command.action) commands
    × Each (λ (command : Command). KeepsJob key command.action) commands)
RestartsUntilStopped commands other = Unit {0}

-- The last end of each fate counts for each Job of its key, and containers restart until they succeed or are stopped.
pub record FatesStopWell (script : Script) : Type 0 where
  pub lasts : Each (λ (command : Command). CountsInTheEnd script.commands command.action) script.commands
  pub restarts : Each (λ (command : Command). RestartsUntilStopped script.commands command.action) script.commands

-- The history is that of the play of the script, with a shape that allows events enough.
pub record PlaysInFull (script : Script) (shape : Shape) (it : PlayEnds script shape) (history : History)
    : Type 0 where
  pub allowed : ℕ
  pub enough : it.events ≤ allowed
  pub plays : history.events.items ≡ play_of script (allowing allowed shape)

-- A report gives at most 2 ^ 31 - 1 restarts, as any does that is read of a script.
abbrev pub GivesFew : Action1 → Type 0
GivesFew (act.Report pod change) = given_restarts change.containers ≤ 2 ^ 31 - 1
GivesFew other = Unit {0}

-- The play of the first so many commands of the script.
abbrev pub played_first : Script → Shape → ℕ → Playing
played_first script shape place = rest_played script shape 0 (take place script.commands) nothing

-- The first commands of the script, with so many events allowed or more, are played so; and the settle that comes next goes
-- on to where a container that fails has restarted as often as is counted.
pub record PlayFillsACount (script : Script) (shape : Shape) : Type 0 where
  pub place : ℕ
  pub events : ℕ
  pub pasts : List Past
  pub plays : (n : ℕ) → events ≤ n → (played_first script (allowing n shape) place).pasts ≡ pasts
  pub next : Command
  pub stands : slice_get script.commands place ≡ Some next
  pub settles : next.action ≡ act.Settle
  pub out : FillsACount shape (map (deed script) pasts)
