-- What the type of a machine keeps.
--     fates_in rows        how the pods of keys are to end, as a table says
--     IsMachineKept script ..     all parts are what the history says
use Rattle.std.specs.Prelude.{ℕ, ◌<◌, ◌^◌, List, length, Option}
use Rattle.jc_types.specs.declared.actions.End.{End}
use Rattle.jc_types.specs.declared.actions.Script.{Script}
use Rattle.jc_types.specs.declared.objects.Entry.{Entry}
use Rattle.jc_types.specs.declared.runs.Past.{Past}
use Rattle.jc_types.specs.declared.runs.Shape.{Shape}
use Rattle.jc_types.specs.declared.objects.KeyNames.{KeyNames as Key}
use Rattle.jc_types.specs.Keys.{same_key}
use Rattle.jc_log.specs.Tables.{at}
use Rattle.jc_runs.specs.Fates.{Fates}
use Rattle.jc_runs.specs.Seen.{IsCluster}
use Rattle.jc_runs.specs.Teams.{Team}
use Rattle.jc_lanes.specs.Places.{HasPlaces}

-- How the pods of keys are to end, as the table says.
abbrev pub fates_in : List (Key × List End) → Fates
fates_in rows = λ k. at same_key rows k

-- All parts are what the history says, each lane's next command is known, and places fit their
-- type.
pub record IsMachineKept (script : Script) (shape : Shape) (pasts : List Past) (next : List (Option ℕ))
    (log : List Entry) (teams : List Team) (rows : List (Key × List End)) (now : ℕ) : Type 0 where
  pub machine : IsCluster script shape pasts log teams (fates_in rows) now
  pub places : HasPlaces script.commands pasts next
  pub fits : length script.commands < 2 ^ 32
