-- The words of `do`, and the members that the line of each may have.
--     verb_of s          the command of that word
--     line_members verb    the members that its line may have
use Rattle.std.specs.Prelude.{ℕ, List, [], ◌∷◌, bytes_eq, codes, Option, Some, None, Result, Ok, if◌then◌else◌}
use Rattle.serde_json.specs.Data.{Data}
use Rattle.jc_json.specs.Field.{◌>>=◌}
use Rattle.jc_members.specs.declared.causes.Cause.{Cause}
use Rattle.jc_script.specs.declared.verbs.Verb.{Verb}
use Rattle.jc_script.specs.declared.verbs.Verb.TheVariants as verb
use Rattle.jc_members.specs.Members.{word_in, only_known}

abbrev pub verb_of : List ℕ → Option Verb
verb_of s =
    if bytes_eq s (codes "create") then Some verb.Create
    else if bytes_eq s (codes "update") then Some verb.Update
    else if bytes_eq s (codes "delete") then Some verb.Delete
    else if bytes_eq s (codes "mark") then Some verb.Mark
    else if bytes_eq s (codes "strip") then Some verb.Strip
    else if bytes_eq s (codes "finish") then Some verb.Finish
    else if bytes_eq s (codes "phase") then Some verb.Phase
    else if bytes_eq s (codes "fate") then Some verb.Fate
    else if bytes_eq s (codes "clock") then Some verb.Clock
    else if bytes_eq s (codes "list") then Some verb.List
    else if bytes_eq s (codes "deliver") then Some verb.Deliver
    else if bytes_eq s (codes "begin") then Some verb.Begin
    else if bytes_eq s (codes "sync") then Some verb.Sync
    else if bytes_eq s (codes "step") then Some verb.Step
    else if bytes_eq s (codes "node") then Some verb.Node
    else if bytes_eq s (codes "restart") then Some verb.Restart
    else if bytes_eq s (codes "fault") then Some verb.Fault
    else if bytes_eq s (codes "settle") then Some verb.Settle
    else None

-- each line may have `do` and `lane`
abbrev pub with_common : List (List ℕ) → List (List ℕ)
with_common names = codes "do" ∷ codes "lane" ∷ names

abbrev pub line_members : Verb → List (List ℕ)
line_members verb.Create = with_common (codes "job" ∷ [])
line_members verb.Update = with_common (codes "name" ∷ codes "namespace" ∷ codes "version" ∷ codes "spec" ∷ [])
line_members verb.Delete = with_common (codes "name" ∷ codes "namespace" ∷ [])
line_members verb.Mark = with_common (codes "pod" ∷ [])
line_members verb.Strip = with_common (codes "pod" ∷ [])
line_members verb.Finish = with_common (codes "pod" ∷ codes "exit" ∷ [])
line_members verb.Phase =
    with_common (codes "pod" ∷ codes "phase" ∷ codes "exitCodes" ∷ codes "restartCounts" ∷ codes "conditions" ∷ [])
line_members verb.Fate = with_common (codes "name" ∷ codes "namespace" ∷ codes "ends" ∷ [])
line_members verb.Clock = with_common (codes "add" ∷ [])
line_members verb.List = with_common (codes "controller" ∷ codes "kind" ∷ [])
line_members verb.Deliver = with_common (codes "controller" ∷ codes "kind" ∷ codes "times" ∷ [])
line_members verb.Begin = with_common (codes "controller" ∷ codes "worker" ∷ [])
line_members verb.Sync = with_common (codes "controller" ∷ codes "worker" ∷ [])
line_members verb.Step = with_common (codes "controller" ∷ codes "worker" ∷ codes "times" ∷ [])
line_members verb.Node = with_common (codes "times" ∷ [])
line_members verb.Restart = with_common (codes "controller" ∷ [])
line_members verb.Fault = with_common (codes "controller" ∷ codes "worker" ∷ codes "kind" ∷ [])
line_members verb.Settle = with_common []

-- the command of a line whose members are all known
unfoldable pub verb_in : Data → Result Verb Cause
verb_in d = do
  verb ← word_in [] (codes "do") verb_of d
  known ← only_known [] (line_members verb) d
  Ok verb
