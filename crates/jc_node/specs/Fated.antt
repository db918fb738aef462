-- How the pods of each key are to end, as rows.
--     ends_at_key rows k     the ends of the key's pods, where they are decided
--     DecidesEnds key ends old new    the new rows say so of the key, and of others what the old ones say
--     HaveEnds rows      no list of ends is empty
--     conditions_at_start  the conditions of a pod that starts
--     AreAtStart kept      what is kept, where it is there, are these
use Rattle.std.specs.Prelude.{◌≡◌, ◌≢◌, if◌then◌else◌, List, [], ◌∷◌, Option, Some, IfSome}
use Rattle.jc_types.specs.declared.actions.End.{End}
use Rattle.jc_types.specs.declared.objects.KeyNames.{KeyNames as Key}
use Rattle.jc_types.specs.Keys.{same_key}
use Rattle.jc_types.specs.declared.policies.Pattern.{Pattern}
use Rattle.jc_log.specs.Tables.{at}
use Rattle.jc_history.specs.Nodes.{ready, true_pattern}

-- The ends of the key's pods.
abbrev pub ends_at_key : List (Key × List End) → Key → Option (List End)
ends_at_key rows k = at same_key rows k

-- The new rows say that the key's pods end so, and of others what the old ones say.
abbrev pub DecidesEnds : Key → List End → List (Key × List End) → List (Key × List End) → Type 0
DecidesEnds key ends old new = (other : Key)
    → ends_at_key new other ≡ (if same_key key other then Some ends else ends_at_key old other)

-- No list of ends is empty.
abbrev pub HaveEnds : List (Key × List End) → Type 0
HaveEnds rows = (k : Key) → IfSome (ends_at_key rows k) (λ ends. ends ≢ [])

-- The conditions of a pod that starts.
abbrev pub conditions_at_start : List Pattern
conditions_at_start = true_pattern ready ∷ []

-- What is kept, where it is there, are these.
abbrev pub AreAtStart : Option (List Pattern) → Type 0
AreAtStart kept = IfSome kept (λ conditions. conditions ≡ conditions_at_start)
