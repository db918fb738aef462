-- How a line says that the pods of a Job are to end.
--     ends_said d     the member `ends`
use Rattle.std.specs.Prelude.{ℕ, List, [], ◌∷◌, ◌&&◌, nat_lt, nat_le, length, codes, Result, Ok, Err, ⊤, pos, unwrap_or, if◌then◌else◌}
use Rattle.serde_json.specs.Data.{Data}
use Rattle.jc_json.specs.Field.{◌>>=◌, needed_number, needed_list, item_object}
use Rattle.jc_json.specs.Place.{path_to, path_at}
use Rattle.jc_types.specs.declared.actions.End.{End}
use Rattle.jc_types.specs.declared.limits.TheConstants.{GREATEST_LIMIT}
use Rattle.jc_policies.specs.FailurePolicies.{is_type}
use Rattle.jc_members.specs.declared.causes.Cause.{Cause}
use Rattle.jc_members.specs.declared.causes.Cause.TheVariants.{Invalid}
use Rattle.jc_members.specs.LineCauses.{read_as}
use Rattle.jc_members.specs.Items.{each_said}
use Rattle.jc_members.specs.Members.{only_known, given_number_in, given_text_in}

abbrev pub end_members : List (List ℕ)
end_members = codes "exitCode" ∷ codes "restarts" ∷ codes "condition" ∷ []

-- the members of one end: rule 30
unfoldable pub end_said : List ℕ → Data → Result End Cause
end_said path d = do
  exit ← read_as (needed_number path (codes "exitCode") (pos 0) (pos 255) d)
  restarts ← given_number_in path (codes "restarts") 0 GREATEST_LIMIT d
  condition ← given_text_in path (codes "condition") 30 is_type d
  Ok (record { exit = exit; restarts = unwrap_or restarts 0; condition = condition })

-- one end, at its place in the list
unfoldable pub end_said_at : List ℕ → ℕ → Data → Result End Cause
end_said_at list place d = do
  found ← read_as (item_object list place d)
  known ← only_known (path_at list place) end_members found
  end_said (path_at list place) found

-- there are 1 to 100 of them: rule 30
unfoldable pub rightly_many : List ℕ → List Data → Result ⊤ Cause
rightly_many path ds =
    if nat_lt 0 (length ds) && nat_le (length ds) 100 then Ok tt else Err (Invalid path 30)

unfoldable pub ends_said : Data → Result (List End) Cause
ends_said d = do
  items ← read_as (needed_list [] (codes "ends") d)
  many ← rightly_many (path_to [] (codes "ends")) items
  each_said (end_said_at (path_to [] (codes "ends"))) 0 items
