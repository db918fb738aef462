-- What an update says.
--     version_said d     the version at which alone it is made
--     change_in d      the new members of the specification
use Rattle.std.specs.Prelude.{ℕ, List, [], ◌∷◌, codes, Option, Result, Ok, option_map}
use Rattle.serde_json.specs.Data.{Data}
use Rattle.jc_json.specs.Field.{◌>>=◌, needed_object, optional_bool}
use Rattle.jc_json.specs.Place.{path_to}
use Rattle.jc_types.specs.declared.actions.SpecChange.{SpecChange}
use Rattle.jc_types.specs.declared.limits.TheConstants.{GREATEST_COMPLETIONS, GREATEST_PARALLELISM, GREATEST_LIMIT}
use Rattle.jc_types.specs.declared.numbers.Version.{Version}
use Rattle.jc_members.specs.declared.causes.Cause.{Cause}
use Rattle.jc_script.specs.declared.updates.NewCounts.{NewCounts}
use Rattle.jc_script.specs.declared.updates.NewLimits.{NewLimits}
use Rattle.jc_members.specs.LineCauses.{read_as}
use Rattle.jc_members.specs.Members.{only_known, given_number_in}

abbrev pub as_version : ℕ → Version
as_version n = record { 0 = n }

unfoldable pub version_said : Data → Result (Option Version) Cause
version_said d = do
  o ← given_number_in [] (codes "version") 0 4294967295 d
  Ok (option_map as_version o)

abbrev pub change_members : List (List ℕ)
change_members =
    codes "parallelism" ∷ codes "completions" ∷ codes "suspend" ∷ codes "activeDeadlineSeconds"
    ∷ codes "backoffLimit" ∷ []

unfoldable pub counts_of : List ℕ → Data → Result NewCounts Cause
counts_of path spec = do
  parallelism ← given_number_in path (codes "parallelism") 0 GREATEST_PARALLELISM spec
  completions ← given_number_in path (codes "completions") 0 GREATEST_COMPLETIONS spec
  Ok (record { parallelism = parallelism; completions = completions })

unfoldable pub limits_of : List ℕ → Data → Result NewLimits Cause
limits_of path spec = do
  deadline ← given_number_in path (codes "activeDeadlineSeconds") 0 GREATEST_LIMIT spec
  backoff_limit ← given_number_in path (codes "backoffLimit") 0 GREATEST_LIMIT spec
  Ok (record { deadline = deadline; backoff_limit = backoff_limit })

-- the members in their order
unfoldable pub change_at : List ℕ → Data → Result SpecChange Cause
change_at path spec = do
  counts ← counts_of path spec
  suspend ← read_as (optional_bool path (codes "suspend") spec)
  limits ← limits_of path spec
  Ok (record {
    parallelism = counts.parallelism;
    completions = counts.completions;
    suspend = suspend;
    deadline = limits.deadline;
    backoff_limit = limits.backoff_limit;
  })

unfoldable pub change_in : Data → Result SpecChange Cause
change_in d = do
  spec ← read_as (needed_object [] (codes "spec") d)
  known ← only_known (path_to [] (codes "spec")) change_members spec
  change_at (path_to [] (codes "spec")) spec
