-- What a line names: Jobs, pods, controllers and workers.
--     job_key_in d              the key of a Job
--     pod_named d              a pod by its number
--     controller_in, seat_in, times_in   controllers and workers of a shape, and how often
use Rattle.std.specs.Prelude.{ℕ, ◌-◌, List, [], codes, Result, Ok, unwrap_or}
use Rattle.serde_json.specs.Data.{Data}
use Rattle.jc_json.specs.Field.{◌>>=◌}
use Rattle.jc_rows.specs.NameForms.{is_label, is_subdomain}
use Rattle.jc_types.specs.declared.numbers.Uid.{Uid}
use Rattle.jc_types.specs.declared.objects.KeyNames.{KeyNames as Key}
use Rattle.jc_types.specs.declared.runs.Shape.{Shape}
use Rattle.jc_members.specs.declared.causes.Cause.{Cause}
use Rattle.jc_members.specs.declared.names.Seat.{Seat}
use Rattle.jc_members.specs.Members.{whole_number_in, given_number_in, text_in, given_text_in}

-- ---- Jobs

-- rule 3
unfoldable pub job_name_in : Data → Result (List ℕ) Cause
job_name_in d = text_in [] (codes "name") 3 is_subdomain d

-- the namespace is `default` where none is given: rule 4
unfoldable pub job_namespace_in : Data → Result (List ℕ) Cause
job_namespace_in d = do
  o ← given_text_in [] (codes "namespace") 4 is_label d
  Ok (unwrap_or o (codes "default"))

unfoldable pub job_key_in : Data → Result Key Cause
job_key_in d = do
  name ← job_name_in d
  namespace ← job_namespace_in d
  Ok (record { namespace = namespace; name = name })

-- ---- pods

unfoldable pub pod_named : Data → Result Uid Cause
pod_named d = do
  n ← whole_number_in [] (codes "pod") 1 4294967295 d
  Ok (record { 0 = n })

-- ---- controllers and workers, which are 0 where none is given

unfoldable pub controller_in : Shape → Data → Result ℕ Cause
controller_in shape d = do
  o ← given_number_in [] (codes "controller") 0 (shape.controllers - 1) d
  Ok (unwrap_or o 0)

unfoldable pub worker_in : Shape → Data → Result ℕ Cause
worker_in shape d = do
  o ← given_number_in [] (codes "worker") 0 (shape.workers - 1) d
  Ok (unwrap_or o 0)

unfoldable pub seat_in : Shape → Data → Result Seat Cause
seat_in shape d = do
  controller ← controller_in shape d
  worker ← worker_in shape d
  Ok (record { controller = controller; worker = worker })

-- how often a command is given: once, where nothing is said
unfoldable pub times_in : Data → Result ℕ Cause
times_in d = do
  o ← given_number_in [] (codes "times") 1 10000 d
  Ok (unwrap_or o 1)
