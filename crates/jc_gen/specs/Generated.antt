-- The generated script of three numbers: how it is mixed, how many Jobs it creates, and how many pods each has to
-- complete.
--     job_key i                      the key of the i-th Job, `default/gI`
--     job_mode number i              its mode: Indexed where number and i make an odd sum
--     job_spec number pods i         its specification
--     job_ends number i              how its pods are to end
--     creation number pods i         the command that creates it
--     fate number i                  the command that sets how its pods are to end
--     job_commands number pods i     both
--     generated number jobs pods     the whole script
--     IsGenerated number jobs pods command   the command is one that such a script may have
use Rattle.std.specs.Prelude.{◌≡◌, ◌<◌, ◌⊎◌, ℕ, ℤ, ◌+◌, ◌*◌, ◌%◌, ◌==◌, pos, false, List, [], ◌∷◌, ◌++◌, replicate, flat_map, codes, decimal, if◌then◌else◌, Some, None}
use Rattle.std.specs.List.{range_with_len}
use Rattle.jc_types.specs.declared.actions.Action1.{Action1}
use Rattle.jc_types.specs.declared.actions.Action1.TheVariants.{Create, Fate, Settle}
use Rattle.jc_types.specs.declared.actions.Command.{Command}
use Rattle.jc_types.specs.declared.actions.End.{End}
use Rattle.jc_types.specs.declared.actions.Script.{Script}
use Rattle.jc_types.specs.declared.objects.KeyNames.{KeyNames as Key}
use Rattle.jc_types.specs.declared.specifications.JobSpec.{JobSpec}
use Rattle.jc_types.specs.declared.specifications.Mode.{Mode}
use Rattle.jc_types.specs.declared.specifications.Mode.TheVariants.{NonIndexed, Indexed}
use Rattle.jc_types.specs.declared.specifications.Replacement.TheVariants.{TerminatingOrFailed}
use Rattle.jc_types.specs.declared.specifications.Restart.TheVariants.{Never}

-- ---- one Job

-- The key of the i-th Job, which is printed as `default/gI`.
abbrev pub job_key : ℕ → Key
job_key i = record { namespace = codes "default"; name = codes "g" ++ decimal i }

-- Indexed where the sum is odd.
abbrev pub job_mode : ℕ → ℕ → Mode
job_mode number i = if (number + i) % 2 == 1 then Indexed else NonIndexed

-- As many completions as pods are asked for, some parallelism up to that, one container `main`, and the defaults of
-- batch/v1 for the rest.
abbrev pub job_spec : ℕ → ℕ → ℕ → JobSpec
job_spec number pods i = record {
  parallelism = 1 + (number + 3 * i) % pods;
  completions = Some pods;
  mode = job_mode number i;
  suspend = false;
  backoff_limit = 6;
  per_index = None;
  max_failed = None;
  deadline = None;
  replacement = TerminatingOrFailed;
  failure = None;
  success = None;
  template = record { restart = Never; containers = codes "main" ∷ []; inits = [] };
}

-- A pod ends with the exit code at once.
abbrev pub end_with : ℤ → End
end_with exit = record { exit = exit; restarts = 0; condition = None }

-- Up to three pods fail, and all later ones succeed.
abbrev pub job_ends : ℕ → ℕ → List End
job_ends number i = replicate ((number + i) % 4) (end_with (pos 1)) ++ end_with (pos 0) ∷ []

-- ---- the script

-- A command of the lane 0.
abbrev pub on_first_lane : Action1 → Command
on_first_lane action = record { lane = 0; action = action }

-- The i-th Job is created.
abbrev pub creation : ℕ → ℕ → ℕ → Command
creation number pods i = on_first_lane (Create (job_key i) (job_spec number pods i))

-- The fate of its pods is set.
abbrev pub fate_command : ℕ → ℕ → Command
fate_command number i = on_first_lane (Fate (job_key i) (job_ends number i))

-- Both, one after the other.
abbrev pub job_commands : ℕ → ℕ → ℕ → List Command
job_commands number pods i = creation number pods i ∷ fate_command number i ∷ []

-- The Jobs from 0 on, one after the other, and at last a settle.
unfoldable pub generated : ℕ → ℕ → ℕ → Script
generated number jobs pods = record {
  commands = flat_map (job_commands number pods) (range_with_len 0 jobs) ++ on_first_lane Settle ∷ [];
}

-- The command creates one of the Jobs, or sets the fate of its pods, or is the settle.
abbrev pub IsGenerated : ℕ → ℕ → ℕ → Command → Type 0
IsGenerated number jobs pods command =
    ((i : ℕ) × (i < jobs) × (command ≡ creation number pods i))
    ⊎ (((i : ℕ) × (i < jobs) × (command ≡ fate_command number i))
    ⊎ (command ≡ on_first_lane Settle))
