-- A small Job whose pods all fail, of which it is worked out how many pods may still be made. What is not said of it is that
-- of any Job.
--     all_fail              each pod fails
--     once_more_job any     three completions, of which two may run at once, and one failure is allowed
use Rattle.std.specs.Prelude.{pos, List, [], ◌∷◌, None, Some}
use Rattle.jc_types.specs.declared.actions.End.{End}
use Rattle.jc_types.specs.declared.objects.Job.{Job}
use Rattle.jc_log.specs.Requests.{empty_status}
use Rattle.jc_history.specs.Samples.{sample_spec}

-- Each pod fails.
abbrev pub all_fail : List End
all_fail = record { exit = pos 1; restarts = 0; condition = None } ∷ []

-- Three completions, of which two may run at once, and one failure is allowed.
abbrev pub once_more_job : Job → Job
once_more_job any = record any {
  spec = record sample_spec { parallelism = 2; completions = Some 3; backoff_limit = 1 };
  status = empty_status;
}
