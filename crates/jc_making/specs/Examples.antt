-- Small Jobs, of which it is worked out how many pods may still be made. What is not said of a Job and of its pods is that
-- of any.
--     one_fails                the first pod fails, and all others succeed
--     small_job any            three completions, of which two may run at once
--     small_indexed any        the same of an Indexed Job
--     runs_as serial index any a pod that runs, the one of this serial and this index
--     with_phase phase pod       the pod in another phase
use Rattle.std.specs.Prelude.{ℕ, pos, ◌+◌, true, List, [], ◌∷◌, Option, Some, None}
use Rattle.jc_types.specs.declared.actions.End.{End}
use Rattle.jc_types.specs.declared.objects.Job.{Job}
use Rattle.jc_types.specs.declared.objects.Phase.{Phase}
use Rattle.jc_types.specs.declared.objects.Phase.TheVariants.{Running}
use Rattle.jc_types.specs.declared.objects.Pod.{Pod}
use Rattle.jc_types.specs.declared.specifications.Mode.TheVariants.{Indexed}
use Rattle.jc_log.specs.Requests.{empty_status}
use Rattle.jc_history.specs.Samples.{sample_spec, uid_of}

-- The first pod fails, and all others succeed.
abbrev pub one_fails : List End
one_fails =
    record { exit = pos 1; restarts = 0; condition = None }
    ∷ record { exit = pos 0; restarts = 0; condition = None } ∷ []

-- Three completions, of which two may run at once.
abbrev pub small_job : Job → Job
small_job any = record any {
  spec = record sample_spec { parallelism = 2; completions = Some 3 };
  status = empty_status;
}

-- The same of an Indexed Job.
abbrev pub small_indexed : Job → Job
small_indexed any = record any {
  spec = record sample_spec { parallelism = 2; completions = Some 3; mode = Indexed };
  status = empty_status;
}

-- A pod that runs, the one of this serial and this index.
abbrev pub runs_as : ℕ → Option ℕ → Pod → Pod
runs_as serial index any = record any {
  uid = uid_of (serial + 2);
  serial = serial;
  index = index;
  phase = Running;
  marked = None;
  tracked = true;
}

-- The pod in another phase.
abbrev pub with_phase : Phase → Pod → Pod
with_phase phase pod = record pod { phase = phase }
