-- How many pods a plan makes for its Job, and how many there are.
--     created_for job basis       how many pods the plan makes
--     running_of job basis     how many own pods are active and tracked
--     stopping_of job basis    how many own pods are marked and still open
use Rattle.std.specs.Prelude.{ℕ, length}
use Rattle.jc_types.specs.declared.objects.Job.{Job}
use Rattle.jc_states.specs.declared.bases.Basis.{Basis}
use Rattle.jc_states.specs.Bases.{own_pods}
use Rattle.jc_states.specs.Pods.{ending_pods, tracked_active_pods}
use Rattle.jc_plan.specs.Statuses.{wants_in}

-- How many pods the plan makes.
abbrev pub created_for : Job → Basis → ℕ
created_for job basis = length (wants_in job basis).creates

-- How many own pods are active and tracked.
abbrev pub running_of : Job → Basis → ℕ
running_of job basis = length (tracked_active_pods (own_pods job basis.pods))

-- How many own pods are marked and still open.
abbrev pub stopping_of : Job → Basis → ℕ
stopping_of job basis = length (ending_pods (own_pods job basis.pods))
