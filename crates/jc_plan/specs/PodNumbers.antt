-- The numbers of a Job's pods that a status tells (batch/v1), as they will be once the requests of the sync are
-- made. `own` are the Job's own pods, and `wants` what the sync wants of them.
--     is_let_go_of uid rows     the pod of the UID is let go
--     keeps_on wants pod        the pod is neither marked nor let go
--     stopped_by wants          how many pods are marked or let go
--     active_after wants own, ready_after wants own, ending_after wants own    the three numbers
use Rattle.std.specs.Prelude.{ℕ, ◌+◌, ◌-◌, Bool, not, ◌&&◌, List, length, filter}
use Rattle.std.specs.List.{list_any}
use Rattle.jc_types.specs.declared.numbers.Uid.{Uid}
use Rattle.jc_types.specs.declared.numbers.Version.{Version}
use Rattle.jc_types.specs.declared.objects.Pod.{Pod}
use Rattle.jc_types.specs.Keys.{same_uid}
use Rattle.jc_states.specs.UidLists.{is_in}
use Rattle.jc_states.specs.Pods.{is_ready, active_pods, ending_pods}
use Rattle.jc_manage.specs.declared.results.Wants.{Wants}

-- The pod of the UID is among those that are let go.
abbrev pub is_let_go_of : Uid → List (Uid × Version) → Bool
is_let_go_of u rows = list_any (λ row. same_uid row.0 u) rows

-- The pod is neither marked nor let go.
abbrev pub keeps_on : Wants → Pod → Bool
keeps_on wants pod = not (is_in pod.uid wants.marks) && not (is_let_go_of pod.uid wants.let_goes)

-- How many pods are marked or let go.
abbrev pub stopped_by : Wants → ℕ
stopped_by wants = length wants.marks + length wants.let_goes

-- The active pods and the new ones, without those that are marked or let go.
abbrev pub active_after : Wants → List Pod → ℕ
active_after wants own = length (active_pods own) + length wants.creates - stopped_by wants

-- The pods that were ending, and those that are marked or let go.
abbrev pub ending_after : Wants → List Pod → ℕ
ending_after wants own = length (ending_pods own) + stopped_by wants

-- The ready pods that are neither marked nor let go.
abbrev pub ready_after : Wants → List Pod → ℕ
ready_after wants own = length (filter (λ pod. is_ready pod && keeps_on wants pod) own)
