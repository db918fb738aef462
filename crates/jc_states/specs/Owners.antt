-- Whose a pod is, where its Job may be gone.
--     is_foreign job pod     the pod was made for another Job than this, or there is none
use Rattle.std.specs.Prelude.{Bool, true, not, Option, Some, None}
use Rattle.jc_types.specs.declared.objects.Job.{Job}
use Rattle.jc_types.specs.declared.objects.Pod.{Pod}
use Rattle.jc_states.specs.Bases.{is_own}

-- The pod was made for another Job than this, or there is none.
abbrev pub is_foreign : Option Job → Pod → Bool
is_foreign None pod = true
is_foreign (Some job) pod = not (is_own job pod)
