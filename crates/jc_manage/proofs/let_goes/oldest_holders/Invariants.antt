use Rattle.std.proofs.Common.{◌≡◌, ◌&&◌, ℕ, nat_eq, take}
use Rattle.std.specs.HashMap.{get}
use Rattle.std.specs.List.{list_any}
use Rattle.jc_states.specs.Bases.{is_own}
use Rattle.jc_states.specs.Pods.{is_tracked_active}
use Rattle.jc_manage.specs.LetGoes.{is_earlier}
use Rattle.jc_manage.specs.Ranks.{has_older}
use Rattle.jc_manage.proofs.let_goes.oldest_holders.Given as goal

-- The holders so far answer as the own active tracked pods before this one do.
abbrev pub invariant-loop-pod : goal.invariant-loop-pod
invariant-loop-pod l =
    (index uid : ℕ) → has_older (get nat_eq l.holders index) uid ≡ list_any (λ pod. is_own l.job pod && (is_tracked_active pod && is_earlier index uid pod)) (take l.pod-index l.pods)
