use Rattle.std.proofs.Common.{◌≡◌, filter, take}
use Rattle.jc_types.specs.declared.objects.KeyNames.{KeyNames as Key}
use Rattle.jc_types.specs.Keys.{same_key}
use Rattle.jc_cache.specs.Caches.{pods_at}
use Rattle.jc_cache.proofs.pods.mixed_rows.Given as goal

-- The rows so far have the pods before the index, each under its owner.
abbrev pub invariant-loop-pod : goal.invariant-loop-pod
invariant-loop-pod l = (k : Key) → pods_at k l.rows.entries ≡ filter (λ pod. same_key pod.owner k) (take l.pod-index l.pods)
