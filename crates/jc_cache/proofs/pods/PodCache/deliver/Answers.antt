use Rattle.std.proofs.Common.{◌-◌, ◌<◌, ◌^◌, length, subst, sym}
use Rattle.jc_cache.specs.Caches.{CachedPods, pods_at}
use Rattle.jc_cache.proofs.pods.PodCache.deliver.Goals as goal

-- The caller sees the rows that the table has.
pub take_in-requires : goal.take_in-requires
take_in-requires c = record { few_pods = λ k. subst (λ (seen : CachedPods). length (pods_at k seen.rows) < 2 ^ 32 - 1) (sym c.self.view_is) (c.requires.few_pods k) }
