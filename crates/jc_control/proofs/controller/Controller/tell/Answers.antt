use Rattle.std.proofs.Common.{◌-◌, ◌<◌, ◌^◌, length, subst, sym}
use Rattle.jc_cache.specs.Caches.{pods_at}
use Rattle.jc_control.specs.Schedules.{ControllerView}
use Rattle.jc_control.proofs.controller.Controller.tell.Goals as goal

-- The caller sees the rows of the pod cache.
pub deliver-requires-in-Pods-clause-few_pods : goal.deliver-requires-in-Pods-clause-few_pods
deliver-requires-in-Pods-clause-few_pods c = λ k. subst (λ (seen : ControllerView). length (pods_at k seen.rows) < 2 ^ 32 - 1) (sym c.self.view_is) (c.requires.few_pods k)
