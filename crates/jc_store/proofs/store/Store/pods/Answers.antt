use Rattle.std.proofs.Common.{◌<◌, ◌^◌, ap, length, subst, ◌∙◌}
use Rattle.jc_log.specs.Log.{pods_in}
use Rattle.jc_store.proofs.store.Store.pods.Goals as goal

pub returns-clause-pods : goal.returns-clause-pods
returns-clause-pods c = c.all.ensures ∙ c.self.invariant.pods_there ∙ ap pods_in c.self.view_is

pub returns-clause-few_pods : goal.returns-clause-few_pods
returns-clause-few_pods c = subst (λ log. length (pods_in log) < 2 ^ 32) c.self.view_is c.self.invariant.few
