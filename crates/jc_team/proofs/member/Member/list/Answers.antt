use Rattle.std.proofs.Common.{refl, ap, sym, ◌∙◌, subst, filter}
use Rattle.jc_types.specs.Keys.{same_key}
use Rattle.jc_control.specs.Schedules.{MirrorsLog}
use Rattle.jc_runs.specs.Teams.{Team}
use Rattle.jc_runs.proofs.CacheFacts.{pods_listed}
use Rattle.jc_team.proofs.member.Member.list.Goals as goal

pub returns-in_ok-list_pods-in-Pods-clause-holds : goal.returns-in_ok-list_pods-in-Pods-clause-holds
returns-in_ok-list_pods-in-Pods-clause-holds c = λ holds.
    pods_listed c.args.store.now c.self.inside.controller c.list_pods.new.self c.in_ok-pods-in-Pods.pods c.log_len-at.result c.in_ok-pods-in-Pods.ensures.pods
    (ap (λ n. record { 0 = n }) c.log_len-at.ensures) c.in_ok-list_pods-in-Pods.ensures.schedule c.in_ok-list_pods-in-Pods.ensures.jobs
    (c.caches_follow_the_log.ensures.listed_pods c.args.store.now c.list_pods.new.self.rows (λ k. c.in_ok-list_pods-in-Pods.ensures.pods k ∙ ap (λ pods. filter (λ pod. same_key pod.owner k) pods) c.in_ok-pods-in-Pods.ensures.pods))
    (subst (λ (t : Team). MirrorsLog c.args.store.now t.con) (sym c.self.view_is) holds)
