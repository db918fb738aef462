use Rattle.std.proofs.Common.{subst}
use Rattle.jc_states.specs.PodLists.{IsRising}
use Rattle.jc_states.proofs.NotedFacts.{copied-left, next-there}
use Rattle.jc_states.proofs.pod_lists.Pods.few_odd_pods.Goals as goal

pub unreachable-requires : goal.unreachable-requires
unreachable-requires c =
    next-there c.args.self.now (subst IsRising c.self.view_is c.self.invariant.tallies.rising) c.copying.copies.items c.copying.numbers c.next.new.self c.in-Some.number.now c.copying.invariant c.in-Some.ensures.steps c.in_default-get.ensures

pub copying-preserved : goal.copying-preserved
copying-preserved c =
    copied-left c.args.self.now (subst IsRising c.self.view_is c.self.invariant.tallies.rising) c.copying.copies.items c.push.new.self.items c.copying.numbers c.next.new.self c.in-Some.number.now c.in-Some-get.pod.now c.in_ok-copy.field-0
    c.copying.invariant c.in-Some.ensures.steps c.in-Some-get.ensures c.in_ok-copy.ensures c.in_ok-push.ensures.items
