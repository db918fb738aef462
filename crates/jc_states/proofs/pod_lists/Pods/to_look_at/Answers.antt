use Rattle.std.proofs.Common.{IfOk, filter, length, subst, sym, ◌≡◌, ◌∙◌, eqb-true}
use Rattle.std.proofs.lemmas.Result.{IfOk-weaker}
use Rattle.jc_states.specs.Noted.{is_at_odds, needs_look}
use Rattle.jc_states.specs.PodLists.{IsRising}
use Rattle.jc_states.specs.Tallies.{pods_for}
use Rattle.jc_states.proofs.PodListFacts.{rises_filter}
use Rattle.jc_states.proofs.NotedFacts.{noted-odd}
use Rattle.jc_states.proofs.pod_lists.Pods.to_look_at.Goals as goal

-- All pods are the owner's, and each listed one is at odds or not there.
pub returns-then-not-has_calm-2-clause-pods : goal.returns-then-not-has_calm-2-clause-pods
returns-then-not-has_calm-2-clause-pods c =
    subst (λ all. IfOk c.odd_pods.result (λ pods. pods.items ≡ all))
    (noted-odd c.args.owner c.args.uids.now c.args.more.now c.args.self.now c.odd_pods.ensures.rising
    (eqb-true (length (pods_for c.args.owner c.args.self.now)) (length c.args.self.now) (sym c.are_all_of.ensures.all ∙ c.if-are_all_of.true))
    (sym c.has_calm.ensures ∙ c.if-not-has_calm.true) (sym c.has_calm-then-not-has_calm.ensures ∙ c.if-not-has_calm-2.true))
    c.odd_pods.ensures.pods

-- A part of the pods rises.
pub returns-then-not-has_calm-2-clause-rising : goal.returns-then-not-has_calm-2-clause-rising
returns-then-not-has_calm-2-clause-rising c =
    IfOk-weaker c.odd_pods.result (λ pods. pods.items ≡ filter is_at_odds c.args.self.now) (λ pods. IsRising pods.items)
    (λ pods are. subst IsRising (sym are) (rises_filter 0 is_at_odds c.args.self.now c.odd_pods.ensures.rising)) c.odd_pods.ensures.pods

pub returns-clause-rising : goal.returns-clause-rising
returns-clause-rising c =
    IfOk-weaker c.pods_to_look_at.result (λ pods. pods.items ≡ filter (needs_look c.args.owner c.args.uids.now c.args.more.now) c.as_slice.result.now) (λ pods. IsRising pods.items)
    (λ pods are. subst IsRising (sym are) (rises_filter 0 (needs_look c.args.owner c.args.uids.now c.args.more.now) c.as_slice.result.now (subst IsRising (sym c.as_slice.ensures.pods) c.as_slice.ensures.rising)))
    c.pods_to_look_at.ensures
