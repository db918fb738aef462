-- A test over the pods, over the own ones, and over those that are active and tracked.
use Rattle.std.proofs.Common.{◌≡◌, ◌+◌, ◌&&◌, [], ◌∷◌, ◌++◌, take, ap, sym, ◌∙◌, arith, rules}
use Rattle.std.specs.List.{list_any}
use Rattle.std.proofs.lemmas.List.{take_all, take_more}
use Rattle.jc_states.specs.Bases.{is_own, own_pods}
use Rattle.jc_types.proofs.ListFacts.{any_filter}
use Rattle.jc_states.specs.Pods.{is_tracked_active}
use Rattle.jc_manage.specs.LetGoes.{is_earlier}
use Rattle.jc_manage.proofs.Sequences.{any-next}
use Rattle.jc_manage.proofs.let_goes.oldest_holders.Goals as goal

pub returns : goal.returns
returns c =
    let job = c.args.job.now in
    let pods = c.args.pods.now in
    let whole : take c.loop-pod.pod-index pods ≡ pods = take_all c.loop-pod.pod-index pods (omega arith) in
    λ index uid. c.loop-pod.invariant index uid
    ∙ ap (list_any (λ pod. is_own job pod && (is_tracked_active pod && is_earlier index uid pod))) whole
    ∙ sym (any_filter (is_earlier index uid) is_tracked_active (own_pods job pods) ∙ any_filter (λ pod. is_tracked_active pod && is_earlier index uid pod) (is_own job) pods)

pub loop-pod-preserved : goal.loop-pod-preserved
loop-pod-preserved c =
    let job = c.args.job.now in
    let pods = c.args.pods.now in
    let i = c.loop-pod.pod-index in
    let pod = c.deref.result.now in
    let item : take (i + 1) pods ≡ take i pods ++ c.pod-item.result ∷ [] = search (rules, take_more) in
    let more : take (i + 1) pods ≡ take i pods ++ pod ∷ [] = item ∙ ap (λ p. take i pods ++ p ∷ []) (sym c.deref.ensures) in
    λ index uid. any-next (λ p. is_own job p && (is_tracked_active p && is_earlier index uid p)) pods i pod _ _ more (c.loop-pod.invariant index uid) (c.in_ok-claim_own.ensures index uid)
