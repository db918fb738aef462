-- A deed of the node leaves less of all pods, and allows no more.
use Rattle.std.proofs.Common.{◌≡◌, ℕ, ◌<◌, ◌≤◌, List, ◌∷◌, Option, Some, None, refl, sym, ap, ◌∙◌, subst, arith}
use Rattle.std.specs.List.{AllByRecursion as Each}
use Rattle.std.specs.Option.{option_map_or}
use Rattle.jc_types.proofs.ListFacts.{find_each}
use Rattle.jc_types.specs.declared.objects.KeyNames.{KeyNames as Key}
use Rattle.jc_types.specs.Keys.{same_uid}
use Rattle.jc_types.specs.declared.objects.Job.{Job}
use Rattle.jc_types.specs.declared.objects.Pod.{Pod}
use Rattle.jc_types.specs.declared.runs.Shape.{Shape}
use Rattle.jc_states.specs.Bases.{own_pods}
use Rattle.jc_states.proofs.PodListFacts.{pod_among}
use Rattle.jc_log.specs.Acts as does
use Rattle.jc_log.specs.Deeds.{Deed}
use Rattle.jc_log.specs.Log.{job_in, pods_in, pods_under}
use Rattle.jc_log.proofs.PodFacts.{pods_in-among}
use Rattle.jc_log.proofs.WriteFacts.{job_in-key}
use Rattle.jc_runs.specs.Legal.{IsLegal}
use Rattle.jc_runs.specs.Replies.{log_given}
use Rattle.jc_settle.specs.Left.{ComesTo}
use Rattle.jc_settle.specs.Settles.{next_of_settle}
use Rattle.jc_retries.specs.Making.{IsCounted}
use Rattle.jc_retries.specs.Nodes.{fate}
use Rattle.jc_bounded.proofs.NodeTurns.{node-jobs}
use Rattle.jc_remaining.specs.Remaining.{FitsAll, all_creations, all_left, creations_for, creations_under}
use Rattle.jc_remaining.proofs.AllowedFacts.{node-for}
use Rattle.jc_remaining.proofs.NodePods.{node-writes, pods-less}
use Rattle.jc_remaining.proofs.Sums.{creations-most}

-- What each of the pods has, one that is found has.
found-has : (P : Pod → Type 0) (pods : List Pod) (pod : Pod) → Each P pods → pod_among pod.uid pods ≡ Some pod → P pod
found-has P pods pod all is = find_each P (λ (p : Pod). same_uid p.uid pod.uid) pods pod all is

pub node-left : (shape : Shape) (past : List Deed) (d : Deed) (most : ℕ) → IsLegal shape past → 0 < shape.workers → next_of_settle shape past ≡ Some d → d.act ≡ does.Node
    → Each (ComesTo most (fate past)) (pods_in (log_given shape past))
    → all_left most (fate past) (pods_in (log_given shape (d ∷ past))) < all_left most (fate past) (pods_in (log_given shape past))
node-left shape past d most legal some e a comes =
    let w = node-writes shape past legal some d e a in
    let its = found-has (ComesTo most (fate past)) (pods_in (log_given shape past)) w.pod comes (pods_in-among w.pod.uid (log_given shape past) ∙ w.befalls.there) in
    subst (λ log. all_left most (fate past) (pods_in log) < all_left most (fate past) (pods_in (log_given shape past))) (sym (w.log_is most its))
    (pods-less most (fate past) (log_given shape past) w.pod w.act w.befalls its)

pub node-creations : (shape : Shape) (past : List Deed) (d : Deed) (keys : List Key) → d.act ≡ does.Node → FitsAll (log_given shape past)
    → all_creations (fate past) (log_given shape (d ∷ past)) keys ≤ all_creations (fate past) (log_given shape past) keys
node-creations shape past d keys a fits = creations-most (fate past) (log_given shape past) (log_given shape (d ∷ past)) most keys
  where
    most : (k : Key) → creations_under (fate past) (log_given shape (d ∷ past)) k ≤ creations_under (fate past) (log_given shape past) k
    most k = by (job_in k (log_given shape past)) refl
      where
        then : (o : Option Job) → job_in k (log_given shape past) ≡ o → creations_under (fate past) (log_given shape (d ∷ past)) k ≡ option_map_or (creations_for (fate past) (log_given shape (d ∷ past))) o 0
        then o is = ap (λ x. option_map_or (creations_for (fate past) (log_given shape (d ∷ past))) x 0) (node-jobs shape past d k a ∙ is)

        by : (o : Option Job) → job_in k (log_given shape past) ≡ o → creations_under (fate past) (log_given shape (d ∷ past)) k ≤ creations_under (fate past) (log_given shape past) k
        by None none = let now = then None none in omega (arith, now)
        by (Some job) there =
            let now = then (Some job) there in
            let was : creations_under (fate past) (log_given shape past) k ≡ creations_for (fate past) (log_given shape past) job = ap (λ x. option_map_or (creations_for (fate past) (log_given shape past)) x 0) there in
            let keyed = job_in-key k (log_given shape past) job there in
            let counted = subst (λ q. IsCounted job (own_pods job (pods_under q (log_given shape past)))) (sym keyed) (fits.counted k job there) in
            let turn = node-for shape past d a job counted in
            omega (arith, now, was, turn)
