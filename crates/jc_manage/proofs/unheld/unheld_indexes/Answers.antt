use Rattle.std.proofs.Common.{ℕ, ◌+◌, ◌&&◌, Bool, not, arith}
use Rattle.std.specs.List.{list_any}
use Rattle.jc_states.specs.Holders.{has_index_in}
use Rattle.jc_states.specs.Pods.{tracked_active_pods}
use Rattle.jc_states.specs.Tallies.{pods_for}
use Rattle.jc_manage.specs.Creations.{is_done_index}
use Rattle.jc_manage.proofs.Sequences.{free-enough, free-next}
use Rattle.jc_manage.proofs.UnheldFacts.{found-skip}
use Rattle.jc_manage.proofs.unheld.unheld_indexes.Goals as goal

pub loop-index-preserved : goal.loop-index-preserved
loop-index-preserved c =
    let counted = c.args.counted.now in
    let tracked = tracked_active_pods (pods_for c.args.owner c.args.pods.now) in
    let test : ℕ → Bool = λ n. not (is_done_index counted n) && not (list_any (has_index_in n n) tracked) in (
      c.past_done_and_held-index.ensures.within,
      found-skip test c.args.most (c.loop-index.index + 1) _ _ c.past_done_and_held-index.ensures.above c.past_done_and_held-index.ensures.between
          (free-next test c.args.most c.loop-index.index _ _ c.loop-index.invariant.1 c.in_ok-offer.ensures),
    )

pub returns-then-len-most : goal.returns-then-len-most
returns-then-len-most c =
    free-enough (λ n. not (is_done_index c.args.counted.now n) && not
    (list_any (has_index_in n n) (tracked_active_pods (pods_for c.args.owner c.args.pods.now)))) c.args.most
    c.loop-index.index c.args.completions _ c.loop-index.invariant.0 c.loop-index.invariant.1
    (omega (arith, c.len.ensures, c.if-len-most.true))
