-- Up to the first that is not done all are done, and from there on all are taken.
use Rattle.std.proofs.Common.{inl, inr}
use Rattle.std.specs.List.{list_any}
use Rattle.std.proofs.lemmas.Bool.{cases_lt}
use Rattle.jc_states.specs.Holders.{has_index_in}
use Rattle.jc_states.specs.Pods.{tracked_active_pods}
use Rattle.jc_states.specs.Tallies.{pods_for}
use Rattle.jc_manage.specs.Creations.{is_done_index}
use Rattle.jc_manage.proofs.UnheldFacts.{held-not_free, settled-not_free}
use Rattle.jc_manage.proofs.unheld.past_done_and_held.Goals as goal

pub returns-clause-between : goal.returns-clause-between
returns-clause-between c n low high =
    let settled = is_done_index c.args.counted.now n in
    let held = list_any (has_index_in n n) (tracked_active_pods (pods_for c.args.owner c.args.pods.now)) in
    elim (cases_lt n c.past_done-from.result) [
      | inl below ↦ settled-not_free settled held (c.past_done-from.ensures.between n low below)
      | inr above ↦ held-not_free settled held (c.first_unheld.ensures.held n above high)
    ]
