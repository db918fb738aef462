-- Of the pods at which a sync has to look those of given UIDs are those of all, and what counting their failures asks of
-- all pods holds of them.
use Rattle.std.proofs.Common.{◌≡◌, ◌≤◌, List, filter, length, ap, sym, ◌∙◌, subst, arith}
use Rattle.jc_types.specs.declared.numbers.Uid.{Uid}
use Rattle.jc_types.specs.declared.objects.Job.{Job}
use Rattle.jc_types.specs.declared.objects.Pod.{Pod}
use Rattle.jc_types.proofs.ListFacts.{filter_within}
use Rattle.jc_states.specs.Bases.{FailuresFit, own_pods}
use Rattle.jc_states.specs.Noted.{needs_look}
use Rattle.jc_states.specs.UidLists.{is_in}
use Rattle.jc_states.proofs.AtOddsFacts.{failures-part, noted-in, own-part}
use Rattle.jc_states.proofs.PodListFacts.{length-filter-le}
use Rattle.jc_perindex.specs.Failures.{newly_failed}

module _ (job : Job) (pods some : List Pod) (uids more : List Uid) (are : some ≡ filter (needs_look job.uid uids more) pods) where
  pub some-few : length some ≤ length pods
  some-few = omega (arith, ap length are, length-filter-le (needs_look job.uid uids more) pods)

  pub some-fit : FailuresFit job pods → FailuresFit job some
  some-fit fit = subst (FailuresFit job) (sym are) (failures-part job (needs_look job.uid uids more) pods fit)

  pub some-failed : newly_failed (own_pods job some) uids ≡ newly_failed (own_pods job pods) uids
  some-failed =
      ap (λ ps. newly_failed (own_pods job ps) uids) are
      ∙ ap (λ own. newly_failed own uids) (own-part job (needs_look job.uid uids more) pods)
      ∙ filter_within (λ pod. is_in pod.uid uids) (needs_look job.uid uids more) (noted-in job.uid uids more) (own_pods job pods)
