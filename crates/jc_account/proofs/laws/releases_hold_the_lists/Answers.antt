-- The lemmas on the pods to release.
use Rattle.jc_account.proofs.AccountFacts.{failed-released, release-member, release-order, succeeded-released}
use Rattle.jc_account.proofs.laws.releases_hold_the_lists.Goals as goal

pub returns : goal.returns
returns c = record {
  member = release-member;
  order = release-order;
  failed = failed-released;
  succeeded = succeeded-released;
}
