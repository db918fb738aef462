-- The lemmas on pods that go.
use Rattle.jc_manage.proofs.OneWay.{goes-seen, goes-apart}
use Rattle.jc_manage.proofs.laws.pods_go_one_way.Goals as goal

pub returns : goal.returns
returns c = record {
  seen = λ target job own counted. goes-seen own target job counted;
  apart = λ target job own counted distinct. goes-apart own distinct target job counted;
}
