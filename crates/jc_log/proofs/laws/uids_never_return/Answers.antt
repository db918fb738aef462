-- The lemmas on UIDs and what is made.
use Rattle.std.proofs.Common.{ap}
use Rattle.jc_log.proofs.BirthFacts.{fresh_unborn, fresh_never, life_is_interval, owner_put}
use Rattle.jc_log.proofs.laws.uids_never_return.Goals as goal

pub returns : goal.returns
returns c = record {
  job = λ j log all new. fresh_unborn j log all (ap (λ u. u.0) new);
  pod = λ u log all new. fresh_never u log all (ap (λ v. v.0) new);
  interval = life_is_interval;
  owner = owner_put;
}
