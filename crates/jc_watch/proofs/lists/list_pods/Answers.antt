-- The pods of a log rise.
use Rattle.std.proofs.Common.{rules, ◌≡◌, ◌<◌, ◌^◌, length, subst, sym}
use Rattle.jc_log.specs.Log.{pods_in}
use Rattle.jc_log.proofs.PodFacts.{pods_in-rises}
use Rattle.jc_states.specs.PodLists.{IsRising}
use Rattle.jc_watch.proofs.lists.list_pods.Goals as goal

pub from_slice-requires : goal.from_slice-requires
from_slice-requires c =
    let all : c.as_slice.result.now ≡ pods_in c.args.store.now = search rules in
    record {
      rising = subst IsRising (sym all) (pods_in-rises c.args.store.now);
      few_pods = subst (λ l. length l < 2 ^ 32) (sym all) c.copies.ensures.few_pods;
    }

pub returns-clause-rising : goal.returns-clause-rising
returns-clause-rising c = pods_in-rises c.args.store.now

pub returns-in_err-list-clause-rising : goal.returns-in_err-list-clause-rising
returns-in_err-list-clause-rising c = pods_in-rises c.args.store.now

pub returns-in_err-pods-clause-rising : goal.returns-in_err-pods-clause-rising
returns-in_err-pods-clause-rising c = pods_in-rises c.args.store.now
