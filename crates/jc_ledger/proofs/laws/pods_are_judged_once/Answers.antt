-- The UIDs of a ledger's records are distinct, and each is that of a pod that was put.
use Rattle.jc_ledger.proofs.DistinctFacts.{ledger_of-distinct}
use Rattle.jc_ledger.proofs.VerdictBounds.{few_records}
use Rattle.jc_ledger.proofs.laws.pods_are_judged_once.Goals as goal

pub returns : goal.returns
returns c = record {
  distinct = ledger_of-distinct;
  few_records = λ j deeds log. few_records j deeds log (ledger_of-distinct j deeds log);
}
